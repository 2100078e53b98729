-- Trees of tokens that keep their limits.
use Rattle.std.proofs.Common.{◌≡◌, ℕ, ◌+◌, ◌≤◌, Bool, true, false, cond, List, [], ◌∷◌, ◌++◌, length, refl, sym, subst, arith}
use Rattle.std.specs.List.{AllByRecursion}
use Rattle.std.proofs.lemmas.List.{length-map}
use Rattle.std.proofs.lemmas.List.Elements.{recursion_from_All}
use Rattle.grammar.specs.Description.{Lexeme, Description, Derivation, d-token, d-empty, d-sequence, d-left, d-right, d-none, d-more, d-rule, d-span, d-short, print}
use Rattle.grammar.specs.Grammar.{Marking, numbered, placed, unmarked}
use Rattle.grammar.specs.Placed.{Place, Input, first_of, here, rest_of, behind_one, mark_at, inside, marked}
use Rattle.grammar.specs.Tree.{n-token, n-text, n-empty, n-sequence, n-left, n-right, n-none, n-more, n-rule, n-span, n-short, erase}
use Rattle.tu_token.specs.declared.class.Class.{Class}
use Rattle.tu_token.specs.declared.class.Class.TheVariants.{Number}
use Rattle.tu_token.specs.declared.token.Token.{Token}
use Rattle.tu_token.specs.ClassNumbers.{number, keeps_text, lexeme_of, lexemes, places, end_of}
use Rattle.tu_token.specs.Lexemes.{IsLexed}
use Rattle.tu_token.specs.LexFaults.{HasNoFault}
use Rattle.tu_token.specs.Rules.{Rule, r-program, body}
use Rattle.tu_token.specs.Syntax.{Of}
use Rattle.tu_token.specs.Table.{table}
use Rattle.tu_token.specs.TokenList.{TokenList}
use Rattle.tu_lex.specs.Laws.{IsSmallNumber, IsWithinLimits, AreWithinLimits}
use Rattle.tu_expr.specs.Parts.{Part}
use Rattle.tu_check.specs.Limits.{HasSmallNumbers, HasLinesTo, HasLimits}
use Rattle.tu_check.specs.Refusals.{IsAccepted}

both_parts : {A : Type 0} (P : A → Type 0) (xs ys : List A) → AllByRecursion P (xs ++ ys) → AllByRecursion P xs × AllByRecursion P ys
both_parts P [] ys h = (tt, h)
both_parts P (x ∷ xs) ys h = let r = both_parts P xs ys h.1 in ((h.0, r.0), r.1)

abbrev IsSmall : Lexeme → Type 0
IsSmall x = x.0 ≡ number Number → IsSmallNumber x.1

-- a part has the numbers that it prints
small_numbers : {d : Description Rule} (x : Part d) → AllByRecursion IsSmall (print (erase x)) → HasSmallNumbers x
small_numbers n-token h = tt
small_numbers (n-text text start line) h = h.0
small_numbers n-empty h = tt
small_numbers (n-sequence x y) h = let r = both_parts IsSmall (print (erase x)) (print (erase y)) h in (small_numbers x r.0, small_numbers y r.1)
small_numbers (n-left x) h = small_numbers x h
small_numbers (n-right y) h = small_numbers y h
small_numbers n-none h = tt
small_numbers (n-more x xs) h = let r = both_parts IsSmall (print (erase x)) (print (erase xs)) h in (small_numbers x r.0, small_numbers xs r.1)
small_numbers (n-rule m x) h = small_numbers x h
small_numbers (n-span x y) h = let r = both_parts IsSmall (print (erase x)) (print (erase y)) h in (small_numbers x r.0, small_numbers y r.1)
small_numbers (n-short z) h = small_numbers z h

number_is : (c : Class) → number c ≡ number Number → c ≡ Number
number_is Number e = refl
number_is c e = absurd (omega arith)

lexeme_small : (most : ℕ) (token : Token) → IsWithinLimits most token → IsSmall (lexeme_of token)
lexeme_small most token w e = subst (λ n. IsSmallNumber (cond (keeps_text n) token.text [])) (sym e) (w.number (number_is token.class e))

lexemes_small : (most : ℕ) (tokens : List Token) → AllByRecursion (IsWithinLimits most) tokens → AllByRecursion IsSmall (lexemes tokens)
lexemes_small most [] h = tt
lexemes_small most (token ∷ tokens) h = (lexeme_small most token h.0, lexemes_small most tokens h.1)

-- all places that are left are on lines up to this one
record IsUpTo (most : ℕ) (i : Input) : Type 0 where
  left : AllByRecursion (λ (p : Place). p.line ≤ most) i.places
  end : i.end.line ≤ most

here_up_to : (most : ℕ) (i : Input) → IsUpTo most i → (here i).line ≤ most
here_up_to most i w = by i.places w.left where
  by : (places : List Place) → AllByRecursion (λ (p : Place). p.line ≤ most) places → (first_of places i.end).line ≤ most
  by [] h = w.end
  by (p ∷ places) h = h.0

behind_up_to : (most : ℕ) (i : Input) → IsUpTo most i → IsUpTo most (behind_one i)
behind_up_to most i w = record { left = by i.places w.left; end = w.end } where
  by : (places : List Place) → AllByRecursion (λ (p : Place). p.line ≤ most) places → AllByRecursion (λ (p : Place). p.line ≤ most) (rest_of places)
  by [] h = tt
  by (p ∷ places) h = h.1

mark_up_to : (most : ℕ) (marking : Marking) (i : Input) → IsUpTo most i → (mark_at marking i).line ≤ most
mark_up_to most numbered i w = here_up_to most i w
mark_up_to most placed i w = here_up_to most i w
mark_up_to most unmarked i w = omega arith

inside_up_to : (most : ℕ) (marking : Marking) (i : Input) → IsUpTo most i → IsUpTo most (inside marking i)
inside_up_to most numbered i w = record { left = w.left; end = w.end }
inside_up_to most placed i w = w
inside_up_to most unmarked i w = w

marked_up_to : (most : ℕ) {d : Description Rule} (x : Derivation body d) (i : Input) → IsUpTo most i → HasLinesTo most (marked table x i).0 × IsUpTo most (marked table x i).1
marked_up_to most (d-token {c = c} text) i w = (by (keeps_text c), behind_up_to most i w) where
  by : (keeps : Bool) → HasLinesTo most (cond keeps (n-text {c = c} text (here i).start (here i).line) n-token)
  by true = tt
  by false = tt
marked_up_to most d-empty i w = (tt, w)
marked_up_to most (d-sequence x y) i w = let p = marked_up_to most x i w in let q = marked_up_to most y (marked table x i).1 p.1 in ((p.0, q.0), q.1)
marked_up_to most (d-left x) i w = marked_up_to most x i w
marked_up_to most (d-right y) i w = marked_up_to most y i w
marked_up_to most d-none i w = (tt, w)
marked_up_to most (d-more x xs) i w = let p = marked_up_to most x i w in let q = marked_up_to most xs (marked table x i).1 p.1 in ((p.0, q.0), q.1)
marked_up_to most (d-rule {n = n} x) i w = let p = marked_up_to most x (inside (table.marking n) i) (inside_up_to most (table.marking n) i w) in ((mark_up_to most (table.marking n) i w, p.0), p.1)
marked_up_to most (d-span x y) i w = let p = marked_up_to most x i w in let q = marked_up_to most y (marked table x i).1 p.1 in ((p.0, q.0), q.1)
marked_up_to most (d-short z) i w = marked_up_to most z i w

places_up_to : (most bound : ℕ) (tokens : List Token) → bound ≤ most → AllByRecursion (IsWithinLimits bound) tokens → AllByRecursion (λ (p : Place). p.line ≤ most) (places tokens)
places_up_to most bound [] le h = tt
places_up_to most bound (token ∷ tokens) le h = let l = h.0.line in (omega arith, places_up_to most bound tokens le h.1)

abbrev pub TokensLaw : Type 0
TokensLaw = (source : List ℕ) (tokens : TokenList) → IsLexed source tokens → HasNoFault source → AreWithinLimits source tokens

pub accepted_has_limits : TokensLaw → (source : List ℕ) (tree : Of r-program) → IsAccepted source tree → HasLimits tree
accepted_has_limits law source tree a =
    let tokens = a.read.tokens in
    let spelled = a.read.spelled in
    let size = spelled.size in
    let w = law source tokens spelled.lexed spelled.no_fault in
    let each = recursion_from_All (IsWithinLimits (length source + 1)) tokens.items w.each in
    let printed = a.read.parsed.spelled in
    let few = w.few in
    let last = w.line in
    let up_to : IsUpTo 1048577 (record { places = places tokens.items; end = end_of tokens; number = 0 }) = record { left = places_up_to 1048577 (length source + 1) tokens.items (omega arith) each; end = omega arith } in
    record {
      few = subst (λ (u : List Lexeme). length u ≤ 65536) (sym printed) (omega (arith, length-map tokens.items lexeme_of));
      numbers = small_numbers tree (subst (λ u. AllByRecursion IsSmall u) (sym printed) (lexemes_small (length source + 1) tokens.items each));
      lines = subst (λ x. HasLinesTo 1048577 x) a.read.parsed.placed (marked_up_to 1048577 (erase tree) (record { places = places tokens.items; end = end_of tokens; number = 0 }) up_to).0;
    }
