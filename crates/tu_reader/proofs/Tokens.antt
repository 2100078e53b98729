-- Single tokens.
use Rattle.std.proofs.Common.{◌≡◌, ℕ, Bool, true, false, cond, ◌||◌, ◌==◌, List, [], ◌∷◌, length, refl, sym, ◌∙◌, ap, subst, arith, rules}
use denote.Enum.Bare.{sameb, same_true, same_false}
use Rattle.std.specs.Prelude.{Some, slice_get}
use Rattle.std.proofs.lemmas.Bool.{eq-eqb, eqb-true, ne_eqb}
use Rattle.grammar.specs.Classes.{starts}
use Rattle.grammar.specs.Description.{empty, d-token, d-empty}
use Rattle.grammar.specs.Placed.{behind_one, first_of, rest_of, Stands}
use Rattle.grammar.specs.Reading.{found, fault, read}
use Rattle.grammar.specs.Tree.{n-token, n-text, n-empty}
use Rattle.grammar.proofs.Standing.{token_stands, text_stands, empty_stands}
use Rattle.grammar.proofs.Steps.{read_token_is, read_empty}
use Rattle.tu_reader.proofs.Beginnings.{stops_at_once}
use Rattle.tu_token.proofs.Decides.{decides}
use Rattle.tu_token.proofs.Numbers.{same_class}
use Rattle.tu_token.specs.declared.class.Class.{Class}
use Rattle.tu_token.specs.declared.token.Token.{Token}
use Rattle.tu_token.specs.contracts.class.Class.{the_type}
use Rattle.tu_token.specs.ClassNumbers.{number, keeps_text, lexeme_of, lexemes, places}
use Rattle.tu_token.specs.Rules.{t}
use Rattle.tu_token.specs.Table.{table}
use Rattle.tu_reader.specs.Ahead.{Ahead, input}
use Rattle.tu_reader.specs.Reads.{Takes, Stops, Sees}
use Rattle.tu_reader.specs.Taken.{IsNext}
use Rattle.tu_reader.specs.declared.stop.Stop.TheVariants.{Unexpected}

-- whether two classes are the same, by number
same_number : (a b : Class) → sameb the_type a b ≡ (number a == number b)
same_number a b = by (sameb the_type a b) refl
  where
    by : (z : Bool) → sameb the_type a b ≡ z → z ≡ (number a == number b)
    by true e = sym (eq-eqb (number a) (number b) (ap number (same_true the_type (search rules) a b e)))
    by false e = sym (ne_eqb (number a) (number b) (λ h. same_false the_type a b e (same_class a b h)))

pub sees_first : (c : Class) (tokens : List Token) (first : Token) (b : Bool) → Some first ≡ slice_get tokens 0 → b ≡ sameb the_type first.class c → starts (number c ∷ []) (lexemes tokens) ≡ b
sees_first c [] first b e h = cc
sees_first c (x ∷ xs) first b e h =
    let same : first ≡ x = some_is e in
    ap (λ (z : Token). (number z.class == number c) || false) (sym same) ∙ or_false (number first.class == number c) ∙ sym (same_number first.class c) ∙ sym h
  where
    some_is : {A : Type 0} {a b : A} → Some a ≡ Some b → a ≡ b
    some_is e = cc

    or_false : (b : Bool) → (b || false) ≡ b
    or_false true = refl
    or_false false = refl

pub sees_next : (c : Class) (i j : Ahead) (first : Token) → IsNext c i first j → Sees c i true
sees_next c i j first n = record { is = ap (λ x. starts (number c ∷ []) (lexemes x)) n.tokens ∙ ap (λ b. b || false) (eq-eqb (number first.class) (number c) (ap number n.class)) }

pub sees_the_end : (c : Class) (i : Ahead) → length i.tokens ≡ 0 → Sees c i false
sees_the_end c i e = record { is = by i.tokens e }
  where
    by : (tokens : List Token) → length tokens ≡ 0 → starts (number c ∷ []) (lexemes tokens) ≡ false
    by [] e = refl
    by (x ∷ xs) e = absurd (omega arith)

read_next : (c : Class) (i j : Ahead) (first : Token) (text : List ℕ) → IsNext c i first j → (lexeme_of first).1 ≡ text → read table (t c) (lexemes i.tokens) ≡ found (d-token text) (lexemes j.tokens)
read_next c i j first text n k =
    ap (λ x. read table (t c) (lexemes x)) n.tokens ∙ read_token_is table decides (number c) (lexemes (first ∷ j.tokens))
    ∙ ap (λ b. cond b (found (d-token (lexeme_of first).1) (lexemes j.tokens)) (fault (lexemes (first ∷ j.tokens)))) (eq-eqb (number first.class) (number c) (ap number n.class))
    ∙ ap (λ z. found (d-token z) (lexemes j.tokens)) k

gone_on : (c : Class) (i j : Ahead) (first : Token) → IsNext c i first j → input j ≡ behind_one (input i)
gone_on c i j first n = ap input n.after ∙ ap (λ x. record { places = rest_of (places x); end = i.end; number = i.number }) (sym n.tokens)

keeps : (c : Class) (first : Token) (b : Bool) → keeps_text (number c) ≡ b → first.class ≡ c → (lexeme_of first).1 ≡ cond b first.text []
keeps c first b h e = ap (λ z. cond z first.text []) (ap (λ z. keeps_text (number z)) e ∙ h)

pub next_taken : (c : Class) (i j : Ahead) (first : Token) → keeps_text (number c) ≡ false → IsNext c i first j → Takes (t c) i n-token j
next_taken c i j first h n = record {
  is_read = read_next c i j first [] n (keeps c first false h n.class);
  stands = token_stands table (number c) (input i) (input j) h (gone_on c i j first n);
}

pub text_taken : (c : Class) (i j : Ahead) (first : Token) (text : List ℕ) → keeps_text (number c) ≡ true → IsNext c i first j → text ≡ first.text → Takes (t c) i (n-text text first.start first.line) j
text_taken c i j first text h n w = record {
  is_read = read_next c i j first text n (keeps c first true h n.class ∙ sym w);
  stands = text_stands table (number c) text first.start first.line (input i) (input j) h
      (ap (λ x. (first_of (places x) i.end).start) (sym n.tokens)) (ap (λ x. (first_of (places x) i.end).line) (sym n.tokens)) (gone_on c i j first n);
}

pub next_missed : (c : Class) (i j : Ahead) → Sees c i false → j ≡ i → Stops (t c) i Unexpected j
next_missed c i j e same = record { is_fault = λ h. stops_at_once (t c) (lexemes i.tokens) refl e.is ∙ ap (λ (z : Ahead). fault (lexemes z.tokens)) (sym same) }

pub nothing_taken : (i j : Ahead) → j ≡ i → Takes empty i n-empty j
nothing_taken i j e = record {
  is_read = read_empty table decides (lexemes i.tokens) ∙ ap (λ (z : Ahead). found d-empty (lexemes z.tokens)) (sym e);
  stands = let S : Ahead → Type 0 = λ z. Stands table {d = empty} (input i) n-empty (input z) in subst S (sym e) (empty_stands table (input i));
}

pub seen_taken : (c : Class) (i j : Ahead) (first : Token) → keeps_text (number c) ≡ false → Sees c i true → i.tokens ≡ first ∷ j.tokens → j ≡ record i { tokens = j.tokens } → Takes (t c) i n-token j
seen_taken c i j first h s e k = next_taken c i j first h (record { tokens = e; class = same_class first.class c (eqb-true (number first.class) (number c) (only (sym (ap (λ x. starts (number c ∷ []) (lexemes x)) e) ∙ s.is))); after = k })
  where
    only : {z : Bool} → (z || false) ≡ true → z ≡ true
    only {z = true} s = refl
    only {z = false} s = s

pub ruleset taking = (sees_the_end)
