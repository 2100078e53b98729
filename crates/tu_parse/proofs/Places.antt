-- A program that was read, and the place of a fault.
use Rattle.std.proofs.Common.{◌≡◌, ℕ, ◌-◌, ◌≤◌, List, [], ◌∷◌, ◌++◌, Err, length, length-append, refl, sym, ◌∙◌, ap, subst, arith}
use Rattle.std.proofs.lemmas.List.{append-nil}
use Rattle.grammar.specs.Description.{Derivation, rule, print}
use Rattle.grammar.specs.Reading.{Outcome, found, read, StopsAt}
use Rattle.grammar.specs.Tree.{erase}
use Rattle.grammar.proofs.Level.{sound}
use Rattle.grammar.proofs.Places.{is_spelled, stops_at_fault}
use Rattle.grammar.proofs.Sound.{IsSound}
use Rattle.grammar.proofs.Standing.{stands_placed}
use Rattle.tu_token.proofs.Decides.{decides}
use Rattle.tu_token.proofs.Programs.{one_program, no_tree}
use Rattle.tu_token.specs.declared.fault.ParseError.{ParseError}
use Rattle.tu_token.specs.declared.fault.ParseError.TheVariants.{Unexpected as unexpected}
use Rattle.tu_token.specs.declared.token.Token.{Token}
use Rattle.tu_token.specs.ClassNumbers.{lexemes, places, end_of}
use Rattle.tu_token.specs.Rules.{r-program, body}
use Rattle.tu_token.specs.Syntax.{Of, Spells, IsPlaced, IsSyntaxFault}
use Rattle.tu_token.specs.Table.{table}
use Rattle.tu_token.specs.TokenList.{TokenList}
use Rattle.tu_reader.specs.Ahead.{Ahead, input}
use Rattle.tu_reader.specs.Reads.{Takes, Stops}
use Rattle.tu_reader.specs.declared.stop.Stop.{Stop}
use Rattle.tu_reader.specs.declared.stop.Stop.TheVariants.{Unexpected}
use Rattle.tu_parse.specs.Parsing.{line_at, Finds, IsTreeOf, IsUnexpected}

-- before the first token
abbrev pub from_start : TokenList → Ahead
from_start tokens = record { tokens = tokens.items; end = end_of tokens; number = 0 }

-- how many tokens were taken, where some are left
abbrev pub taken_of : TokenList → Ahead → ℕ
taken_of tokens j = length tokens.items - length j.tokens

as_many : (tokens : List Token) → length (lexemes tokens) ≡ length tokens
as_many [] = refl
as_many (x ∷ tokens) = omega (arith, as_many tokens)

none_left : (tokens : List Token) → length tokens ≡ 0 → lexemes tokens ≡ []
none_left [] e = refl
none_left (x ∷ tokens) e = absurd (omega (arith, e))

stops : (tokens : TokenList) (k : ℕ) → StopsAt (read table (rule r-program) (lexemes tokens.items)) (lexemes tokens.items) k → IsSyntaxFault tokens k
stops tokens k s = (stops_at_fault table decides r-program (lexemes tokens.items) k).1 s

module _ (tokens : TokenList) (j : Ahead) where
  spells : (x : Of r-program) → Takes (rule r-program) (from_start tokens) x j → length j.tokens ≡ 0 → Spells x tokens
  spells x p e = sym (is_spelled table decides (rule r-program) (lexemes tokens.items) (lexemes j.tokens) (erase x) p.is_read ∙ ap (λ w. print (erase x) ++ w) (none_left j.tokens e) ∙ append-nil (print (erase x)))

  is_placed : (x : Of r-program) → Takes (rule r-program) (from_start tokens) x j → IsPlaced x tokens
  is_placed x p = stands_placed table (rule r-program) (places tokens.items) (end_of tokens) x (input j) p.stands

  taken_length : (x : Of r-program) → Takes (rule r-program) (from_start tokens) x j → length j.tokens ≤ length tokens.items
  taken_length x p = omega (arith, ap length (is_spelled table decides (rule r-program) (lexemes tokens.items) (lexemes j.tokens) (erase x) p.is_read), length-append (print (erase x)) (lexemes j.tokens), as_many j.tokens, as_many tokens.items)

  fault_length : Stops (rule r-program) (from_start tokens) Unexpected j → length j.tokens ≤ length tokens.items
  fault_length p =
      let S : Outcome (Derivation body (rule r-program)) → Type 0 = λ o. IsSound table (rule r-program) [] (read table (rule r-program)) (lexemes tokens.items) o in
      let s = subst S (p.is_fault refl) (sound table decides (rule r-program) (lexemes tokens.items)) in
      omega (arith, ap length s.splits, length-append s.took (lexemes j.tokens), as_many j.tokens, as_many tokens.items)

  more_left : (x : Of r-program) → Takes (rule r-program) (from_start tokens) x j → (length j.tokens ≡ 0 → ⊥) → IsSyntaxFault tokens (taken_of tokens j)
  more_left x p n = stops tokens (taken_of tokens j) (let S : Outcome (Derivation body (rule r-program)) → Type 0 = λ o. StopsAt o (lexemes tokens.items) (taken_of tokens j) in subst S (sym p.is_read) (by j.tokens n (taken_length x p)))
    where
      by : (rest : List Token) → (length rest ≡ 0 → ⊥) → length rest ≤ length tokens.items → StopsAt (found (erase x) (lexemes rest)) (lexemes tokens.items) (length tokens.items - length rest)
      by [] n h = absurd (n refl)
      by (y ∷ rest) n h = omega (arith, h, as_many (y ∷ rest), as_many tokens.items)

  at_fault : Stops (rule r-program) (from_start tokens) Unexpected j → IsSyntaxFault tokens (taken_of tokens j)
  at_fault p = stops tokens (taken_of tokens j) (let S : Outcome (Derivation body (rule r-program)) → Type 0 = λ o. StopsAt o (lexemes tokens.items) (taken_of tokens j) in subst S (sym (p.is_fault refl)) (omega (arith, fault_length p, as_many j.tokens, as_many tokens.items)))

takes_from : (tokens : TokenList) {i j : Ahead} {x : Of r-program} → i ≡ from_start tokens → Takes (rule r-program) i x j → Takes (rule r-program) (from_start tokens) x j
takes_from tokens {i = i} {j = j} {x = x} e p = let T : Ahead → Type 0 = λ z. Takes (rule r-program) z x j in subst T e p

stops_from : (tokens : TokenList) {i j : Ahead} {z : Stop} → i ≡ from_start tokens → z ≡ Unexpected → Stops (rule r-program) i z j → Stops (rule r-program) (from_start tokens) Unexpected j
stops_from tokens {i = i} {j = j} {z = z} e q p =
    let T : Ahead → Type 0 = λ w. Stops (rule r-program) w z j in
    let S : Stop → Type 0 = λ w. Stops (rule r-program) (from_start tokens) w j in
    subst S q (subst T e p)

pub is_tree : (tokens : TokenList) {i j : Ahead} {x : Of r-program} → i ≡ from_start tokens → Takes (rule r-program) i x j → length j.tokens ≡ 0 → IsTreeOf tokens x
is_tree tokens {j = j} {x = x} e p h = record { spelled = spells tokens j x (takes_from tokens e p) h; placed = is_placed tokens j x (takes_from tokens e p) }

pub taken_within : (tokens : TokenList) {i j : Ahead} {x : Of r-program} → i ≡ from_start tokens → Takes (rule r-program) i x j → length j.tokens ≤ length tokens.items
taken_within tokens {j = j} {x = x} e p = taken_length tokens j x (takes_from tokens e p)

pub fault_within : (tokens : TokenList) {i j : Ahead} {z : Stop} → i ≡ from_start tokens → z ≡ Unexpected → Stops (rule r-program) i z j → length j.tokens ≤ length tokens.items
fault_within tokens {j = j} e q p = fault_length tokens j (stops_from tokens e q p)

pub more_is_fault : (tokens : TokenList) {i j : Ahead} {x : Of r-program} → i ≡ from_start tokens → Takes (rule r-program) i x j → (length j.tokens ≡ 0 → ⊥) → IsSyntaxFault tokens (taken_of tokens j)
more_is_fault tokens {j = j} {x = x} e p n = more_left tokens j x (takes_from tokens e p) n

pub is_fault : (tokens : TokenList) {i j : Ahead} {z : Stop} → i ≡ from_start tokens → z ≡ Unexpected → Stops (rule r-program) i z j → IsSyntaxFault tokens (taken_of tokens j)
is_fault tokens {j = j} e q p = at_fault tokens j (stops_from tokens e q p)

-- two trees of the tokens are one
pub is_found : {tokens : TokenList} {x : Of r-program} → IsTreeOf tokens x → (tree : Of r-program) → IsTreeOf tokens tree → x ≡ tree
is_found {tokens = tokens} {x = x} s tree q = one_program tokens x tree s.spelled s.placed q.spelled q.placed

pub is_unexpected : (tokens : TokenList) (k : ℕ) (error : ParseError) → IsSyntaxFault tokens k → error ≡ unexpected k (line_at tokens k) → IsUnexpected tokens error
is_unexpected tokens k error f e = let P : ParseError → Type 0 = λ z. IsUnexpected tokens z in subst P (sym e) (f, refl)

-- where there is a fault there is no tree
pub nothing_found : (tokens : TokenList) (k : ℕ) (error : ParseError) → IsSyntaxFault tokens k → (tree : Of r-program) → IsTreeOf tokens tree → Finds tree (Err error)
nothing_found tokens k error f tree s = absurd (no_tree tokens k tree f s.spelled)
