-- The variables in a table, the newest first.
use Rattle.std.proofs.Common.{◌≡◌, ℕ, ◌+◌, Bool, true, false, cond, List, [], ◌∷◌, ◌++◌, length, Option, None, Some, refl, ap, sym, ◌∙◌, arith}
use Rattle.std.proofs.lemmas.Slice.Eq.{bytes_eq-Decides}
use Rattle.std.specs.Str.{bytes_eq}
use Rattle.std.specs.List.{IsDistinct, AllByRecursion}
use Rattle.std.specs.Map.{keys_of, lookup}
use Rattle.std.specs.Option.{option_map, option_or}
use Rattle.ir_build.specs.Keeps.{Named}
use Rattle.ir_build.specs.Code.{named}
use Rattle.ir_build.specs.Names.{newest}

pub length_newest : {K : Type 0} (name : K → List ℕ) (names : List Named) (es : List (K × ℕ)) → length (newest name names es) ≡ length names + length es
length_newest name names [] = omega arith
length_newest name names (e ∷ es) = omega (arith, length_newest name (record { name = name e.0; word = length names; at = e.1 } ∷ names) es)

-- an entry more is the newest
pub newest_last : {K : Type 0} (name : K → List ℕ) (names : List Named) (es : List (K × ℕ)) (k : K) (v : ℕ)
    → newest name names (es ++ (k, v) ∷ []) ≡ record { name = name k; word = length (newest name names es); at = v } ∷ newest name names es
newest_last name names [] k v = refl
newest_last name names (e ∷ es) k v = newest_last name (record { name = name e.0; word = length names; at = e.1 } ∷ names) es k v

-- a key that differs from all others is not found among them
none_alike : {K : Type 0} (name : K → List ℕ) (q x : List ℕ) (es : List (K × ℕ)) → q ≡ x → AllByRecursion (λ y. bytes_eq x (name y) ≡ false) (keys_of es)
    → lookup (λ k. bytes_eq q (name k)) es ≡ None
none_alike name q x [] same others = refl
none_alike name q x (e ∷ es) same others =
    let no_match : bytes_eq q (name e.0) ≡ false = ap (λ z. bytes_eq z (name e.0)) same ∙ others.0 in
    ap (λ b. cond b (Some e.1) (lookup (λ k. bytes_eq q (name k)) es)) no_match ∙ none_alike name q x es same others.1

-- the newest of a name is the only one
pub found : {K : Type 0} (name : K → List ℕ) (q : List ℕ) (names : List Named) (es : List (K × ℕ)) → IsDistinct (λ a b. bytes_eq (name a) (name b)) (keys_of es)
    → option_map (λ (n : Named). n.at) (named q (newest name names es)) ≡ option_or (lookup (λ k. bytes_eq q (name k)) es) (option_map (λ (n : Named). n.at) (named q names))
unfolding IsDistinct
found name q names [] distinct = refl
found name q names (e ∷ es) distinct = found name q (first ∷ names) es distinct.1 ∙ by (bytes_eq q (name e.0)) refl where
  first : Named
  first = record { name = name e.0; word = length names; at = e.1 }

  by : (b : Bool) → bytes_eq q (name e.0) ≡ b → option_or (lookup (λ k. bytes_eq q (name k)) es) (option_map (λ (n : Named). n.at) (cond b (Some first) (named q names)))
      ≡ option_or (cond b (Some e.1) (lookup (λ k. bytes_eq q (name k)) es)) (option_map (λ (n : Named). n.at) (named q names))
  by true is = ap (λ o. option_or o (Some e.1)) (none_alike name q (name e.0) es ((bytes_eq-Decides q (name e.0)).0 is) distinct.0)
  by false is = refl

or_nothing : (o : Option ℕ) → o ≡ option_or o None
or_nothing None = refl
or_nothing (Some x) = refl

-- a variable's value in the table
pub value_found : {K : Type 0} (name : K → List ℕ) (q : List ℕ) (es : List (K × ℕ)) → IsDistinct (λ a b. bytes_eq (name a) (name b)) (keys_of es)
    → lookup (λ k. bytes_eq q (name k)) es ≡ option_map (λ (n : Named). n.at) (named q (newest name [] es))
value_found name q es distinct = or_nothing (lookup (λ k. bytes_eq q (name k)) es) ∙ sym (found name q [] es distinct)

-- a variable that is not declared is not in the table
pub value_absent : {K : Type 0} (name : K → List ℕ) (q : List ℕ) (es : List (K × ℕ)) → IsDistinct (λ a b. bytes_eq (name a) (name b)) (keys_of es)
    → named q (newest name [] es) ≡ None → lookup (λ k. bytes_eq q (name k)) es ≡ None
value_absent name q es distinct none = value_found name q es distinct ∙ ap (λ o. option_map (λ (n : Named). n.at) o) none
