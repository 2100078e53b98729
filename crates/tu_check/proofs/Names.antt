-- Names in the order of their declarations.
use Rattle.std.proofs.Common.{◌≡◌, ℕ, Bool, true, false, List, [], ◌∷◌, ◌++◌, refl, ap, ◌∙◌}
use Rattle.std.specs.Prelude.{◌||◌, not, if◌then◌else◌}
use Rattle.std.specs.List.{list_any}
use Rattle.std.specs.Str.{bytes_eq}
use Rattle.std.proofs.lemmas.List.Folds.{list_any-append}
use denote.Ref.{Bor}
use Rattle.tu_check.specs.Built.{is_declared}
use Rattle.tu_check.specs.Names.{newest_first}

exchanged : (a b : Bool) → (a || (b || false)) ≡ (b || a)
exchanged true true = refl
exchanged true false = refl
exchanged false true = refl
exchanged false false = refl

-- a name is among them in either order
pub among : (name : List ℕ) (names : List (Bor (List ℕ))) → is_declared (newest_first names) name ≡ list_any (λ k. bytes_eq name k.now) names
among name [] = refl
among name (k ∷ names) =
    list_any-append (bytes_eq name) (newest_first names) (k.now ∷ [])
    ∙ (ap (λ b. b || (bytes_eq name k.now || false)) (among name names) ∙ exchanged (list_any (λ x. bytes_eq name x.now) names) (bytes_eq name k.now))

-- the last one is the newest
pub last_is_newest : (names : List (Bor (List ℕ))) (k : Bor (List ℕ)) → newest_first (names ++ k ∷ []) ≡ k.now ∷ newest_first names
last_is_newest [] k = refl
last_is_newest (x ∷ names) k = ap (λ xs. xs ++ x.now ∷ []) (last_is_newest names k)

-- the names after one is inserted
pub inserted : (names new : List (Bor (List ℕ))) (k : Bor (List ℕ)) (is_new : Bool)
    → is_new ≡ not (list_any (λ x. bytes_eq k.now x.now) names) → new ≡ (if list_any (λ x. bytes_eq k.now x.now) names then names else names ++ k ∷ [])
    → newest_first new ≡ (if is_new then k.now ∷ newest_first names else newest_first names)
inserted names new k is_new told is = by (list_any (λ x. bytes_eq k.now x.now) names) is_new told is where
  by : (b is_new : Bool) → is_new ≡ not b → new ≡ (if b then names else names ++ k ∷ []) → newest_first new ≡ (if is_new then k.now ∷ newest_first names else newest_first names)
  by true true told is = absurd (cc)
  by true false told is = ap newest_first is
  by false true told is = ap newest_first is ∙ last_is_newest names k
  by false false told is = absurd (cc)
