-- Whether two places may be the same, by their texts: the walk along both from their roots.
use Rattle.std.specs.Prelude.{ℕ, suc, ◌==◌, Bool, true, false, List, [], ◌∷◌, ◌++◌, ℤ, Option, Some, None, if◌then◌else◌}
use Rattle.tu_base.specs.Scalars.{are_equal}
use Rattle.tu_core.specs.Core.{Path, Name, OpenItem, Element, ResultOf, Selectors, End, Field, VariantField, Item, Subscripts, NoSubscript, Subscript, Actuals, NoActual, Given, Lent}
use Rattle.tu_core.specs.Rooms.{is_same}

-- where two places are equal if they are the same: the elements of a collection at their roots, or the components at a position of both ways
pub data Noted : Type 0 where
  AtElements : Noted
  AtStep : (position : ℕ) → Noted

-- They never are the same, they always are, or they are where all that was noted is equal.
pub data Verdict : Type 0 where
  Apart : Verdict
  Same : Verdict
  Maybe : List Noted → Verdict

-- Two brackets: different, where a pair of constants is; equal, where all are equal constants; else not known.
pub data Brackets : Type 0 where
  Differ : Brackets
  Agree : Brackets
  Unknown : Brackets

abbrev pub both_brackets : Brackets → Brackets → Brackets
both_brackets Differ y = Differ
both_brackets Agree y = y
both_brackets Unknown Differ = Differ
both_brackets Unknown Agree = Unknown
both_brackets Unknown Unknown = Unknown

abbrev pub one_subscript : Option ℤ → Option ℤ → Brackets
one_subscript None y = Unknown
one_subscript (Some a) None = Unknown
one_subscript (Some a) (Some b) = if are_equal a b then Agree else Differ

abbrev pub brackets : Subscripts → Subscripts → Brackets
brackets NoSubscript ys = Agree
brackets (Subscript a e xs) NoSubscript = Agree
brackets (Subscript a e xs) (Subscript b f ys) = both_brackets (one_subscript a b) (brackets xs ys)

-- where either place has ended
abbrev pub ended : (noted : List Noted) → Verdict
ended [] = Same
ended (n ∷ more) = Maybe (n ∷ more)

abbrev pub behind_brackets : Brackets → (position : ℕ) → (noted : List Noted) → (List Noted → Verdict) → Verdict
behind_brackets Differ position noted go_on = Apart
behind_brackets Agree position noted go_on = go_on noted
behind_brackets Unknown position noted go_on = go_on (noted ++ AtStep position ∷ [])

-- from a position of both ways on
abbrev pub walk_steps : (position : ℕ) → (noted : List Noted) → Selectors → Selectors → Verdict
walk_steps position noted End ys = ended noted
walk_steps position noted (Field n k xs) End = ended noted
walk_steps position noted (Field n k xs) (Field m j ys) = if k == j then walk_steps (suc position) noted xs ys else Apart
walk_steps position noted (Field n k xs) (VariantField m j ys) = Apart
walk_steps position noted (Field n k xs) (Item m es ys) = Apart
walk_steps position noted (VariantField n k xs) End = ended noted
walk_steps position noted (VariantField n k xs) (Field m j ys) = Apart
walk_steps position noted (VariantField n k xs) (VariantField m j ys) = if k == j then walk_steps (suc position) noted xs ys else Apart
walk_steps position noted (VariantField n k xs) (Item m es ys) = Apart
walk_steps position noted (Item n ds xs) End = ended noted
walk_steps position noted (Item n ds xs) (Field m j ys) = Apart
walk_steps position noted (Item n ds xs) (VariantField m j ys) = Apart
walk_steps position noted (Item n ds xs) (Item m es ys) = behind_brackets (brackets ds es) position noted (λ noted. walk_steps (suc position) noted xs ys)

-- Two places. An array with run-time bounds may stand for itself, or an element of it; a call's result is no other place.
abbrev pub walk : Path → Path → Verdict
walk (Name at x xs) (Name other y ys) = if is_same x y then walk_steps 0 [] xs ys else Apart
walk (Name at x xs) (OpenItem other y indexes es ys) = if is_same x y then Same else Apart
walk (Name at x xs) (Element other c e ys) = Apart
walk (Name at x xs) (ResultOf other k call ys) = Apart
walk (OpenItem at x indexes ds xs) (Name other y ys) = if is_same x y then Same else Apart
walk (OpenItem at x indexes ds xs) (OpenItem other y others es ys) = if is_same x y then behind_brackets (brackets ds es) 0 [] (λ noted. walk_steps 1 noted xs ys) else Apart
walk (OpenItem at x indexes ds xs) (Element other c e ys) = Apart
walk (OpenItem at x indexes ds xs) (ResultOf other k call ys) = Apart
walk (Element at c e xs) (Name other y ys) = Apart
walk (Element at c e xs) (OpenItem other y indexes es ys) = Apart
walk (Element at c e xs) (Element other d f ys) = if c == d then walk_steps 0 (AtElements ∷ []) xs ys else Apart
walk (Element at c e xs) (ResultOf other k call ys) = Apart
walk (ResultOf at k call xs) path = Apart

-- two actuals of a call, by their numbers, that may be the same place, with what is to be tested
pub record Pair : Type 0 where
  pub first : ℕ
  pub second : ℕ
  pub tests : List Noted

abbrev pub pair_if : (first second : ℕ) → Verdict → List Pair
pair_if first second Apart = []
pair_if first second Same = []
pair_if first second (Maybe noted) = record { first = first; second = second; tests = noted } ∷ []

-- Of two places at least one is a `var` actual.
abbrev pub pair_of : (first second : ℕ) → (is_var other_is_var : Bool) → Path → Path → List Pair
pair_of first second true other_is_var p q = pair_if first second (walk p q)
pair_of first second false true p q = pair_if first second (walk p q)
pair_of first second false false p q = []

abbrev pub pairs_with : (first : ℕ) → (is_var : Bool) → Path → (second : ℕ) → Actuals → List Pair
pairs_with first is_var p second NoActual = []
pairs_with first is_var p second (Given at size e more) = pairs_with first is_var p (suc second) more
pairs_with first is_var p second (Lent at other_is_var bounds q more) = pair_of first second is_var other_is_var p q ++ pairs_with first is_var p (suc second) more

abbrev pub pairs_from : (first : ℕ) → Actuals → List Pair
pairs_from first NoActual = []
pairs_from first (Given at size e more) = pairs_from (suc first) more
pairs_from first (Lent at is_var bounds p more) = pairs_with first is_var p (suc first) more ++ pairs_from (suc first) more

-- the pairs that a call tests, in the order of the first and then of the second actual
abbrev pub pairs_of : Actuals → List Pair
pairs_of actuals = pairs_from 0 actuals
