-- Code that is made behind other code: how much more it is, and whether its operations may stand there.
use Rattle.std.specs.Prelude.{◌≡◌, ℕ, ◌+◌, ◌≤◌, true, List, [], ◌∷◌, ◌++◌, length, map}
use Rattle.ir_form.specs.declared.unit.Routine.{Routine}
use Rattle.ir_form.specs.declared.unit.Unit.{Unit as RegionUnit}
use Rattle.ir_form.specs.Values.{defined_list, marks_list}
use Rattle.ir_form.specs.Valid.{Scope, with, given_list}
use Rattle.ir_form.specs.Weight.{weight_list}
use Rattle.ir_form.specs.Tests.{contains, fits_list}
use Rattle.ir_code.specs.declared.code.Code.{Code}
use Rattle.tu_value.specs.declared.pieces.Fixed.{Fixed}
use Rattle.ir_build.specs.Keeps.{Named}
use Rattle.ir_build.specs.Code.{Made, Tested}

-- the scope behind the code
abbrev pub behind : Scope → Code → Scope
behind s code = with s (given_list code.ops)

-- a value is seen behind code
abbrev pub Seen : Scope → Code → ℕ → Type 0
Seen s code v = contains (s.values ++ given_list code.ops) v ≡ true

-- a scope sees some values
abbrev pub SeesAll : Scope → List ℕ → Type 0
SeesAll s [] = Unit {0}
SeesAll s (v ∷ vs) = (contains s.values v ≡ true) × SeesAll s vs

-- the operations so far fit where they lie
abbrev pub IsFit : RegionUnit → Routine → Scope → Code → Type 0
IsFit u r s code = fits_list u r s code.ops ≡ true

-- the numbers from n on, in order
abbrev pub AreFrom : ℕ → List ℕ → Type 0
AreFrom n [] = Unit {0}
AreFrom n (x ∷ xs) = (x ≡ n) × AreFrom (n + 1) xs

-- the values that code defines are in order, up to the next one
pub record IsTidy (n : ℕ) (code : Code) : Type 0 where
  pub values : AreFrom n (defined_list code.ops)
  pub last : n + length (defined_list code.ops) ≡ code.next

-- how much it weighs more and how many values it defines more, at most; and it has no Guards more
pub record Grows (most : ℕ) (code made : Code) : Type 0 where
  pub few : made.next ≤ code.next + most
  pub light : weight_list made.ops ≤ weight_list code.ops + most
  pub tidy : (n : ℕ) → IsTidy n code → IsTidy n made
  pub unguarded : marks_list code.ops ≡ [] → marks_list made.ops ≡ []
  pub kept : (s : Scope) (v : ℕ) → Seen s code v → Seen s made v

-- the values that have the addresses of variables
abbrev pub addresses : List Named → List ℕ
addresses names = map (λ (n : Named). n.at) names

-- what code may use at each place
abbrev pub known : Fixed → List Named → List ℕ
known k names = k.zero ∷ k.top ∷ 0 ∷ addresses names

-- code with its value
pub record Makes (u : RegionUnit) (r : Routine) (k : Fixed) (names : List Named) (most : ℕ) (code : Code) (made : Made) : Type 0 where
  pub grows : Grows most code made.code
  pub fits : (s : Scope) → SeesAll (behind s code) (known k names) → IsFit u r s code → IsFit u r s made.code
  pub seen : (s : Scope) → SeesAll (behind s code) (known k names) → Seen s made.code made.value

-- code that works out two values
pub record Tests (u : RegionUnit) (r : Routine) (k : Fixed) (names : List Named) (most : ℕ) (code : Code) (made : Tested) : Type 0 where
  pub grows : Grows most code made.code
  pub fits : (s : Scope) → SeesAll (behind s code) (known k names) → IsFit u r s code → IsFit u r s made.code
  pub left : (s : Scope) → SeesAll (behind s code) (known k names) → Seen s made.code made.left
  pub right : (s : Scope) → SeesAll (behind s code) (known k names) → Seen s made.code made.right
