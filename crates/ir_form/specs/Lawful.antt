-- Lawful code: what it names is there, and no run of it is stuck.
use Rattle.std.specs.Prelude.{◌≡◌, ◌≢◌, ℕ, zero, suc, ◌+◌, ◌*◌, ◌<◌, ◌≤◌, List, [], ◌∷◌, ◌++◌, length, map, All, Contains, IsSomeAnd, slice_get}
use Rattle.tu_base.specs.declared.limits.TheConstants.{MOST_GLOBAL_WORDS}
use Rattle.rv_image.specs.Streams.{Folder}
use Rattle.ir_form.specs.declared.plain.Plain.{Plain}
use Rattle.ir_form.specs.declared.plain.Plain.TheVariants.{Global, Frame, Text, Call, Take, Give}
use Rattle.ir_form.specs.declared.op.Op.{Op, Plain as Simple, If', Case', Loop', Guard', Leave, Row_of-Op, end_of-Op, more_of-Op, Row_of-Arm, end_of-Arm, more_of-Arm}
use Rattle.ir_form.specs.declared.unit.Routine.{Routine}
use Rattle.ir_form.specs.declared.unit.Unit.{Unit as RegionUnit}
use Rattle.ir_form.specs.Place.{Place, IsPlace}
use Rattle.ir_form.specs.State.{Stuck}
use Rattle.ir_form.specs.Units.{Head, head_of, meaning}
use Rattle.ir_form.specs.Values.{used, made, marks_of}

-- the operations with no region among operations, those inside regions too, in their order
abbrev mutual
  pub plains : Op → List Plain
  plains (Simple p) = p ∷ []
  plains (If' relation left right _ _ ops results _ _ others others_results to) = plains_all ops ++ plains_all others
  plains (Case' value _ arms _ _ ops results to) = plains_all ops ++ plains_arms arms
  plains (Loop' marked start parameters _ ops results to) = plains_all ops
  plains (Guard' mark _ _ ops results _ _ others others_results to) = plains_all ops ++ plains_all others
  plains (Leave exit gives) = []

  pub plains_all : {n : _} → Row_of-Op n → List Plain
  plains_all end_of-Op = []
  plains_all (more_of-Op op ops) = plains op ++ plains_all ops

  pub plains_arms : {n : _} → Row_of-Arm n → List Plain
  plains_arms end_of-Arm = []
  plains_arms (more_of-Arm ranges _ _ ops results arms) = plains_all ops ++ plains_arms arms

abbrev pub plains_list : List Op → List Plain
plains_list [] = []
plains_list (op ∷ ops) = plains op ++ plains_list ops

-- the numbers of all values that an operation names
abbrev pub plain_numbers : Plain → List ℕ
plain_numbers p = used p ++ made p

abbrev mutual
  pub numbers : Op → List ℕ
  numbers (Simple p) = plain_numbers p
  numbers (If' relation left right p _ ops results q _ others others_results to) =
      (left ∷ right ∷ []) ++ ((p ++ (numbers_all ops ++ results)) ++ ((q ++ (numbers_all others ++ others_results)) ++ to))
  numbers (Case' value _ arms p _ ops results to) = (value ∷ []) ++ ((p ++ (numbers_all ops ++ results)) ++ (numbers_arms arms ++ to))
  numbers (Loop' marked start p _ ops results to) = start ++ ((p ++ (numbers_all ops ++ results)) ++ to)
  numbers (Guard' mark p _ ops results q _ others others_results to) = (p ++ (numbers_all ops ++ results)) ++ ((q ++ (numbers_all others ++ others_results)) ++ to)
  numbers (Leave exit gives) = gives

  pub numbers_all : {n : _} → Row_of-Op n → List ℕ
  numbers_all end_of-Op = []
  numbers_all (more_of-Op op ops) = numbers op ++ numbers_all ops

  pub numbers_arms : {n : _} → Row_of-Arm n → List ℕ
  numbers_arms end_of-Arm = []
  numbers_arms (more_of-Arm ranges p _ ops results arms) = (p ++ (numbers_all ops ++ results)) ++ numbers_arms arms

abbrev pub numbers_list : List Op → List ℕ
numbers_list [] = []
numbers_list (op ∷ ops) = numbers op ++ numbers_list ops

abbrev pub routine_numbers : Routine → List ℕ
routine_numbers r = r.body.parameters ++ (numbers_list r.body.ops ++ r.body.results)

-- a routine of depth 0 may call any, and another one those of smaller depths from 1 on
abbrev pub MayCall : (caller callee : ℕ) → Type 0
MayCall zero callee = Unit {0}
MayCall (suc caller) callee = (0 < callee) × (callee < suc caller)

-- What an operation names is there, in a unit with so many words of globals and bytes of texts and routines of these depths, in a routine with
-- so many words and this depth.
abbrev pub IsThere : (globals texts : ℕ) → (depths : List ℕ) → (words depth : ℕ) → Plain → Type 0
IsThere globals texts depths words depth (Global to word) = word < globals
IsThere globals texts depths words depth (Frame to word) = word < words
IsThere globals texts depths words depth (Text to byte) = byte < texts
IsThere globals texts depths words depth (Call routine arguments to line) = IsSomeAnd (slice_get depths routine) (MayCall depth)
IsThere globals texts depths words depth (Take to number line) = depth ≡ 0
IsThere globals texts depths words depth (Give number) = depth ≡ 0
IsThere globals texts depths words depth _ = Unit {0}

-- A routine with these operations, and with no values and no Guards but those of these numbers. Beside its words and its values it has room for 24
-- words for each Guard.
pub record IsSound (globals texts : ℕ) (depths : List ℕ) (h : Head) (operations : List Plain) (named guarded : List ℕ) : Type 0 where
  pub depth : h.depth ≤ 8
  pub small : h.depth ≢ 0 → h.room ≤ 512
  pub there : All (IsThere globals texts depths h.words h.depth) operations
  pub values : List ℕ
  pub known : All (Contains values) named
  pub marks : List ℕ
  pub marked : All (Contains marks) guarded
  pub few : h.words + length values + 24 * length marks + 32 ≤ h.room

-- the main program's routine
pub record IsMainHead (h : Head) : Type 0 where
  pub depth : h.depth ≡ 0
  pub room : h.room ≤ 8388608
  pub parameters : h.parameters ≡ []

abbrev pub depths_of : List Routine → List ℕ
depths_of routines = map (λ (r : Routine). r.depth) routines

-- what lawful code says of rooms, words, values, depths, globals and of what is named
pub record IsSoundUnit (u : RegionUnit) : Type 0 where
  pub globals : u.globals ≤ MOST_GLOBAL_WORDS
  pub main : IsSomeAnd (slice_get u.routines u.main) (λ r. IsMainHead (head_of r))
  pub routines : All (λ r. IsSound u.globals (length u.texts) (depths_of u.routines) (head_of r) (plains_list r.body.ops) (routine_numbers r) (marks_of r)) u.routines

-- and wherever things lie, on every input, over every folder and within all bounds it is never stuck
pub record IsLawful (u : RegionUnit) : Type 0 where
  pub sound : IsSoundUnit u
  pub never_stuck : (place : Place) (input : List ℕ) (folder : Folder) (t s : ℕ) → IsPlace place (length u.texts) → (meaning u place input folder t s).verdict ≢ Stuck
