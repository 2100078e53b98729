-- What the linear code of a unit keeps.
use Rattle.std.proofs.Common.{◌≡◌, ℕ, List, [], ◌∷◌, ◌++◌, length, map, Option, Some, None, refl, sym, ap, ◌∙◌, subst}
use Rattle.std.specs.Prelude.{All, Contains, IsSomeAnd, slice_get}
use Rattle.std.specs.Option.{option_map}
use Rattle.std.specs.List.{AllZip, AllByRecursion as Each}
use Rattle.std.proofs.lemmas.Option.{slice_get-map}
use Rattle.std.proofs.lemmas.List.Elements.{All-from_recursion, recursion_from_All, All-map, All-weaker, All-contains_itself}
use Rattle.ir_form.specs.declared.plain.Plain.{Plain as PlainOp}
use Rattle.ir_form.specs.declared.unit.Routine.{Routine}
use Rattle.ir_form.specs.declared.unit.Unit.{Unit as RegionUnit}
use Rattle.ir_form.specs.Units.{head_of}
use Rattle.ir_form.specs.Values.{marks_of}
use Rattle.ir_form.specs.Valid.{IsValid}
use Rattle.ir_form.specs.Lawful.{IsThere, IsSound, IsMainHead, IsSoundUnit, depths_of, numbers_list, plains_list, routine_numbers, IsLawful}
use Rattle.rv_flat.specs.declared.linear.Instruction.TheVariants.{Back}
use Rattle.rv_flat.specs.declared.linear.LinearRoutine.{LinearRoutine}
use Rattle.rv_flat.specs.Units as linear
use Rattle.rv_flat.specs.Lawful as lawful
use Rattle.rv_flat.specs.Flat.{nothing_around, code_list, flat_routine, flat_unit}
use Rattle.rv_flat.specs.Parts.{gathered, instruction_numbers, instruction_plains, instruction_marks, code_plains, linear_numbers, linear_marks, HasItsLabels, KeepsRoutine, KeepsParts, IsUnguardedInstruction, IsUnguardedCode, IsUnguarded, IsUnguardedUnit}
use Rattle.rv_flat.proofs.Whole.{flat_keeps}
use Rattle.ir_form.proofs.Each.{both, front, back}
use Rattle.rv_flat.proofs.Parts.{stands_none, stands_more, stands_both, names_list, does_list}
use Rattle.rv_flat.proofs.Labels.{routine_labels}
use Rattle.rv_flat.proofs.Takers.{unit_takes}
use Rattle.rv_flat.proofs.Marks.{marks_in_list, unmarked}

-- a property of all values of a routine is one of all values of its code
numbers_keep : (P : ℕ → Type 0) (r : Routine) → All P (routine_numbers r) → All P (linear_numbers (flat_routine r))
numbers_keep P r h =
    let ops = r.body.ops in let results = r.body.results in let parameters = r.body.parameters in
    let each = recursion_from_All P (routine_numbers r) h in
    let rest = back P parameters (numbers_list ops ++ results) each in
    let names = stands_both P instruction_numbers (code_list nothing_around 0 ops) (Back results ∷ [])
    (names_list P nothing_around (record { loops = λ k t e. cc; handler = λ x e. cc }) 0 ops (front P (numbers_list ops) results rest))
    (stands_more P instruction_numbers (Back results) [] (back P (numbers_list ops) results rest) (stands_none P instruction_numbers)) in
    All-from_recursion P _ (both P parameters (gathered instruction_numbers (code_list nothing_around 0 ops ++ Back results ∷ [])) (front P parameters (numbers_list ops ++ results) each) names.each)

plains_keep : (P : PlainOp → Type 0) (r : Routine) → All P (plains_list r.body.ops) → All P (code_plains (flat_routine r).code)
plains_keep P r h =
    let ops = r.body.ops in
    let does = stands_both P instruction_plains (code_list nothing_around 0 ops) (Back r.body.results ∷ []) (does_list P nothing_around 0 ops (recursion_from_All P (plains_list ops) h))
    (stands_more P instruction_plains (Back r.body.results) [] tt (stands_none P instruction_plains)) in
    All-from_recursion P _ does.each

-- a property of all marks of a routine is one of all marks of its code
marks_keep : (P : ℕ → Type 0) (r : Routine) → All P (marks_of r) → All P (linear_marks (flat_routine r))
marks_keep P r h =
    let ops = r.body.ops in
    let marks = stands_both P instruction_marks (code_list nothing_around 0 ops) (Back r.body.results ∷ []) (marks_in_list P nothing_around (record { known = λ x e. cc }) 0 ops (recursion_from_All P (marks_of r) h))
    (stands_more P instruction_marks (Back r.body.results) [] tt (stands_none P instruction_marks)) in
    All-from_recursion P _ marks.each

routine_unguarded : (r : Routine) → marks_of r ≡ [] → IsUnguardedCode (flat_routine r).code
routine_unguarded r e =
    let none : ℕ → Type 0 = λ (m : ℕ). ⊥ in
    let marks = marks_keep none r (subst (λ ms. All none ms) (sym e) (All-from_recursion none [] tt)) in
    All-from_recursion IsUnguardedInstruction (flat_routine r).code (unmarked (flat_routine r).code (recursion_from_All none (linear_marks (flat_routine r)) marks))

pub unit_unguarded : (u : RegionUnit) → IsUnguardedUnit u → IsUnguarded (flat_unit u)
unit_unguarded u h =
    All-map (λ (s : LinearRoutine). IsUnguardedCode s.code) flat_routine u.routines
    (All-weaker (λ r. marks_of r ≡ []) (λ r. IsUnguardedCode (flat_routine r).code) (λ r e. routine_unguarded r e) u.routines h)

routine_kept : (r : Routine) → KeepsRoutine r (flat_routine r)
routine_kept r = record { parameters = refl; room = refl; words = refl; depth = refl; values = numbers_keep (Contains (routine_numbers r)) r (All-contains_itself (routine_numbers r)); marks = marks_keep (Contains (marks_of r)) r (All-contains_itself (marks_of r)) }

routines_kept : (rs : List Routine) → AllZip KeepsRoutine rs (map flat_routine rs)
routines_kept [] = tt
routines_kept (r ∷ rs) = (routine_kept r, routines_kept rs)

pub unit_kept : (u : RegionUnit) → KeepsParts u (flat_unit u)
unit_kept u = record { globals = refl; main = refl; texts = refl; routines = routines_kept u.routines }

pub labels_kept : (rs : List Routine) → All (λ (s : LinearRoutine). HasItsLabels s.code) (map flat_routine rs)
labels_kept rs = All-map (λ (s : LinearRoutine). HasItsLabels s.code) flat_routine rs (every rs)
  where
    each : (rs : List Routine) → Each (λ r. HasItsLabels (flat_routine r).code) rs
    each [] = tt
    each (r ∷ rs) = (routine_labels r.body.ops r.body.results, each rs)

    every : (rs : List Routine) → All (λ r. HasItsLabels (flat_routine r).code) rs
    every rs = All-from_recursion (λ r. HasItsLabels (flat_routine r).code) rs (each rs)

depths_same : (rs : List Routine) → lawful.depths_of (map flat_routine rs) ≡ depths_of rs
depths_same [] = refl
depths_same (r ∷ rs) = ap (λ x. r.depth ∷ x) (depths_same rs)

sound_kept : (globals texts : ℕ) (depths : List ℕ) (r : Routine) → IsSound globals texts depths (head_of r) (plains_list r.body.ops) (routine_numbers r) (marks_of r) → IsSound globals texts depths (head_of r) (code_plains (flat_routine r).code) (linear_numbers (flat_routine r)) (linear_marks (flat_routine r))
sound_kept globals texts depths r h = record {
  depth = h.depth;
  small = h.small;
  there = plains_keep (IsThere globals texts depths r.words r.depth) r h.there;
  values = h.values;
  known = numbers_keep (Contains h.values) r h.known;
  marks = h.marks;
  marked = marks_keep (Contains h.marks) r h.marked;
  few = h.few;
}

main_kept : (o : Option Routine) → IsSomeAnd o (λ r. IsMainHead (head_of r)) → IsSomeAnd (option_map flat_routine o) (λ r. IsMainHead (linear.head_of r))
main_kept None h = h
main_kept (Some r) h = h

unit_sound : (u : RegionUnit) → IsSoundUnit u → lawful.IsSoundLinear (flat_unit u)
unit_sound u h = record {
  globals = h.globals;
  main = subst (λ o. IsSomeAnd o (λ r. IsMainHead (linear.head_of r))) (sym (slice_get-map flat_routine u.routines u.main)) (main_kept (slice_get u.routines u.main) h.main);
  routines = subst (λ d. All (λ r. IsSound u.globals (length u.texts) d (linear.head_of r) (code_plains r.code) (linear_numbers r) (linear_marks r)) (map flat_routine u.routines)) (sym (depths_same u.routines))
      (All-map (λ r. IsSound u.globals (length u.texts) (depths_of u.routines) (linear.head_of r) (code_plains r.code) (linear_numbers r) (linear_marks r)) flat_routine u.routines
      (All-weaker (λ r. IsSound u.globals (length u.texts) (depths_of u.routines) (head_of r) (plains_list r.body.ops) (routine_numbers r) (marks_of r)) (λ r. IsSound u.globals (length u.texts) (depths_of u.routines) (head_of r) (code_plains (flat_routine r).code) (linear_numbers (flat_routine r)) (linear_marks (flat_routine r))) (λ r s. sound_kept u.globals (length u.texts) (depths_of u.routines) r s) u.routines h.routines));
}

pub lawful_kept : (u : RegionUnit) → IsValid u → IsLawful u → lawful.IsLawful (flat_unit u)
lawful_kept u v h = record {
  sound = unit_sound u h.sound;
  labels = labels_kept u.routines;
  once = unit_takes u v;
  never_stuck = λ place input folder t s pl e. h.never_stuck place input folder t s pl (sym ((flat_keeps u).keeps place input folder t s).verdict ∙ e);
}
