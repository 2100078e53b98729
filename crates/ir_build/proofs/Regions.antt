-- Operations with regions that take and give no values.
use Rattle.std.proofs.Common.{◌≡◌, ℕ, ◌+◌, ◌==◌, Bool, true, false, List, [], ◌∷◌, ◌++◌, refl, ◌∙◌, ap, arith}
use Rattle.std.specs.Prelude.{if◌then◌else◌, slice_get, Some}
use Rattle.std.proofs.lemmas.List.{append-nil}
use mathlib.Core.Former.{Count}
use Rattle.rv_isa.specs.declared.instr.Relation.{Relation}
use Rattle.tu_base.specs.declared.kind.Kind.{Kind}
use Rattle.ir_form.specs.declared.op.Op.{Op, If', Loop', Row_of-Op, end_of-Op, more_of-Op, items-the_row-Op, items_hidden-the_row-Op-0}
use Rattle.ir_form.specs.declared.op.Op.TheViews.{Loop}
use Rattle.ir_form.specs.declared.unit.Routine.{Routine}
use Rattle.ir_form.specs.declared.unit.Unit.{Unit as RegionUnit}
use Rattle.ir_form.specs.Values.{defined, defined_list, marks, marks_list}
use Rattle.ir_form.specs.Valid.{Scope, looped, leaves_list}
use Rattle.ir_form.specs.Weight.{weight, weight_all, weight_list}
use Rattle.ir_form.specs.Tests.{contains, is_number, fits, fits_list, fits_region}
use Rattle.ir_form.proofs.Lists.{defined-If, defined-Loop, marks-If, marks-Loop, fits-If, fits-Loop}
use Rattle.ir_code.specs.Pieces.{choice, leave, once, raise, raise_unless, region, repeat}
use Rattle.ir_build.proofs.Fits.{is_and, with_none}

abbrev first_row : Op → (n : Count) × Row_of-Op n
first_row (If' relation left right _ _ x _ _ _ y _ to) = (_, x)
first_row (Loop' marked start _ _ x _ to) = (_, x)
first_row _ = (_, end_of-Op)

abbrev second_row : Op → (n : Count) × Row_of-Op n
second_row (If' relation left right _ _ x _ _ _ y _ to) = (_, y)
second_row _ = (_, end_of-Op)

weight_row : {k : _} (row : Row_of-Op k) → weight_all row ≡ weight_list (items-the_row-Op k row)
weight_row end_of-Op = refl
weight_row (more_of-Op op ops) = ap (λ x. weight op + x) (weight_row ops)

pub weight_choice : (relation : Relation) (left right : ℕ) (first others : List Op) → weight (choice relation left right first others) ≡ 1 + (weight_list first + weight_list others)
weight_choice relation left right first others =
    let op : Op = choice relation left right first others in
    let x : weight_all (first_row op).1 ≡ weight_list first = weight_row (first_row op).1 ∙ ap weight_list (items_hidden-the_row-Op-0 first) in
    let y : weight_all (second_row op).1 ≡ weight_list others = weight_row (second_row op).1 ∙ ap weight_list (items_hidden-the_row-Op-0 others) in
    omega arith

weight_loop : (marked : Bool) (ops : List Op) → weight (Loop marked [] (region ops) []) ≡ 1 + weight_list ops
weight_loop marked ops =
    let op : Op = Loop marked [] (region ops) [] in
    let x : weight_all (first_row op).1 ≡ weight_list ops = weight_row (first_row op).1 ∙ ap weight_list (items_hidden-the_row-Op-0 ops) in
    omega arith

pub weight_once : (ops : List Op) → weight (once ops) ≡ 1 + weight_list ops
weight_once ops = weight_loop false ops

pub weight_repeat : (ops : List Op) → weight (repeat ops) ≡ 1 + weight_list ops
weight_repeat ops = weight_loop true ops

pub defined_choice : (relation : Relation) (left right : ℕ) (first others : List Op) → defined (choice relation left right first others) ≡ defined_list first ++ defined_list others
defined_choice relation left right first others = defined-If relation left right (region first) (region others) [] ∙ ap (λ z. defined_list first ++ z) (append-nil (defined_list others))

pub defined_once : (ops : List Op) → defined (once ops) ≡ defined_list ops
defined_once ops = defined-Loop false [] (region ops) [] ∙ append-nil (defined_list ops)

pub defined_repeat : (ops : List Op) → defined (repeat ops) ≡ defined_list ops
defined_repeat ops = defined-Loop true [] (region ops) [] ∙ append-nil (defined_list ops)

pub marks_choice : (relation : Relation) (left right : ℕ) (first others : List Op) → marks (choice relation left right first others) ≡ marks_list first ++ marks_list others
marks_choice relation left right first others = marks-If relation left right (region first) (region others) []

pub marks_once : (ops : List Op) → marks (once ops) ≡ marks_list ops
marks_once ops = marks-Loop false [] (region ops) []

pub marks_repeat : (ops : List Op) → marks (repeat ops) ≡ marks_list ops
marks_repeat ops = marks-Loop true [] (region ops) []

-- a region that gives no values closes, whether it leaves or not
pub none_taken : (gone : Bool) → (0 == (if gone then 0 else 0)) ≡ true
none_taken true = refl
none_taken false = refl

module _ (u : RegionUnit) (r : Routine) where
  region_fits : (s : Scope) (ops : List Op) → fits_list u r s ops ≡ true → fits_region u r s 0 0 (region ops) ≡ true
  region_fits s ops h = is_and (ap (λ z. fits_list u r z ops) (with_none s) ∙ h) (none_taken (leaves_list false ops))

  pub choice_fits : (s : Scope) (relation : Relation) (left right : ℕ) (first others : List Op) → contains s.values left ≡ true → contains s.values right ≡ true → fits_list u r s first ≡ true → fits_list u r s others ≡ true → fits u r s (choice relation left right first others) ≡ true
  choice_fits s relation left right first others a b h k =
      fits-If u r s relation left right (region first) (region others) [] ∙ is_and (is_and a (is_and b refl)) (is_and (region_fits s first h) (region_fits s others k))

  pub once_fits : (s : Scope) (ops : List Op) → fits_list u r (looped s 0) ops ≡ true → fits u r s (once ops) ≡ true
  once_fits s ops h = fits-Loop u r s false [] (region ops) [] ∙ region_fits (looped s 0) ops h

  pub repeat_fits : (s : Scope) (ops : List Op) → fits_list u r (looped s 0) ops ≡ true → fits u r s (repeat ops) ≡ true
  repeat_fits s ops h = fits-Loop u r s true [] (region ops) [] ∙ region_fits (looped s 0) ops h

  pub leave_fits : (s : Scope) (outside : ℕ) → slice_get s.loops outside ≡ Some 0 → fits u r s (leave outside) ≡ true
  leave_fits s outside e = ap (λ z. is_number z 0) e

  pub raise_fits : (s : Scope) (relation : Relation) (left right : ℕ) (kind : Kind) (line : ℕ) → contains s.values left ≡ true → contains s.values right ≡ true → fits u r s (raise_unless relation left right kind line) ≡ true
  raise_fits s relation left right kind line a b = choice_fits s relation left right [] (raise kind line ∷ []) a b refl refl
