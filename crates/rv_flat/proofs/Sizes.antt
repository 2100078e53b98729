-- How large operations are, by which the recursion over them ends.
use Rattle.std.proofs.Common.{◌≡◌, ℕ, ◌+◌, List, [], ◌∷◌, Bool, refl, sym, ap, ◌∙◌}
use Rattle.rv_isa.specs.declared.instr.Relation.{Relation}
use Rattle.ir_form.specs.declared.op.Op.{Op, Plain, If', Case', Loop', Guard', Leave, Row_of-Op, end_of-Op, more_of-Op, Row_of-Arm, end_of-Arm, more_of-Arm, items-the_row-Op, items-the_row-Arm, items_hidden-the_row-Op-0, items_hidden-the_row-Arm-1, items_shown-the_row-Op-0}
use Rattle.ir_form.specs.declared.op.Op.TheViews.{If, Case, Loop, Guard}
use Rattle.ir_form.specs.declared.op.Region.{Region}
use Rattle.ir_form.specs.declared.op.Arm.{Arm}
use Rattle.rv_flat.proofs.Lists.{first_row, second_row, arm_row, sums}

abbrev mutual
  pub size : Op → ℕ
  size (Plain p) = 1
  size (If' relation left right p _ ops results q _ others others_results to) = 1 + size_all ops + size_all others
  size (Case' value _ arms p _ ops results to) = 1 + size_arms arms + size_all ops
  size (Loop' marked start p _ ops results to) = 1 + size_all ops
  size (Guard' mark p _ ops results q _ others others_results to) = 1 + size_all ops + size_all others
  size (Leave exit gives) = 1

  pub size_all : {n : _} → Row_of-Op n → ℕ
  size_all end_of-Op = 0
  size_all (more_of-Op op ops) = size op + size_all ops

  pub size_arms : {n : _} → Row_of-Arm n → ℕ
  size_arms end_of-Arm = 0
  size_arms (more_of-Arm ranges p _ ops results arms) = 1 + size_all ops + size_arms arms

abbrev pub size_list : List Op → ℕ
size_list [] = 0
size_list (op ∷ ops) = size op + size_list ops

abbrev pub size_each : List Arm → ℕ
size_each [] = 0
size_each (arm ∷ arms) = 1 + size_list arm.region.ops + size_each arms

size_row : {k : _} (row : Row_of-Op k) → size_all row ≡ size_list (items-the_row-Op k row)
size_row end_of-Op = refl
size_row (more_of-Op op ops) = ap (λ x. size op + x) (size_row ops)

size_arm_row : {k : _} (row : Row_of-Arm k) → size_arms row ≡ size_each (items-the_row-Arm k row)
size_arm_row end_of-Arm = refl
size_arm_row (more_of-Arm ranges p q ops results arms) = sums _ _ _ _ (ap (λ x. 1 + x) (size_row ops ∙ ap size_list (sym (items_shown-the_row-Op-0 q ops)))) (size_arm_row arms)

pub size-If : (relation : Relation) (left right : ℕ) (first second : Region) (to : List ℕ) → size (If relation left right first second to) ≡ 1 + size_list first.ops + size_list second.ops
size-If relation left right first second to =
    let op = If relation left right first second to in
    let a = size_row (first_row op).1 ∙ ap size_list (items_hidden-the_row-Op-0 first.ops) in
    let b = size_row (second_row op).1 ∙ ap size_list (items_hidden-the_row-Op-0 second.ops) in
    ap (λ x. 1 + x + size_all (second_row op).1) a ∙ ap (λ x. 1 + size_list first.ops + x) b

pub size-Guard : (mark : ℕ) (first second : Region) (to : List ℕ) → size (Guard mark first second to) ≡ 1 + size_list first.ops + size_list second.ops
size-Guard mark first second to =
    let op = Guard mark first second to in
    let a = size_row (first_row op).1 ∙ ap size_list (items_hidden-the_row-Op-0 first.ops) in
    let b = size_row (second_row op).1 ∙ ap size_list (items_hidden-the_row-Op-0 second.ops) in
    ap (λ x. 1 + x + size_all (second_row op).1) a ∙ ap (λ x. 1 + size_list first.ops + x) b

pub size-Loop : (marked : Bool) (start : List ℕ) (body : Region) (to : List ℕ) → size (Loop marked start body to) ≡ 1 + size_list body.ops
size-Loop marked start body to = ap (λ x. 1 + x) (size_row (first_row (Loop marked start body to)).1 ∙ ap size_list (items_hidden-the_row-Op-0 body.ops))

pub size-Case : (value : ℕ) (arms : List Arm) (others : Region) (to : List ℕ) → size (Case value arms others to) ≡ 1 + size_each arms + size_list others.ops
size-Case value arms others to =
    let op = Case value arms others to in
    let a = size_row (first_row op).1 ∙ ap size_list (items_hidden-the_row-Op-0 others.ops) in
    let b = size_arm_row (arm_row op).1 ∙ ap size_each (items_hidden-the_row-Arm-1 arms) in
    ap (λ x. 1 + x + size_all (first_row op).1) b ∙ ap (λ x. 1 + size_each arms + x) a
