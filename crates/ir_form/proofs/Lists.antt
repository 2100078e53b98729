-- Rows of operations and of arms as lists.
use Rattle.std.proofs.Common.{◌≡◌, ℕ, List, [], ◌∷◌, ◌++◌, refl, sym, ap, ◌∙◌, Bool, false, length}
use Rattle.std.specs.Prelude.{◌&&◌}
use mathlib.Core.Former.{Count}
use Rattle.rv_isa.specs.declared.instr.Relation.{Relation}
use Rattle.ir_form.specs.declared.op.Op.{Op, If', Case', Loop', Guard', Row_of-Op, end_of-Op, more_of-Op, Row_of-Arm, end_of-Arm, more_of-Arm, items-the_row-Op, items_hidden-the_row-Op-0, items-the_row-Arm, items_hidden-the_row-Arm-1, items_shown-the_row-Op-0}
use Rattle.ir_form.specs.declared.op.Op.TheViews.{If, Case, Loop, Guard}
use Rattle.ir_form.specs.declared.op.Region.{Region}
use Rattle.ir_form.specs.declared.op.Arm.{Arm}
use Rattle.ir_form.specs.declared.unit.Routine.{Routine}
use Rattle.ir_form.specs.declared.unit.Unit.{Unit as Program}
use Rattle.ir_form.specs.Values.{given, defined, defined_all, defined_arms, defined_list, defined_region, defined_each, marks, marks_all, marks_arms, marks_list, marks_each}
use Rattle.ir_form.specs.Valid.{Scope, with, looped, guarded, leaves, leaves_last, leaves_list, given_all, given_list}
use Rattle.ir_form.specs.Tests.{sees, is_new, closes, fits, fits_all, fits_arms, fits_list, fits_region, fits_each}

both : {a b c d : Bool} → a ≡ b → c ≡ d → (a && c) ≡ (b && d)
both {a} {b} {c} {d} e f = ap (λ z. z && c) e ∙ ap (λ z. b && z) f

joined : {a b c d : List ℕ} → a ≡ b → c ≡ d → a ++ c ≡ b ++ d
joined {a} {b} {c} {d} e f = ap (λ z. z ++ c) e ∙ ap (λ z. b ++ z) f

abbrev first_row : Op → (n : Count) × Row_of-Op n
first_row (If' relation left right _ _ x _ _ _ y _ to) = (_, x)
first_row (Case' value _ arms _ _ x _ to) = (_, x)
first_row (Loop' marked start _ _ x _ to) = (_, x)
first_row (Guard' mark _ _ x _ _ _ y _ to) = (_, x)
first_row _ = (_, end_of-Op)

abbrev second_row : Op → (n : Count) × Row_of-Op n
second_row (If' relation left right _ _ x _ _ _ y _ to) = (_, y)
second_row (Guard' mark _ _ x _ _ _ y _ to) = (_, y)
second_row _ = (_, end_of-Op)

defined_row : {k : _} (row : Row_of-Op k) → defined_all row ≡ defined_list (items-the_row-Op k row)
defined_row end_of-Op = refl
defined_row (more_of-Op op ops) = ap (λ x. defined op ++ x) (defined_row ops)

given_row : {k : _} (row : Row_of-Op k) → given_all row ≡ given_list (items-the_row-Op k row)
given_row end_of-Op = refl
given_row (more_of-Op op ops) = ap (λ x. given op ++ x) (given_row ops)

leaves_row : (b : Bool) {k : _} (row : Row_of-Op k) → leaves_last b row ≡ leaves_list b (items-the_row-Op k row)
leaves_row b end_of-Op = refl
leaves_row b (more_of-Op op ops) = leaves_row (leaves op) ops

fits_row : (u : Program) (r : Routine) (s : Scope) {k : _} (row : Row_of-Op k) → fits_all u r s row ≡ fits_list u r s (items-the_row-Op k row)
fits_row u r s end_of-Op = refl
fits_row u r s (more_of-Op op ops) = ap (λ x. fits u r s op && x) (fits_row u r (with s (given op)) ops)

pub defined-If : (relation : Relation) (left right : ℕ) (a b : Region) (to : List ℕ) → defined (If relation left right a b to) ≡ defined_region a ++ (defined_region b ++ to)
defined-If relation left right a b to =
    let op : Op = If relation left right a b to in
    let x : defined_all (first_row op).1 ≡ defined_list a.ops = defined_row (first_row op).1 ∙ ap defined_list (items_hidden-the_row-Op-0 a.ops) in
    let y : defined_all (second_row op).1 ≡ defined_list b.ops = defined_row (second_row op).1 ∙ ap defined_list (items_hidden-the_row-Op-0 b.ops) in
    ap (λ z. (a.parameters ++ z) ++ ((b.parameters ++ defined_all (second_row op).1) ++ to)) x ∙ ap (λ z. defined_region a ++ ((b.parameters ++ z) ++ to)) y

pub defined-Loop : (marked : Bool) (start : List ℕ) (a : Region) (to : List ℕ) → defined (Loop marked start a to) ≡ defined_region a ++ to
defined-Loop marked start a to =
    let op : Op = Loop marked start a to in
    let x : defined_all (first_row op).1 ≡ defined_list a.ops = defined_row (first_row op).1 ∙ ap defined_list (items_hidden-the_row-Op-0 a.ops) in
    ap (λ z. (a.parameters ++ z) ++ to) x

abbrev arm_row : Op → (n : Count) × Row_of-Arm n
arm_row (Case' value _ arms _ _ x _ to) = (_, arms)
arm_row _ = (_, end_of-Arm)

arms_row : {k : _} (row : Row_of-Arm k) → defined_arms row ≡ defined_each (items-the_row-Arm k row)
arms_row end_of-Arm = refl
arms_row (more_of-Arm ranges parameters x ops results arms) =
    joined (ap (λ z. parameters ++ z) (defined_row ops ∙ ap defined_list (sym (items_shown-the_row-Op-0 x ops)))) (arms_row arms)

pub defined-Case : (value : ℕ) (arms : List Arm) (a : Region) (to : List ℕ) → defined (Case value arms a to) ≡ defined_each arms ++ (defined_region a ++ to)
defined-Case value arms a to =
    let op : Op = Case value arms a to in
    let x : defined_all (first_row op).1 ≡ defined_list a.ops = defined_row (first_row op).1 ∙ ap defined_list (items_hidden-the_row-Op-0 a.ops) in
    let y : defined_arms (arm_row op).1 ≡ defined_each arms = arms_row (arm_row op).1 ∙ ap defined_each (items_hidden-the_row-Arm-1 arms) in
    ap (λ z. z ++ ((a.parameters ++ defined_all (first_row op).1) ++ to)) y ∙ ap (λ z. defined_each arms ++ ((a.parameters ++ z) ++ to)) x

pub defined-Guard : (mark : ℕ) (a b : Region) (to : List ℕ) → defined (Guard mark a b to) ≡ defined_region a ++ (defined_region b ++ to)
defined-Guard mark a b to =
    let op : Op = Guard mark a b to in
    let x : defined_all (first_row op).1 ≡ defined_list a.ops = defined_row (first_row op).1 ∙ ap defined_list (items_hidden-the_row-Op-0 a.ops) in
    let y : defined_all (second_row op).1 ≡ defined_list b.ops = defined_row (second_row op).1 ∙ ap defined_list (items_hidden-the_row-Op-0 b.ops) in
    ap (λ z. (a.parameters ++ z) ++ ((b.parameters ++ defined_all (second_row op).1) ++ to)) x ∙ ap (λ z. defined_region a ++ ((b.parameters ++ z) ++ to)) y

-- the marks of Guards

marks_row : {k : _} (row : Row_of-Op k) → marks_all row ≡ marks_list (items-the_row-Op k row)
marks_row end_of-Op = refl
marks_row (more_of-Op op ops) = ap (λ x. marks op ++ x) (marks_row ops)

marks_arm_row : {k : _} (row : Row_of-Arm k) → marks_arms row ≡ marks_each (items-the_row-Arm k row)
marks_arm_row end_of-Arm = refl
marks_arm_row (more_of-Arm ranges parameters x ops results arms) = joined (marks_row ops ∙ ap marks_list (sym (items_shown-the_row-Op-0 x ops))) (marks_arm_row arms)

pub marks-If : (relation : Relation) (left right : ℕ) (a b : Region) (to : List ℕ) → marks (If relation left right a b to) ≡ marks_list a.ops ++ marks_list b.ops
marks-If relation left right a b to =
    let op : Op = If relation left right a b to in
    joined (marks_row (first_row op).1 ∙ ap marks_list (items_hidden-the_row-Op-0 a.ops)) (marks_row (second_row op).1 ∙ ap marks_list (items_hidden-the_row-Op-0 b.ops))

pub marks-Loop : (marked : Bool) (start : List ℕ) (a : Region) (to : List ℕ) → marks (Loop marked start a to) ≡ marks_list a.ops
marks-Loop marked start a to = marks_row (first_row (Loop marked start a to)).1 ∙ ap marks_list (items_hidden-the_row-Op-0 a.ops)

pub marks-Guard : (mark : ℕ) (a b : Region) (to : List ℕ) → marks (Guard mark a b to) ≡ mark ∷ (marks_list a.ops ++ marks_list b.ops)
marks-Guard mark a b to =
    let op : Op = Guard mark a b to in
    ap (λ z. mark ∷ z) (joined (marks_row (first_row op).1 ∙ ap marks_list (items_hidden-the_row-Op-0 a.ops)) (marks_row (second_row op).1 ∙ ap marks_list (items_hidden-the_row-Op-0 b.ops)))

pub marks-Case : (value : ℕ) (arms : List Arm) (a : Region) (to : List ℕ) → marks (Case value arms a to) ≡ marks_each arms ++ marks_list a.ops
marks-Case value arms a to =
    let op : Op = Case value arms a to in
    joined (marks_arm_row (arm_row op).1 ∙ ap marks_each (items_hidden-the_row-Arm-1 arms)) (marks_row (first_row op).1 ∙ ap marks_list (items_hidden-the_row-Op-0 a.ops))

closes_row : (u : Program) (r : Routine) (s t : Scope) (handed taken : ℕ) (parameters results : List ℕ) (ops : List Op) {k : _} (row : Row_of-Op k) → items-the_row-Op k row ≡ ops
    → (fits_all u r (with s parameters) row && closes t handed parameters (given_all row) (leaves_last false row) results taken)
    ≡ (fits_list u r (with s parameters) ops && closes t handed parameters (given_list ops) (leaves_list false ops) results taken)
closes_row u r s t handed taken parameters results ops row e =
    let a : fits_all u r (with s parameters) row ≡ fits_list u r (with s parameters) ops = fits_row u r (with s parameters) row ∙ ap (fits_list u r (with s parameters)) e in
    let b : given_all row ≡ given_list ops = given_row row ∙ ap given_list e in
    let c : leaves_last false row ≡ leaves_list false ops = leaves_row false row ∙ ap (leaves_list false) e in
    ap (λ z. z && closes t handed parameters (given_all row) (leaves_last false row) results taken) a
    ∙ ap (λ z. fits_list u r (with s parameters) ops && closes t handed parameters z (leaves_last false row) results taken) b
    ∙ ap (λ z. fits_list u r (with s parameters) ops && closes t handed parameters (given_list ops) z results taken) c

pub fits-If : (u : Program) (r : Routine) (s : Scope) (relation : Relation) (left right : ℕ) (a b : Region) (to : List ℕ)
    → fits u r s (If relation left right a b to) ≡ (sees s (left ∷ right ∷ []) && (fits_region u r s 0 (length to) a && fits_region u r s 0 (length to) b))
fits-If u r s relation left right a b to =
    let op : Op = If relation left right a b to in
    let x = closes_row u r s s 0 (length to) a.parameters a.results a.ops (first_row op).1 (items_hidden-the_row-Op-0 a.ops) in
    let y = closes_row u r s s 0 (length to) b.parameters b.results b.ops (second_row op).1 (items_hidden-the_row-Op-0 b.ops) in
    ap (λ z. sees s (left ∷ right ∷ []) && z) (both x y)

pub fits-Loop : (u : Program) (r : Routine) (s : Scope) (marked : Bool) (start : List ℕ) (a : Region) (to : List ℕ)
    → fits u r s (Loop marked start a to) ≡ (sees s start && fits_region u r (looped s (length to)) (length start) (length a.parameters) a)
fits-Loop u r s marked start a to =
    let op : Op = Loop marked start a to in
    ap (λ z. sees s start && z) (closes_row u r (looped s (length to)) s (length start) (length a.parameters) a.parameters a.results a.ops (first_row op).1 (items_hidden-the_row-Op-0 a.ops))

pub fits-Guard : (u : Program) (r : Routine) (s : Scope) (mark : ℕ) (a b : Region) (to : List ℕ)
    → fits u r s (Guard mark a b to) ≡ (is_new s mark && (fits_region u r (guarded s mark) 0 (length to) a && fits_region u r s 2 (length to) b))
fits-Guard u r s mark a b to =
    let op : Op = Guard mark a b to in
    let x = closes_row u r (guarded s mark) s 0 (length to) a.parameters a.results a.ops (first_row op).1 (items_hidden-the_row-Op-0 a.ops) in
    let y = closes_row u r s s 2 (length to) b.parameters b.results b.ops (second_row op).1 (items_hidden-the_row-Op-0 b.ops) in
    ap (λ z. is_new s mark && z) (both x y)

each_row : (u : Program) (r : Routine) (s : Scope) (taken : ℕ) {k : _} (row : Row_of-Arm k) → fits_arms u r s taken row ≡ fits_each u r s taken (items-the_row-Arm k row)
each_row u r s taken end_of-Arm = refl
each_row u r s taken (more_of-Arm ranges parameters x ops results arms) =
    both (closes_row u r s s 0 taken parameters results _ ops (sym (items_shown-the_row-Op-0 x ops))) (each_row u r s taken arms)

pub fits-Case : (u : Program) (r : Routine) (s : Scope) (value : ℕ) (arms : List Arm) (a : Region) (to : List ℕ)
    → fits u r s (Case value arms a to) ≡ (sees s (value ∷ []) && (fits_each u r s (length to) arms && fits_region u r s 0 (length to) a))
fits-Case u r s value arms a to =
    let op : Op = Case value arms a to in
    let x = closes_row u r s s 0 (length to) a.parameters a.results a.ops (first_row op).1 (items_hidden-the_row-Op-0 a.ops) in
    let y : fits_arms u r s (length to) (arm_row op).1 ≡ fits_each u r s (length to) arms = each_row u r s (length to) (arm_row op).1 ∙ ap (fits_each u r s (length to)) (items_hidden-the_row-Arm-1 arms) in
    ap (λ z. sees s (value ∷ []) && z) (both y x)
