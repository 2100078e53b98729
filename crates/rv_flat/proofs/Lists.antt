-- Rows of operations and of arms as lists, and what the calls for an operation append.
use Rattle.std.proofs.Common.{◌≡◌, ℕ, ◌+◌, List, [], ◌∷◌, ◌++◌, length, Bool, Option, false, refl, sym, ap, ◌∙◌, arith, append_assoc}
use mathlib.Core.Former.{Count}
use Rattle.rv_isa.specs.declared.instr.Relation.{Relation}
use Rattle.ir_form.specs.declared.op.Op.{Op, If', Case', Loop', Guard', Row_of-Op, end_of-Op, more_of-Op, Row_of-Arm, end_of-Arm, more_of-Arm, items-the_row-Op, items-the_row-Arm, items_hidden-the_row-Op-0, items_hidden-the_row-Arm-1, items_shown-the_row-Op-0}
use Rattle.ir_form.specs.declared.op.Op.TheViews.{If, Case, Loop, Guard}
use Rattle.ir_form.specs.declared.op.Region.{Region}
use Rattle.ir_form.specs.declared.op.Arm.{Arm}
use Rattle.ir_form.specs.declared.op.Range.{Range}
use Rattle.ir_form.specs.Meaning.{Cycle}
use Rattle.rv_flat.specs.declared.linear.Target.{Target}
use Rattle.rv_flat.specs.declared.linear.Handler.{Handler}
use Rattle.rv_flat.specs.declared.linear.Instruction.{Instruction}
use Rattle.rv_flat.specs.declared.linear.Instruction.TheVariants.{Branch, Label, Open}
use Rattle.rv_flat.specs.Flat.{Around, around_of, in_loop, in_guard, guard_code, handling_code, labels, labels_all, labels_arms, arm_count, arm_labels, arm_code, labels_list, labels_each, hand_code, if_code, loop_code, range_tests, tests, tests_each, code_of, code_all, code_arms, code_list, code_each, region_code, case_code, choice_code, rounds_code}

-- the rows in an operation: the first regions, the second one's, and the arms
abbrev pub first_row : Op → (n : Count) × Row_of-Op n
first_row (If' relation left right p _ x results q _ y others to) = (_, x)
first_row (Case' value _ arms p _ x results to) = (_, x)
first_row (Loop' marked start p _ x results to) = (_, x)
first_row (Guard' mark p _ x results q _ y others to) = (_, x)
first_row _ = (_, end_of-Op)

abbrev pub second_row : Op → (n : Count) × Row_of-Op n
second_row (If' relation left right p _ x results q _ y others to) = (_, y)
second_row (Guard' mark p _ x results q _ y others to) = (_, y)
second_row _ = (_, end_of-Op)

abbrev pub arm_row : Op → (n : Count) × Row_of-Arm n
arm_row (Case' value _ arms p _ x results to) = (_, arms)
arm_row _ = (_, end_of-Arm)

labels_row : {k : _} (row : Row_of-Op k) → labels_all row ≡ labels_list (items-the_row-Op k row)
labels_row end_of-Op = refl
labels_row (more_of-Op op ops) = ap (λ x. labels op + x) (labels_row ops)

code_row : (around : Around) (n : ℕ) {k : _} (row : Row_of-Op k) → code_all around n row ≡ code_list around n (items-the_row-Op k row)
code_row around n end_of-Op = refl
code_row around n (more_of-Op op ops) = ap (λ x. code_of around n op ++ x) (code_row around (n + labels op) ops)

count_row : {k : _} (row : Row_of-Arm k) → arm_count row ≡ length (items-the_row-Arm k row)
count_row end_of-Arm = refl
count_row (more_of-Arm ranges p q ops results arms) = let e = count_row arms in omega arith

pub sums : (a b c d : ℕ) → a ≡ b → c ≡ d → a + c ≡ b + d
sums a b c d e f = omega arith

labels_arms_row : {k : _} (row : Row_of-Arm k) → labels_arms row ≡ labels_each (items-the_row-Arm k row)
labels_arms_row end_of-Arm = refl
labels_arms_row (more_of-Arm ranges p q ops results arms) =
    sums _ _ _ _ (ap (arm_labels ranges) (labels_row ops ∙ ap labels_list (sym (items_shown-the_row-Op-0 q ops)))) (labels_arms_row arms)

tests_row : (value n : ℕ) {k : _} (row : Row_of-Arm k) → tests value n row ≡ tests_each value n (items-the_row-Arm k row)
tests_row value n end_of-Arm = refl
tests_row value n (more_of-Arm ranges p q ops results arms) = ap (λ x. range_tests value n ranges ++ x) (tests_row value (n + 1) arms)

arms_step : (to : List ℕ) (end n m : ℕ) (ranges : List Range) (results : List ℕ) (x y : List Instruction) (k l : ℕ) (a b : ℕ → List Instruction) → x ≡ y → k ≡ l → ((i : ℕ) → a i ≡ b i)
    → arm_code ranges end n (x ++ hand_code to results) ++ a (m + arm_labels ranges k) ≡ arm_code ranges end n (y ++ hand_code to results) ++ b (m + arm_labels ranges l)
arms_step to end n m ranges results x y k l a b e f h =
    ap (λ z. arm_code ranges end n (z ++ hand_code to results) ++ a (m + arm_labels ranges k)) e
    ∙ ap (λ i. arm_code ranges end n (y ++ hand_code to results) ++ a (m + arm_labels ranges i)) f
    ∙ ap (λ z. arm_code ranges end n (y ++ hand_code to results) ++ z) (h (m + arm_labels ranges l))

arms_row : (around : Around) (to : List ℕ) (end n m : ℕ) {k : _} (row : Row_of-Arm k) → code_arms around to end n m row ≡ code_each around to end n m (items-the_row-Arm k row)
arms_row around to end n m end_of-Arm = refl
arms_row around to end n m (more_of-Arm ranges p q ops results arms) =
    arms_step to end n m ranges results (code_all around m ops) _ (labels_all ops) _ (λ i. code_arms around to end (n + 1) i arms) _
    (code_row around m ops ∙ ap (code_list around m) (sym (items_shown-the_row-Op-0 q ops))) (labels_row ops ∙ ap labels_list (sym (items_shown-the_row-Op-0 q ops))) (λ i. arms_row around to end (n + 1) i arms)

pub labels-If : (relation : Relation) (left right : ℕ) (first second : Region) (to : List ℕ) → labels (If relation left right first second to) ≡ 2 + labels_list first.ops + labels_list second.ops
labels-If relation left right first second to =
    let op = If relation left right first second to in
    let a = labels_row (first_row op).1 ∙ ap labels_list (items_hidden-the_row-Op-0 first.ops) in
    let b = labels_row (second_row op).1 ∙ ap labels_list (items_hidden-the_row-Op-0 second.ops) in
    ap (λ x. 2 + x + labels_all (second_row op).1) a ∙ ap (λ x. 2 + labels_list first.ops + x) b

pub code-If : (around : Around) (n : ℕ) (relation : Relation) (left right : ℕ) (first second : Region) (to : List ℕ) → code_of around n (If relation left right first second to) ≡ if_code relation left right n (region_code around (n + 2) to first) (region_code around (n + 2 + labels_list first.ops) to second)
code-If around n relation left right first second to =
    let op = If relation left right first second to in
    let x = (first_row op).1 in
    let y = (second_row op).1 in
    let a = code_row around (n + 2) x ∙ ap (code_list around (n + 2)) (items_hidden-the_row-Op-0 first.ops) in
    let l = labels_row x ∙ ap labels_list (items_hidden-the_row-Op-0 first.ops) in
    let b = code_row around (n + 2 + labels_all x) y ∙ ap (code_list around (n + 2 + labels_all x)) (items_hidden-the_row-Op-0 second.ops) ∙ ap (λ k. code_list around (n + 2 + k) second.ops) l in
    ap (λ z. if_code relation left right n (z ++ hand_code to first.results) (code_all around (n + 2 + labels_all x) y ++ hand_code to second.results)) a
    ∙ ap (λ z. if_code relation left right n (region_code around (n + 2) to first) (z ++ hand_code to second.results)) b

pub labels-Guard : (mark : ℕ) (first second : Region) (to : List ℕ) → labels (Guard mark first second to) ≡ 2 + labels_list first.ops + labels_list second.ops
labels-Guard mark first second to =
    let op = Guard mark first second to in
    let a = labels_row (first_row op).1 ∙ ap labels_list (items_hidden-the_row-Op-0 first.ops) in
    let b = labels_row (second_row op).1 ∙ ap labels_list (items_hidden-the_row-Op-0 second.ops) in
    ap (λ x. 2 + x + labels_all (second_row op).1) a ∙ ap (λ x. 2 + labels_list first.ops + x) b

abbrev guarded : Around → ℕ → ℕ → Region → Around
guarded around n mark second = in_guard (record { label = n; mark = mark; to = second.parameters }) around

pub code-Guard : (around : Around) (n mark : ℕ) (first second : Region) (to : List ℕ) → code_of around n (Guard mark first second to) ≡ guard_code mark n (region_code (guarded around n mark second) (n + 2) to first) (region_code around (n + 2 + labels_list first.ops) to second)
code-Guard around n mark first second to =
    let op = Guard mark first second to in
    let inner : Around = guarded around n mark second in
    let x = (first_row op).1 in
    let y = (second_row op).1 in
    let a = code_row inner (n + 2) x ∙ ap (code_list inner (n + 2)) (items_hidden-the_row-Op-0 first.ops) in
    let l = labels_row x ∙ ap labels_list (items_hidden-the_row-Op-0 first.ops) in
    let b = code_row around (n + 2 + labels_all x) y ∙ ap (code_list around (n + 2 + labels_all x)) (items_hidden-the_row-Op-0 second.ops) ∙ ap (λ k. code_list around (n + 2 + k) second.ops) l in
    ap (λ z. guard_code mark n (z ++ hand_code to first.results) (code_all around (n + 2 + labels_all x) y ++ hand_code to second.results)) a
    ∙ ap (λ z. guard_code mark n (region_code inner (n + 2) to first) (z ++ hand_code to second.results)) b

pub labels-Loop : (marked : Bool) (start : List ℕ) (body : Region) (to : List ℕ) → labels (Loop marked start body to) ≡ 2 + labels_list body.ops
labels-Loop marked start body to = ap (λ x. 2 + x) (labels_row (first_row (Loop marked start body to)).1 ∙ ap labels_list (items_hidden-the_row-Op-0 body.ops))

abbrev cycle : Bool → Region → List ℕ → Cycle
cycle marked body to = record { marked = marked; parameters = body.parameters; results = body.results; to = to }

pub code-Loop : (around : Around) (n : ℕ) (marked : Bool) (start : List ℕ) (body : Region) (to : List ℕ) → code_of around n (Loop marked start body to) ≡ loop_code (cycle marked body to) start n (code_list (in_loop (record { label = n + 1; to = to }) around) (n + 2) body.ops)
code-Loop around n marked start body to =
    let inner : Around = in_loop (record { label = n + 1; to = to }) around in
    ap (loop_code (cycle marked body to) start n) (code_row inner (n + 2) (first_row (Loop marked start body to)).1 ∙ ap (code_list inner (n + 2)) (items_hidden-the_row-Op-0 body.ops))

pub labels-Case : (value : ℕ) (arms : List Arm) (others : Region) (to : List ℕ) → labels (Case value arms others to) ≡ 1 + length arms + labels_list others.ops + labels_each arms
labels-Case value arms others to =
    let op = Case value arms others to in
    let x = (first_row op).1 in
    let y = (arm_row op).1 in
    let c = count_row y ∙ ap length (items_hidden-the_row-Arm-1 arms) in
    let a = labels_row x ∙ ap labels_list (items_hidden-the_row-Op-0 others.ops) in
    let b = labels_arms_row y ∙ ap labels_each (items_hidden-the_row-Arm-1 arms) in
    ap (λ k. 1 + k + labels_all x + labels_arms y) c ∙ ap (λ k. 1 + length arms + k + labels_arms y) a ∙ ap (λ k. 1 + length arms + labels_list others.ops + k) b

pub code-Case : (around : Around) (n : ℕ) (value : ℕ) (arms : List Arm) (others : Region) (to : List ℕ) → code_of around n (Case value arms others to) ≡ case_code around n value arms others to
code-Case around n value arms others to =
    let op = Case value arms others to in
    let x = (first_row op).1 in
    let y = (arm_row op).1 in
    let c = count_row y ∙ ap length (items_hidden-the_row-Arm-1 arms) in
    let l = labels_row x ∙ ap labels_list (items_hidden-the_row-Op-0 others.ops) in
    let t = tests_row value (n + 1) y ∙ ap (tests_each value (n + 1)) (items_hidden-the_row-Arm-1 arms) in
    let f = n + 1 + length arms in
    let a = code_row around f x ∙ ap (code_list around f) (items_hidden-the_row-Op-0 others.ops) in
    let b = arms_row around to n (n + 1) (f + labels_list others.ops) y ∙ ap (code_each around to n (n + 1) (f + labels_list others.ops)) (items_hidden-the_row-Arm-1 arms) in
    ap (λ z. z ++ ((code_all around (n + 1 + arm_count y) x ++ hand_code to others.results) ++ (code_arms around to n (n + 1) (n + 1 + arm_count y + labels_all x) y ++ Label n false ∷ []))) t
    ∙ ap (λ k. tests_each value (n + 1) arms ++ ((code_all around (n + 1 + k) x ++ hand_code to others.results) ++ (code_arms around to n (n + 1) (n + 1 + k + labels_all x) y ++ Label n false ∷ []))) c
    ∙ ap (λ k. tests_each value (n + 1) arms ++ ((code_all around f x ++ hand_code to others.results) ++ (code_arms around to n (n + 1) (f + k) y ++ Label n false ∷ []))) l
    ∙ ap (λ z. tests_each value (n + 1) arms ++ ((z ++ hand_code to others.results) ++ (code_arms around to n (n + 1) (f + labels_list others.ops) y ++ Label n false ∷ []))) a
    ∙ ap (λ z. tests_each value (n + 1) arms ++ (region_code around f to others ++ (z ++ Label n false ∷ []))) b

-- what an If, a Loop, a Guard and a Case append; around1 is around, as it stands behind a first instruction
pub if_emitted : (relation : Relation) (left right n : ℕ) (around around1 : Around) (first second : Region) (to : List ℕ) (op : Op) (c0 c1 c2 : List Instruction) → op ≡ If relation left right first second to → around1 ≡ around
    → c1 ≡ c0 ++ Branch relation left right n ∷ [] → c2 ≡ c1 ++ choice_code around1 n first second to → c2 ≡ c0 ++ code_of around n op
if_emitted relation left right n around around1 first second to op c0 c1 c2 eo ea h1 h2 =
    let x = region_code around (n + 2) to first in
    let y = region_code around (n + 2 + labels_list first.ops) to second in
    let g2 : c2 ≡ c1 ++ choice_code around n first second to = h2 ∙ ap (λ z. c1 ++ choice_code z n first second to) ea in
    let whole : c2 ≡ c0 ++ if_code relation left right n x y = rw (g2, h1) (simp append_assoc) in
    whole ∙ ap (λ z. c0 ++ z) (sym (ap (code_of around n) eo ∙ code-If around n relation left right first second to))

pub guard_emitted : (mark n : ℕ) (around around1 : Around) (first second : Region) (to : List ℕ) (op : Op) (c0 c1 c2 : List Instruction) → op ≡ Guard mark first second to → around1 ≡ around
    → c1 ≡ c0 ++ Open mark ∷ [] → c2 ≡ c1 ++ handling_code around1 n mark first second to → c2 ≡ c0 ++ code_of around n op
guard_emitted mark n around around1 first second to op c0 c1 c2 eo ea h1 h2 =
    let x = region_code (guarded around n mark second) (n + 2) to first in
    let y = region_code around (n + 2 + labels_list first.ops) to second in
    let g2 : c2 ≡ c1 ++ handling_code around n mark first second to = h2 ∙ ap (λ z. c1 ++ handling_code z n mark first second to) ea in
    let whole : c2 ≡ c0 ++ guard_code mark n x y = rw (g2, h1) (simp append_assoc) in
    whole ∙ ap (λ z. c0 ++ z) (sym (ap (code_of around n) eo ∙ code-Guard around n mark first second to))

pub loop_emitted : (marked : Bool) (start : List ℕ) (n : ℕ) (body : Region) (to : List ℕ) (around around1 : Around) (op : Op) (c0 c1 c2 c3 : List Instruction) → op ≡ Loop marked start body to → around1 ≡ around
    → c1 ≡ c0 ++ hand_code body.parameters start → c2 ≡ c1 ++ Label n marked ∷ [] → c3 ≡ c2 ++ rounds_code around1 n body to → c3 ≡ c0 ++ code_of around n op
loop_emitted marked start n body to around around1 op c0 c1 c2 c3 eo ea h1 h2 h3 =
    let x = code_list (in_loop (record { label = n + 1; to = to }) around) (n + 2) body.ops in
    let g3 : c3 ≡ c2 ++ rounds_code around n body to = h3 ∙ ap (λ z. c2 ++ rounds_code z n body to) ea in
    let whole : c3 ≡ c0 ++ loop_code (cycle marked body to) start n x = rw (g3, h2, h1) (simp append_assoc) in
    whole ∙ ap (λ z. c0 ++ z) (sym (ap (code_of around n) eo ∙ code-Loop around n marked start body to))

pub case_emitted : (value n : ℕ) (arms items : List Arm) (others : Region) (to : List ℕ) (around : Around) (op : Op) (c0 c1 : List Instruction) → op ≡ Case value arms others to → items ≡ arms → c1 ≡ c0 ++ case_code around n value items others to → c1 ≡ c0 ++ code_of around n op
case_emitted value n arms items others to around op c0 c1 eo ei h =
    h ∙ ap (λ z. c0 ++ case_code around n value z others to) ei ∙ ap (λ z. c0 ++ z) (sym (ap (code_of around n) eo ∙ code-Case around n value arms others to))

-- what lies around is the same where its parts are
pub around_same : (loops loops1 : List Target) (handler handler1 : Option Handler) → loops1 ≡ loops → handler1 ≡ handler → around_of loops1 handler1 ≡ around_of loops handler
around_same loops loops1 handler handler1 e f = ap (λ z. around_of z handler1) e ∙ ap (λ z. around_of loops z) f
