-- Where the code of a valid unit takes values at once, none of them is taken twice.
use Rattle.std.proofs.Common.{◌≡◌, ◌≢◌, ℕ, zero, suc, ◌+◌, ◌≤◌, List, [], ◌∷◌, ◌++◌, map, Option, Some, None, refl, ap, subst, arith}
use Rattle.std.specs.Prelude.{All, count_by, if◌then◌else◌, ◌==◌, slice_get}
use Rattle.std.specs.List.{AllByRecursion as Each}
use Rattle.std.proofs.lemmas.Bool.{eq-eqb}
use Rattle.std.proofs.lemmas.List.Sums.{sum_by-cons}
use Rattle.std.proofs.lemmas.List.Elements.{All-from_recursion, recursion_from_All, All-map, All-weaker}
use Rattle.ir_form.specs.declared.plain.Plain.{Plain as PlainOp}
use Rattle.ir_form.specs.declared.plain.Plain.TheVariants.{Constant, Global, Heap, Frame, Text, Compute, Load, Store, Ask, Call, Raise, Throw, Take, Give}
use Rattle.ir_form.specs.declared.op.Op.{Op, Plain as Simple, If', Case', Loop', Guard', Leave, Row_of-Op, end_of-Op, more_of-Op, Row_of-Arm, end_of-Arm, more_of-Arm}
use Rattle.ir_form.specs.declared.op.Exit.{Exit}
use Rattle.ir_form.specs.declared.op.Exit.TheVariants.{Routine as the_routine, Loop as the_loop}
use Rattle.ir_form.specs.declared.op.Range.{Range}
use Rattle.ir_form.specs.declared.unit.Routine.{Routine}
use Rattle.ir_form.specs.declared.unit.Unit.{Unit as RegionUnit}
use Rattle.ir_form.specs.Values.{made, defined, defined_all, defined_arms, defined_list, values_of}
use Rattle.ir_form.specs.Valid.{IsOnce, IsValidRoutine, IsValid}
use Rattle.ir_form.proofs.Each.{both, front, back}
use Rattle.rv_flat.specs.declared.linear.Instruction.{Instruction}
use Rattle.rv_flat.specs.declared.linear.Instruction.TheVariants.{Back}
use Rattle.rv_flat.specs.declared.linear.Target.{Target}
use Rattle.rv_flat.specs.declared.linear.Handler.{Handler}
use Rattle.rv_flat.specs.Flat.{Around, nothing_around, in_loop, in_guard, plain_code, labels, labels_all, arm_count, hand_code, leave_code, target_of, range_tests, tests, code_of, code_all, code_arms, code_list, flat_routine}
use Rattle.rv_flat.specs.Parts.{IsDistinct, plain_takers, instruction_takers, TakesOnce}
use Rattle.rv_flat.proofs.Parts.{Stands, stands_none, stands_more, stands_both}

-- values that stand once each are distinct

abbrev one_at : ℕ → ℕ → ℕ
one_at v y = if y == v then 1 else 0

count-cons : (v x : ℕ) (xs : List ℕ) → count_by (λ y. y == v) (x ∷ xs) ≡ one_at v x + count_by (λ y. y == v) xs
count-cons v x xs = sum_by-cons (one_at v) x xs

one_same : (x : ℕ) → one_at x x ≡ 1
one_same x = ap (λ b. if b then 1 else 0) (eq-eqb x x refl)

absent : (v : ℕ) (xs : List ℕ) → count_by (λ y. y == v) xs ≡ 0 → Each (λ y. y ≢ v) xs
absent v [] h = tt
absent v (x ∷ xs) h =
    let c = count-cons v x xs in
    (λ e. let same : one_at v x ≡ 1 = ap (λ b. if b then 1 else 0) (eq-eqb x v e) in absurd (omega arith), absent v xs (omega arith))

fewer : (x : ℕ) (xs ys : List ℕ) → Each (λ v. count_by (λ y. y == v) (x ∷ xs) ≤ 1) ys → Each (λ v. count_by (λ y. y == v) xs ≤ 1) ys
fewer x xs [] h = tt
fewer x xs (v ∷ ys) h = let c = count-cons v x xs in let k = h.0 in (omega arith, fewer x xs ys h.1)

once_distinct : (xs : List ℕ) → Each (λ v. count_by (λ y. y == v) xs ≤ 1) xs → IsDistinct xs
once_distinct [] h = tt
once_distinct (x ∷ xs) h =
    let c = count-cons x x xs in let o = one_same x in let k = h.0 in
    (All-from_recursion (λ y. y ≢ x) xs (absent x xs (omega arith)), once_distinct xs (fewer x xs xs h.1))

values_distinct : (r : Routine) → All (IsOnce (values_of r)) (values_of r) → IsDistinct (values_of r)
values_distinct r h =
    let xs = values_of r in
    once_distinct xs (recursion_from_All (λ v. count_by (λ y. y == v) xs ≤ 1) xs (All-weaker (IsOnce xs) (λ v. count_by (λ y. y == v) xs ≤ 1) (λ v e. omega arith) xs h))

part_front : (xs ys : List ℕ) → IsDistinct (xs ++ ys) → IsDistinct xs
part_front [] ys h = tt
part_front (x ∷ xs) ys h = (All-from_recursion (λ y. y ≢ x) xs (front (λ y. y ≢ x) xs ys (recursion_from_All (λ y. y ≢ x) (xs ++ ys) h.0)), part_front xs ys h.1)

part_back : (xs ys : List ℕ) → IsDistinct (xs ++ ys) → IsDistinct ys
part_back [] ys h = h
part_back (x ∷ xs) ys h = part_back xs ys h.1

-- the lists of values that operations take at once
abbrev mutual
  takers : Op → List (List ℕ)
  takers (Simple p) = plain_takers p
  takers (If' relation left right p _ ops results q _ others others_results to) = takers_all ops ++ (takers_all others ++ to ∷ [])
  takers (Case' value _ arms p _ ops results to) = takers_all ops ++ (takers_arms arms ++ to ∷ [])
  takers (Loop' marked start p _ ops results to) = p ∷ (takers_all ops ++ to ∷ [])
  takers (Guard' mark p _ ops results q _ others others_results to) = q ∷ (takers_all ops ++ (takers_all others ++ to ∷ []))
  takers (Leave exit gives) = []

  takers_all : {n : _} → Row_of-Op n → List (List ℕ)
  takers_all end_of-Op = []
  takers_all (more_of-Op op ops) = takers op ++ takers_all ops

  takers_arms : {n : _} → Row_of-Arm n → List (List ℕ)
  takers_arms end_of-Arm = []
  takers_arms (more_of-Arm ranges p _ ops results arms) = takers_all ops ++ takers_arms arms

abbrev takers_list : List Op → List (List ℕ)
takers_list [] = []
takers_list (op ∷ ops) = takers op ++ takers_list ops

plain_taken : (p : PlainOp) → IsDistinct (made p) → Each IsDistinct (plain_takers p)
plain_taken (Constant to word) h = tt
plain_taken (Global to word) h = tt
plain_taken (Heap to) h = tt
plain_taken (Frame to word) h = tt
plain_taken (Text to byte) h = tt
plain_taken (Compute to op left right) h = tt
plain_taken (Load to width at) h = tt
plain_taken (Store width at from) h = tt
plain_taken (Ask to service) h = tt
plain_taken (Call routine arguments to line) h = (h, tt)
plain_taken (Raise kind line) h = tt
plain_taken (Throw kind line) h = tt
plain_taken (Take to words line) h = tt
plain_taken (Give words) h = tt

mutual
  op_taken : (op : Op) → IsDistinct (defined op) → Each IsDistinct (takers op)
  op_taken (Simple p) h = plain_taken p h
  op_taken (If' relation left right p a ops results q b others others_results to) h =
      let x = p ++ defined_all ops in let y = q ++ defined_all others in
      let rest = part_back x (y ++ to) h in
      both IsDistinct (takers_all ops) _ (all_taken ops (part_back p (defined_all ops) (part_front x (y ++ to) h)))
      (both IsDistinct (takers_all others) _ (all_taken others (part_back q (defined_all others) (part_front y to rest))) (part_back y to rest, tt))
  op_taken (Case' value a arms p b ops results to) h =
      let x = p ++ defined_all ops in
      let rest = part_back (defined_arms arms) (x ++ to) h in
      both IsDistinct (takers_all ops) _ (all_taken ops (part_back p (defined_all ops) (part_front x to rest)))
      (both IsDistinct (takers_arms arms) _ (arms_taken arms (part_front (defined_arms arms) (x ++ to) h)) (part_back x to rest, tt))
  op_taken (Loop' marked start p a ops results to) h =
      let x = p ++ defined_all ops in
      (part_front p (defined_all ops) (part_front x to h), both IsDistinct (takers_all ops) _ (all_taken ops (part_back p (defined_all ops) (part_front x to h))) (part_back x to h, tt))
  op_taken (Guard' mark p a ops results q b others others_results to) h =
      let x = p ++ defined_all ops in let y = q ++ defined_all others in
      let rest = part_back x (y ++ to) h in (
        part_front q (defined_all others) (part_front y to rest),
        both IsDistinct (takers_all ops) _ (all_taken ops (part_back p (defined_all ops) (part_front x (y ++ to) h)))
            (both IsDistinct (takers_all others) _ (all_taken others (part_back q (defined_all others) (part_front y to rest))) (part_back y to rest, tt)),
      )
  op_taken (Leave exit gives) h = tt

  all_taken : {n : _} (ops : Row_of-Op n) → IsDistinct (defined_all ops) → Each IsDistinct (takers_all ops)
  all_taken end_of-Op h = tt
  all_taken (more_of-Op op ops) h = both IsDistinct (takers op) (takers_all ops) (op_taken op (part_front (defined op) (defined_all ops) h)) (all_taken ops (part_back (defined op) (defined_all ops) h))

  arms_taken : {n : _} (arms : Row_of-Arm n) → IsDistinct (defined_arms arms) → Each IsDistinct (takers_arms arms)
  arms_taken end_of-Arm h = tt
  arms_taken (more_of-Arm ranges p a ops results arms) h =
      let x = p ++ defined_all ops in
      both IsDistinct (takers_all ops) (takers_arms arms) (all_taken ops (part_back p (defined_all ops) (part_front x (defined_arms arms) h))) (arms_taken arms (part_back x (defined_arms arms) h))

list_taken : (ops : List Op) → IsDistinct (defined_list ops) → Each IsDistinct (takers_list ops)
list_taken [] h = tt
list_taken (op ∷ ops) h = both IsDistinct (takers op) (takers_list ops) (op_taken op (part_front (defined op) (defined_list ops) h)) (list_taken ops (part_back (defined op) (defined_list ops) h))

-- and in their code
abbrev Takes : List Instruction → Type 0
Takes code = Stands IsDistinct instruction_takers code

none : Takes []
none = stands_none IsDistinct instruction_takers

more : (i : Instruction) (is : List Instruction) → Each IsDistinct (instruction_takers i) → Takes is → Takes (i ∷ is)
more i is h k = stands_more IsDistinct instruction_takers i is h k

join : (a b : List Instruction) → Takes a → Takes b → Takes (a ++ b)
join a b h k = stands_both IsDistinct instruction_takers a b h k

record Lies (around : Around) : Type 0 where
  loops : (k : ℕ) (t : Target) → slice_get around.loops k ≡ Some t → IsDistinct t.to
  handler : (h : Handler) → around.handler ≡ Some h → IsDistinct h.to

lies_in_loop : (around : Around) (l : ℕ) (to : List ℕ) → Lies around → IsDistinct to → Lies (in_loop (record { label = l; to = to }) around)
lies_in_loop around l to h k = record { loops = known; handler = h.handler }
  where
    known : (i : ℕ) (t : Target) → slice_get (record { label = l; to = to } ∷ around.loops) i ≡ Some t → IsDistinct t.to
    known zero t e = let same : record { label = l; to = to } ≡ t = cc in subst (λ (u : Target). IsDistinct u.to) same k
    known (suc i) t e = h.loops i t e

lies_in_guard : (around : Around) (x : Handler) → Lies around → IsDistinct x.to → Lies (in_guard x around)
lies_in_guard around x h k = record { loops = h.loops; handler = known }
  where
    known : (y : Handler) → Some x ≡ Some y → IsDistinct y.to
    known y e = let same : x ≡ y = cc in subst (λ (u : Handler). IsDistinct u.to) same k

plain_takes : (o : Option Handler) (p : PlainOp) → ((h : Handler) → o ≡ Some h → IsDistinct h.to) → Each IsDistinct (plain_takers p) → Takes (plain_code o p ∷ [])
plain_takes None p f h = more _ [] h none
plain_takes (Some t) p f h = more _ [] (f t refl, h) none

hand_takes : (to from : List ℕ) → IsDistinct to → Takes (hand_code to from)
hand_takes to [] h = none
hand_takes to (x ∷ xs) h = more _ [] (h, tt) none

ranges_take : (value n : ℕ) (ranges : List Range) → Takes (range_tests value n ranges)
ranges_take value n [] = none
ranges_take value n (r ∷ rs) = more _ _ tt (ranges_take value n rs)

tests_take : (value n : ℕ) {k : _} (arms : Row_of-Arm k) → Takes (tests value n arms)
tests_take value n end_of-Arm = none
tests_take value n (more_of-Arm ranges a b ops results arms) = join _ _ (ranges_take value n ranges) (tests_take value (n + 1) arms)

leave_takes : (o : Option Target) (values : List ℕ) → ((t : Target) → o ≡ Some t → IsDistinct t.to) → Takes (leave_code o values)
leave_takes None values h = more _ [] tt none
leave_takes (Some t) values h = join _ _ (hand_takes t.to values (h t refl)) (more _ [] tt none)

exit_known : (around : Around) → Lies around → (exit : Exit) (t : Target) → target_of around exit ≡ Some t → IsDistinct t.to
exit_known around a the_routine t e = cc
exit_known around a (the_loop k) t e = a.loops k t e

mutual
  code_takes : (around : Around) → Lies around → (n : ℕ) (op : Op) → Each IsDistinct (takers op) → Takes (code_of around n op)
  code_takes around a n (Simple p) h = plain_takes around.handler p a.handler h
  code_takes around a n (If' relation left right p b ops results q c others others_results to) h =
      let rest = back IsDistinct (takers_all ops) (takers_all others ++ to ∷ []) h in
      let taken = (back IsDistinct (takers_all others) (to ∷ []) rest).0 in
      more _ _ tt (join _ _ (join _ _ (all_take around a (n + 2) ops (front IsDistinct (takers_all ops) (takers_all others ++ to ∷ []) h)) (hand_takes to results taken))
      (more _ _ tt (more _ _ tt
      (join _ _ (join _ _ (all_take around a (n + 2 + labels_all ops) others (front IsDistinct (takers_all others) (to ∷ []) rest)) (hand_takes to others_results taken)) (more _ [] tt none)))))
  code_takes around a n (Case' value b arms p c ops results to) h =
      let rest = back IsDistinct (takers_all ops) (takers_arms arms ++ to ∷ []) h in
      let taken = (back IsDistinct (takers_arms arms) (to ∷ []) rest).0 in
      join _ _ (tests_take value (n + 1) arms)
      (join _ _ (join _ _ (all_take around a (n + 1 + arm_count arms) ops (front IsDistinct (takers_all ops) (takers_arms arms ++ to ∷ []) h)) (hand_takes to results taken))
      (join _ _ (arms_take around a to n (n + 1) (n + 1 + arm_count arms + labels_all ops) arms (front IsDistinct (takers_arms arms) (to ∷ []) rest) taken) (more _ [] tt none)))
  code_takes around a n (Loop' marked start p b ops results to) h =
      let taken = (back IsDistinct (takers_all ops) (to ∷ []) h.1).0 in
      join _ _ (hand_takes p start h.0) (more _ _ tt
      (join _ _ (all_take (in_loop (record { label = n + 1; to = to }) around) (lies_in_loop around (n + 1) to a taken) (n + 2) ops (front IsDistinct (takers_all ops) (to ∷ []) h.1))
      (join _ _ (hand_takes p results h.0) (more _ _ tt (more _ [] tt none)))))
  code_takes around a n (Guard' mark p b ops results q c others others_results to) h =
      let t : Handler = record { label = n; mark = mark; to = q } in
      let rest = back IsDistinct (takers_all ops) (takers_all others ++ to ∷ []) h.1 in
      let taken = (back IsDistinct (takers_all others) (to ∷ []) rest).0 in
      more _ _ tt (join _ _ (join _ _ (all_take (in_guard t around) (lies_in_guard around t a h.0) (n + 2) ops (front IsDistinct (takers_all ops) (takers_all others ++ to ∷ []) h.1)) (hand_takes to results taken))
      (more _ _ tt (more _ _ tt
      (join _ _ (join _ _ (all_take around a (n + 2 + labels_all ops) others (front IsDistinct (takers_all others) (to ∷ []) rest)) (hand_takes to others_results taken)) (more _ [] tt none)))))
  code_takes around a n (Leave exit values) h = leave_takes (target_of around exit) values (exit_known around a exit)

  all_take : (around : Around) → Lies around → (n : ℕ) {k : _} (ops : Row_of-Op k) → Each IsDistinct (takers_all ops) → Takes (code_all around n ops)
  all_take around a n end_of-Op h = none
  all_take around a n (more_of-Op op ops) h =
      join _ _ (code_takes around a n op (front IsDistinct (takers op) (takers_all ops) h)) (all_take around a (n + labels op) ops (back IsDistinct (takers op) (takers_all ops) h))

  arms_take : (around : Around) → Lies around → (to : List ℕ) (end n m : ℕ) {k : _} (arms : Row_of-Arm k) → Each IsDistinct (takers_arms arms) → IsDistinct to → Takes (code_arms around to end n m arms)
  arms_take around a to end n m end_of-Arm h k = none
  arms_take around a to end n m (more_of-Arm [] p b ops results arms) h k = arms_take around a to end (n + 1) (m + 0) arms (back IsDistinct (takers_all ops) (takers_arms arms) h) k
  arms_take around a to end n m (more_of-Arm (r ∷ rs) p b ops results arms) h k =
      more _ _ tt (more _ _ tt (join _ _ (join _ _ (all_take around a m ops (front IsDistinct (takers_all ops) (takers_arms arms) h)) (hand_takes to results k))
      (arms_take around a to end (n + 1) (m + labels_all ops) arms (back IsDistinct (takers_all ops) (takers_arms arms) h) k)))

list_takes : (around : Around) → Lies around → (n : ℕ) (ops : List Op) → Each IsDistinct (takers_list ops) → Takes (code_list around n ops)
list_takes around a n [] h = none
list_takes around a n (op ∷ ops) h =
    join _ _ (code_takes around a n op (front IsDistinct (takers op) (takers_list ops) h)) (list_takes around a (n + labels op) ops (back IsDistinct (takers op) (takers_list ops) h))

routine_takes : (r : Routine) → IsDistinct (values_of r) → TakesOnce (flat_routine r)
routine_takes r h =
    let p = r.body.parameters in let ops = r.body.ops in let end = Back r.body.results ∷ [] in
    let takes = join (code_list nothing_around 0 ops) end (list_takes nothing_around (record { loops = λ k t e. cc; handler = λ x e. cc }) 0 ops (list_taken ops (part_back p (defined_list ops) h))) (more _ [] tt none) in
    record { parameters = part_front p (defined_list ops) h; taken = All-from_recursion IsDistinct _ takes.each }

pub unit_takes : (u : RegionUnit) → IsValid u → All TakesOnce (map flat_routine u.routines)
unit_takes u v =
    All-map TakesOnce flat_routine u.routines
    (All-weaker (IsValidRoutine u) (λ r. TakesOnce (flat_routine r)) (λ r h. routine_takes r (values_distinct r h.once)) u.routines v.routines)
