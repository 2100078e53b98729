-- The size of the code of an operation is at most 14 words for each unit of its weight.
use Rattle.std.proofs.Common.{◌≡◌, ℕ, ◌+◌, ◌*◌, ◌≤◌, List, [], ◌∷◌, ◌++◌, length, map, Option, Some, None, false, refl, arith}
use Rattle.std.specs.Prelude.{sum_by}
use Rattle.std.proofs.lemmas.List.Sums.{sum_by-cons}
use Rattle.ir_form.specs.declared.plain.Plain.{Plain as PlainOp}
use Rattle.ir_form.specs.declared.plain.Plain.TheVariants.{Constant, Global, Heap, Frame, Text, Compute, Load, Store, Ask, Call, Raise, Throw, Take, Give}
use Rattle.ir_form.specs.declared.op.Op.{Op, Plain as Simple, If', Case', Loop', Guard', Leave, Row_of-Op, end_of-Op, more_of-Op, Row_of-Arm, end_of-Arm, more_of-Arm}
use Rattle.ir_form.specs.declared.op.Range.{Range}
use Rattle.ir_form.specs.declared.unit.Routine.{Routine}
use Rattle.ir_form.specs.declared.unit.Unit.{Unit as RegionUnit}
use Rattle.ir_form.specs.Weight.{plain_weight, weight, weight_all, weight_arms, weight_list, routine_weight, unit_weight}
use Rattle.rv_flat.specs.declared.linear.Instruction.{Instruction}
use Rattle.rv_flat.specs.declared.linear.Instruction.TheVariants.{Jump, Label, Back}
use Rattle.rv_flat.specs.declared.linear.Target.{Target}
use Rattle.rv_flat.specs.declared.linear.Handler.{Handler}
use Rattle.rv_flat.specs.Flat.{Around, nothing_around, in_loop, in_guard, plain_code, labels, labels_all, arm_count, hand_code, leave_code, target_of, range_tests, tests, code_of, code_all, code_arms, code_list, flat_routine, flat_unit}
use Rattle.rv_flat.specs.Size.{plain_size, code_size, routines_size, linear_size}

size_append : (a b : List Instruction) → code_size (a ++ b) ≡ code_size a + code_size b
size_append [] b = omega arith
size_append (i ∷ is) b = let e = size_append is b in omega arith

plain_fits : (p : PlainOp) → plain_size p ≤ 14 * plain_weight p
plain_fits (Constant to word) = omega arith
plain_fits (Global to word) = omega arith
plain_fits (Heap to) = omega arith
plain_fits (Frame to word) = omega arith
plain_fits (Text to byte) = omega arith
plain_fits (Compute to op left right) = omega arith
plain_fits (Load to width at) = omega arith
plain_fits (Store width at from) = omega arith
plain_fits (Ask to service) = omega arith
plain_fits (Call routine arguments to line) = omega arith
plain_fits (Raise kind line) = omega arith
plain_fits (Throw kind line) = omega arith
plain_fits (Take to words line) = omega arith
plain_fits (Give words) = omega arith

one_fits : (o : Option Handler) (p : PlainOp) → code_size (plain_code o p ∷ []) ≤ 14 * plain_weight p
one_fits None p = let h = plain_fits p in omega arith
one_fits (Some t) p = let h = plain_fits p in omega arith

hand_fits : (to from : List ℕ) → code_size (hand_code to from) ≤ 14 * length from
hand_fits to [] = omega arith
hand_fits to (x ∷ xs) = omega arith

-- with a jump behind it
leave_fits : (o : Option Target) (values : List ℕ) → code_size (leave_code o values) ≤ 14 * (1 + length values)
leave_fits None values = omega arith
leave_fits (Some t) values = let e = size_append (hand_code t.to values) (Jump t.label ∷ []) in let h = hand_fits t.to values in omega arith

ranges_size : (value n : ℕ) (ranges : List Range) → code_size (range_tests value n ranges) ≡ 11 * length ranges
ranges_size value n [] = refl
ranges_size value n (r ∷ rs) = let e = ranges_size value n rs in omega arith

region_size : (x rest : List Instruction) (to results : List ℕ) → code_size ((x ++ hand_code to results) ++ rest) ≤ code_size x + 14 * length results + code_size rest
region_size x rest to results =
    let a = size_append (x ++ hand_code to results) rest in let b = size_append x (hand_code to results) in let c = hand_fits to results in omega arith

mutual
  pub op_fits : (around : Around) (n : ℕ) (op : Op) → code_size (code_of around n op) ≤ 14 * weight op
  op_fits around n (Simple p) = one_fits around.handler p
  op_fits around n (If' relation left right p a ops results q b others others_results to) =
      let f = n + 2 + labels_all ops in
      let x = all_fits around (n + 2) ops in let y = all_fits around f others in
      let e1 = region_size (code_all around (n + 2) ops) (Jump (n + 1) ∷ Label n false ∷ ((code_all around f others ++ hand_code to others_results) ++ Label (n + 1) false ∷ [])) to results in
      let e2 = region_size (code_all around f others) (Label (n + 1) false ∷ []) to others_results in omega arith
  op_fits around n (Case' value a arms p b ops results to) =
      let i = n + 1 + arm_count arms in let f = i + labels_all ops in
      let code = code_arms around to n (n + 1) f arms in
      let x = all_fits around i ops in let y = arms_fit around to n (n + 1) f value arms in
      let e1 = size_append (tests value (n + 1) arms) ((code_all around i ops ++ hand_code to results) ++ (code ++ Label n false ∷ [])) in
      let e2 = region_size (code_all around i ops) (code ++ Label n false ∷ []) to results in let e3 = size_append code (Label n false ∷ []) in omega arith
  op_fits around n (Loop' marked start p a ops results to) =
      let inner : Around = in_loop (record { label = n + 1; to = to }) around in
      let x = all_fits inner (n + 2) ops in
      let e1 = size_append (hand_code p start) (Label n marked ∷ (code_all inner (n + 2) ops ++ (hand_code p results ++ Jump n ∷ Label (n + 1) false ∷ []))) in
      let e2 = size_append (code_all inner (n + 2) ops) (hand_code p results ++ Jump n ∷ Label (n + 1) false ∷ []) in
      let e3 = size_append (hand_code p results) (Jump n ∷ Label (n + 1) false ∷ []) in
      let h1 = hand_fits p start in let h2 = hand_fits p results in omega arith
  op_fits around n (Guard' mark p a ops results q b others others_results to) =
      let inner : Around = in_guard (record { label = n; mark = mark; to = q }) around in
      let f = n + 2 + labels_all ops in
      let x = all_fits inner (n + 2) ops in let y = all_fits around f others in
      let e1 = region_size (code_all inner (n + 2) ops) (Jump (n + 1) ∷ Label n false ∷ ((code_all around f others ++ hand_code to others_results) ++ Label (n + 1) false ∷ [])) to results in
      let e2 = region_size (code_all around f others) (Label (n + 1) false ∷ []) to others_results in omega arith
  op_fits around n (Leave exit values) = let h = leave_fits (target_of around exit) values in omega arith

  all_fits : (around : Around) (n : ℕ) {k : _} (ops : Row_of-Op k) → code_size (code_all around n ops) ≤ 14 * weight_all ops
  all_fits around n end_of-Op = omega arith
  all_fits around n (more_of-Op op ops) =
      let x = op_fits around n op in let y = all_fits around (n + labels op) ops in let e = size_append (code_of around n op) (code_all around (n + labels op) ops) in omega arith

  arms_fit : (around : Around) (to : List ℕ) (end n m value : ℕ) {k : _} (arms : Row_of-Arm k) → code_size (tests value n arms) + code_size (code_arms around to end n m arms) ≤ 14 * weight_arms arms
  arms_fit around to end n m value end_of-Arm = omega arith
  arms_fit around to end n m value (more_of-Arm [] p a ops results arms) = let y = arms_fit around to end (n + 1) (m + 0) value arms in omega arith
  arms_fit around to end n m value (more_of-Arm (r ∷ rs) p a ops results arms) =
      let x = all_fits around m ops in let y = arms_fit around to end (n + 1) (m + labels_all ops) value arms in
      let e1 = size_append (range_tests value n (r ∷ rs)) (tests value (n + 1) arms) in let e2 = ranges_size value n (r ∷ rs) in
      let e3 = region_size (code_all around m ops) (code_arms around to end (n + 1) (m + labels_all ops) arms) to results in omega arith

list_fits : (around : Around) (n : ℕ) (ops : List Op) → code_size (code_list around n ops) ≤ 14 * weight_list ops
list_fits around n [] = omega arith
list_fits around n (op ∷ ops) =
    let x = op_fits around n op in let y = list_fits around (n + labels op) ops in let e = size_append (code_of around n op) (code_list around (n + labels op) ops) in omega arith

routine_fits : (r : Routine) → 128 + code_size (flat_routine r).code ≤ 14 * routine_weight r
routine_fits r = let x = list_fits nothing_around 0 r.body.ops in let e = size_append (code_list nothing_around 0 r.body.ops) (Back r.body.results ∷ []) in omega arith

routines_fit : (rs : List Routine) → routines_size (map flat_routine rs) ≤ 14 * sum_by routine_weight rs
routines_fit [] = omega arith
routines_fit (r ∷ rs) = let x = routine_fits r in let y = routines_fit rs in let e = sum_by-cons routine_weight r rs in omega arith

pub unit_fits : (u : RegionUnit) → linear_size (flat_unit u) ≤ 14 * unit_weight u
unit_fits u = routines_fit u.routines
