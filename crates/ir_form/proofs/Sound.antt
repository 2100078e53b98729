-- What valid units name is there.
use Rattle.std.proofs.Common.{◌≡◌, ◌≢◌, ℕ, zero, suc, ◌<◌, ◌≤◌, List, [], ◌∷◌, ◌++◌, length, Option, Some, None, false, refl, sym, subst, arith}
use Rattle.std.specs.Prelude.{All, Contains, IsSomeAnd, slice_get}
use Rattle.std.specs.Option.{option_map}
use Rattle.std.specs.List.{AllByRecursion as Each}
use Rattle.std.proofs.lemmas.Option.{slice_get-map}
use Rattle.std.proofs.lemmas.List.Elements.{All-from_recursion, recursion_from_All, All-weaker, All-contains, All-contains_itself, All-append}
use Rattle.ir_form.specs.declared.plain.Plain.{Plain as PlainOp}
use Rattle.ir_form.specs.declared.plain.Plain.TheVariants.{Constant, Global, Heap, Frame, Text, Compute, Load, Store, Ask, Call, Raise, Throw, Take, Give}
use Rattle.ir_form.specs.declared.op.Op.{Op, Plain as Simple, If', Case', Loop', Guard', Leave, Row_of-Op, end_of-Op, more_of-Op, Row_of-Arm, end_of-Arm, more_of-Arm}
use Rattle.ir_form.specs.declared.unit.Routine.{Routine}
use Rattle.ir_form.specs.declared.unit.Unit.{Unit as RegionUnit}
use Rattle.ir_form.specs.Units.{head_of}
use Rattle.ir_form.specs.Values.{used, made, given, defined, defined_all, defined_arms, defined_list, values_of, marks_of}
use Rattle.ir_form.specs.Valid.{Scope, with, looped, guarded, outermost, Sees, IsCall, IsPlaced, IsClosed, given_all, given_list, leaves_last, leaves_list, Fits, FitsAll, FitsArms, FitsList, IsValidRoutine, IsMain, IsValid}
use Rattle.ir_form.specs.Lawful.{MayCall, IsThere, IsSound, IsMainHead, IsSoundUnit, depths_of, plains, plains_all, plains_arms, plains_list, numbers, numbers_all, numbers_arms, numbers_list, routine_numbers}
use Rattle.ir_form.proofs.Each.{both, front, back}

-- what an operation with no region names

may_call : (caller callee : Routine) (arguments to : List ℕ) → IsCall caller callee arguments to → (depth : ℕ) → caller.depth ≡ depth → MayCall depth callee.depth
may_call caller callee arguments to h zero e = tt
may_call caller callee arguments to h (suc n) e =
    let d = h.depth (λ z. absurd (omega arith)) in
    let some : 0 < callee.depth = positive callee.depth d.0 in let low = d.1 in (some, omega arith)
  where
    positive : (n : ℕ) → n ≢ 0 → 0 < n
    positive n ne = omega arith

callee_there : (r : Routine) (arguments to : List ℕ) (o : Option Routine) → IsSomeAnd o (λ callee. IsCall r callee arguments to) → IsSomeAnd (option_map (λ (x : Routine). x.depth) o) (MayCall r.depth)
callee_there r arguments to None h = h
callee_there r arguments to (Some callee) h = may_call r callee arguments to h r.depth refl

there : (u : RegionUnit) (r : Routine) (p : PlainOp) → IsPlaced u r p → IsThere u.globals (length u.texts) (depths_of u.routines) r.words r.depth p
there u r (Constant to word) h = tt
there u r (Global to word) h = h
there u r (Heap to) h = tt
there u r (Frame to word) h = h
there u r (Text to byte) h = h
there u r (Compute to op left right) h = tt
there u r (Load to width at) h = tt
there u r (Store width at from) h = tt
there u r (Ask to service) h = tt
there u r (Call routine arguments to line) h =
    subst (λ o. IsSomeAnd o (MayCall r.depth)) (sym (slice_get-map (λ (x : Routine). x.depth) u.routines routine)) (callee_there r arguments to (slice_get u.routines routine) h)
there u r (Raise kind line) h = tt
there u r (Throw kind line) h = tt
there u r (Take to number line) h = h
there u r (Give number) h = h

-- P holds of each value of a routine
module _ (P : ℕ → Type 0) (u : RegionUnit) (r : Routine) where
  abbrev There : PlainOp → Type 0
  There p = IsThere u.globals (length u.texts) (depths_of u.routines) r.words r.depth p

  record Known (s : Scope) : Type 0 where
    known : All P s.values

  seen : (s : Scope) (xs : List ℕ) → Known s → Sees s xs → Each P xs
  seen s xs k h = recursion_from_All P xs (All-weaker (Contains s.values) P (λ x c. All-contains P s.values x k.known c) xs h)

  known_more : (s : Scope) (xs : List ℕ) → Known s → Each P xs → Known (with s xs)
  known_more s xs k h = record { known = All-append P s.values xs k.known (All-from_recursion P xs h) }

  -- an operation defines what it gives
  op_gives : (op : Op) → Each P (defined op) → Each P (given op)
  op_gives (Simple p) h = h
  op_gives (If' relation left right p a ops results q b others others_results to) h = back P (q ++ defined_all others) to (back P (p ++ defined_all ops) ((q ++ defined_all others) ++ to) h)
  op_gives (Case' value a arms p b ops results to) h = back P (p ++ defined_all ops) to (back P (defined_arms arms) ((p ++ defined_all ops) ++ to) h)
  op_gives (Loop' marked start p a ops results to) h = back P (p ++ defined_all ops) to h
  op_gives (Guard' mark p a ops results q b others others_results to) h = back P (q ++ defined_all others) to (back P (p ++ defined_all ops) ((q ++ defined_all others) ++ to) h)
  op_gives (Leave exit gives) h = tt

  all_give : {k : _} (ops : Row_of-Op k) → Each P (defined_all ops) → Each P (given_all ops)
  all_give end_of-Op h = tt
  all_give (more_of-Op op ops) h = both P (given op) (given_all ops) (op_gives op (front P (defined op) (defined_all ops) h)) (all_give ops (back P (defined op) (defined_all ops) h))

  list_gives : (ops : List Op) → Each P (defined_list ops) → Each P (given_list ops)
  list_gives [] h = tt
  list_gives (op ∷ ops) h = both P (given op) (given_list ops) (op_gives op (front P (defined op) (defined_list ops) h)) (list_gives ops (back P (defined op) (defined_list ops) h))

  -- a region
  module _ (p inner ns : List ℕ) (s : Scope) (handed : ℕ) (given_in : List ℕ) where
    region_numbers : (gone : _) (results : List ℕ) (taken : ℕ) → Known s → Each P (p ++ inner) → (Each P inner → Each P given_in) → (Known (with s p) → Each P inner → Each P ns) → IsClosed s handed p given_in gone results taken → Each P (p ++ (ns ++ results))
    region_numbers gone results taken k h g w c =
        let parameters = front P p inner h in let inside = back P p inner h in
        let scope = known_more s p k parameters in
        both P p (ns ++ results) parameters (both P ns results (w scope inside) (seen (with (with s p) given_in) results (known_more (with s p) given_in scope (g inside)) c.results_seen))

  mutual
    op_numbers : (s : Scope) (op : Op) → Known s → Each P (defined op) → Fits u r s op → Each P (numbers op)
    op_numbers s (Simple p) k h f = both P (used p) (made p) (seen s (used p) k f.0) h
    op_numbers s (If' relation left right p a ops results q b others others_results to) k h f =
        let x = p ++ defined_all ops in let y = q ++ defined_all others in
        let e = seen s (left ∷ right ∷ []) k f.0 in
        let rest = back P x (y ++ to) h in
        let first = region_numbers p (defined_all ops) (numbers_all ops) s 0 (given_all ops) (leaves_last false ops) results (length to) k (front P x (y ++ to) h) (all_give ops) (λ n i. all_numbers (with s p) ops n i f.1) f.2 in
        let second = region_numbers q (defined_all others) (numbers_all others) s 0 (given_all others) (leaves_last false others) others_results (length to) k (front P y to rest) (all_give others) (λ n i. all_numbers (with s q) others n i f.3) f.4 in
        (e.0, (e.1.0, both P (p ++ (numbers_all ops ++ results)) _ first (both P (q ++ (numbers_all others ++ others_results)) to second (back P y to rest))))
    op_numbers s (Case' value a arms p b ops results to) k h f =
        let x = p ++ defined_all ops in
        let e = seen s (value ∷ []) k f.0 in
        let rest = back P (defined_arms arms) (x ++ to) h in
        let first = region_numbers p (defined_all ops) (numbers_all ops) s 0 (given_all ops) (leaves_last false ops) results (length to) k (front P x to rest) (all_give ops) (λ n i. all_numbers (with s p) ops n i f.2) f.3 in
        (e.0, both P (p ++ (numbers_all ops ++ results)) _ first (both P (numbers_arms arms) to (arm_numbers s (length to) arms k (front P (defined_arms arms) (x ++ to) h) f.1) (back P x to rest)))
    op_numbers s (Loop' marked start p a ops results to) k h f =
        let x = p ++ defined_all ops in
        let inner : Scope = looped s (length to) in
        let body = region_numbers p (defined_all ops) (numbers_all ops) s (length start) (given_all ops) (leaves_last false ops) results (length p) k (front P x to h) (all_give ops) (λ n i. all_numbers (with inner p) ops (record { known = n.known }) i f.1) f.2 in
        both P start _ (seen s start k f.0) (both P (p ++ (numbers_all ops ++ results)) to body (back P x to h))
    op_numbers s (Guard' mark p a ops results q b others others_results to) k h f =
        let x = p ++ defined_all ops in let y = q ++ defined_all others in
        let inner : Scope = guarded s mark in
        let rest = back P x (y ++ to) h in
        let first = region_numbers p (defined_all ops) (numbers_all ops) s 0 (given_all ops) (leaves_last false ops) results (length to) k (front P x (y ++ to) h) (all_give ops) (λ n i. all_numbers (with inner p) ops (record { known = n.known }) i f.1) f.2 in
        let second = region_numbers q (defined_all others) (numbers_all others) s 2 (given_all others) (leaves_last false others) others_results (length to) k (front P y to rest) (all_give others) (λ n i. all_numbers (with s q) others n i f.3) f.4 in
        both P (p ++ (numbers_all ops ++ results)) _ first (both P (q ++ (numbers_all others ++ others_results)) to second (back P y to rest))
    op_numbers s (Leave exit gives) k h f = seen s gives k f.0

    all_numbers : (s : Scope) {n : _} (ops : Row_of-Op n) → Known s → Each P (defined_all ops) → FitsAll u r s ops → Each P (numbers_all ops)
    all_numbers s end_of-Op k h f = tt
    all_numbers s (more_of-Op op ops) k h f =
        let d = front P (defined op) (defined_all ops) h in
        both P (numbers op) (numbers_all ops) (op_numbers s op k d f.0) (all_numbers (with s (given op)) ops (known_more s (given op) k (op_gives op d)) (back P (defined op) (defined_all ops) h) f.1)

    arm_numbers : (s : Scope) (taken : ℕ) {n : _} (arms : Row_of-Arm n) → Known s → Each P (defined_arms arms) → FitsArms u r s taken arms → Each P (numbers_arms arms)
    arm_numbers s taken end_of-Arm k h f = tt
    arm_numbers s taken (more_of-Arm ranges p a ops results arms) k h f =
        let x = p ++ defined_all ops in
        let region = region_numbers p (defined_all ops) (numbers_all ops) s 0 (given_all ops) (leaves_last false ops) results taken k (front P x (defined_arms arms) h) (all_give ops) (λ n i. all_numbers (with s p) ops n i f.0) f.1 in
        both P (p ++ (numbers_all ops ++ results)) (numbers_arms arms) region (arm_numbers s taken arms k (back P x (defined_arms arms) h) f.2)

  list_numbers : (s : Scope) (ops : List Op) → Known s → Each P (defined_list ops) → FitsList u r s ops → Each P (numbers_list ops)
  list_numbers s [] k h f = tt
  list_numbers s (op ∷ ops) k h f =
      let d = front P (defined op) (defined_list ops) h in
      both P (numbers op) (numbers_list ops) (op_numbers s op k d f.0) (list_numbers (with s (given op)) ops (known_more s (given op) k (op_gives op d)) (back P (defined op) (defined_list ops) h) f.1)

  mutual
    op_there : (s : Scope) (op : Op) → Fits u r s op → Each There (plains op)
    op_there s (Simple p) f = (there u r p f.1, tt)
    op_there s (If' relation left right p a ops results q b others others_results to) f = both There (plains_all ops) (plains_all others) (all_there (with s p) ops f.1) (all_there (with s q) others f.3)
    op_there s (Case' value a arms p b ops results to) f = both There (plains_all ops) (plains_arms arms) (all_there (with s p) ops f.2) (arms_there s (length to) arms f.1)
    op_there s (Loop' marked start p a ops results to) f = all_there (with (looped s (length to)) p) ops f.1
    op_there s (Guard' mark p a ops results q b others others_results to) f = both There (plains_all ops) (plains_all others) (all_there (with (guarded s mark) p) ops f.1) (all_there (with s q) others f.3)
    op_there s (Leave exit gives) f = tt

    all_there : (s : Scope) {n : _} (ops : Row_of-Op n) → FitsAll u r s ops → Each There (plains_all ops)
    all_there s end_of-Op f = tt
    all_there s (more_of-Op op ops) f = both There (plains op) (plains_all ops) (op_there s op f.0) (all_there (with s (given op)) ops f.1)

    arms_there : (s : Scope) (taken : ℕ) {n : _} (arms : Row_of-Arm n) → FitsArms u r s taken arms → Each There (plains_arms arms)
    arms_there s taken end_of-Arm f = tt
    arms_there s taken (more_of-Arm ranges p a ops results arms) f = both There (plains_all ops) (plains_arms arms) (all_there (with s p) ops f.0) (arms_there s taken arms f.2)

  list_there : (s : Scope) (ops : List Op) → FitsList u r s ops → Each There (plains_list ops)
  list_there s [] f = tt
  list_there s (op ∷ ops) f = both There (plains op) (plains_list ops) (op_there s op f.0) (list_there (with s (given op)) ops f.1)

routine_sound : (u : RegionUnit) (r : Routine) → IsValidRoutine u r → IsSound u.globals (length u.texts) (depths_of u.routines) (head_of r) (plains_list r.body.ops) (routine_numbers r) (marks_of r)
routine_sound u r v =
    let V = values_of r in let P : ℕ → Type 0 = λ (x : ℕ). Contains V x in
    let ops = r.body.ops in let p = r.body.parameters in
    let all = recursion_from_All P V (All-contains_itself V) in
    let start : Known P u r outermost = record { known = λ k d lt. absurd (omega arith) } in
    let known = region_numbers P u r p (defined_list ops) (numbers_list ops) outermost (length p) (given_list ops) (leaves_list false ops) r.body.results r.results start all (list_gives P u r ops) (λ n i. list_numbers P u r (with outermost p) ops n i v.body.0) v.body.1 in
    record {
      depth = v.depth;
      small = v.small;
      there = All-from_recursion (There P u r) (plains_list ops) (list_there P u r (with outermost p) ops v.body.0);
      values = V;
      known = All-from_recursion P (routine_numbers r) known;
      marks = marks_of r;
      marked = All-contains_itself (marks_of r);
      few = v.room;
    }

main_sound : (o : Option Routine) → IsSomeAnd o IsMain → IsSomeAnd o (λ r. IsMainHead (head_of r))
main_sound None h = h
main_sound (Some r) h = record { depth = h.depth; room = h.room; parameters = h.parameters }

pub valid_sound : (u : RegionUnit) → IsValid u → u.globals ≤ 4259840 → IsSoundUnit u
valid_sound u v le = record {
  globals = le;
  main = main_sound (slice_get u.routines u.main) v.main;
  routines = All-weaker (IsValidRoutine u) (λ r. IsSound u.globals (length u.texts) (depths_of u.routines) (head_of r) (plains_list r.body.ops) (routine_numbers r) (marks_of r)) (λ r h. routine_sound u r h) u.routines v.routines;
}
