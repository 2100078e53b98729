-- The tests decide what they stand for.
use Rattle.std.proofs.Common.{◌≡◌, ◌≢◌, ℕ, ◌+◌, ◌*◌, ◌<◌, ◌≤◌, ◌==◌, Bool, true, false, List, [], ◌∷◌, refl, ap, length, All, Contains, arith}
use Rattle.std.specs.Prelude.{◌||◌, nat_le, if◌then◌else◌, Option, Some, None, IsSomeAnd, slice_get, count_by}
use Rattle.std.specs.List.{list_all}
use Rattle.std.specs.Bool.{Decides}
use Rattle.std.proofs.lemmas.Bool.Decides.{Decides-eqb, Decides-ltb, Decides-and, Decides-like, Decides-not, Decides-by_and, Decides-by_or, nat_tests}
use Rattle.std.proofs.lemmas.List.Elements.{Decides-contains}
use Rattle.ir_form.specs.declared.plain.Plain.{Plain}
use Rattle.ir_form.specs.declared.plain.Plain.TheVariants.{Constant, Global, Heap, Frame, Text, Compute, Load, Store, Ask, Call, Raise, Throw, Take, Give}
use Rattle.ir_form.specs.declared.op.Exit.{Exit}
use Rattle.ir_form.specs.declared.op.Exit.TheVariants.{Routine as OfRoutine, Loop as OfLoop}
use Rattle.ir_form.specs.declared.op.Op.{Op, Plain as Simple, If', Case', Loop', Guard', Leave, Row_of-Op, end_of-Op, more_of-Op, Row_of-Arm, end_of-Arm, more_of-Arm}
use Rattle.ir_form.specs.declared.op.Region.{Region}
use Rattle.ir_form.specs.declared.op.Arm.{Arm}
use Rattle.ir_form.specs.declared.unit.Routine.{Routine}
use Rattle.ir_form.specs.declared.unit.Unit.{Unit as Program}
use Rattle.ir_form.specs.Values.{used, given, values_of, marks_of}
use Rattle.ir_form.specs.Valid.{Scope, with, looped, guarded, outermost, Sees, IsNew, IsCall, IsPlaced, taken_at, leaves_last, leaves_list, given_all, given_list, IsClosed, Fits, FitsAll, FitsArms, FitsList, FitsRegion, IsOnce, IsValidRoutine, IsMain}
use Rattle.ir_form.specs.Tests.{contains, sees, is_new, may_call, call_fits, is_call, is_placed, is_number, is_taken, closes, fits, fits_all, fits_arms, fits_list, fits_region, fits_each, is_once, is_valid_routine, is_main}

implies : {P Q : Type 0} (b c : Bool) → Decides b P → Decides c Q → Decides (b || c) (¬ P → Q)
implies true c h k = (λ e n. absurd (n (h.0 refl)), λ f. refl)
implies false c h k = (λ e n. k.0 e, λ f. k.1 (f (λ p. absurd (cc (h.1 p)))))

at_most : (a b : ℕ) → Decides (nat_le a b) (a ≤ b)
at_most a b = (λ e. grind (arith, nat_tests), λ h. grind (arith, nat_tests))

decides_contains : (vs : List ℕ) (v : ℕ) → Decides (contains vs v) (Contains vs v)
decides_contains vs v = Decides-contains vs v (contains vs v) (Decides-by_or (λ x. x == v) (λ x. x ≡ v) (λ xs. contains xs v) (λ x. Decides-eqb x v) refl (λ _ _. refl) vs)

pub decides_new : (s : Scope) (mark : ℕ) → Decides (is_new s mark) (IsNew s mark)
decides_new s mark = Decides-not _ (decides_contains s.marks mark)

pub decides_sees : (s : Scope) (wanted : List ℕ) → Decides (sees s wanted) (Sees s wanted)
decides_sees s wanted = Decides-by_and (contains s.values) (Contains s.values) (sees s) (decides_contains s.values) refl (λ _ _. refl) wanted

decides_call : (caller callee : Routine) (arguments to : List ℕ) → Decides (call_fits caller callee (length arguments) (length to)) (IsCall caller callee arguments to)
decides_call caller callee arguments to =
    let d : Decides (may_call caller callee) (caller.depth ≢ 0 → (callee.depth ≢ 0) × (callee.depth < caller.depth)) =
    implies _ _ (Decides-eqb caller.depth 0) (Decides-and _ _ (Decides-not _ (Decides-eqb callee.depth 0)) (Decides-ltb callee.depth caller.depth)) in
    Decides-like _ (λ p. record { handed = p.0; taken = p.1.0; depth = p.1.1 }) (λ (k : IsCall caller callee arguments to). (k.handed, (k.taken, k.depth)))
    (Decides-and _ _ (Decides-eqb (length arguments) (length callee.body.parameters)) (Decides-and _ _ (Decides-eqb (length to) callee.results) d))

decides_called : (caller : Routine) (arguments to : List ℕ) (o : Option Routine) → Decides (is_call caller arguments to o) (IsSomeAnd o (λ callee. IsCall caller callee arguments to))
decides_called caller arguments to None = (λ e. absurd (cc e), λ h. absurd h)
decides_called caller arguments to (Some callee) = decides_call caller callee arguments to

always : Decides true Unit
always = (λ e. tt, λ h. refl)

decides_placed : (u : Program) (r : Routine) (p : Plain) → Decides (is_placed u r p) (IsPlaced u r p)
decides_placed u r (Constant to word) = always
decides_placed u r (Global to word) = Decides-ltb word u.globals
decides_placed u r (Heap to) = always
decides_placed u r (Frame to word) = Decides-ltb word r.words
decides_placed u r (Text to byte) = Decides-ltb byte (length u.texts)
decides_placed u r (Compute to op left right) = always
decides_placed u r (Load to width at) = always
decides_placed u r (Store width at from) = always
decides_placed u r (Ask to service) = always
decides_placed u r (Call routine arguments to line) = decides_called r arguments to (slice_get u.routines routine)
decides_placed u r (Raise kind line) = always
decides_placed u r (Throw kind line) = always
decides_placed u r (Take to words line) = Decides-eqb r.depth 0
decides_placed u r (Give words) = Decides-eqb r.depth 0

decides_number : (o : Option ℕ) (n : ℕ) → Decides (is_number o n) (o ≡ Some n)
decides_number None n = (λ e. absurd (cc e), λ h. absurd (cc h))
decides_number (Some m) n = Decides-like _ (λ e. ap Some e) (λ e. cc e) (Decides-eqb m n)

decides_taken : (r : Routine) (s : Scope) (exit : Exit) (n : ℕ) → Decides (is_taken r s exit n) (taken_at r s exit ≡ Some n)
decides_taken r s OfRoutine n = decides_number (Some r.results) n
decides_taken r s (OfLoop outside) n = decides_number (slice_get s.loops outside) n

decides_closes : (s : Scope) (handed : ℕ) (parameters inner : List ℕ) (gone : Bool) (results : List ℕ) (taken : ℕ) → Decides (closes s handed parameters inner gone results taken) (IsClosed s handed parameters inner gone results taken)
decides_closes s handed parameters inner gone results taken =
    Decides-like _ (λ p. record { parameters_handed = p.0; results_seen = p.1.0; results_taken = p.1.1 }) (λ (k : IsClosed s handed parameters inner gone results taken). (k.parameters_handed, (k.results_seen, k.results_taken)))
    (Decides-and _ _ (Decides-eqb (length parameters) handed) (Decides-and _ _ (decides_sees (with (with s parameters) inner) results) (Decides-eqb (length results) (if gone then 0 else taken))))

mutual
  pub decides_fits : (u : Program) (r : Routine) (s : Scope) (op : Op) → Decides (fits u r s op) (Fits u r s op)
  decides_fits u r s (Simple p) = Decides-and _ _ (decides_sees s (used p)) (decides_placed u r p)
  decides_fits u r s (If' relation left right a _ yes_ops a_results b _ no_ops b_results to) =
      Decides-like _ (λ p. (p.0, p.1.0.0, p.1.0.1, p.1.1.0, p.1.1.1)) (λ p. (p.0, ((p.1, p.2), (p.3, p.4))))
      (Decides-and _ _ (decides_sees s (left ∷ right ∷ []))
      (Decides-and _ _ (Decides-and _ _ (decides_all u r (with s a) yes_ops) (decides_closes s 0 a (given_all yes_ops) (leaves_last false yes_ops) a_results (length to)))
      (Decides-and _ _ (decides_all u r (with s b) no_ops) (decides_closes s 0 b (given_all no_ops) (leaves_last false no_ops) b_results (length to)))))
  decides_fits u r s (Case' value _ arms parameters _ ops results to) =
      Decides-like _ (λ p. (p.0, p.1.0, p.1.1.0, p.1.1.1)) (λ p. (p.0, (p.1, (p.2, p.3))))
      (Decides-and _ _ (decides_sees s (value ∷ [])) (Decides-and _ _ (decides_arms u r s (length to) arms)
      (Decides-and _ _ (decides_all u r (with s parameters) ops) (decides_closes s 0 parameters (given_all ops) (leaves_last false ops) results (length to)))))
  decides_fits u r s (Loop' marked start parameters _ ops results to) =
      Decides-like _ (λ p. (p.0, p.1.0, p.1.1)) (λ p. (p.0, (p.1, p.2)))
      (Decides-and _ _ (decides_sees s start) (Decides-and _ _ (decides_all u r (with (looped s (length to)) parameters) ops) (decides_closes s (length start) parameters (given_all ops) (leaves_last false ops) results (length parameters))))
  decides_fits u r s (Guard' mark a _ ops results b _ others others_results to) =
      Decides-like _ (λ p. (p.0, p.1.0.0, p.1.0.1, p.1.1.0, p.1.1.1)) (λ p. (p.0, ((p.1, p.2), (p.3, p.4))))
      (Decides-and _ _ (decides_new s mark)
      (Decides-and _ _ (Decides-and _ _ (decides_all u r (with (guarded s mark) a) ops) (decides_closes s 0 a (given_all ops) (leaves_last false ops) results (length to)))
      (Decides-and _ _ (decides_all u r (with s b) others) (decides_closes s 2 b (given_all others) (leaves_last false others) others_results (length to)))))
  decides_fits u r s (Leave exit gives) = Decides-and _ _ (decides_sees s gives) (decides_taken r s exit (length gives))

  decides_all : (u : Program) (r : Routine) (s : Scope) {n : _} (ops : Row_of-Op n) → Decides (fits_all u r s ops) (FitsAll u r s ops)
  decides_all u r s end_of-Op = always
  decides_all u r s (more_of-Op op ops) = Decides-and _ _ (decides_fits u r s op) (decides_all u r (with s (given op)) ops)

  decides_arms : (u : Program) (r : Routine) (s : Scope) (taken : ℕ) {n : _} (arms : Row_of-Arm n) → Decides (fits_arms u r s taken arms) (FitsArms u r s taken arms)
  decides_arms u r s taken end_of-Arm = always
  decides_arms u r s taken (more_of-Arm ranges parameters _ ops results arms) =
      Decides-like _ (λ p. (p.0.0, p.0.1, p.1)) (λ p. ((p.0, p.1), p.2))
      (Decides-and _ _ (Decides-and _ _ (decides_all u r (with s parameters) ops) (decides_closes s 0 parameters (given_all ops) (leaves_last false ops) results taken)) (decides_arms u r s taken arms))

pub decides_list : (u : Program) (r : Routine) (s : Scope) (ops : List Op) → Decides (fits_list u r s ops) (FitsList u r s ops)
decides_list u r s [] = always
decides_list u r s (op ∷ ops) = Decides-and _ _ (decides_fits u r s op) (decides_list u r (with s (given op)) ops)

pub decides_region : (u : Program) (r : Routine) (s : Scope) (handed taken : ℕ) (region : Region) → Decides (fits_region u r s handed taken region) (FitsRegion u r s handed taken region)
decides_region u r s handed taken region =
    Decides-and _ _ (decides_list u r (with s region.parameters) region.ops) (decides_closes s handed region.parameters (given_list region.ops) (leaves_list false region.ops) region.results taken)

pub decides_each : (u : Program) (r : Routine) (s : Scope) (taken : ℕ) (arms : List Arm) → Decides (fits_each u r s taken arms) (All (λ arm. FitsRegion u r s 0 taken arm.region) arms)
decides_each u r s taken arms =
    Decides-by_and (λ arm. fits_region u r s 0 taken arm.region) (λ arm. FitsRegion u r s 0 taken arm.region) (fits_each u r s taken) (λ arm. decides_region u r s 0 taken arm.region) refl (λ _ _. refl) arms

decides_once : (vs xs : List ℕ) → Decides (list_all (is_once vs) xs) (All (IsOnce vs) xs)
decides_once vs xs = Decides-by_and (is_once vs) (IsOnce vs) (list_all (is_once vs)) (λ v. Decides-eqb (count_by (λ x. x == v) vs) 1) refl (λ _ _. refl) xs

decides_routine : (u : Program) (r : Routine) → Decides (is_valid_routine u r) (IsValidRoutine u r)
decides_routine u r =
    Decides-like _ (λ p. record { depth = p.0.0; small = p.0.1; room = p.1.0; once = p.1.1.0; body = p.1.1.1 }) (λ (k : IsValidRoutine u r). ((k.depth, k.small), (k.room, (k.once, k.body))))
    (Decides-and _ _ (Decides-and _ _ (at_most r.depth 8) (implies _ _ (Decides-eqb r.depth 0) (at_most r.room 512)))
    (Decides-and _ _ (at_most (r.words + length (values_of r) + 24 * length (marks_of r) + 32) r.room) (Decides-and _ _ (decides_once (values_of r) (values_of r)) (decides_region u r outermost (length r.body.parameters) r.results r.body))))

pub decides_routines : (u : Program) (rs : List Routine) → Decides (list_all (is_valid_routine u) rs) (All (IsValidRoutine u) rs)
decides_routines u rs = Decides-by_and (is_valid_routine u) (IsValidRoutine u) (list_all (is_valid_routine u)) (decides_routine u) refl (λ _ _. refl) rs

decides_none : (xs : List ℕ) → Decides (length xs == 0) (xs ≡ [])
decides_none [] = (λ e. refl, λ e. refl)
decides_none (x ∷ xs) = (λ e. absurd (grind (arith, nat_tests)), λ e. absurd (cc e))

pub decides_main : (r : Routine) → Decides (is_main r) (IsMain r)
decides_main r =
    Decides-like _ (λ p. record { depth = p.0; room = p.1.0; parameters = p.1.1.0; results = p.1.1.1 }) (λ (k : IsMain r). (k.depth, (k.room, (k.parameters, k.results))))
    (Decides-and _ _ (Decides-eqb r.depth 0) (Decides-and _ _ (at_most r.room 8388608) (Decides-and _ _ (decides_none r.body.parameters) (Decides-eqb r.results 0))))
