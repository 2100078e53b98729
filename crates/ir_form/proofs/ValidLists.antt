-- What follows for a valid unit, read at regions and not at rows.
use Rattle.std.proofs.Common.{◌≡◌, ◌≢◌, ℕ, zero, suc, ◌+◌, ◌<◌, ◌≤◌, ◌==◌, Bool, true, List, [], ◌∷◌, refl, sym, ap, ◌∙◌, length, get_or, All, count_by, cond, arith}
use Rattle.std.proofs.lemmas.Bool.Decides.{Decides-and, Decides-eqb}
use Rattle.rv_isa.specs.declared.instr.Relation.{Relation}
use Rattle.ir_form.specs.declared.op.Op.{Op}
use Rattle.ir_form.specs.declared.op.Op.TheViews.{If, Case, Loop, Guard}
use Rattle.ir_form.specs.declared.op.Region.{Region}
use Rattle.ir_form.specs.declared.op.Arm.{Arm}
use Rattle.ir_form.specs.declared.unit.Routine.{Routine}
use Rattle.ir_form.specs.declared.unit.Unit.{Unit as Program}
use Rattle.ir_form.specs.Values.{values_of}
use Rattle.ir_form.specs.Valid.{Scope, looped, guarded, Sees, IsNew, Fits, FitsRegion, IsValidRoutine}
use Rattle.ir_form.proofs.Lists.{fits-If, fits-Case, fits-Loop, fits-Guard}
use Rattle.ir_form.proofs.Tallies.{count-cons}
use Rattle.ir_form.proofs.Decisions.{decides_sees, decides_new, decides_region, decides_each, decides_fits}

pub Fits-If : (u : Program) (r : Routine) (s : Scope) (relation : Relation) (left right : ℕ) (a b : Region) (to : List ℕ)
    → Fits u r s (If relation left right a b to) → Sees s (left ∷ right ∷ []) × (FitsRegion u r s 0 (length to) a × FitsRegion u r s 0 (length to) b)
Fits-If u r s relation left right a b to h =
    let op : Op = If relation left right a b to in
    (Decides-and _ _ (decides_sees s (left ∷ right ∷ [])) (Decides-and _ _ (decides_region u r s 0 (length to) a) (decides_region u r s 0 (length to) b))).0
    (sym (fits-If u r s relation left right a b to) ∙ (decides_fits u r s op).1 h)

pub Fits-Case : (u : Program) (r : Routine) (s : Scope) (value : ℕ) (arms : List Arm) (a : Region) (to : List ℕ)
    → Fits u r s (Case value arms a to) → Sees s (value ∷ []) × (All (λ arm. FitsRegion u r s 0 (length to) arm.region) arms × FitsRegion u r s 0 (length to) a)
Fits-Case u r s value arms a to h =
    let op : Op = Case value arms a to in
    (Decides-and _ _ (decides_sees s (value ∷ [])) (Decides-and _ _ (decides_each u r s (length to) arms) (decides_region u r s 0 (length to) a))).0
    (sym (fits-Case u r s value arms a to) ∙ (decides_fits u r s op).1 h)

pub Fits-Loop : (u : Program) (r : Routine) (s : Scope) (marked : Bool) (start : List ℕ) (a : Region) (to : List ℕ)
    → Fits u r s (Loop marked start a to) → Sees s start × FitsRegion u r (looped s (length to)) (length start) (length a.parameters) a
Fits-Loop u r s marked start a to h =
    let op : Op = Loop marked start a to in
    (Decides-and _ _ (decides_sees s start) (decides_region u r (looped s (length to)) (length start) (length a.parameters) a)).0 (sym (fits-Loop u r s marked start a to) ∙ (decides_fits u r s op).1 h)

pub Fits-Guard : (u : Program) (r : Routine) (s : Scope) (mark : ℕ) (a b : Region) (to : List ℕ)
    → Fits u r s (Guard mark a b to) → IsNew s mark × (FitsRegion u r (guarded s mark) 0 (length to) a × FitsRegion u r s 2 (length to) b)
Fits-Guard u r s mark a b to h =
    let op : Op = Guard mark a b to in
    (Decides-and _ _ (decides_new s mark) (Decides-and _ _ (decides_region u r (guarded s mark) 0 (length to) a) (decides_region u r s 2 (length to) b))).0
    (sym (fits-Guard u r s mark a b to) ∙ (decides_fits u r s op).1 h)

-- a value that stands at a place is counted
counted : (v : ℕ) (xs : List ℕ) (i d : ℕ) → i < length xs → get_or xs i d ≡ v → 1 ≤ count_by (λ x. x == v) xs
counted v [] i d h e = absurd (omega arith)
counted v (x ∷ xs) zero d h e =
    let t : (x == v) ≡ true = (Decides-eqb x v).1 e in
    let c : count_by (λ y. y == v) (x ∷ xs) ≡ 1 + count_by (λ y. y == v) xs = count-cons (λ y. y == v) x xs ∙ ap (λ b. cond b 1 0 + count_by (λ y. y == v) xs) t in
    omega arith
counted v (x ∷ xs) (suc i) d h e =
    let c = count-cons (λ y. y == v) x xs in
    let k = counted v xs i d (omega arith) e in
    omega arith

counted_twice : (v : ℕ) (xs : List ℕ) (i j d : ℕ) → i < j → j < length xs → get_or xs i d ≡ v → get_or xs j d ≡ v → 2 ≤ count_by (λ x. x == v) xs
counted_twice v [] i j d l h e f = absurd (omega arith)
counted_twice v (x ∷ xs) i zero d l h e f = absurd (omega arith)
counted_twice v (x ∷ xs) zero (suc j) d l h e f =
    let t : (x == v) ≡ true = (Decides-eqb x v).1 e in
    let c : count_by (λ y. y == v) (x ∷ xs) ≡ 1 + count_by (λ y. y == v) xs = count-cons (λ y. y == v) x xs ∙ ap (λ b. cond b 1 0 + count_by (λ y. y == v) xs) t in
    let k = counted v xs j d (omega arith) f in
    omega arith
counted_twice v (x ∷ xs) (suc i) (suc j) d l h e f =
    let c = count-cons (λ y. y == v) x xs in
    let k = counted_twice v xs i j d (omega arith) (omega arith) e f in
    omega arith

-- at two places of a valid routine's values stand two values
pub values_differ : (u : Program) (r : Routine) → IsValidRoutine u r → (i j d : ℕ) → i < j → j < length (values_of r) → get_or (values_of r) i d ≢ get_or (values_of r) j d
values_differ u r v i j d l h e =
    let two = counted_twice (get_or (values_of r) j d) (values_of r) i j d l h e refl in
    let one = v.once j d h in
    omega arith
