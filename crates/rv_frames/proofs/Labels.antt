-- A label that stands once is where its place is said to be.
use Rattle.std.proofs.Common.{◌≡◌, ℕ, zero, suc, ◌+◌, ◌≤◌, List, [], ◌∷◌, Some, Bool, true, false, refl, ap, ◌∙◌, subst, arith}
use Rattle.std.specs.Prelude.{All, if◌then◌else◌, slice_get}
use Rattle.std.proofs.lemmas.Bool.{eq-eqb}
use Rattle.std.proofs.lemmas.List.Elements.{All-head, All-tail}
use Rattle.rv_flat.specs.declared.linear.Instruction.{Instruction}
use Rattle.rv_flat.specs.declared.linear.Instruction.TheVariants.{Plain, Guarded, Open, Branch, Within, Hand, Jump, Label, Back}
use Rattle.rv_flat.specs.Parts.{gathered, instruction_labels, times, HasItsLabels}
use Rattle.rv_flat.specs.Flow.{is_label, place_of_label}
use Rattle.rv_frames.specs.Frames.{}

-- what holds of each label holds of the one at a place
labels_behind : (P : ℕ → Type 0) (i : Instruction) (is : List Instruction) → All P (gathered instruction_labels (i ∷ is)) → All P (gathered instruction_labels is)
labels_behind P (Plain p) is h = h
labels_behind P (Guarded p x) is h = h
labels_behind P (Open mark) is h = h
labels_behind P (Branch relation left right label) is h = h
labels_behind P (Within value range label) is h = h
labels_behind P (Hand to from) is h = h
labels_behind P (Jump label) is h = h
labels_behind P (Label label marked) is h = All-tail P label (gathered instruction_labels is) h
labels_behind P (Back values) is h = h

label_at : (P : ℕ → Type 0) (code : List Instruction) (i label : ℕ) (marked : Bool) → All P (gathered instruction_labels code) → slice_get code i ≡ Some (Label label marked) → P label
label_at P [] i label marked h e = absurd (cc)
label_at P (x ∷ xs) zero label marked h e =
    let is : x ≡ Label label marked = cc in All-head P label (gathered instruction_labels xs) (subst (λ y. All P (gathered instruction_labels (y ∷ xs))) is h)
label_at P (x ∷ xs) (suc i) label marked h e = label_at P xs i label marked (labels_behind P x xs h) e

abbrev one_if : Bool → ℕ
one_if b = if b then 1 else 0

times_first : (label : ℕ) (i : Instruction) (is : List Instruction) → times label (i ∷ is) ≡ one_if (is_label label i) + times label is
times_first label (Plain p) is = omega arith
times_first label (Guarded p h) is = omega arith
times_first label (Open mark) is = omega arith
times_first label (Branch relation left right target) is = omega arith
times_first label (Within value range target) is = omega arith
times_first label (Hand to from) is = omega arith
times_first label (Jump target) is = omega arith
times_first label (Label other marked) is = refl
times_first label (Back values) is = omega arith

same_label : (label : ℕ) (marked : Bool) → is_label label (Label label marked) ≡ true
same_label label marked = eq-eqb label label refl

-- a label at a place is counted
counted : (code : List Instruction) (i label : ℕ) (marked : Bool) → slice_get code i ≡ Some (Label label marked) → 1 ≤ times label code
counted [] i label marked e = absurd (cc)
counted (x ∷ xs) zero label marked e =
    let is : x ≡ Label label marked = cc in
    let one : one_if (is_label label x) ≡ 1 = ap one_if (ap (is_label label) is ∙ same_label label marked) in
    let t = times_first label x xs in omega arith
counted (x ∷ xs) (suc i) label marked e = let t = times_first label x xs in let h = counted xs i label marked e in omega arith

place_first : (label : ℕ) (i : Instruction) (is : List Instruction) (b : Bool) → is_label label i ≡ b → place_of_label label (i ∷ is) ≡ (if b then 0 else suc (place_of_label label is))
place_first label i is b e = ap (λ c. if c then 0 else suc (place_of_label label is)) e

place_behind : (code : List Instruction) (x : Instruction) (i label : ℕ) (b : Bool) → is_label label x ≡ b → times label (x ∷ code) ≤ 1 → 1 ≤ times label code → place_of_label label code ≡ i → place_of_label label (x ∷ code) ≡ suc i
place_behind code x i label true e few more h = let t = times_first label x code in let o : one_if (is_label label x) ≡ 1 = ap one_if e in absurd (omega arith)
place_behind code x i label false e few more h = place_first label x code false e ∙ ap suc h

place_is : (code : List Instruction) (i label : ℕ) (marked : Bool) → times label code ≤ 1 → slice_get code i ≡ Some (Label label marked) → place_of_label label code ≡ i
place_is [] i label marked few e = absurd (cc)
place_is (x ∷ xs) zero label marked few e = let is : x ≡ Label label marked = cc in place_first label x xs true (ap (is_label label) is ∙ same_label label marked)
place_is (x ∷ xs) (suc i) label marked few e =
    let t = times_first label x xs in
    place_behind xs x i label (is_label label x) refl few (counted xs i label marked e) (place_is xs i label marked (omega arith) e)

-- a label of code whose labels stand once
pub label_stands : (code : List Instruction) → HasItsLabels code → (i label : ℕ) (marked : Bool) → slice_get code i ≡ Some (Label label marked) → place_of_label label code ≡ i
label_stands code h i label marked e =
    let once : times label code ≡ 1 = label_at (λ x. times x code ≡ 1) code i label marked h.once e in place_is code i label marked (omega arith) e
