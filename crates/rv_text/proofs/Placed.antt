-- Where the words of the text stand.
use Rattle.std.proofs.Common.{◌≡◌, ℕ, zero, suc, ◌+◌, ◌*◌, List, [], ◌∷◌, length, take, Bool, true, false, eqb, Option, Some, None, refl, arith, sym, ◌∙◌, subst}
use Rattle.std.specs.Prelude.{if◌then◌else◌, slice_get}
use Rattle.std.proofs.lemmas.Bool.{eqb-true, eq-eqb}
use Rattle.rv_isa.specs.declared.instr.Instr.{Instr}
use Rattle.rv_isa.specs.Step.{Space}
use Rattle.ir_form.specs.Units.{Head}
use Rattle.rv_flat.specs.declared.linear.Instruction.{Instruction}
use Rattle.rv_flat.specs.declared.linear.Instruction.TheVariants.{Plain, Guarded, Open as Opens, Branch, Within, Hand, Jump, Label, Back}
use Rattle.rv_flat.specs.declared.linear.LinearRoutine.{LinearRoutine}
use Rattle.rv_flat.specs.declared.linear.Linear.{Linear}
use Rattle.rv_flat.specs.Flow.{place_of_label}
use Rattle.rv_runs.specs.Stands.{Stands}
use Rattle.rv_runs.proofs.Places.{stands_left, stands_right}
use Rattle.rv_layout.specs.Rooms.{head_in}
use Rattle.rv_layout.specs.Calling.{entering_length}
use Rattle.rv_layout.specs.Words.{Addresses, instruction_words, code_words, far_jump}
use Rattle.rv_text.specs.Lengths.{instruction_length, code_length, routine_length, routines_length, label_offset}
use Rattle.rv_text.specs.Text.{exit_at, entry_at, addresses, routine_words, routines_words}
use Rattle.rv_layout.specs.Held.{Layout}
use Rattle.rv_text.proofs.Sizes.{instruction_length_is, routine_length_is}

-- the code of a routine, if it is there
abbrev pub code_in : Option LinearRoutine → List Instruction
code_in None = []
code_in (Some r) = r.code

-- where the instruction at a place of a routine stands
abbrev pub place_in : List LinearRoutine → ℕ → Option LinearRoutine → ℕ → ℕ
place_in rs k o i = entry_at rs k + 4 * entering_length (head_in o) + 4 * code_length rs (head_in o) (take i (code_in o))

-- by which words a routine jumps to its labels
abbrev pub jump_in : List LinearRoutine → ℕ → Option LinearRoutine → (label : ℕ) → List Instr
jump_in rs k o label = far_jump (λ n. place_in rs k o (place_of_label n (code_in o))) label

abbrev pub layout_of : Linear → Layout
layout_of l = record {
  addresses = addresses l;
  place = λ k i. place_in l.routines k (slice_get l.routines k) i;
  jump = λ k i. jump_in l.routines k (slice_get l.routines k);
  exit = exit_at;
}

-- a label's place
eqb_back : (a b : ℕ) (t u : Bool) → eqb a b ≡ t → eqb b a ≡ u → (t ≡ true → a ≡ b) → (u ≡ true → b ≡ a) → t ≡ u
eqb_back a b true true e f g h = refl
eqb_back a b false false e f g h = refl
eqb_back a b true false e f g h = sym (eq-eqb b a (sym (g refl))) ∙ f
eqb_back a b false true e f g h = sym e ∙ eq-eqb a b (sym (h refl))

eqb_sym : (a b : ℕ) → eqb a b ≡ eqb b a
eqb_sym a b = eqb_back a b (eqb a b) (eqb b a) refl refl (eqb-true a b) (eqb-true b a)

label_step : (rs : List LinearRoutine) (h : Head) (x : Instruction) (is : List Instruction) (b : Bool) (n i : ℕ) → n ≡ code_length rs h (take i is) → (if b then 0 else instruction_length rs h x + n) ≡ code_length rs h (take (if b then 0 else suc i) (x ∷ is))
label_step rs h x is true n i e = refl
label_step rs h x is false n i e = omega arith

pub label_is : (rs : List LinearRoutine) (h : Head) (label : ℕ) (code : List Instruction) → label_offset rs h label code ≡ code_length rs h (take (place_of_label label code) code)
label_is rs h label [] = refl
label_is rs h label (Plain p ∷ is) = label_step rs h (Plain p) is false (label_offset rs h label is) (place_of_label label is) (label_is rs h label is)
label_is rs h label (Guarded p handler ∷ is) = label_step rs h (Guarded p handler) is false (label_offset rs h label is) (place_of_label label is) (label_is rs h label is)
label_is rs h label (Opens mark ∷ is) = label_step rs h (Opens mark) is false (label_offset rs h label is) (place_of_label label is) (label_is rs h label is)
label_is rs h label (Branch relation left right other ∷ is) = label_step rs h (Branch relation left right other) is false (label_offset rs h label is) (place_of_label label is) (label_is rs h label is)
label_is rs h label (Within value range other ∷ is) = label_step rs h (Within value range other) is false (label_offset rs h label is) (place_of_label label is) (label_is rs h label is)
label_is rs h label (Hand to from ∷ is) = label_step rs h (Hand to from) is false (label_offset rs h label is) (place_of_label label is) (label_is rs h label is)
label_is rs h label (Jump other ∷ is) = label_step rs h (Jump other) is false (label_offset rs h label is) (place_of_label label is) (label_is rs h label is)
label_is rs h label (Back values ∷ is) = label_step rs h (Back values) is false (label_offset rs h label is) (place_of_label label is) (label_is rs h label is)
label_is rs h label (Label other marked ∷ is) = rw (eqb_sym other label) (label_step rs h (Label other marked) is (eqb label other) (label_offset rs h label is) (place_of_label label is) (label_is rs h label is))

-- code up to a place, and one instruction more
pub length_step : (rs : List LinearRoutine) (h : Head) (code : List Instruction) (i : ℕ) (x : Instruction) → slice_get code i ≡ Some x → code_length rs h (take (suc i) code) ≡ code_length rs h (take i code) + instruction_length rs h x
length_step rs h [] i x e = absurd (cc)
length_step rs h (z ∷ zs) zero x e = let same : z ≡ x = cc in subst (λ n. instruction_length rs h z + 0 ≡ 0 + instruction_length rs h n) same (omega arith)
length_step rs h (z ∷ zs) (suc i) x e = let r = length_step rs h zs i x e in omega arith

-- the words of an instruction stand among those of its code
pub code_stands : (s : Space) (a : Addresses) (rs : List LinearRoutine) (h : Head) (f : ℕ → ℕ) (code : List Instruction) (at i : ℕ) (x : Instruction) → Stands s at (code_words a rs h (far_jump f) code) → slice_get code i ≡ Some x →
    Stands s (at + 4 * code_length rs h (take i code)) (instruction_words a rs h (far_jump f) x)
code_stands s a rs h f [] at i x st e = absurd (cc)
code_stands s a rs h f (z ∷ zs) at zero x st e =
    let same : z ≡ x = cc in
    let zero_more : at ≡ at + 4 * 0 = omega arith in
    subst (λ n. Stands s n (instruction_words a rs h (far_jump f) x)) zero_more (subst (λ n. Stands s at (instruction_words a rs h (far_jump f) n)) same (stands_left s at (instruction_words a rs h (far_jump f) z) (code_words a rs h (far_jump f) zs) st))
code_stands s a rs h f (z ∷ zs) at (suc i) x st e =
    let n = instruction_length_is a rs h f z in
    let r = code_stands s a rs h f zs (at + 4 * length (instruction_words a rs h (far_jump f) z)) i x (stands_right s at (instruction_words a rs h (far_jump f) z) (code_words a rs h (far_jump f) zs) st) e in
    let there : at + 4 * length (instruction_words a rs h (far_jump f) z) + 4 * code_length rs h (take i zs) ≡ at + 4 * (instruction_length rs h z + code_length rs h (take i zs)) = omega arith in
    subst (λ p. Stands s p (instruction_words a rs h (far_jump f) x)) there r

-- and the words of a routine among those of all
pub routine_stands : (s : Space) (a : Addresses) (rs more : List LinearRoutine) (start k : ℕ) (r : LinearRoutine) → Stands s start (routines_words a rs start more) → slice_get more k ≡ Some r →
    Stands s (start + 4 * routines_length rs (take k more)) (routine_words a rs (start + 4 * routines_length rs (take k more)) r)
routine_stands s a rs [] start k r st e = absurd (cc)
routine_stands s a rs (q ∷ more) start zero r st e =
    let same : q ≡ r = cc in
    let zero_more : start ≡ start + 4 * 0 = omega arith in
    subst (λ n. Stands s n (routine_words a rs n r)) zero_more (subst (λ n. Stands s start (routine_words a rs start n)) same (stands_left s start (routine_words a rs start q) (routines_words a rs (start + 4 * routine_length rs q) more) st))
routine_stands s a rs (q ∷ more) start (suc k) r st e =
    let n = routine_length_is a rs start q in
    let behind : start + 4 * length (routine_words a rs start q) ≡ start + 4 * routine_length rs q = omega arith in
    let rest = subst (λ p. Stands s p (routines_words a rs (start + 4 * routine_length rs q) more)) behind (stands_right s start (routine_words a rs start q) (routines_words a rs (start + 4 * routine_length rs q) more) st) in
    let t = routine_stands s a rs more (start + 4 * routine_length rs q) k r rest e in
    let there : start + 4 * routine_length rs q + 4 * routines_length rs (take k more) ≡ start + 4 * (routine_length rs q + routines_length rs (take k more)) = omega arith in
    subst (λ p. Stands s p (routine_words a rs p r)) there t
