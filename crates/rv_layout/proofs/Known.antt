-- What is known of each instruction of code that is ready.
use Rattle.std.proofs.Common.{◌≡◌, ℕ, zero, suc, List, [], ◌∷◌, length, Some, subst}
use Rattle.std.specs.Prelude.{slice_get}
use Rattle.std.specs.List.{AllByRecursion as Each}
use Rattle.std.proofs.lemmas.List.Elements.{recursion_from_All}
use Rattle.ir_form.specs.Lawful.{IsThere, IsSound}
use Rattle.rv_flat.specs.declared.linear.Instruction.{Instruction}
use Rattle.rv_flat.specs.declared.linear.LinearRoutine.{LinearRoutine}
use Rattle.rv_flat.specs.declared.linear.Linear.{Linear}
use Rattle.rv_flat.specs.Lawful.{depths_of}
use Rattle.rv_flat.specs.Parts.{gathered, instruction_numbers, instruction_plains, instruction_takers, code_plains, linear_numbers, linear_marks, IsDistinct, IsUnguardedInstruction, IsUnguardedCode}
use Rattle.rv_flat.specs.Units.{head_of}
use Rattle.rv_layout.specs.Ready.{InSlot, IsSmall, IsReadyCode, IsReadyRoutine}
use Rattle.rv_layout.proofs.Begins.{Sane}
use Rattle.rv_layout.proofs.Callable.{each_left, each_right, all_at}

gathered_at : {X : Type 0} (P : X → Type 0) (part : Instruction → List X) (code : List Instruction) (i : ℕ) (x : Instruction) → slice_get code i ≡ Some x → Each P (gathered part code) → Each P (part x)
gathered_at P part [] i x e h = absurd (cc)
gathered_at P part (z ∷ zs) zero x e h = let same : z ≡ x = cc in subst (λ n. Each P (part n)) same (each_left P (part z) (gathered part zs) h)
gathered_at P part (z ∷ zs) (suc i) x e h = gathered_at P part zs i x e (each_right P (part z) (gathered part zs) h)

pub sane : (l : Linear) → IsReadyCode l → (k i : ℕ) (r : LinearRoutine) (x : Instruction) → slice_get l.routines k ≡ Some r → slice_get r.code i ≡ Some x → Sane l r x
sane l ready k i r x here at =
    let s : IsSound l.globals (length l.texts) (depths_of l.routines) (head_of r) (code_plains r.code) (linear_numbers r) (linear_marks r) =
    all_at (λ n. IsSound l.globals (length l.texts) (depths_of l.routines) (head_of n) (code_plains n.code) (linear_numbers n) (linear_marks n)) l.routines k r ready.sound.routines here in
    let o : IsReadyRoutine r = all_at IsReadyRoutine l.routines k r ready.routines here in
    let named = each_right (InSlot (head_of r)) r.parameters (gathered instruction_numbers r.code) (recursion_from_All (InSlot (head_of r)) (linear_numbers r) o.slots) in
    let P = IsThere l.globals (length l.texts) (depths_of l.routines) r.words r.depth in
    record {
      numbers = gathered_at (InSlot (head_of r)) instruction_numbers r.code i x at named;
      unguarded = all_at IsUnguardedInstruction r.code i x (all_at (λ (n : LinearRoutine). IsUnguardedCode n.code) l.routines k r ready.unguarded here) at;
      small = all_at IsSmall r.code i x o.small at;
      distinct = gathered_at IsDistinct instruction_takers r.code i x at (recursion_from_All IsDistinct (gathered instruction_takers r.code) o.once.taken);
      there = gathered_at P instruction_plains r.code i x at (recursion_from_All P (code_plains r.code) s.there);
    }
