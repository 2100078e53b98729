-- Code that grows by one operation after the other.
use Rattle.std.proofs.Common.{◌≡◌, ℕ, ◌+◌, List, [], ◌∷◌, ◌++◌, arith, ap, ap₂, ◌∙◌, append_assoc}
use Rattle.ir_form.specs.declared.op.Op.{Op}
use Rattle.ir_code.specs.Pieces.{defining, with_op}
use Rattle.ir_code.specs.declared.code.Code.{Code}
use Rattle.tu_value.specs.Pieces.{with_piece}

-- operations and so many values more
pub record Grown (old : Code) (ops : List Op) (count : ℕ) (new : Code) : Type 0 where
  pub is : new ≡ with_piece old ops count

one_more : (n i : ℕ) → n + i + 1 ≡ n + (i + 1)
one_more n i = omega arith

code_of : List Op → ℕ → Code
code_of ops next = record { ops = ops; next = next }

pub begins : {old new : Code} (op : ℕ → Op) → new ≡ defining old op → Grown old (op old.next ∷ []) 1 new
begins op e = record { is = e }

pub defines : {old code new : Code} {ops : List Op} {i : ℕ} (op : ℕ → Op) → Grown old ops i code → new ≡ defining code op → Grown old (ops ++ op (old.next + i) ∷ []) (i + 1) new
unfolding code_of
defines {old = old} {ops = ops} {i = i} op g e = record { is = e ∙ ap (λ c. defining c op) g.is ∙ ap₂ code_of (append_assoc old.ops ops (op (old.next + i) ∷ [])) (one_more old.next i) }

pub pushes : {old code new : Code} {ops : List Op} {i : ℕ} (op : Op) → Grown old ops i code → new ≡ with_op code op → Grown old (ops ++ op ∷ []) i new
unfolding code_of
pushes {old = old} {ops = ops} {i = i} op g e = record { is = e ∙ ap (λ c. with_op c op) g.is ∙ ap (λ xs. code_of xs (old.next + i)) (append_assoc old.ops ops (op ∷ [])) }

pub next_is : {old code : Code} {ops : List Op} {i value : ℕ} → Grown old ops i code → value ≡ code.next → value ≡ old.next + i
next_is g e = e ∙ ap (λ c. c.next) g.is
