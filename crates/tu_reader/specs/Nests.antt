-- A function value that reads a rule, where the weight of what is left is below a number.
use Rattle.std.specs.Prelude.{ℕ, ◌+◌, ◌≤◌, Result, IfOk}
use Rattle.std.specs.declared.alloc.Global.{Global}
use denote.Ref.{MutBor}
use Rattle.grammar.specs.Description.{rule}
use Rattle.tu_token.specs.Rules.{Rule}
use Rattle.tu_token.specs.Syntax.{Of}
use Rattle.tu_reader.specs.Ahead.{Ahead, weight}
use Rattle.tu_reader.specs.Reads.{Reads}
use Rattle.tu_reader.specs.declared.stop.Stop.{Stop}

pub record Nests (n : Rule) (depth : ℕ) (pre : Global → MutBor Ahead → ℕ → Type 0) (post : Global → MutBor Ahead → ℕ → Result (Of n) Stop → MutBor Ahead → Type 0) : Type 0 where
  pub callable : (alloc : Global) (old : MutBor Ahead) → weight old.now + 40 ≤ depth → pre alloc old depth
  pub reads : (alloc : Global) (old new : MutBor Ahead) (r : Result (Of n) Stop) → post alloc old depth r new → Reads (rule n) (λ x. x) r old.now new.now
  pub less : (alloc : Global) (old new : MutBor Ahead) (r : Result (Of n) Stop) → post alloc old depth r new → IfOk r (λ _. weight new.now ≤ weight old.now + 1)
