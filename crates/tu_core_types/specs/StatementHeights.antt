-- How deep starts and statements are, each by themselves.
use Rattle.std.specs.Prelude.{ℕ, ◌+◌, max}
use Rattle.tu_core.specs.Core.{Start, WithValue, WithCopy, WithParts, Starts, NoStart, AndStart, Statement, Simply, If, Loop, For, Case, Begin, Module, Block, Empty, Then, Declare, Bind, Otherwise, Else, Elsif, Arms, NoArm, Default, Labelled}

abbrev mutual
  pub height_of_start : Start → ℕ
  height_of_start (WithValue a0 a1) = 1
  height_of_start (WithCopy a0 a1) = 1
  height_of_start (WithParts a0 a1) = 1 + height_of_starts a1

  pub height_of_starts : Starts → ℕ
  height_of_starts NoStart = 1
  height_of_starts (AndStart a0 a1) = 1 + max (height_of_start a0) (height_of_starts a1)

abbrev mutual
  pub height_of_statement : Statement → ℕ
  height_of_statement (Simply a0 a1) = 1
  height_of_statement (If a0 a1 a2 a3) = 1 + max (height_of_block a2) (height_of_otherwise a3)
  height_of_statement (Loop a0 a1 a2) = 1 + height_of_block a2
  height_of_statement (For a0 a1 a2 a3 a4 a5) = 1 + height_of_block a5
  height_of_statement (Case a0 a1 a2) = 1 + height_of_arms a2
  height_of_statement (Begin a0 a1) = 1 + height_of_block a1
  height_of_statement (Module a0 a1 a2 a3 a4 a5) = 1 + height_of_block a5

  pub height_of_block : Block → ℕ
  height_of_block Empty = 1
  height_of_block (Then a0 a1) = 1 + max (height_of_statement a0) (height_of_block a1)
  height_of_block (Declare a0 a1 a2) = 1 + height_of_block a2
  height_of_block (Bind a0 a1 a2 a3 a4) = 1 + height_of_block a4

  pub height_of_otherwise : Otherwise → ℕ
  height_of_otherwise (Else a0) = 1 + height_of_block a0
  height_of_otherwise (Elsif a0 a1 a2 a3) = 1 + max (height_of_block a2) (height_of_otherwise a3)

  pub height_of_arms : Arms → ℕ
  height_of_arms NoArm = 1
  height_of_arms (Default a0) = 1 + height_of_block a0
  height_of_arms (Labelled a0 a1 a2) = 1 + max (height_of_block a1) (height_of_arms a2)
