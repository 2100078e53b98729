-- What the parts of a statement add, without what it adds by itself.
use Rattle.tu_core.specs.Core.{Statement, Simply, If, Loop, For, Case, Begin, Module}
use Rattle.tu_core.specs.Measures.{Measure, of_scalar, of_range, of_test, of_plain, of_block, of_otherwise, of_arms}

module _ {A : Type 0} (m : Measure A) where
  abbrev pub inner_of : Statement → A
  inner_of (Simply at s) = of_plain m s
  inner_of (If at e block otherwise) = m.plus (of_scalar m e) (m.plus (of_block m block) (of_otherwise m otherwise))
  inner_of (Loop at invariant block) = m.plus (of_test m invariant) (of_block m block)
  inner_of (For at x decreasing range invariant block) = m.plus (of_range m range) (m.plus (of_test m invariant) (of_block m block))
  inner_of (Case at e arms) = m.plus (of_scalar m e) (of_arms m arms)
  inner_of (Begin at block) = of_block m block
  inner_of (Module at fixed collections invariant line block) = of_block m block
