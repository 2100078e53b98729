use Rattle.std.proofs.Common.{◌≡◌, ◌+◌, ◌-◌}
use Rattle.rv_image.specs.Steps.{steps}
use Rattle.rv_machine.specs.Lists.{memory_of, text_in, space_at, cpu_at}
use Rattle.rv_machine.proofs.run.run.Given as goal

abbrev pub invariant-loop-done : goal.invariant-loop-done
invariant-loop-done l = record {
  text : text_in l.words (memory_of l.memory) ≡ text_in l.words (memory_of l.fn.memory);
  ran : steps (space_at l.words l.memory) (l.most - l.done) (l.counted + l.done) (cpu_at l.registers l.memory l.pc)
      ≡ steps (space_at l.words l.fn.memory) l.most l.counted (cpu_at l.fn.registers l.fn.memory l.start);
}
