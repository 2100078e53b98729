use Rattle.std.proofs.Common.{◌≡◌, ◌+◌, ◌-◌, length, ◌∙◌, arith}
use Rattle.rv_machine.specs.Lists.{memory_of, text_in, cpu_at}
use Rattle.rv_machine.specs.declared.stepped.Stepped.TheVariants.{To, Asks, Faults}
use Rattle.rv_machine.proofs.Steps.{one_more, no_more}
use Rattle.rv_machine.proofs.Texts.{text_kept}
use Rattle.rv_machine.proofs.run.run.Goals as goal

pub returns-in-Asks-clause-text : goal.returns-in-Asks-clause-text
returns-in-Asks-clause-text c =
    text_kept c.args.words (65536 + length c.loop-done.memory) (cpu_at c.loop-done.registers c.loop-done.memory c.loop-done.pc)
    (cpu_at c.step.new.registers c.step.new.memory c.loop-done.pc) (Asks c.in-Asks.service) c.in-Asks.ensures.is
    ∙ c.loop-done.invariant.text

pub returns-in-Asks-clause-is : goal.returns-in-Asks-clause-is
returns-in-Asks-clause-is c =
    one_more _ (c.args.most - c.loop-done.done) (c.args.counted + c.loop-done.done) (c.args.most - (c.loop-done.done + 1)) _ _ (omega arith) c.in-Asks.ensures.is
    ∙ c.loop-done.invariant.ran

pub returns-in-Faults-clause-text : goal.returns-in-Faults-clause-text
returns-in-Faults-clause-text c =
    text_kept c.args.words (65536 + length c.loop-done.memory) (cpu_at c.loop-done.registers c.loop-done.memory c.loop-done.pc)
    (cpu_at c.step.new.registers c.step.new.memory c.loop-done.pc) (Faults c.in-Faults.kind) c.in-Faults.ensures.is
    ∙ c.loop-done.invariant.text

pub returns-in-Faults-clause-is : goal.returns-in-Faults-clause-is
returns-in-Faults-clause-is c =
    one_more _ (c.args.most - c.loop-done.done) (c.args.counted + c.loop-done.done) (c.args.most - (c.loop-done.done + 1)) _ _ (omega arith) c.in-Faults.ensures.is
    ∙ c.loop-done.invariant.ran

pub loop-done-preserved : goal.loop-done-preserved
loop-done-preserved c =
    let kept : text_in c.args.words (memory_of c.step.new.memory) ≡ text_in c.args.words (memory_of c.loop-done.memory) =
    text_kept c.args.words (65536 + length c.loop-done.memory) (cpu_at c.loop-done.registers c.loop-done.memory c.loop-done.pc)
    (cpu_at c.step.new.registers c.step.new.memory c.loop-done.pc) (To c.in-To.to) c.in-To.ensures.is in
    let size : length c.step.new.memory ≡ length c.loop-done.memory = c.step.auto.memory in
    let count : c.args.counted + (c.loop-done.done + 1) ≡ c.args.counted + c.loop-done.done + 1 = omega arith in
    record {
      text = kept ∙ c.loop-done.invariant.text;
      ran =
          rw (kept, size, count) (one_more _ (c.args.most - c.loop-done.done) (c.args.counted + c.loop-done.done) (c.args.most - (c.loop-done.done + 1)) _ _ (omega arith) c.in-To.ensures.is
          ∙ c.loop-done.invariant.ran);
    }

pub returns-clause-is : goal.returns-clause-is
returns-clause-is c = no_more _ (c.args.most - c.loop-done.done) (c.args.counted + c.loop-done.done) (c.args.counted + c.args.most) _ (omega arith) (omega arith) ∙ c.loop-done.invariant.ran
