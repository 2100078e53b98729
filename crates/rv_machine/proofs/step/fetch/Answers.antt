use Rattle.std.proofs.Common.{◌≡◌, ◌-◌, ◌/◌, length, refl, sym, arith}
use Rattle.std.specs.Prelude.{slice_get, Some}
use Rattle.std.proofs.lemmas.Bool.{ltb-true}
use Rattle.std.proofs.lemmas.Option.{slice_get_read}
use Rattle.rv_machine.specs.Lists.{memory_of}
use Rattle.rv_machine.proofs.Texts.{entry_within}
use Rattle.rv_machine.proofs.step.fetch.Goals as goal

pub returns-in-Some-clause-place : goal.returns-in-Some-clause-place
returns-in-Some-clause-place c =
    let lookup = c.in-Some.ensures.lookup in
    let got : slice_get c.args.decoded.now ((c.args.pc - 65536) / 4) ≡ Some c.in-Some.entry.now =
    slice_get_read c.args.decoded.now (length c.args.decoded.now) ((c.args.pc - 65536) / 4) c.in-Some.entry.now refl (ltb-true _ _ (sym lookup.0)) lookup.1 in
    let within = entry_within (memory_of c.args.memory.now) c.args.words ((c.args.pc - 65536) / 4) c.in-Some.entry.now (c.requires.decoded.entries ((c.args.pc - 65536) / 4) c.in-Some.entry.now got) in
    omega arith
