use Rattle.std.proofs.Common.{◌≡◌, ◌+◌, ◌-◌, arith, ap}
use Rattle.rv_machine.specs.Device.{Device}
use Rattle.rv_machine.proofs.Bytes.{bytes_are}
use Rattle.rv_machine.proofs.machine.Machine.part.Goals as goal

pub returns : goal.returns
returns c =
    let n : c.args.at - 65536 + c.args.size - (c.args.at - 65536) ≡ c.args.size = omega arith in
    let v : c.self.inside.memory.items ≡ c.args.self.now.bytes = ap (λ (d : Device). d.bytes) c.self.view_is in
    rw (n, c.deref.ensures.value, v) (bytes_are c.args.self.now.bytes (c.args.at - 65536) c.args.size c.args.at (omega arith) (omega arith))
