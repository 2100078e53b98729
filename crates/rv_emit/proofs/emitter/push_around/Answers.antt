use Rattle.std.proofs.Common.{◌≡◌, arith, ◌∙◌}
use Rattle.rv_alloc.specs.Assigned.{placed_code}
use Rattle.rv_text.specs.Text.{entry_at}
use Rattle.rv_emit.proofs.Entries.{entry_below}
use Rattle.rv_emit.proofs.emitter.push_around.Goals as goal

pub overflow_add-first : goal.overflow_add-first
overflow_add-first c =
    let l = placed_code c.args.assigned.now in let k = c.linear.result.now.main in
    let e : c.entry.result ≡ entry_at l.routines k = c.entry.ensures ∙ c.requires.site.entries k in
    let b = entry_below l.routines k in omega arith
