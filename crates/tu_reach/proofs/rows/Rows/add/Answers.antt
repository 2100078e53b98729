use Rattle.std.proofs.Common.{◌<◌, sym, subst, set}
use Rattle.tu_reach.specs.Rows.{RowsOf, HasOneMore}
use Rattle.tu_reach.proofs.Rowing.{added_row, below_extended, below_one_more, below_put_back}
use Rattle.tu_reach.proofs.rows.Rows.add.Goals as goal

pub invariant_of-self : goal.invariant_of-self
invariant_of-self c = below_extended c.self.inside.rows.items c.extend.new.rows.items c.self.inside.texts c.self.invariant c.in_err-extend.ensures.same

pub invariant_of-self-in_err-push : goal.invariant_of-self-in_err-push
invariant_of-self-in_err-push c =
    below_put_back c.self.inside.rows.items c.extend.new.rows.items c.self.inside.texts c.args.number c.index_mut.result.now c.push.new.self c.self.invariant c.in_ok-extend.ensures.same c.in_ok-extend.ensures.long
    c.index_mut.ensures.value c.in_err-push.ensures.err

pub invariant_of-self-2 : goal.invariant_of-self-2
invariant_of-self-2 c =
    let more = added_row c.self.inside.rows.items c.extend.new.rows.items c.args.number c.args.text c.index_mut.result.now c.push.new.self c.in_ok-extend.ensures.same c.in_ok-extend.ensures.long c.index_mut.ensures.value c.in_ok-push.ensures.ok in
    let below = subst (λ (v : RowsOf). c.args.text < v.texts) (sym c.self.view_is) c.requires in
    below_one_more c.self.inside.rows.items (set c.extend.new.rows.items c.args.number c.push.new.self) c.self.inside.texts c.args.number c.args.text c.self.invariant below more

pub returns-clause-added : goal.returns-clause-added
returns-clause-added c =
    let more = added_row c.self.inside.rows.items c.extend.new.rows.items c.args.number c.args.text c.index_mut.result.now c.push.new.self c.in_ok-extend.ensures.same c.in_ok-extend.ensures.long c.index_mut.ensures.value c.in_ok-push.ensures.ok in
    subst (λ (v : RowsOf). HasOneMore v.rows (set c.extend.new.rows.items c.args.number c.push.new.self) c.args.number c.args.text) c.self.view_is more
