use Rattle.std.proofs.Common.{◌≡◌, ◌∷◌, ◌++◌, [], None, length, ap, ◌∙◌}
use Rattle.std.specs.Str.{bytes_eq}
use Rattle.indexmap.proofs.CallerLemmas.{insert_entry-new}
use Rattle.ir_build.specs.Code.{named}
use Rattle.ir_build.specs.Names.{newest}
use Rattle.ir_build.proofs.Entries.{newest_last, value_absent}
use Rattle.ir_build.proofs.names.Names.declare.Goals as goal

pub returns : goal.returns
returns c =
    let key = c.in_ok-name.name in
    let entries = c.self.inside.values.entries in
    let same : key.items ≡ c.args.name.now = c.in_ok-name.ensures.items in
    let view : newest (λ k. k.items) [] entries ≡ c.args.self.now = c.self.view_is in
    let none : named key.items (newest (λ k. k.items) [] entries) ≡ None = (λ j. named (same j) (view j)) ∙ c.requires in
    let added : c.insert.new.self.entries ≡ entries ++ (key, c.args.at) ∷ [] =
    c.in_ok-insert.ensures.entries ∙ insert_entry-new (λ a b. bytes_eq a.items b.items) c.self.inside.values key c.args.at (value_absent (λ k. k.items) key.items entries c.self.invariant none) in
    ap (newest (λ k. k.items) []) added ∙ (newest_last (λ k. k.items) [] entries key c.args.at
    ∙ (λ j. record { name = same j; word = length (view j); at = c.args.at } ∷ view j))
