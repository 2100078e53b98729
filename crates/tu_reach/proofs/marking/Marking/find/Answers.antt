use Rattle.std.proofs.Common.{◌≡◌, ◌++◌, ◌∷◌, [], arith, sym, subst, ◌∙◌}
use Rattle.std.proofs.lemmas.Bool.{false≢true}
use Rattle.tu_reach.specs.Marks.{HasMarkedAll, IsSearch}
use Rattle.tu_reach.proofs.Searching.{no_items, search_begins, search_goes_on, search_ends}
use Rattle.tu_reach.proofs.marking.Marking.find.Goals as goal

pub loop-text-init : goal.loop-text-init
loop-text-init c =
    let cleared = c.clear.new.self in
    let m = c.mark_all.new.self in
    record {
      same = omega (arith, c.in_ok-mark_all.ensures.length, c.clear.ensures.length, m.marks.ok.0, c.args.self.now.marks.ok.0);
      search = search_begins c.args.calls.now.rows c.args.texts.now cleared.marks.items m.marks.items cleared.work.items m.work.items c.clear.ensures.none c.clear.ensures.done c.in_ok-mark_all.ensures.marked;
      listed = c.in_ok-mark_all.ensures.listed (λ a is. absurd (false≢true (sym (c.clear.ensures.none a) ∙ is)));
    }

pub loop-text-preserved : goal.loop-text-preserved
loop-text-preserved c =
    let calls = c.args.calls.now.rows in
    let texts = c.args.texts.now in
    let s = c.loop-text.self in
    let m = c.mark_all-in-Some.new.self in
    let before : IsSearch calls texts s.marks.items (c.pop.new.self.items ++ c.in-Some.text ∷ []) = subst (λ w. IsSearch calls texts s.marks.items w) c.in-Some.ensures.items c.loop-text.invariant.search in
    record {
      same = omega (arith, c.in_ok-mark_all-2.ensures.length, c.loop-text.invariant.same, m.marks.ok.0, s.marks.ok.0);
      search = search_goes_on calls texts s.marks.items m.marks.items c.pop.new.self.items m.work.items c.in-Some.text before
          (subst (λ r. HasMarkedAll s.marks.items c.pop.new.self.items m.marks.items m.work.items r) c.row.ensures.value c.in_ok-mark_all-2.ensures.marked);
      listed = c.in_ok-mark_all-2.ensures.listed c.loop-text.invariant.listed;
    }

pub returns-clause-found : goal.returns-clause-found
returns-clause-found c =
    let s = c.loop-text.self in
    let none : s.work.items ≡ [] = no_items s.work.items (omega (arith, c.in_default.ensures.cases, s.work.ok.0)) in
    search_ends c.args.calls.now.rows c.args.texts.now s.marks.items (subst (λ w. IsSearch c.args.calls.now.rows c.args.texts.now s.marks.items w) none c.loop-text.invariant.search)
