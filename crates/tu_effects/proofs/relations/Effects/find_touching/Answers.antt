use Rattle.std.proofs.Common.{◌≡◌, ap, sym, subst, ◌∙◌}
use Rattle.std.proofs.lemmas.Result.{on_ok_weaker}
use Rattle.tu_core.specs.declared.names.Variable.TheVariants.{Global}
use Rattle.tu_core.specs.Acts.{AVariable, ACollection}
use Rattle.tu_acts.specs.ActViews.{subject_view}
use Rattle.tu_effects.specs.Relations.{FindsTouching}
use Rattle.tu_effects.proofs.Found.{finds_touching_collection, finds_touching_variable}
use Rattle.tu_effects.proofs.relations.Effects.find_touching.Goals as goal

pub returns-in-Global-clause-found : goal.returns-in-Global-clause-found
returns-in-Global-clause-found c =
    let x = c.in-Global.x in
    let is : subject_view c.args.x ≡ AVariable (Global x) = ap subject_view c.in-AVariable.is ∙ ap (λ v. AVariable v) c.in-Global.is in
    on_ok_weaker c.find.result
    (λ found. subst (λ s. FindsTouching c.args.self.now s c.find.new.self) (sym is) (finds_touching_variable c.args.self.now c.row.result.now c.find.new.self found x c.row.ensures.value))
    c.find.ensures.found

pub returns-in-ACollection-clause-found : goal.returns-in-ACollection-clause-found
returns-in-ACollection-clause-found c =
    let p = c.in-ACollection in
    let is : subject_view c.args.x ≡ ACollection p.c = ap subject_view p.is in
    on_ok_weaker c.find-in-ACollection.result
    (λ found. subst (λ s. FindsTouching c.args.self.now s c.find-in-ACollection.new.self) (sym is) (finds_touching_collection c.args.self.now c.row-in-ACollection.result.now c.find-in-ACollection.new.self found p.c c.row-in-ACollection.ensures.value))
    c.find-in-ACollection.ensures.found
