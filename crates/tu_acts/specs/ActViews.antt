-- Each act as the act of the definition that it stands for.
use Rattle.std.specs.Prelude.{◌++◌, map}
use Rattle.tu_core.specs.Core.{Calls}
use Rattle.tu_core.specs.Acts as acts
use Rattle.tu_core_expressions.specs.ExpressionViews.{actuals_view}
use Rattle.tu_acts.specs.declared.act.Subject.{Subject}
use Rattle.tu_acts.specs.declared.act.Subject.TheVariants as subject
use Rattle.tu_acts.specs.declared.act.ActForm.{ActForm}
use Rattle.tu_acts.specs.declared.act.ActForm.TheVariants as form

abbrev pub subject_view : Subject → acts.Subject
subject_view (subject.AVariable x) = acts.AVariable x
subject_view (subject.ACollection c) = acts.ACollection c

abbrev pub act_view : ActForm → acts.Act
act_view (form.Reading at x) = acts.Reading at (subject_view x)
act_view (form.Changing at x) = acts.Changing at (subject_view x)
act_view (form.Naming at x) = acts.Naming at (subject_view x)
act_view (form.Talking at) = acts.Talking at
act_view (form.Calling at callee invariant actuals) = acts.Calling (Calls at callee invariant (actuals_view actuals.now))
act_view (form.Binding at name is_var place extent) = acts.Binding at name is_var place.now extent
act_view (form.Declaring at x) = acts.Declaring at x
act_view (form.Defining at x) = acts.Defining at x.now
act_view (form.Fixing variables collections extent) = acts.Fixing (map acts.AVariable variables.now ++ map acts.ACollection collections.now) extent
