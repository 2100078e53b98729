use Rattle.std.proofs.Common.{sym, ap, ◌∙◌, cond}
use Rattle.std.specs.Prelude.{Some}
use Rattle.std.specs.Option.{option_or}
use Rattle.tu_check.specs.Built.{unbuilt_sum}
use Rattle.tu_check.proofs.Lists.{both_or}
use Rattle.tu_check.proofs.Levels.{comparison_of_one, comparison_of_none, comparison_of_more}
use Rattle.tu_check.proofs.values.unbuilt_comparison.Goals as goal
use Rattle.tu_check.proofs.values.unbuilt_comparison.Goals.{then-len-eq1+in-Some+else-is_comparing, then-len-eq1+in_default, else-len-eq1}

pub returns-then-is_comparing : goal.returns-then-is_comparing
returns-then-is_comparing c =
    c.or.ensures ∙ (both_or c.unbuilt_sum.ensures c.unbuilt_sum-then-is_comparing.ensures
    ∙ sym (comparison_of_one c.args.declared.now c.args.compare.now _ c.compare.inside.first c.compare.inside.more c.in-Some.field-0.now c.compare.view_is (sym c.len.ensures ∙ c.if-len-eq1.true) (sym c.in-Some.ensures.value)
    ∙ ap (λ b. cond b (option_or (unbuilt_sum c.args.declared.now c.compare.inside.first) (unbuilt_sum c.args.declared.now c.in-Some.field-0.now.1)) (Some c.compare.inside.at.line)) (sym c.is_comparing.ensures ∙ c.if-is_comparing.true)))

pub returns : goal.returns
returns c = elim c.if-len-eq1.branch [
  | then-len-eq1+in-Some+else-is_comparing w ↦
      sym (comparison_of_one c.args.declared.now c.args.compare.now _ c.compare.inside.first c.compare.inside.more w.in-Some.field-0.now c.compare.view_is (sym c.len.ensures ∙ w.if-len-eq1.true) (sym w.in-Some.ensures.value)
      ∙ ap (λ b. cond b (option_or (unbuilt_sum c.args.declared.now c.compare.inside.first) (unbuilt_sum c.args.declared.now w.in-Some.field-0.now.1)) (Some c.compare.inside.at.line)) (sym w.is_comparing.ensures ∙ w.if-is_comparing.false))
  | then-len-eq1+in_default w ↦ sym (comparison_of_none c.args.declared.now c.args.compare.now _ c.compare.inside.first c.compare.inside.more c.compare.view_is (sym w.in_default.ensures.value))
  | else-len-eq1 w ↦ sym (comparison_of_more c.args.declared.now c.args.compare.now _ c.compare.inside.first c.compare.inside.more c.compare.view_is (λ one. w.if-len-eq1.false (c.len.ensures ∙ one)))
]
