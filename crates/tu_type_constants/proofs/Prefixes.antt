-- One prefix operator more, from the right.
use Rattle.std.specs.Prelude.{◌≡◌, ℕ, ◌+◌, ◌≤◌, List, length, drop}
use Rattle.std.proofs.Common.{ap, ◌∙◌, sym, get_or, arith}
use Rattle.std.proofs.lemmas.List.{at_drop_more}
use Rattle.tu_base.specs.declared.operator.Unary.{Unary}
use Rattle.tu_type_constants.specs.declared.constant.Constant.{Constant}
use Rattle.tu_type_constants.specs.Constants.{prefixed_by, all_prefixed}

pub one_more : (operators : List Unary) (x value : Constant) (k j : ℕ) (d : Unary) → k + 1 ≡ j → j ≤ length operators → value ≡ all_prefixed (drop j operators) x → prefixed_by (get_or operators k d) value ≡ all_prefixed (drop k operators) x
one_more operators x value k j d e le h =
    ap (prefixed_by (get_or operators k d)) (h ∙ ap (λ n. all_prefixed (drop n operators) x) (sym e))
    ∙ sym (at_drop_more (λ xs. all_prefixed xs x) operators k d (omega arith))
