use Rattle.std.proofs.Common.{◌≡◌, drop}
use Rattle.tu_tree.specs.StatementViews.{block_part_view}
use Rattle.tu_check.specs.Built.{unbuilt_elsif, unbuilt_part}
use Rattle.tu_check.proofs.Lists.{first_of}
use Rattle.tu_check.proofs.statements.+statement.Given as goal

abbrev pub invariant-unbuilt_block-loop-part : goal.invariant-unbuilt_block-loop-part
invariant-unbuilt_block-loop-part l = first_of (λ x. unbuilt_part l.declared l.is_inside (block_part_view x.0)) (drop l.part-index l.part-items) ≡ first_of (λ x. unbuilt_part l.declared l.is_inside (block_part_view x.0)) l.part-items

abbrev pub invariant-unbuilt_statement-loop-elsif : goal.invariant-unbuilt_statement-loop-elsif
invariant-unbuilt_statement-loop-elsif l = first_of (unbuilt_elsif l.declared l.is_inside) (drop l.elsif-index l.elsif-items) ≡ first_of (unbuilt_elsif l.declared l.is_inside) l.elsif-items
