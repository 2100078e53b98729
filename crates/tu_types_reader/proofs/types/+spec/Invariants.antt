use Rattle.tu_types_reader.proofs.types.+spec.Given as goal

abbrev pub decreases-spec : goal.decreases-spec
decreases-spec l = l.depth
