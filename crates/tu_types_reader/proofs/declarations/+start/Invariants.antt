use Rattle.tu_types_reader.proofs.declarations.+start.Given as goal

abbrev pub decreases-start : goal.decreases-start
decreases-start l = l.depth
