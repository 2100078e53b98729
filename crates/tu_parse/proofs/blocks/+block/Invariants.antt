use Rattle.tu_parse.proofs.blocks.+block.Given as goal

abbrev pub decreases-block : goal.decreases-block
decreases-block l = l.depth
