use Rattle.tu_room_parts.proofs.Known.{words_more}
use Rattle.tu_room_parts.proofs.shapes.words.Goals as goal

pub loop-shape-preserved : goal.loop-shape-preserved
loop-shape-preserved c = words_more c.args.shapes.now c.loop-shape.shape-index c.loop-shape.known c.add.new.self c.shape_words-words.result c.shape-item.result c.loop-shape.invariant c.loop-shape-test.true c.shape-item.is c.shape_words-words.ensures c.in_ok-add.ensures.added
