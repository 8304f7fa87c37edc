use Rattle.std.proofs.Common.{arith}
use Rattle.word_ring.specs.Words.{word_sum}
use Rattle.word_ring.proofs.RowLoops.{is_zip_words}
use Rattle.word_ring.proofs.rows.add.Goals as goal

pub returns : goal.returns
returns c = is_zip_words word_sum c.loop-i.row c.args.row.now c.args.other.now c.loop-i.auto.row c.requires (λ k inside. c.loop-i.invariant.done k (omega arith))
