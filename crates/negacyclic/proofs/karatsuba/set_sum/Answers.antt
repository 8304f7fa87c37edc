use Rattle.std.proofs.Common.{arith}
use Rattle.word_ring.specs.Words.{word_sum}
use Rattle.negacyclic.proofs.Joins.{is_zip_words}
use Rattle.negacyclic.proofs.karatsuba.set_sum.Goals as goal

pub returns : goal.returns
returns c = is_zip_words c.laws.ensures.rows word_sum c.loop-i.into c.args.a.now c.args.b.now (omega arith) (omega arith) (λ k inside. c.loop-i.invariant k (omega arith))
