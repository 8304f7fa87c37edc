use Rattle.std.proofs.Common.{arith}
use Rattle.seed_stream.proofs.DrawLemmas.{draw-half}
use Rattle.seed_stream.proofs.stream.Stream.next_u64.Goals as goal

pub returns-clause-value : goal.returns-clause-value
returns-clause-value c =
    grind (arith, draw-half c.self.inside.words.key c.self.inside.words.word_pos)
