use Rattle.std.proofs.Common.{[], All, below_more, arith}
use Rattle.std.proofs.lemmas.List.Elements.{All-from_get_or}
use Rattle.word_ring.specs.Words.{IsWord}
use Rattle.glwe_core.proofs.PartLoops.{words_at}
use Rattle.glwe_core.proofs.parts.known.Goals as goal

pub loop-i-preserved : goal.loop-i-preserved
loop-i-preserved c =
    below_more _ _ c.loop-i.invariant (words_at c.args.parts.now c.loop-i.i c.index-parts-i.result c.coeffs.result.now (omega arith) c.index-parts-i.is c.coeffs.ensures c.known.ensures)

pub returns : goal.returns
returns c = All-from_get_or (All IsWord) c.args.parts.now [] (λ k inside. c.loop-i.invariant k (omega arith))
