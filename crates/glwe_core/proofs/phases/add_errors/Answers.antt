use Rattle.std.proofs.Common.{map, arith}
use Rattle.std.proofs.lemmas.List.{length-map}
use Rattle.word_ring.specs.Signed.{word_of}
use Rattle.glwe_core.proofs.PhaseLoops.{is_row_sum}
use Rattle.glwe_core.proofs.phases.add_errors.Goals as goal

pub returns-clause-sum : goal.returns-clause-sum
returns-clause-sum c =
    is_row_sum c.loop-i.poly c.args.poly.now (map word_of c.args.errors.now) c.loop-i.invariant.long (omega (arith, length-map c.args.errors.now word_of, c.requires)) (λ k h. c.loop-i.invariant.done k (omega arith))
