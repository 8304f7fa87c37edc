use Rattle.std.proofs.Common.{◌-◌, ◌^◌, w64, ap, ◌∙◌}
use Rattle.std.proofs.lemmas.Int.{to_z-of_z}
use Rattle.word_ring.specs.Words.{word_sum, word_difference}
use Rattle.lwe_core.specs.Decoding.{encoded}
use Rattle.lwe_core.proofs.DecodingParts.{decoded_is, offset_fits}
use Rattle.lwe_core.proofs.decoding.decode.Goals as goal

pub returns : goal.returns
returns c =
    decoded_is c.laws.ensures.signed c.args.phase c.args.width c.distance.result c.args.lo
    (c.distance.ensures ∙ ap (λ lo. word_sum (word_difference c.args.phase (encoded c.args.width lo)) (2 ^ (62 - c.args.width))) (to_z-of_z w64 c.args.lo c.ranges.lo))

pub overflow_cast-result-2 : goal.overflow_cast-result-2
overflow_cast-result-2 c = record { fits = offset_fits c.distance.result c.args.width c.distance.type_inv c.requires.high }
