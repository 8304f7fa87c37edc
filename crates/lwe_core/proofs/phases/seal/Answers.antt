use Rattle.std.proofs.Common.{◌≡◌, w64, ap, ◌∙◌}
use Rattle.std.proofs.lemmas.Int.{to_z-of_z}
use Rattle.word_ring.specs.Words.{word_sum, word_difference}
use Rattle.word_ring.specs.Signed.{word_of}
use Rattle.lwe_core.specs.Phase.{phase_of, sealed}
use Rattle.lwe_core.proofs.PhaseBodies.{sealed_is, word_stays}
use Rattle.lwe_core.proofs.phases.seal.Goals as goal

made : (g : _) (c : goal.After-set g) → c.set.new.self ≡ sealed c.args.key.now c.args.c.now (word_sum c.args.message (word_of c.args.error))
made g c =
    let placed = c.moved_body-body.ensures ∙ ap (λ e. word_sum (word_sum c.args.message (word_of e)) (word_difference c.word.result c.phase.result)) (to_z-of_z w64 c.args.error c.ranges.error) in
    sealed_is c.args.key.now c.args.c.now c.set.new.self (word_sum c.args.message (word_of c.args.error)) _ _ _ _ c.len-dim.ensures c.word.ensures c.phase.ensures placed c.set.ensures

pub returns-clause-words : goal.returns-clause-words
returns-clause-words g c = made g c

pub returns-clause-phase : goal.returns-clause-phase
returns-clause-phase g c =
    let wanted = word_sum c.args.message (word_of c.args.error) in
    ap (phase_of c.args.key.now) (made g c) ∙ c.laws.ensures.phases.phase_sealed c.args.key.now c.args.c.now wanted c.requires ∙ word_stays c.args.message (word_of c.args.error)
