use Rattle.std.proofs.Common.{◌<◌, ◌≤◌, cond, length, get_or, arith, ap, ◌∙◌}
use Rattle.word_ring.specs.Words.{word_difference}
use Rattle.lwe_core.specs.Phase.{phase_of}
use Rattle.lwe_core.proofs.PhaseParts.{phase_step, first_masked-all}
use Rattle.lwe_core.proofs.phases.phase.Goals as goal

pub loop-i-preserved : goal.loop-i-preserved
loop-i-preserved g c =
    let key = c.args.key.now in
    let words = c.words-words.result.now in
    let in_key : c.loop-i.i < length key = omega (arith, c.len-i-end.ensures, c.loop-i-test.true) in
    let in_words : c.loop-i.i < length words = omega (arith, ap length c.words-words.ensures, c.requires, in_key) in
    c.without_masked-phase.ensures ∙ ap (λ bit. word_difference c.loop-i.phase (cond bit (get_or words c.loop-i.i 0) 0)) c.bit.ensures ∙ phase_step (get_or words (length key) 0) c.loop-i.i key words c.loop-i.phase in_key in_words c.loop-i.invariant

pub returns : goal.returns
returns g c =
    let key = c.args.key.now in
    let words = c.words-words.result.now in
    let all : length key ≤ c.loop-i.i = omega (arith, c.len-i-end.ensures, c.loop-i-test.false) in
    c.loop-i.invariant ∙ ap (word_difference (get_or words (length key) 0)) (first_masked-all c.loop-i.i key words all) ∙ ap (λ ws. phase_of key ws) c.words-words.ensures
