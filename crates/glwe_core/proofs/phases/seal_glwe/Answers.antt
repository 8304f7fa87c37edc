use Rattle.std.proofs.Common.{◌≡◌, List, ℕ, length, map, ap, ◌∙◌, arith}
use Rattle.std.proofs.lemmas.List.{length-map}
use Rattle.word_ring.specs.Rows.{row_sum}
use Rattle.word_ring.specs.Signed.{word_of}
use Rattle.glwe_core.specs.Glwe.{lengths_of, degree_of, glwe_phase, sealed_glwe}
use Rattle.glwe_core.proofs.PartLoops.{keeps_shape, written_back}
use Rattle.glwe_core.proofs.PhaseLoops.{length-row_sum, words-row_sum}
use Rattle.glwe_core.proofs.phases.seal_glwe.Goals as goal

pub invariant_of-c : goal.invariant_of-c
invariant_of-c c =
    let parts = c.c.inside.parts in
    keeps_shape parts.items _ c.c.invariant
    (ap lengths_of (written_back parts.len c.seal_parts.new.parts parts.items (omega (arith, c.seal_parts.auto.parts, c.as_mut_slice.ensures.len))) ∙ c.seal_parts.ensures.shape ∙ ap lengths_of c.as_mut_slice.ensures.value)

pub returns-clause-phase : goal.returns-clause-phase
returns-clause-phase c =
    let key = c.args.key.now in
    let parts = c.c.inside.parts in
    let errors : List ℕ = map word_of c.args.errors.now in
    let phase : List ℕ = row_sum c.args.message.now errors in
    let n : ℕ = degree_of c.args.c.now in
    let same : parts.items ≡ c.args.c.now = cc in
    let long : length phase ≡ n = length-row_sum n c.args.message.now errors c.requires.message (length-map c.args.errors.now word_of ∙ c.requires.errors) in
    ap (glwe_phase key) (written_back parts.len c.seal_parts.new.parts parts.items (omega (arith, c.seal_parts.auto.parts, c.as_mut_slice.ensures.len))
    ∙ c.seal_parts.ensures.parts ∙ ap (λ (ps : List (List ℕ)). sealed_glwe key ps phase) (c.as_mut_slice.ensures.value ∙ same))
    ∙ c.laws.ensures.phases.phase_sealed n key c.args.c.now phase c.requires.fits long (words-row_sum c.args.message.now errors)
