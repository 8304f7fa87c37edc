use Rattle.std.proofs.Common.{◌≡◌, ◌+◌, ◌^◌, length, replicate, ap, sym, ◌∙◌, arith}
use Rattle.glwe_core.specs.Glwe.{lengths_of, degree_of, FitsGlweKey}
use Rattle.glwe_core.proofs.ExtractedPhase.{extracted-fits}
use Rattle.glwe_core.proofs.TestSizes.{size_degree, size_fits}
use Rattle.glwe_core.proofs.tests.reads.Goals as goal

pub phase_into-requires-clause-fits : goal.phase_into-requires-clause-fits
phase_into-requires-clause-fits g c = size_fits c.args.k _ _ _ c.in_ok-key.ensures c.in_ok-c.ensures

pub phase-requires : goal.phase-requires
phase-requires g c =
    let fits : FitsGlweKey (degree_of c.in_ok-c.c) c.in_ok-key.key c.in_ok-c.c = size_fits c.args.k _ _ _ c.in_ok-key.ensures c.in_ok-c.ensures in
    ap length c.extract_into.ensures ∙ extracted-fits (degree_of c.in_ok-c.c) c.in_ok-key.key c.in_ok-c.c fits ∙ ap (λ bits. length bits + 1) (sym c.in_ok-again.ensures)

pub seal_glwe-requires-clause-fits : goal.seal_glwe-requires-clause-fits
seal_glwe-requires-clause-fits g c = size_fits c.args.k _ _ _ c.in_ok-key.ensures c.in_ok-c.ensures

pub seal_glwe-requires-clause-message : goal.seal_glwe-requires-clause-message
seal_glwe-requires-clause-message g c = c.in_ok-message.ensures ∙ sym (size_degree (c.args.k + 1) c.in_ok-c.c (omega arith) c.in_ok-c.ensures)

pub seal_glwe-requires-clause-errors : goal.seal_glwe-requires-clause-errors
seal_glwe-requires-clause-errors g c = sym (size_degree (c.args.k + 1) c.in_ok-c.c (omega arith) c.in_ok-c.ensures)

pub seal_glwe-requires-clause-room : goal.seal_glwe-requires-clause-room
seal_glwe-requires-clause-room g c =
    size_degree (c.args.k + 1) c.in_ok-c.c (omega arith) c.in_ok-c.ensures ∙ sym (ap (λ s. 2 ^ s) (c.phase_into.ensures.room_stays ∙ c.in_ok-scratch.ensures))

pub phase_into-requires-2-clause-fits : goal.phase_into-requires-2-clause-fits
phase_into-requires-2-clause-fits g c = size_fits c.args.k _ _ _ c.in_ok-key.ensures (c.seal_glwe.ensures.shape ∙ c.in_ok-c.ensures)

pub phase_into-requires-2-clause-degree : goal.phase_into-requires-2-clause-degree
phase_into-requires-2-clause-degree g c =
    ap length c.in_ok-sealed.ensures ∙ sym (size_degree (c.args.k + 1) c.seal_glwe.new.c (omega arith) (c.seal_glwe.ensures.shape ∙ c.in_ok-c.ensures))

pub phase_into-requires-2-clause-room : goal.phase_into-requires-2-clause-room
phase_into-requires-2-clause-room g c =
    size_degree (c.args.k + 1) c.seal_glwe.new.c (omega arith) (c.seal_glwe.ensures.shape ∙ c.in_ok-c.ensures)
    ∙ sym (ap (λ s. 2 ^ s) (c.seal_glwe.ensures.room_stays ∙ c.phase_into.ensures.room_stays ∙ c.in_ok-scratch.ensures))

pub trivial_into-requires : goal.trivial_into-requires
trivial_into-requires g c =
    c.in_ok-message.ensures ∙ sym (size_degree (c.args.k + 1) c.seal_glwe.new.c (omega arith) (c.seal_glwe.ensures.shape ∙ c.in_ok-c.ensures))

pub phase_into-requires-3-clause-fits : goal.phase_into-requires-3-clause-fits
phase_into-requires-3-clause-fits g c = size_fits c.args.k _ _ _ c.in_ok-key.ensures (c.trivial_into.ensures.shape ∙ c.seal_glwe.ensures.shape ∙ c.in_ok-c.ensures)
