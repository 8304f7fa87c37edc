use Rattle.std.proofs.Common.{◌-◌, All, length, get_or, subst, ◌∙◌, refl}
use Rattle.word_ring.specs.Words.{IsWord}
use Rattle.glwe_core.proofs.PhaseLoops.{trivial_made}
use Rattle.glwe_core.proofs.parts.make_trivial.Goals as goal

pub returns : goal.returns
returns c =
    let made = trivial_made c.args.parts.now c.clear.new.parts c.args.body.now (get_or c.clear.new.parts (length c.clear.new.parts - 1) c.index-parts-last.result) c.add_assign.new.self c.index-parts-last.result c.requires.some c.requires.degree (subst (All IsWord) c.coeffs.ensures c.known.ensures) c.clear.ensures.parts refl c.add_assign.ensures.words c.add_assign.ensures.shape in
    record { parts = made.0; shape = made.1 ∙ c.clear.ensures.shape }
