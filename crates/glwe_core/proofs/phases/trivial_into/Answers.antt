use Rattle.std.proofs.Common.{ap, ◌∙◌, arith}
use Rattle.glwe_core.specs.Glwe.{lengths_of}
use Rattle.glwe_core.proofs.PartLoops.{keeps_shape, written_back}
use Rattle.glwe_core.proofs.phases.trivial_into.Goals as goal

pub invariant_of-c : goal.invariant_of-c
invariant_of-c c =
    let parts = c.c.inside.parts in
    keeps_shape parts.items _ c.c.invariant
    (ap lengths_of (written_back parts.len c.make_trivial.new.parts parts.items (omega (arith, c.make_trivial.auto.parts, c.as_mut_slice.ensures.len))) ∙ c.make_trivial.ensures.shape ∙ ap lengths_of c.as_mut_slice.ensures.value)
