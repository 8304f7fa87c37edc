use Rattle.std.proofs.Common.{ap, ◌∙◌, arith}
use Rattle.glwe_core.specs.Glwe.{lengths_of}
use Rattle.glwe_core.proofs.PartLoops.{keeps_shape, written_back}
use Rattle.glwe_core.proofs.glwe.rotate_glwe_into.Goals as goal

pub invariant_of-into : goal.invariant_of-into
invariant_of-into c =
    let parts = c.into.inside.parts in
    keeps_shape parts.items _ c.into.invariant
    (ap lengths_of (written_back parts.len c.rotate.new.parts parts.items (omega (arith, c.rotate.auto.parts, c.as_mut_slice.ensures.len))) ∙ c.rotate.ensures.shape ∙ ap lengths_of c.as_mut_slice.ensures.value)
