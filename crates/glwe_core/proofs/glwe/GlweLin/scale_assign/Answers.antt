use Rattle.std.proofs.Common.{ap, ◌∙◌, arith}
use Rattle.glwe_core.specs.Glwe.{lengths_of}
use Rattle.glwe_core.proofs.PartLoops.{keeps_shape, written_back}
use Rattle.glwe_core.proofs.glwe.GlweLin.scale_assign.Goals as goal

pub invariant_of-self : goal.invariant_of-self
invariant_of-self c =
    let parts = c.self.inside.parts in
    keeps_shape parts.items _ c.self.invariant
    (ap lengths_of (written_back parts.len c.scale.new.parts parts.items (omega (arith, c.scale.auto.parts, c.as_mut_slice.ensures.len))) ∙ c.scale.ensures.shape ∙ ap lengths_of c.as_mut_slice.ensures.value)
