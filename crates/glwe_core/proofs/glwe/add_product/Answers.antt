use Rattle.std.proofs.Common.{ap, ◌∙◌, arith}
use Rattle.glwe_core.specs.Glwe.{lengths_of}
use Rattle.glwe_core.proofs.PartLoops.{keeps_shape, written_back}
use Rattle.glwe_core.proofs.glwe.add_product.Goals as goal

pub invariant_of-into : goal.invariant_of-into
invariant_of-into c =
    let parts = c.into.inside.parts in
    keeps_shape parts.items _ c.into.invariant
    (ap lengths_of (written_back parts.len c.add_products.new.parts parts.items (omega (arith, c.add_products.auto.parts, c.as_mut_slice.ensures.len))) ∙ c.add_products.ensures.shape ∙ ap lengths_of c.as_mut_slice.ensures.value)
