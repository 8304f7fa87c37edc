use Rattle.std.proofs.Common.{◌≡◌, map, ap, ◌∙◌}
use Rattle.lwe_core.specs.Secret.{bit_words}
use Rattle.glwe_core.specs.Glwe.{words_bits}
use Rattle.glwe_core.proofs.KeyLoops.{polys_are}
use Rattle.glwe_core.proofs.key.GlweKey.polys.Goals as goal

pub returns : goal.returns
returns c =
    let polys = c.self.inside.polys.items in
    let same : map words_bits polys ≡ c.args.self.now = cc in
    c.as_slice.ensures.value ∙ polys_are polys c.self.invariant ∙ ap (map bit_words) same
