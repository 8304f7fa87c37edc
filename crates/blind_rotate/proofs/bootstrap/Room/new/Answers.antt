use Rattle.std.proofs.Common.{◌+◌, ◌^◌, length, ap, ◌∙◌}
use Rattle.std.proofs.lemmas.List.{length-replicate}
use Rattle.glwe_core.specs.Glwe.{lengths_of}
use Rattle.blind_rotate.proofs.Steps.{zero_lengths}
use Rattle.blind_rotate.proofs.bootstrap.Room.new.Goals as goal

pub invariant_of-result : goal.invariant_of-result
invariant_of-result c =
    let k = c.args.k + 1 in
    let n = 2 ^ c.args.log_n in
    (ap lengths_of c.in_ok-acc.ensures ∙ zero_lengths k n, ap lengths_of c.in_ok-turned.ensures ∙ zero_lengths k n, ap length c.in_ok-body.ensures ∙ length-replicate n 0, c.in_ok-product.ensures, c.requires.one_or_more, c.requires.thirteen_or_less)
