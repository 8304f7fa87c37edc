use Rattle.std.proofs.Common.{◌≡◌, ◌≤◌, ◌+◌, ◌-◌, ◌*◌, ◌/◌, ◌%◌, ◌^◌, arith, ap, sym, ◌∙◌}
use Rattle.word_ring.proofs.RoundingParts.{some_product, pow_half, cut_residue}
use Rattle.word_ring.proofs.rounding.round_to.Goals as goal

pub returns : goal.returns
returns c =
    let n = c.args.base * c.args.level in
    let some : 1 ≤ n = some_product c.args.base c.args.level c.requires.some_bits c.requires.some_digits in
    let most : n ≤ 63 = c.requires.fits in
    let half : c.half_step.result ≡ 2 ^ (64 - n) / 2 = c.half_step.ensures ∙ sym (pow_half (64 - n) (64 - n - 1) (omega arith)) in
    ap (λ h. (c.args.w + h) % 2 ^ 64 / 2 ^ (64 - n) * 2 ^ (64 - n) % 2 ^ 64) half ∙ cut_residue (c.args.w + 2 ^ (64 - n) / 2) (64 - n) (omega arith)
