use Rattle.std.proofs.Common.{arith, ap, length, ◌^◌, ◌∙◌, ◌≡◌, sym}
use Rattle.negacyclic.proofs.Powers.{eighth}
use Rattle.negacyclic.proofs.poly.mul_add.Goals as goal

pub add_product-requires-clause-size : goal.add_product-requires-clause-size
add_product-requires-clause-size c =
    let whole : length c.args.into.now ≡ 2 ^ c.scratch.inside.log_n = c.requires.room ∙ ap (λ t. 2 ^ t) (sym c.scratch.view_is) in
    let same : length c.args.a.now ≡ length c.a.inside.words.items = ap length (sym c.a.view_is) in
    omega (arith, eighth c.scratch.inside.log_n (omega arith), c.requires.first)
