use Rattle.std.proofs.Common.{arith, ◌≡◌, ◌+◌, ◌/◌, ℕ, length, ◌∙◌}
use Rattle.negacyclic.proofs.Powers.{halved}
use Rattle.negacyclic.proofs.Halves.{put_together}
use Rattle.negacyclic.proofs.karatsuba.+set_full_product.Goals as goal

pub set_full_product-requires : goal.set_full_product-requires
set_full_product-requires t c = omega (arith, halved c.args.levels (omega arith))

pub set_full_product-requires-2 : goal.set_full_product-requires-2
set_full_product-requires-2 t c = omega (arith, halved c.args.levels (omega arith))

pub set_full_product-requires-3 : goal.set_full_product-requires-3
set_full_product-requires-3 t c = omega (arith, halved c.args.levels (omega arith))

pub returns : goal.returns
returns t c =
    let h : ℕ = length c.args.a.now / 2 in
    let even : length c.args.a.now ≡ h + h = omega (arith, halved c.args.levels (omega arith)) in
    cc
    (put_together c.laws.ensures.rows h c.args.a.now c.args.b.now c.set_full_product.new.out c.set_full_product-2.new.out c.set_full_product-3.new.out even (c.requires.second ∙ even)
    (record { first = (cc); second = (cc); sums = (cc) }))
