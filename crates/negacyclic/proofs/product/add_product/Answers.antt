use Rattle.std.proofs.Common.{refl, sym, ◌∙◌, subst, arith}
use Rattle.negacyclic.proofs.ProductLoops.{HasAdded, HasAdded_none, HasAdded_more, HasAdded_all}
use Rattle.negacyclic.proofs.product.add_product.Goals as goal

pub loop-i-init : goal.loop-i-init
loop-i-init c = HasAdded_none c.args.into.now c.args.a.now c.args.b.now c.requires.second c.known.ensures

pub loop-i-preserved : goal.loop-i-preserved
loop-i-preserved c = HasAdded_more c.laws.ensures.rows c.args.into.now c.args.a.now c.args.b.now c.loop-i.i _ c.loop-i.into c.add_rotated.new.into (c.loop-i.auto.into ∙ sym c.requires.second) refl c.loop-i.invariant c.add_rotated.ensures

pub returns : goal.returns
returns c =
    HasAdded_all c.laws.ensures.rows c.args.into.now c.args.a.now c.args.b.now c.loop-i.into c.requires.first c.requires.second c.loop-i.auto.into
    (subst (λ k. HasAdded c.args.into.now c.args.a.now c.args.b.now k c.loop-i.into) (omega arith) c.loop-i.invariant)
