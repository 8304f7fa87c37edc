use Rattle.negacyclic.proofs.ProductLoops.{HasAdded}
use Rattle.negacyclic.proofs.product.add_product.Given as goal

-- the first i terms are added
abbrev pub invariant-loop-i : goal.invariant-loop-i
invariant-loop-i l = HasAdded l.initial.into l.a l.b l.i l.into
