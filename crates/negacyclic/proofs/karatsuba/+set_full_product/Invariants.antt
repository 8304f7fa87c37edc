use Rattle.negacyclic.proofs.karatsuba.+set_full_product.Given as goal

abbrev pub decreases-set_full_product : goal.decreases-set_full_product
decreases-set_full_product l = l.levels
