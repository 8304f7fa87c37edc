use Rattle.std.proofs.Common.{arith, length}
use Rattle.negacyclic.proofs.Halves.{reduced}
use Rattle.negacyclic.proofs.karatsuba.add_product.Goals as goal

pub returns : goal.returns
returns c = cc (reduced c.laws.ensures.rows (length c.args.a.now) c.args.a.now c.args.b.now c.args.into.now c.set_full_product.new.out (omega arith) (omega arith) (omega arith) c.set_full_product.ensures)
