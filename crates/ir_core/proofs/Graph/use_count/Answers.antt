use Rattle.std.proofs.Common.{arith}
use Rattle.ir_core.proofs.Graph.use_count.Goals as goal

pub count_all-requires-clause-fits : goal.count_all-requires-clause-fits
count_all-requires-clause-fits g c = rw c.as_slice.ensures.value (omega (arith, c.self.invariant.fits, c.self.invariant.narrow))
