use Rattle.std.proofs.Common.{◌^◌}
use Rattle.glwe_core.proofs.KeyLoops.{HasTaken}
use Rattle.glwe_core.proofs.key.GlweKey.new.Given as goal

-- the polynomials of the first bits of the flat key
abbrev pub invariant-loop-j : goal.invariant-loop-j
invariant-loop-j l = HasTaken (2 ^ l.log_n) l.flat l._j l.at l.polys.items
