use Rattle.std.proofs.Common.{◌≡◌, take}
use Rattle.glwe_core.specs.Glwe.{flat_key_of}
use Rattle.glwe_core.proofs.key.flat_key.Given as goal

-- the bits of the first polynomials, in order
abbrev pub invariant-loop-j : goal.invariant-loop-j
invariant-loop-j l = l.bits.items ≡ flat_key_of (take l.j l.key)
