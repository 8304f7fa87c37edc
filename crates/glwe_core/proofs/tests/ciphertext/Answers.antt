use Rattle.std.proofs.Common.{◌+◌, ap, ◌∙◌, arith}
use Rattle.glwe_core.specs.Glwe.{lengths_of}
use Rattle.glwe_core.proofs.TestSizes.{size_number, size_degree, zeros_size}
use Rattle.glwe_core.proofs.tests.ciphertext.Goals as goal

pub loop-at-init : goal.loop-at-init
loop-at-init c = ap lengths_of c.in_ok-c.ensures ∙ zeros_size (c.args.k + 1)

pub set-requires-clause-part : goal.set-requires-clause-part
set-requires-clause-part c = omega (arith, size_number (c.args.k + 1) c.loop-at.c c.loop-at.invariant)

pub set-requires-clause-place : goal.set-requires-clause-place
set-requires-clause-place c = omega (arith, size_degree (c.args.k + 1) c.loop-at.c (omega arith) c.loop-at.invariant)
