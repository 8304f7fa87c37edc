use Rattle.std.proofs.Common.{◌≡◌, ◌++◌, map}
use Rattle.live_patterns.specs.Found.{look_op}
use Rattle.live_patterns.proofs.found.put_looks.Given as goal

-- the look-ups so far
abbrev pub invariant-loop-look : goal.invariant-loop-look
invariant-loop-look l = l.operations.items ≡ l.fn.operations.items ++ map look_op l.yielded
