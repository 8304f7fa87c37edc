use Rattle.std.proofs.Common.{◌≡◌, ◌++◌, map}
use Rattle.live_patterns.specs.Found.{out_op}
use Rattle.live_patterns.proofs.found.put_outs.Given as goal

-- the results so far
abbrev pub invariant-loop-form : goal.invariant-loop-form
invariant-loop-form l = l.operations.items ≡ l.fn.operations.items ++ map out_op l.yielded
