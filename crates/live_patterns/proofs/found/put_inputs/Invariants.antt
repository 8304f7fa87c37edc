use Rattle.std.proofs.Common.{◌≡◌, ◌++◌, take, map}
use Rattle.live_patterns.specs.Found.{input_op}
use Rattle.live_patterns.proofs.found.put_inputs.Given as goal

-- the arguments so far
abbrev pub invariant-loop-range : goal.invariant-loop-range
invariant-loop-range l = l.operations.items ≡ l.fn.operations.items ++ map input_op (take l.range-index l.inputs)
