use Rattle.std.proofs.Common.{◌≡◌, map, take}
use Rattle.fhe_level.specs.Types.{argument_range}
use Rattle.fhe_level.proofs.types.argument_ranges.Given as goal

-- the ranges so far
abbrev pub invariant-loop-arg : goal.invariant-loop-arg
invariant-loop-arg l = l.ranges.items ≡ map argument_range (take l.arg-index l.args)
