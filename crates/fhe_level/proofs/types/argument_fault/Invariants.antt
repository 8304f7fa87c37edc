use Rattle.std.proofs.Common.{◌≡◌, drop}
use Rattle.fhe_level.specs.Types.{argument_fault}
use Rattle.fhe_level.proofs.types.argument_fault.Given as goal

-- the arguments so far keep their types
abbrev pub invariant-loop-place : goal.invariant-loop-place
invariant-loop-place l = argument_fault 0 l.args ≡ argument_fault l.place (drop l.place l.args)
