use Rattle.std.proofs.Common.{◌≡◌, map, take}
use Rattle.ir_core.specs.Placed.{operations_of, IsPlaced}
use Rattle.fhe_level.specs.Programs.{argument_op}
use Rattle.fhe_level.proofs.types.add_arguments.Given as goal

-- the arguments so far are there
abbrev pub invariant-loop-arg : goal.invariant-loop-arg
invariant-loop-arg l = record {
  placed : IsPlaced l.graph;
  arguments : operations_of l.graph ≡ map argument_op (take l.arg-index l.args);
}
