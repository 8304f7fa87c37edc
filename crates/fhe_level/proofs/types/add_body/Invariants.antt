use Rattle.std.proofs.Common.{◌≡◌, ◌++◌, map, take, drop}
use Rattle.ir_core.specs.Placed.{operations_of, IsPlaced}
use Rattle.fhe_level.specs.Types.{body_fault}
use Rattle.fhe_level.specs.Programs.{statement_op}
use Rattle.fhe_level.specs.Building.{types_in}
use Rattle.fhe_level.proofs.types.add_body.Given as goal

-- the statements so far break no check, and their operations are there
abbrev pub invariant-loop-place : goal.invariant-loop-place
invariant-loop-place l = record {
  placed : IsPlaced l.graph;
  operations : operations_of l.graph ≡ operations_of l.initial.graph ++ map statement_op (take l.place l.body);
  fault : body_fault (types_in l.initial.graph) 0 l.body ≡ body_fault (types_in l.graph) l.place (drop l.place l.body);
}
