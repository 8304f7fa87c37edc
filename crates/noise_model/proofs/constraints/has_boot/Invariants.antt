use Rattle.std.proofs.Common.{◌≡◌, take, false}
use Rattle.std.specs.List.{list_any}
use Rattle.tfhe_level.specs.Operations.{is_boot}
use Rattle.tfhe_level.specs.Nodes.{nodes_of}
use Rattle.noise_model.proofs.constraints.has_boot.Given as goal

-- there is none so far
abbrev pub invariant-loop-number : goal.invariant-loop-number
invariant-loop-number l = list_any is_boot (take l.number (nodes_of l.shape)) ≡ false
