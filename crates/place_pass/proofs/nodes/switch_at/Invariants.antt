use Rattle.std.proofs.Common.{◌≡◌, false, take}
use Rattle.std.specs.List.{list_any}
use Rattle.tfhe_level.specs.Nodes.{nodes_of}
use Rattle.place_pass.specs.Placing.{is_switch_of}
use Rattle.place_pass.proofs.nodes.switch_at.Given as goal

-- none so far
abbrev pub invariant-loop-number : goal.invariant-loop-number
invariant-loop-number l = list_any (is_switch_of l.source) (take l.number (nodes_of l.shape)) ≡ false
