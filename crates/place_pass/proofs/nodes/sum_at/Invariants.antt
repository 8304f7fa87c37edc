use Rattle.std.proofs.Common.{◌≡◌, false, take}
use Rattle.std.specs.List.{list_any}
use Rattle.tfhe_level.specs.Nodes.{nodes_of}
use Rattle.place_pass.specs.Placing.{is_sum}
use Rattle.place_pass.proofs.nodes.sum_at.Given as goal

-- none so far
abbrev pub invariant-loop-number : goal.invariant-loop-number
invariant-loop-number l = list_any (is_sum l.constant l.terms) (take l.number (nodes_of l.shape)) ≡ false
