use Rattle.std.proofs.Common.{◌≡◌, ◌+◌, drop}
use Rattle.tfhe_level.specs.Nodes.{nodes_of}
use Rattle.circuit_file.specs.Circuit.{is_on, place_among}
use Rattle.circuit_file.proofs.places.place_among.Given as goal

-- the operations so far are before the one with the number
abbrev pub invariant-loop-place : goal.invariant-loop-place
invariant-loop-place l = place_among (is_on l.at) (nodes_of l.shape) l.count ≡ l.place + place_among (is_on l.at) (drop l.place (nodes_of l.shape)) l.left
