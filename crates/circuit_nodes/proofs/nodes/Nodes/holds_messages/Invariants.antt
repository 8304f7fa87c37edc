use Rattle.std.proofs.Common.{◌≡◌, drop}
use Rattle.std.specs.List.{list_all}
use Rattle.tfhe_level.specs.Nodes.{node_ranges}
use Rattle.tfhe_level.specs.Rules.{message_ranges}
use Rattle.circuit_nodes.specs.Tests.{holds_range}
use Rattle.circuit_nodes.proofs.Messages.{messages_in}
use Rattle.circuit_nodes.proofs.nodes.Nodes.holds_messages.Given as goal

-- the width holds the ranges so far
abbrev pub invariant-loop-place : goal.invariant-loop-place
invariant-loop-place l = list_all (holds_range l.width) (message_ranges l.self) ≡ list_all (holds_range l.width) (messages_in (drop l.place l.self) (drop l.place (node_ranges l.self)))
