use Rattle.std.proofs.Common.{◌≡◌, ◌++◌, take}
use Rattle.std.specs.String.{string_bytes}
use Rattle.tfhe_level.specs.Nodes.{nodes_of}
use Rattle.cost_cert.specs.Certificate.{nodes_text}
use Rattle.cost_cert.proofs.certificate.put_nodes.Given as goal

abbrev pub invariant-loop-number : goal.invariant-loop-number
invariant-loop-number l = string_bytes l.text ≡ string_bytes l.initial.text ++ nodes_text l.room (take l.number (nodes_of l.shape))
