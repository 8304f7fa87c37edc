use Rattle.std.proofs.Common.{◌≡◌, ◌++◌, take}
use Rattle.std.specs.String.{string_bytes}
use Rattle.tfhe_level.specs.Nodes.{nodes_of}
use Rattle.circuit_file.specs.Text.{ops_text}
use Rattle.circuit_file.proofs.printing.put_ops.Given as goal

abbrev pub invariant-loop-number : goal.invariant-loop-number
invariant-loop-number l = string_bytes l.text ≡ string_bytes l.initial.text ++ ops_text 0 (take l.number (nodes_of l.shape))
