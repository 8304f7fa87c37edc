use Rattle.std.proofs.Common.{◌≡◌, ◌++◌, take}
use Rattle.std.specs.String.{string_bytes}
use Rattle.fhe_text.specs.Printing.{statements_text}
use Rattle.fhe_text.proofs.printing.put_statements.Given as goal

abbrev pub invariant-loop-place : goal.invariant-loop-place
invariant-loop-place l = string_bytes l.text ≡ string_bytes l.initial.text ++ statements_text l.args 0 (take l.place l.body)
