use Rattle.std.proofs.Common.{◌≡◌, ◌++◌, take}
use Rattle.std.specs.List.{flat_map}
use Rattle.std.specs.String.{string_bytes}
use Rattle.cost_cert.specs.Certificate.{constraint_line}
use Rattle.cost_cert.proofs.certificate.put_constraints.Given as goal

abbrev pub invariant-loop-compared : goal.invariant-loop-compared
invariant-loop-compared l = string_bytes l.text ≡ string_bytes l.initial.text ++ flat_map constraint_line (take l.compared-index l.list)
