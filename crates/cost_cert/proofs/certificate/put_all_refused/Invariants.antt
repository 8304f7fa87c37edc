use Rattle.std.proofs.Common.{◌≡◌, ◌++◌, take}
use Rattle.std.specs.List.{flat_map}
use Rattle.std.specs.String.{string_bytes}
use Rattle.cost_cert.specs.Certificate.{refused_line}
use Rattle.cost_cert.proofs.certificate.put_all_refused.Given as goal

abbrev pub invariant-loop-refused : goal.invariant-loop-refused
invariant-loop-refused l = string_bytes l.text ≡ string_bytes l.initial.text ++ flat_map refused_line (take l.refused-index l.list)
