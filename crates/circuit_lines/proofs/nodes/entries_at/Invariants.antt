use Rattle.std.proofs.Common.{◌≡◌, length, take}
use Rattle.std.specs.Prelude.{codes}
use Rattle.circuit_lines.specs.Numbers.{field_at}
use Rattle.circuit_lines.specs.Reading.{entries_at}
use Rattle.circuit_lines.specs.Many.{many, StandsAt}
use Rattle.circuit_lines.proofs.nodes.entries_at.Given as goal

abbrev pub invariant-loop : goal.invariant-loop
invariant-loop l = StandsAt (λ _. field_at l.line (codes " ")) (length l.bytes) 0 l.bytes l.counter l.rest × (l.entries.items ≡ take l.counter (many (λ _. field_at l.line (codes " ")) (length l.bytes) 0 l.bytes).0)
