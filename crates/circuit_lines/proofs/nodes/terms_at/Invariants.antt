use Rattle.std.proofs.Common.{◌≡◌, length, take}
use Rattle.circuit_lines.specs.Reading.{term_at, terms_at}
use Rattle.circuit_lines.specs.Many.{many, StandsAt}
use Rattle.circuit_lines.proofs.nodes.terms_at.Given as goal

abbrev pub invariant-loop : goal.invariant-loop
invariant-loop l = StandsAt (λ _. term_at l.line) (length l.bytes) 0 l.bytes l.counter l.rest × (l.terms.items ≡ take l.counter (many (λ _. term_at l.line) (length l.bytes) 0 l.bytes).0)
