use Rattle.std.proofs.Common.{◌≡◌, ◌++◌, take, map, pos}
use Rattle.std.specs.String.{string_bytes}
use Rattle.std.specs.List.{flat_map}
use Rattle.circuit_lines.specs.Lines.{term_text}
use Rattle.circuit_file.proofs.printing.put_terms.Given as goal

abbrev pub invariant-loop-term : goal.invariant-loop-term
invariant-loop-term l = string_bytes l.text ≡ string_bytes l.initial.text ++ flat_map term_text (map (λ t. (pos t.0, t.1)) (take l.term-index l.terms))
