use Rattle.circuit_nodes.proofs.Few.{few_kept}
use Rattle.circuit_nodes.proofs.LineRules.{found, operations, rules, numbers, natural, kept}
use Rattle.circuit_nodes.proofs.Widths.{test}
use Rattle.circuit_nodes.proofs.laws.laws.Goals as goal

pub returns-clause-lines : goal.returns-clause-lines
returns-clause-lines c = record { few = few_kept; found = λ lines. found lines (few_kept lines); operations = operations; rules = rules; numbers = numbers; natural = natural; kept = kept }

pub returns-clause-width : goal.returns-clause-width
returns-clause-width c = record { test = test }
