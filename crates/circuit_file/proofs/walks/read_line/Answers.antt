use Rattle.circuit_lines.specs.Reading.{node_line_at, out_line_at}
use Rattle.circuit_file.proofs.WalkLemmas.{left_by}
use Rattle.circuit_file.proofs.walks.read_line.Goals as goal

pub returns-in-Nodes-clause-left : goal.returns-in-Nodes-clause-left
returns-in-Nodes-clause-left c = left_by (λ x. (x.0, x.1.now)) (node_line_at c.args.line c.args.bytes.now) c.args.bytes.now (c.laws.ensures.fronts.node c.args.line c.args.bytes.now) c.read_node.result c.read_node.ensures

pub returns-in-Outs-clause-left : goal.returns-in-Outs-clause-left
returns-in-Outs-clause-left c = left_by (λ x. (x.0, x.1.now)) (out_line_at c.args.line c.args.bytes.now) c.args.bytes.now (c.laws.ensures.fronts.out c.args.line c.args.bytes.now) c.read_out.result c.read_out.ensures
