use Rattle.circuit_file.proofs.Walked.{given_circuit}
use Rattle.circuit_file.proofs.ReadBack.{given_rules}
use Rattle.circuit_file.proofs.reader.read_circuit.Goals as goal

pub returns-clause-exact : goal.returns-clause-exact
returns-clause-exact c = given_circuit c.laws-2.ensures.lines c.args.bytes.now c.circuit_by_walk.result c.circuit_by_walk.ensures

pub returns-clause-rules : goal.returns-clause-rules
returns-clause-rules c = given_rules c.laws.ensures c.args.bytes.now c.circuit_by_walk.result (given_circuit c.laws-2.ensures.lines c.args.bytes.now c.circuit_by_walk.result c.circuit_by_walk.ensures)
