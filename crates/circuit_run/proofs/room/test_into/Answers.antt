use Rattle.std.proofs.Common.{◌∙◌, length, ap}
use Rattle.circuit_run.proofs.Terms.{length-test}
use Rattle.circuit_run.proofs.room.test_into.Goals as goal

pub returns-clause-length : goal.returns-clause-length
returns-clause-length c = ap length c.test_poly_into.ensures ∙ length-test c.args.entries.now (length c.args.test.now) c.args.width
