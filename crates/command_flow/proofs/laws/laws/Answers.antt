use Rattle.command_flow.proofs.FlowFacts.{flow}
use Rattle.command_flow.proofs.laws.laws.Goals as goal

pub returns : goal.returns
returns c = flow (record { files = c.laws.ensures; texts = c.laws-2.ensures; matching = c.laws-3.ensures.matching; values = c.laws-4.ensures; commands = c.laws-5.ensures })
