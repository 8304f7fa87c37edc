use Rattle.command_flow.proofs.CallFacts.{four_calls}
use Rattle.command_flow.proofs.laws.headline.Goals as goal

pub returns : goal.returns
returns c = four_calls c.laws.ensures
