use Rattle.program_flow.proofs.ProgramFacts.{flow}
use Rattle.program_flow.proofs.laws.laws.Goals as goal

pub returns : goal.returns
returns c = flow (record { files = c.laws.ensures; texts = c.laws-2.ensures; commands = c.laws-3.ensures; flow = c.laws-4.ensures; calls = c.headline.ensures })
