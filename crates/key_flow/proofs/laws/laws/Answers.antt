use Rattle.key_flow.proofs.Flow.{flow}
use Rattle.key_flow.proofs.laws.laws.Goals as goal

pub returns : goal.returns
returns c = flow c.laws.ensures.keys c.laws.ensures.boot_keys c.laws-2.ensures.noise c.laws-3.ensures.matching c.laws-4.ensures
