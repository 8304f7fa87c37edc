use Rattle.key_commands.proofs.KeyLemmas.{fitting_long}
use Rattle.key_commands.proofs.decrypt.check_key.Goals as goal

pub returns-in-Ok-clause-long : goal.returns-in-Ok-clause-long
returns-in-Ok-clause-long c = fitting_long c.laws.ensures.matching c.args.digest.now c.args.big.now c.args.head.now c.in-Ok.ensures
