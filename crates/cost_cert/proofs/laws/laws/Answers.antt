use Rattle.cost_cert.proofs.Prefixes.{same_is}
use Rattle.cost_cert.proofs.TextSize.{text_size}
use Rattle.cost_cert.proofs.laws.laws.Goals as goal

pub returns-clause-texts : goal.returns-clause-texts
returns-clause-texts c = record { size = text_size c.laws.ensures.tables c.laws-2.ensures.search }

pub returns-clause-check : goal.returns-clause-check
returns-clause-check c = record { same = same_is }
