use Rattle.value_files.proofs.LineLemmas.{all_within}
use Rattle.value_files.proofs.laws.laws.Goals as goal

pub returns : goal.returns
returns c = record { within = λ bytes ranges values. all_within 1 bytes ranges values }
