use Rattle.negacyclic.proofs.Sizes.{sum_of_places, sum_of_range}
use Rattle.negacyclic.proofs.laws.laws.Goals as goal

pub returns-clause-sums : goal.returns-clause-sums
returns-clause-sums c = record { sum_of_places = sum_of_places; sum_of_range = sum_of_range }
