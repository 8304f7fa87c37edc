use Rattle.tfhe_level.proofs.ValueRanges.{count_values, count_ranges, values_in_ranges}
use Rattle.tfhe_level.proofs.laws.laws.Goals as goal

pub returns : goal.returns
returns c = record { values = count_values; ranges = count_ranges; values_in_ranges = values_in_ranges c.laws.ensures }
