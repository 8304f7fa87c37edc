use Rattle.linear_forms.specs.Staying.{terms_count, value_stays, range_stays}
use Rattle.linear_forms.proofs.Values.{terms_below, terms_rising, terms_weights, value_combined, constant_size, weight_size}
use Rattle.linear_forms.proofs.laws.laws.Goals as goal

pub returns : goal.returns
returns c = record {
  rising = terms_rising;
  below = terms_below;
  weights = terms_weights;
  count = terms_count;
  value = value_combined;
  value_stays = value_stays;
  range_stays = range_stays;
  constant_size = constant_size;
  weight_size = weight_size;
}
