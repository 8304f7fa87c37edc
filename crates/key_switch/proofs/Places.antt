-- Where the rows of a key stand.
use Rattle.std.proofs.Common.{◌≡◌, ◌≢◌, ℕ, ◌+◌, ◌-◌, ◌*◌, ◌<◌, ◌≤◌, [], length, arith}
use Rattle.std.proofs.lemmas.Nat.{mul-add-lt, same_from_place}
use Rattle.std.proofs.lemmas.List.{length-set, get_or-set_same, get_or-set_other}
use Rattle.std.proofs.lemmas.List.Elements.{All-set}
use Rattle.std.proofs.Common.{◌∙◌}
use Rattle.key_switch.specs.Key.{place_of}
use Rattle.key_switch.specs.Laws.{ExchangeLaws}

-- row (i, t) stands within the rows
pub place_inside : (big_dim level i t n : ℕ) → n ≡ big_dim * level → i < big_dim → 1 ≤ t → t ≤ level → i * level + (t - 1) < n
place_inside big_dim level i t n count inside least most = omega (arith, mul-add-lt i level (t - 1) big_dim inside (omega arith))

-- no two rows stand at one place
places_differ : (level i t j u : ℕ) → 1 ≤ t → t ≤ level → 1 ≤ u → u ≤ level → (i ≡ j → t ≡ u → ⊥) → place_of level j u ≢ place_of level i t
places_differ level i t j u first last first' last' apart = λ same.
    let both = same_from_place j (u - 1) i (t - 1) level (omega arith) (omega arith) same in
    let bit : i ≡ j = omega arith in
    let place : t ≡ u = omega arith in
    apart bit place

pub exchanges : ExchangeLaws
exchanges = record {
  stays_key = λ key i t row is long. record {
    gadget = is.gadget;
    count = length-set key.rows (place_of key.level i t) row ∙ is.count;
    long = All-set (λ r. length r ≡ key.small_dim + 1) key.rows (place_of key.level i t) row long is.long;
  };
  row_set = λ key i t row is has. get_or-set_same key.rows (place_of key.level i t) row [] (place_inside key.big_dim key.level i t (length key.rows) is.count has.word has.first has.last);
  others_stay = λ key i t j u row has other apart. get_or-set_other key.rows (place_of key.level i t) (place_of key.level j u) row [] (places_differ key.level i t j u has.first has.last other.first other.last apart);
}
