-- Lists that are written in order, and the rows of a switch key.
use Rattle.std.proofs.Common.{◌≡◌, ℕ, ◌+◌, ◌-◌, ◌*◌, ◌/◌, ◌%◌, ◌<◌, ◌≤◌, List, [], ◌∷◌, ◌++◌, length, take, set, get_or, map, refl, sym, ap, arith, ◌∙◌}
use Rattle.std.specs.List.{range_with_len}
use Rattle.std.proofs.lemmas.List.{take_more_set, take_all, length-set}
use Rattle.std.proofs.lemmas.List.FromFn.{map-range_with_len_more}
use Rattle.std.proofs.lemmas.Nat.{div-add-mod', row_below_turned}
use Rattle.word_ring.specs.Rows.{AllOfLength}
use Rattle.key_switch.specs.Key.{SwitchRows, switch_rows, place_of, row_of, with_row}

-- one element more
pub written_more : {X : Type 0} (f : ℕ → X) (xs : List X) (start i : ℕ) (x : X) → i < length xs → take i xs ≡ map f (range_with_len start i) → x ≡ f (start + i) → take (i + 1) (set xs i x) ≡ map f (range_with_len start (i + 1))
written_more f xs start i x inside before is =
    take_more_set xs i x inside ∙ ap (λ ys. ys ++ x ∷ []) before ∙ ap (λ y. map f (range_with_len start i) ++ y ∷ []) is ∙ sym (map-range_with_len_more f start i (start + i) refl)

-- row r stands for bit r / level and place r % level + 1
place_is : (level r : ℕ) → place_of level (r / level) (r % level + 1) ≡ r
place_is level r = omega (arith, div-add-mod' r level)

pub bit_below : (level bits r : ℕ) → 1 ≤ level → r < bits * level → r / level < bits
bit_below level bits r some below = (row_below_turned r level bits level below (omega arith)).1

-- a switch key of which the first r rows are written, and a row that is to be written
pub record AreWritten (f : ℕ → List ℕ) (big small base level r : ℕ) (key : SwitchRows) (row : List ℕ) : Type 0 where
  pub written : take r key.rows ≡ map f (range_with_len 0 r)
  pub count : length key.rows ≡ big * level
  pub shape : key ≡ switch_rows big small base level key.rows
  pub long : length row ≡ small + 1

-- the place of row r in the key
pub place_in : (level other r : ℕ) → other ≡ level → place_of other (r / level) (r % level + 1) ≡ r
place_in level other r same = ap (λ (l : ℕ). place_of l (r / level) (r % level + 1)) same ∙ place_is level r

-- one row more
pub row_written : (f : ℕ → List ℕ) (big small base level r : ℕ) (key : SwitchRows) (old words row : List ℕ) → AreWritten f big small base level r key old → AllOfLength (key.small_dim + 1) key.rows → r < big * level
    → words ≡ f r → row ≡ row_of key.level key.rows (r / level) (r % level + 1) → AreWritten f big small base level (r + 1) (with_row key (r / level) (r % level + 1) words) row
row_written f big small base level r key old words row before all below is taken =
    let place : place_of key.level (r / level) (r % level + 1) ≡ r = place_in level key.level r (ap (λ (k : SwitchRows). k.level) before.shape) in
    let inside : r < length key.rows = omega (arith, below, before.count) in
    let small_is : key.small_dim ≡ small = ap (λ (k : SwitchRows). k.small_dim) before.shape in
    record {
      written = ap (λ (p : ℕ). take (r + 1) (set key.rows p words)) place ∙ written_more f key.rows 0 r words inside before.written (is ∙ ap f (omega arith));
      count = length-set key.rows (place_of key.level (r / level) (r % level + 1)) words ∙ before.count;
      shape = ap (λ (k : SwitchRows). switch_rows k.big_dim k.small_dim k.base k.level (set key.rows (place_of key.level (r / level) (r % level + 1)) words)) before.shape;
      long = ap length taken ∙ ap (λ (p : ℕ). length (get_or key.rows p [])) place ∙ all r [] inside ∙ ap (λ (n : ℕ). n + 1) small_is;
    }

-- all rows
pub switch_written : (f : ℕ → List ℕ) (big small base level r : ℕ) (key : SwitchRows) (row : List ℕ) → AreWritten f big small base level r key row → r ≡ big * level → key ≡ switch_rows big small base level (map f (range_with_len 0 (big * level)))
switch_written f big small base level r key row are end =
    are.shape ∙ ap (switch_rows big small base level) (sym (take_all r key.rows (omega (arith, are.count, end))) ∙ are.written ∙ ap (λ (m : ℕ). map f (range_with_len 0 m)) end)

-- where a row stands, by the number of digits that code and contract have
pub row_place_is : (level other r : ℕ) → level ≡ other → r / level * other + (r % level + 1 - 1) ≡ r
row_place_is level other r same = ap (λ (l : ℕ). r / level * l + (r % level + 1 - 1)) (sym same) ∙ omega (arith, div-add-mod' r level)
