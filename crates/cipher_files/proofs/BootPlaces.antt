-- The rows of a boot key in the order of a file.
use Rattle.std.proofs.Common.{◌≡◌, ◌≢◌, ℕ, ◌+◌, ◌-◌, ◌*◌, ◌/◌, ◌%◌, ◌^◌, ◌<◌, ◌≤◌, List, [], length, map, get_or, ⊎_elim, sym, ap, subst, arith, ◌∙◌}
use Rattle.std.specs.List.{range_with_len}
use Rattle.std.proofs.lemmas.Bool.{cases_eq}
use Rattle.std.proofs.lemmas.List.{same_lists, length-replicate, length-set, get_or_default}
use Rattle.std.proofs.lemmas.List.FromFn.{get_or-map-range_with_len, length-map-range_with_len}
use Rattle.std.proofs.lemmas.Nat.{div-add-mod', div-mul-add, mod-mul-add, mul-add-lt, mod_below, row_below_turned, div_below}
use Rattle.glwe_core.specs.Glwe.{lengths_of}
use Rattle.ggsw_core.specs.Ggsw.{GgswRows, row_lengths}
use Rattle.blind_rotate.specs.BootKey.{GlweShape, BootRows, glwe_shape, boot_rows, shape_lengths, ggsw_at, boot_row, with_boot_row, IsBootKey, HasBootRow}
use Rattle.fhe_params.specs.declared.params.Params.{Params}
use Rattle.blind_rotate.specs.Laws.{ExchangeLaws}
use Rattle.cipher_files.specs.EvalFile.{rows_of_bit, ggsw_of_rows}

-- the number of the row of part j at place t of bit i
abbrev pub row_number : ℕ → ℕ → ℕ → ℕ → ℕ → ℕ
row_number k level i j t = i * ((k + 1) * level) + (j * level + (t - 1))

-- the bit, the part and the place of row r
abbrev pub bit_of : ℕ → ℕ → ℕ → ℕ
bit_of k level r = r / ((k + 1) * level)

abbrev pub part_of : ℕ → ℕ → ℕ → ℕ
part_of k level r = r / level % (k + 1)

abbrev pub place_at : ℕ → ℕ → ℕ
place_at level r = r % level + 1

-- the rows of a bit lie among each other
pub within_bit : (k level j t : ℕ) → j ≤ k → 1 ≤ t → t ≤ level → j * level + (t - 1) < (k + 1) * level
within_bit k level j t part first last =
    let below : j * level + (t - 1) < level * (k + 1) = mul-add-lt j level (t - 1) (k + 1) (omega (arith, part)) (omega (arith, first, last)) in
    omega (arith, below)

-- the bit, the part and the place give the number
pub number_is : (k level r : ℕ) → 1 ≤ level → row_number k level (bit_of k level r) (part_of k level r) (place_at level r) ≡ r
number_is k level r some =
    let q : ℕ = r / level in
    let a : ℕ = q / (k + 1) in
    let j : ℕ = q % (k + 1) in
    let s : ℕ = r % level in
    let rows : ℕ = (k + 1) * level in
    let j_below : j < k + 1 = mod_below q (k + 1) (omega arith) in
    let s_below : s < level = mod_below r level (omega (arith, some)) in
    let inside : j * level + s < rows = omega (arith, mul-add-lt j level s (k + 1) j_below s_below) in
    let split : a * rows + (j * level + s) ≡ r = omega arith ∙ ap (λ (m : ℕ). m * level + s) (div-add-mod' q (k + 1)) ∙ div-add-mod' r level in
    let bit : r / rows ≡ a = ap (λ (m : ℕ). m / rows) (sym split) ∙ div-mul-add a rows (j * level + s) inside in
    let step : s + 1 - 1 ≡ s = omega arith in
    ap (λ (i : ℕ). i * rows + (j * level + (s + 1 - 1))) bit ∙ ap (λ (m : ℕ). a * rows + (j * level + m)) step ∙ split

-- and the number gives them
pub record ArePlaces (k level i j t r : ℕ) : Type 0 where
  pub bit : bit_of k level r ≡ i
  pub part : part_of k level r ≡ j
  pub place : place_at level r ≡ t

pub places_are : (k level i j t : ℕ) → j ≤ k → 1 ≤ t → t ≤ level → ArePlaces k level i j t (row_number k level i j t)
places_are k level i j t part first last =
    let rows : ℕ = (k + 1) * level in
    let inner : ℕ = j * level + (t - 1) in
    let below : t - 1 < level = omega (arith, first, last) in
    let turned : i * rows + inner ≡ (i * (k + 1) + j) * level + (t - 1) = omega arith in
    let whole : (i * rows + inner) / level ≡ i * (k + 1) + j = ap (λ (m : ℕ). m / level) turned ∙ div-mul-add (i * (k + 1) + j) level (t - 1) below in
    let rest : (i * rows + inner) % level ≡ t - 1 = ap (λ (m : ℕ). m % level) turned ∙ mod-mul-add (i * (k + 1) + j) level (t - 1) below in
    record {
      bit = div-mul-add i rows inner (within_bit k level j t part first last);
      part = ap (λ (m : ℕ). m % (k + 1)) whole ∙ mod-mul-add i (k + 1) j (omega (arith, part));
      place = omega (arith, rest, first);
    }

pub number_below : (k level bits i j t : ℕ) → i < bits → j ≤ k → 1 ≤ t → t ≤ level → row_number k level i j t < bits * ((k + 1) * level)
number_below k level bits i j t inside part first last =
    let below : row_number k level i j t < (k + 1) * level * bits = mul-add-lt i ((k + 1) * level) (j * level + (t - 1)) bits inside (within_bit k level j t part first last) in
    omega (arith, below)

-- ---- a boot key that is written row by row

-- of these numbers, with the first r rows written
pub record AreBootRows (f : ℕ → List (List ℕ)) (p : Params) (bits r : ℕ) (key : BootRows) : Type 0 where
  pub is : IsBootKey key
  pub shape : key.shape ≡ glwe_shape p.glwe.k p.glwe.log_n
  pub base : key.base ≡ p.boot.base
  pub level : key.level ≡ p.boot.level
  pub number : length key.ggsws ≡ bits
  pub written :
      (i j t : ℕ) → HasBootRow key i j t → row_number p.glwe.k p.boot.level i j t < r
      → boot_row key i j t ≡ f (row_number p.glwe.k p.boot.level i j t)

-- row r is one of the key
pub has_row : (f : ℕ → List (List ℕ)) (p : Params) (bits r : ℕ) (key : BootRows) → AreBootRows f p bits r key → 1 ≤ p.boot.level → r < bits * rows_of_bit p → HasBootRow key (bit_of p.glwe.k p.boot.level r) (part_of p.glwe.k p.boot.level r) (place_at p.boot.level r)
has_row f p bits r key are some inside =
    let below : r / rows_of_bit p < bits = (row_below_turned r (rows_of_bit p) bits (rows_of_bit p) inside (omega arith)).1 in
    let part : r / p.boot.level % (p.glwe.k + 1) < p.glwe.k + 1 = mod_below (r / p.boot.level) (p.glwe.k + 1) (omega arith) in
    let place : r % p.boot.level < p.boot.level = mod_below r p.boot.level (omega (arith, some)) in
    record {
      bit = omega (arith, below, are.number);
      part = omega (arith, part, ap (λ (s : GlweShape). s.k) are.shape);
      first = omega arith;
      last = omega (arith, place, are.level);
    }

-- two rows with one number are one
apart : (k level r a b c : ℕ) → 1 ≤ level → row_number k level a b c ≢ r → bit_of k level r ≡ a → part_of k level r ≡ b → place_at level r ≡ c → ⊥
apart k level r a b c some other bit part place =
    other (sym (ap (λ (i : ℕ). row_number k level i b c) bit) ∙ sym (ap (λ (j : ℕ). row_number k level (bit_of k level r) j c) part) ∙ sym (ap (λ (t : ℕ). row_number k level (bit_of k level r) (part_of k level r) t) place) ∙ number_is k level r some)

-- one row more
pub row_more : ExchangeLaws → (f : ℕ → List (List ℕ)) (p : Params) (bits r : ℕ) (key : BootRows) (row : List (List ℕ)) → AreBootRows f p bits r key → 1 ≤ p.boot.level → r < bits * rows_of_bit p → lengths_of row ≡ shape_lengths key.shape → row ≡ f r → AreBootRows f p bits (r + 1) (with_boot_row key (bit_of p.glwe.k p.boot.level r) (part_of p.glwe.k p.boot.level r) (place_at p.boot.level r) row)
row_more laws f p bits r key row are some inside fits here_is =
    let i : ℕ = bit_of p.glwe.k p.boot.level r in
    let j : ℕ = part_of p.glwe.k p.boot.level r in
    let t : ℕ = place_at p.boot.level r in
    let has : HasBootRow key i j t = has_row f p bits r key are some inside in
    let new : BootRows = with_boot_row key i j t row in
    let count : length new.ggsws ≡ length key.ggsws = length-set key.ggsws i _ in
    let here : boot_row new i j t ≡ row = laws.row_set key i j t row are.is has in
    record {
      is = laws.stays_key key i j t row are.is has fits;
      shape = are.shape;
      base = are.base;
      level = are.level;
      number = count ∙ are.number;
      written = λ a b c there before.
          let was : HasBootRow key a b c = record { bit = omega (arith, there.bit, count); part = there.part; first = there.first; last = there.last } in
          let m : ℕ = row_number p.glwe.k p.boot.level a b c in
          ⊎_elim
          (λ (same : m ≡ r).
          let part_in : b ≤ p.glwe.k = omega (arith, was.part, ap (λ (s : GlweShape). s.k) are.shape) in
          let last_in : c ≤ p.boot.level = omega (arith, was.last, are.level) in
          let at : ArePlaces p.glwe.k p.boot.level a b c r = subst (ArePlaces p.glwe.k p.boot.level a b c) same (places_are p.glwe.k p.boot.level a b c part_in was.first last_in) in
          sym (ap (λ (i : ℕ). boot_row new i b c) at.bit) ∙ sym (ap (λ (j : ℕ). boot_row new i j c) at.part) ∙ sym (ap (λ (t : ℕ). boot_row new i j t) at.place)
          ∙ here ∙ here_is ∙ ap f (sym same))
          (λ (other : m ≢ r). laws.others_stay key i j t a b c row are.is has was (apart p.glwe.k p.boot.level r a b c some other) ∙ are.written a b c was (omega (arith, before, other)))
          (cases_eq m r);
    }

-- all rows of a bit
bit_written : (f : ℕ → List (List ℕ)) (p : Params) (bits : ℕ) (key : BootRows) → AreBootRows f p bits (bits * rows_of_bit p) key → 1 ≤ p.boot.level → (i : ℕ) → i < bits → ggsw_at key.ggsws i ≡ ggsw_of_rows p f i
bit_written f p bits key are some i inside =
    let rows : ℕ = rows_of_bit p in
    let g : GgswRows = ggsw_at key.ggsws i in
    let empty : GgswRows = record { base = 0; level = 0; rows = [] } in
    let in_key : i < length key.ggsws = omega (arith, inside, are.number) in
    let base : g.base ≡ p.boot.base = are.is.bases i empty in_key ∙ are.base in
    let level : g.level ≡ p.boot.level = are.is.levels i empty in_key ∙ are.level in
    let parts : length (row_lengths g) ≡ p.glwe.k + 1 =
    ap length (are.is.lengths i empty in_key) ∙ length-replicate (key.shape.k + 1) (2 ^ key.shape.log_n) ∙ ap (λ (s : GlweShape). s.k + 1) are.shape in
    let number : length g.rows ≡ rows =
    (are.is.ciphertexts i empty in_key).number ∙ ap (λ (n : ℕ). n * g.level) parts ∙ ap (λ (l : ℕ). (p.glwe.k + 1) * l) level in
    let here_is : List (List (List ℕ)) = map f (range_with_len (i * rows) rows) in
    let same : g.rows ≡ here_is =
    same_lists g.rows here_is (number ∙ sym (length-map-range_with_len f (i * rows) rows))
    (λ m d below.
    let in_rows : m < rows = omega (arith, below, number) in
    let j : ℕ = m / p.boot.level in
    let t : ℕ = m % p.boot.level + 1 in
    let j_below : j < p.glwe.k + 1 = div_below m p.boot.level (p.glwe.k + 1) (omega (arith, some)) in_rows in
    let t_below : m % p.boot.level < p.boot.level = mod_below m p.boot.level (omega (arith, some)) in
    let step : m % p.boot.level + 1 - 1 ≡ m % p.boot.level = omega arith in
    let back : j * p.boot.level + (t - 1) ≡ m = ap (λ (s : ℕ). j * p.boot.level + s) step ∙ div-add-mod' m p.boot.level in
    let place : j * g.level + (t - 1) ≡ m = ap (λ (l : ℕ). j * l + (t - 1)) level ∙ back in
    let has : HasBootRow key i j t = record {
      bit = in_key;
      part = omega (arith, j_below, ap (λ (s : GlweShape). s.k) are.shape);
      first = omega arith;
      last = omega (arith, t_below, are.level);
    } in
    let before : row_number p.glwe.k p.boot.level i j t < bits * rows = number_below p.glwe.k p.boot.level bits i j t inside (omega (arith, j_below)) (omega arith) (omega (arith, t_below)) in
    get_or_default g.rows m d [] below ∙ ap (λ (n : ℕ). get_or g.rows n []) (sym place) ∙ are.written i j t has before ∙ ap (λ (n : ℕ). f (i * rows + n)) back
    ∙ sym (get_or-map-range_with_len f (i * rows) rows m (i * rows + m) d in_rows (omega arith))) in
    ap (λ (b : ℕ). record { base = b; level = g.level; rows = g.rows }) base ∙ ap (λ (l : ℕ). record { base = p.boot.base; level = l; rows = g.rows }) level
    ∙ ap (λ (rs : List (List (List ℕ))). record { base = p.boot.base; level = p.boot.level; rows = rs }) same

-- all rows
pub all_written : (f : ℕ → List (List ℕ)) (p : Params) (bits : ℕ) (key : BootRows) → AreBootRows f p bits (bits * rows_of_bit p) key → 1 ≤ p.boot.level → key ≡ boot_rows p.glwe.k p.glwe.log_n p.boot.base p.boot.level (map (ggsw_of_rows p f) (range_with_len 0 bits))
all_written f p bits key are some =
    let here_is : List GgswRows = map (ggsw_of_rows p f) (range_with_len 0 bits) in
    let empty : GgswRows = record { base = 0; level = 0; rows = [] } in
    let same : key.ggsws ≡ here_is =
    same_lists key.ggsws here_is (are.number ∙ sym (length-map-range_with_len (ggsw_of_rows p f) 0 bits))
    (λ i d inside.
    let below : i < bits = omega (arith, inside, are.number) in
    get_or_default key.ggsws i d empty inside ∙ bit_written f p bits key are some i below
    ∙ sym (get_or-map-range_with_len (ggsw_of_rows p f) 0 bits i i d below (omega arith))) in
    ap (λ (s : GlweShape). record { shape = s; base = key.base; level = key.level; ggsws = key.ggsws }) are.shape
    ∙ ap (λ (b : ℕ). record { shape = glwe_shape p.glwe.k p.glwe.log_n; base = b; level = key.level; ggsws = key.ggsws }) are.base
    ∙ ap (λ (l : ℕ). record { shape = glwe_shape p.glwe.k p.glwe.log_n; base = p.boot.base; level = l; ggsws = key.ggsws }) are.level
    ∙ ap (λ (gs : List GgswRows). boot_rows p.glwe.k p.glwe.log_n p.boot.base p.boot.level gs) same

-- before the first row
pub none_written : (f : ℕ → List (List ℕ)) (p : Params) (bits : ℕ) (key : BootRows) → IsBootKey key → key.shape ≡ glwe_shape p.glwe.k p.glwe.log_n → key.base ≡ p.boot.base → key.level ≡ p.boot.level → length key.ggsws ≡ bits → AreBootRows f p bits 0 key
none_written f p bits key is shape base level number = record {
  is = is;
  shape = shape;
  base = base;
  level = level;
  number = number;
  written = λ i j t has before. absurd (omega (arith, before));
}

-- the row that comes out has the shape of the key's
pub row_shape : (key : BootRows) (i j t : ℕ) → IsBootKey key → HasBootRow key i j t → lengths_of (boot_row key i j t) ≡ shape_lengths key.shape
row_shape key i j t is has =
    let empty : GgswRows = record { base = 0; level = 0; rows = [] } in
    let g : GgswRows = ggsw_at key.ggsws i in
    let lengths : row_lengths g ≡ shape_lengths key.shape = is.lengths i empty has.bit in
    let parts : length (row_lengths g) ≡ key.shape.k + 1 = ap length lengths ∙ length-replicate (key.shape.k + 1) (2 ^ key.shape.log_n) in
    let level : g.level ≡ key.level = is.levels i empty has.bit in
    let number : length g.rows ≡ (key.shape.k + 1) * g.level = (is.ciphertexts i empty has.bit).number ∙ ap (λ (n : ℕ). n * g.level) parts in
    let inside : j * g.level + (t - 1) < (key.shape.k + 1) * g.level = within_bit key.shape.k g.level j t has.part has.first (omega (arith, has.last, level)) in
    (is.ciphertexts i empty has.bit).shapes (j * g.level + (t - 1)) [] (omega (arith, inside, number)) ∙ lengths
