-- What stands at place 0 of a test polynomial that was rotated.
use Rattle.std.proofs.Common.{◌≡◌, ℕ, zero, suc, ◌+◌, ◌-◌, ◌*◌, ◌/◌, ◌%◌, ◌^◌, ◌<◌, ◌≤◌, ℤ, List, length, get_or, cond, ltb, arith, ap, sym, ◌∙◌, ⊎_elim, mul_comm, zero-add}
use Rattle.std.proofs.Math.Nat.{mod-eq_of_lt, mod_self, mod-eq-sub-mod, div-eq_of_lt, mul-le-mul_right}
use Rattle.std.proofs.lemmas.Nat.{pow-add, pow_pos, shl-shr, div-add-mod', mod_below, div-mul-add}
use Rattle.std.proofs.lemmas.Bool.{cases_lt, cond-true, cond-false, lt-ltb, le-ltb}
use Rattle.std.proofs.lemmas.List.FromFn.{length-map-range_with_len, get_or-map-range_with_len}
use Rattle.word_ring.specs.Words.{word_negation}
use Rattle.lwe_core.specs.Decoding.{encoded}
use Rattle.negacyclic.specs.Product.{rotation}
use Rattle.negacyclic.specs.Laws.{RotationLaws}
use Rattle.lut_encode.specs.TestPolynomial.{box_of, half_box, entry_at, test_coefficient, test_polynomial}
use Rattle.lut_encode.specs.Laws.{box_at, LookupLaws}

-- n coefficients in boxes of 2*h, one for each of w values
record Boxes (n w box h : ℕ) : Type 0 where
  pub some : 1 ≤ h
  pub halves : box ≡ 2 * h
  pub values : 1 ≤ w
  pub whole : w * box ≡ n

-- those of a table
boxes : (log_n width : ℕ) → width < log_n → Boxes (2 ^ log_n) (2 ^ width) (box_of (2 ^ log_n) width) (half_box (2 ^ log_n) width)
boxes log_n width below =
    let more : ℕ = log_n - width - 1 in
    let w : ℕ = 2 ^ width in
    let apart : log_n ≡ log_n - width + width = omega arith in
    let parts : 2 ^ log_n ≡ 2 ^ (log_n - width) * w = ap (λ k. 2 ^ k) apart ∙ pow-add 2 (log_n - width) width in
    let is : 2 ^ log_n / w ≡ 2 ^ (log_n - width) = ap (λ x. x / w) parts ∙ shl-shr (2 ^ (log_n - width)) width in
    let one : log_n - width ≡ 1 + more = omega arith in
    let twice : 2 ^ (log_n - width) ≡ 2 ^ 1 * 2 ^ more = ap (λ k. 2 ^ k) one ∙ pow-add 2 1 more in
    record {
      some = omega (arith, is, twice, pow_pos more);
      halves = omega (arith, is, twice);
      values = pow_pos width;
      whole = ap (λ b. w * b) is ∙ mul_comm w (2 ^ (log_n - width)) ∙ sym parts;
    }

-- a box has places
box_pos : (n w box h : ℕ) → Boxes n w box h → 0 < box
box_pos n w box h is = omega (arith, is.some, is.halves)

-- half a box is less than all places
half_below : (n w box h : ℕ) → Boxes n w box h → h < n
half_below n w box h is =
    let one : 1 * box ≤ w * box = mul-le-mul_right box is.values in
    omega (arith, is.some, is.halves, is.whole)

-- a place whose box has a value stands half a box before n at most
first_half : (n w box h m v : ℕ) → Boxes n w box h → m + h < 2 * n → v < w → (m + h) % (2 * n) / box ≡ v → m + h < n
first_half n w box h m v is low below at =
    let same : (m + h) % (2 * n) ≡ m + h = mod-eq_of_lt low in
    let quotient : (m + h) / box ≡ v = ap (λ x. x / box) (sym same) ∙ at in
    let parts : v * box + (m + h) % box ≡ m + h = ap (λ q. q * box + (m + h) % box) (sym quotient) ∙ div-add-mod' (m + h) box in
    let left : (m + h) % box < box = mod_below (m + h) box (box_pos n w box h is) in
    let room : (v + 1) * box ≤ w * box = mul-le-mul_right box (omega arith) in
    let split : (v + 1) * box ≡ v * box + box = omega arith in
    omega (arith, is.whole)

-- in the circle's last half box the box is the first
last_half_box : (n w box h m : ℕ) → Boxes n w box h → m < 2 * n → 2 * n ≤ m + h → (m + h) % (2 * n) / box ≡ 0
last_half_box n w box h m is below past =
    let left : ℕ = m + h - 2 * n in
    let few : left < 2 * n = omega (arith, half_below n w box h is) in
    let small : left < box = omega (arith, is.some, is.halves) in
    ap (λ x. x / box) (mod-eq-sub-mod past ∙ mod-eq_of_lt few) ∙ div-eq_of_lt small

-- the word at a place below 2N of a polynomial
place_of : List ℕ → ℕ → ℕ
place_of p m = cond (ltb m (length p)) (get_or p m 0 % 2 ^ 64) (word_negation (get_or p (m - length p) 0))

-- a rotation by 2N - m leaves 2N - m of 2N
back : (n m : ℕ) → m < 2 * n → (0 + (2 * n - (2 * n - m) % (2 * n))) % (2 * n) ≡ m
back n zero below =
    let all : 2 * n - 0 ≡ 2 * n = omega arith in
    let turned : (2 * n - 0) % (2 * n) ≡ 0 = ap (λ x. x % (2 * n)) all ∙ mod_self (2 * n) in
    let there : 0 + (2 * n - 0) ≡ 2 * n = omega arith in
    ap (λ r. (0 + (2 * n - r)) % (2 * n)) turned ∙ ap (λ x. x % (2 * n)) there ∙ mod_self (2 * n)
back n (suc m) below =
    let few : 2 * n - suc m < 2 * n = omega arith in
    let there : 0 + (2 * n - (2 * n - suc m)) ≡ suc m = omega arith in
    ap (λ r. (0 + (2 * n - r)) % (2 * n)) (mod-eq_of_lt few) ∙ ap (λ x. x % (2 * n)) there ∙ mod-eq_of_lt below

-- what X^(-m) brings to place 0
brought : RotationLaws → (p : List ℕ) (n m : ℕ) → length p ≡ n → m < 2 * n → get_or (rotation (2 * n - m) p) 0 0 ≡ place_of p m
unfolding place_of
brought rotations p n m long below =
    let inside : m < 2 * length p = omega arith in
    ap (λ k. get_or (rotation (2 * k - m) p) 0 0) (sym long)
    ∙ rotations.rotation_moves (2 * length p - m) p 0 (omega arith)
    ∙ ap (λ place. cond (ltb place (length p)) (get_or p place 0 % 2 ^ 64) (word_negation (get_or p (place - length p) 0))) (back (length p) m inside)

low_place : (p : List ℕ) (n m : ℕ) → length p ≡ n → m < n → place_of p m ≡ get_or p m 0 % 2 ^ 64
unfolding place_of
low_place p n m long below =
    cond-true (ltb m (length p)) (get_or p m 0 % 2 ^ 64) (word_negation (get_or p (m - length p) 0)) (lt-ltb m (length p) (omega arith))

high_place : (p : List ℕ) (n m : ℕ) → length p ≡ n → n ≤ m → place_of p m ≡ word_negation (get_or p (m - n) 0)
unfolding place_of
high_place p n m long past =
    cond-false (ltb m (length p)) (get_or p m 0 % 2 ^ 64) (word_negation (get_or p (m - length p) 0)) (le-ltb m (length p) (omega arith))
    ∙ ap (λ k. word_negation (get_or p (m - k) 0)) long

-- the coefficients of a test polynomial
table_length : (entries : List ℤ) (n width : ℕ) → length (test_polynomial entries n width) ≡ n
table_length entries n width = length-map-range_with_len (test_coefficient entries n width) 0 n

table_at : (entries : List ℤ) (n width j : ℕ) → j < n → get_or (test_polynomial entries n width) j 0 ≡ test_coefficient entries n width j
table_at entries n width j inside = get_or-map-range_with_len (test_coefficient entries n width) 0 n j j 0 inside (zero-add j)

-- half a box before the end they are entries
entry_there : (entries : List ℤ) (n width j : ℕ) → j + half_box n width < n → test_coefficient entries n width j ≡ encoded width (entry_at entries ((j + half_box n width) / box_of n width))
entry_there entries n width j inside =
    cond-true (ltb j (n - half_box n width)) (encoded width (entry_at entries ((j + half_box n width) / box_of n width))) (word_negation (encoded width (entry_at entries 0)))
    (lt-ltb j (n - half_box n width) (omega arith))

-- and from there on the first, negated
first_there : (entries : List ℤ) (n width j : ℕ) → n ≤ j + half_box n width → test_coefficient entries n width j ≡ word_negation (encoded width (entry_at entries 0))
first_there entries n width j past =
    cond-false (ltb j (n - half_box n width)) (encoded width (entry_at entries ((j + half_box n width) / box_of n width))) (word_negation (encoded width (entry_at entries 0)))
    (le-ltb j (n - half_box n width) (omega arith))

-- encodings are words
word_is : (width : ℕ) (value : ℤ) → encoded width value % 2 ^ 64 ≡ encoded width value
word_is width value = omega arith

turned_word : (width : ℕ) (value : ℤ) → word_negation (encoded width value) % 2 ^ 64 ≡ word_negation (encoded width value)
turned_word width value = omega arith

twice_turned : (width : ℕ) (value : ℤ) → word_negation (word_negation (encoded width value)) ≡ encoded width value
twice_turned width value = omega arith

pub looked_up : RotationLaws → (entries : List ℤ) (log_n width m v : ℕ) → width < log_n → m < 2 * 2 ^ log_n → v < 2 ^ width → box_at (2 ^ log_n) width m ≡ v → get_or (rotation (2 * 2 ^ log_n - m) (test_polynomial entries (2 ^ log_n) width)) 0 0 ≡ encoded width (entry_at entries v)
looked_up rotations entries log_n width m v fits below few at =
    let n : ℕ = 2 ^ log_n in
    let box : ℕ = box_of n width in
    let h : ℕ = half_box n width in
    let is : Boxes n (2 ^ width) box h = boxes log_n width fits in
    let test : List ℕ = test_polynomial entries n width in
    brought rotations test n m (table_length entries n width) below
    ∙ ⊎_elim
    (λ (low : m + h < 2 * n).
    let inside : m + h < n = first_half n (2 ^ width) box h m v is low few at in
    let here : m < n = omega arith in
    low_place test n m (table_length entries n width) here
    ∙ ap (λ w. w % 2 ^ 64) (table_at entries n width m here ∙ entry_there entries n width m inside)
    ∙ word_is width (entry_at entries ((m + h) / box))
    ∙ ap (λ u. encoded width (entry_at entries u)) (ap (λ x. x / box) (sym (mod-eq_of_lt low)) ∙ at))
    (λ (past : 2 * n ≤ m + h).
    let zero_is : 0 ≡ v = sym (last_half_box n (2 ^ width) box h m is below past) ∙ at in
    let over : n ≤ m = omega (arith, half_below n (2 ^ width) box h is) in
    let inside : m - n < n = omega arith in
    let tail : n ≤ m - n + h = omega arith in
    high_place test n m (table_length entries n width) over
    ∙ ap word_negation (table_at entries n width (m - n) inside ∙ first_there entries n width (m - n) tail)
    ∙ twice_turned width (entry_at entries 0)
    ∙ ap (λ u. encoded width (entry_at entries u)) zero_is)
    (cases_lt (m + h) (2 * n))

-- a place whose box is past those of the values has the place half a circle before in its box
past_value : (n w box h m v : ℕ) → Boxes n w box h → m < 2 * n → v < w → (m + h) % (2 * n) / box ≡ w + v → (n ≤ m + h) × (m + h < n + n) × ((m + h - n) / box ≡ v) × (m + h - n < n)
past_value n w box h m v is below few at =
    ⊎_elim
    (λ (low : m + h < 2 * n).
    let same : (m + h) % (2 * n) ≡ m + h = mod-eq_of_lt low in
    let quotient : (m + h) / box ≡ w + v = ap (λ x. x / box) (sym same) ∙ at in
    let left : ℕ = (m + h) % box in
    let parts : (w + v) * box + left ≡ m + h = ap (λ q. q * box + left) (sym quotient) ∙ div-add-mod' (m + h) box in
    let short : left < box = mod_below (m + h) box (box_pos n w box h is) in
    let split : (w + v) * box ≡ w * box + v * box = omega arith in
    let rest : m + h - n ≡ v * box + left = omega (arith, is.whole) in
    (omega (arith, is.whole), omega arith, ap (λ x. x / box) rest ∙ div-mul-add v box left short, omega arith))
    (λ (past : 2 * n ≤ m + h).
    let none : 0 ≡ w + v = sym (last_half_box n w box h m is below past) ∙ at in
    absurd (omega (arith, is.values)))
    (cases_lt (m + h) (2 * n))

pub looked_up_past : RotationLaws → (entries : List ℤ) (log_n width m v : ℕ) → width < log_n → m < 2 * 2 ^ log_n → v < 2 ^ width → box_at (2 ^ log_n) width m ≡ 2 ^ width + v → get_or (rotation (2 * 2 ^ log_n - m) (test_polynomial entries (2 ^ log_n) width)) 0 0 ≡ word_negation (encoded width (entry_at entries v))
looked_up_past rotations entries log_n width m v fits below few at =
    let n : ℕ = 2 ^ log_n in
    let box : ℕ = box_of n width in
    let h : ℕ = half_box n width in
    let is : Boxes n (2 ^ width) box h = boxes log_n width fits in
    let test : List ℕ = test_polynomial entries n width in
    let there = past_value n (2 ^ width) box h m v is below few at in
    brought rotations test n m (table_length entries n width) below
    ∙ ⊎_elim
    (λ (low : m < n).
    let first : 0 ≡ v = sym (div-eq_of_lt (let small : m + h - n < box = omega (arith, is.some, is.halves) in small)) ∙ there.2 in
    low_place test n m (table_length entries n width) low
    ∙ ap (λ w. w % 2 ^ 64) (table_at entries n width m low ∙ first_there entries n width m there.0)
    ∙ turned_word width (entry_at entries 0)
    ∙ ap (λ u. word_negation (encoded width (entry_at entries u))) first)
    (λ (high : n ≤ m).
    let inside : m - n + h < n = omega (arith, there.3) in
    let same : m - n + h ≡ m + h - n = omega arith in
    let here : m - n < n = omega arith in
    high_place test n m (table_length entries n width) high
    ∙ ap word_negation (table_at entries n width (m - n) here ∙ entry_there entries n width (m - n) inside)
    ∙ ap (λ u. word_negation (encoded width (entry_at entries u))) (ap (λ x. x / box) same ∙ there.2))
    (cases_lt m n)

pub lookups : RotationLaws → LookupLaws
lookups rotations = record { looked_up = looked_up rotations; looked_up_past = looked_up_past rotations }
