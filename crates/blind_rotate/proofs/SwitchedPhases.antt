-- What switching to 2N places leaves of a phase.
use Rattle.std.proofs.Common.{◌≡◌, ℕ, ◌+◌, ◌-◌, ◌*◌, ◌/◌, ◌%◌, ◌^◌, ◌<◌, ◌≤◌, ℤ, pos, Bool, true, false, cond, List, [], ◌∷◌, length, map, get_or, arith, ap, sym, refl, ◌∙◌, subst, ⊎_elim, mul_assoc, zero-mul}
use Rattle.std.proofs.Math.Nat.{mod-eq_of_lt, mod-eq-sub-mod, add-mod-mod, add-mod_left, div-eq_of_lt, mul-le-mul_left, mul-le-mul_right, mul-lt-mul_of_pos_right, lt_of_mul-lt-mul_right, pow-le-pow_right}
use Rattle.std.specs.List.{zip}
use Rattle.std.specs.Int.RustNames.{unsigned_abs}
use Rattle.std.proofs.lemmas.Bool.{cases_lt}
use Rattle.std.proofs.lemmas.Nat.{pow-add, pow_pos, shl-shr, div-add-mod', mod_below, mod-mul-add, div-mul-add}
use Rattle.std.proofs.lemmas.List.{length-map, get_or-map, take_all}
use Rattle.std.proofs.lemmas.List.Elements.{All-from_get_or}
use Rattle.std.proofs.lemmas.List.Sums.{sum_by-cons}
use Rattle.word_ring.specs.Words.{word_difference, size}
use Rattle.word_ring.specs.Rows.{row_difference, RowWithin, RowLaws}
use Rattle.word_ring.specs.Rounding.{mod_switched, SwitchingLaws}
use Rattle.word_ring.specs.Signed.{word_of, SignedLaws}
use Rattle.lwe_core.specs.Secret.{ones_of}
use Rattle.lwe_core.specs.Phase.{FitsKey, masked_sum, phase_of}
use Rattle.lwe_core.specs.Decoding.{encoded}
use Rattle.lwe_core.specs.Encrypts.{centred_error, Encrypts}
use Rattle.lwe_core.specs.Laws.{PhaseLaws, PhaseSizeLaws, NoiseLaws}
use Rattle.negacyclic.specs.Product.{rotation}
use Rattle.negacyclic.specs.Laws.{RotationLaws}
use Rattle.lut_encode.specs.TestPolynomial.{box_of, half_box, entry_at, test_polynomial}
use Rattle.lut_encode.specs.Laws.{LookupLaws}
use Rattle.blind_rotate.specs.Noise.{switched_sum, switched_phase, exponent_after}
use Rattle.blind_rotate.specs.Laws.{SwitchedPhaseLaws}

-- what is left of a multiple
times_left : (x m d : ℕ) → 0 < m → 0 < d → (x * d) % (m * d) ≡ x % m * d
times_left x m d some step =
    let q : ℕ = x / m in
    let r : ℕ = x % m in
    let below : r * d < m * d = mul-lt-mul_of_pos_right (mod_below x m some) step in
    let parts : q * m + r ≡ x = div-add-mod' x m in
    let split : (q * m + r) * d ≡ q * (m * d) + r * d = omega arith in
    ap (λ t. (t * d) % (m * d)) (sym parts) ∙ ap (λ t. t % (m * d)) split ∙ mod-mul-add q (m * d) (r * d) below

-- a difference of places, in words: m places of d each make the circle
places_scaled : (m d b s : ℕ) → 0 < m → 0 < d → m * d ≡ 2 ^ 64 → word_difference (b * d) (s * d) ≡ (b + (m - s % m)) % m * d
places_scaled m d b s some step whole =
    let r : ℕ = s % m in
    let below : r < m = mod_below s m some in
    let left : (s * d) % 2 ^ 64 ≡ r * d = ap (λ t. (s * d) % t) (sym whole) ∙ times_left s m d some step in
    let k : ℕ = m - r in
    let parts : m ≡ k + r = omega arith in
    let circle : m * d ≡ k * d + r * d = ap (λ t. t * d) parts ∙ (let e : (k + r) * d ≡ k * d + r * d = omega arith in e) in
    let rest : 2 ^ 64 - r * d ≡ k * d = omega arith in
    let together : b * d + k * d ≡ (b + k) * d = omega arith in
    ap (λ t. (b * d + (2 ^ 64 - t)) % 2 ^ 64) left
    ∙ ap (λ t. (b * d + t) % 2 ^ 64) rest
    ∙ ap (λ t. t % 2 ^ 64) together
    ∙ ap (λ t. ((b + k) * d) % t) (sym whole)
    ∙ times_left (b + k) m d some step

-- the masked sum of multiples
masked_times : (d : ℕ) (f : ℕ → ℕ) (bits : List Bool) (words : List ℕ) → masked_sum bits (map (λ w. f w * d) words) ≡ masked_sum bits (map f words) * d
masked_times d f [] words = sym (zero-mul d)
masked_times d f (bit ∷ bits) [] = sym (zero-mul d)
masked_times d f (bit ∷ bits) (w ∷ words) =
    let g : Bool × ℕ → ℕ = λ p. cond p.0 p.1 0 in
    let here : cond bit (f w * d) 0 ≡ cond bit (f w) 0 * d = elim bit as (λ b. cond b (f w * d) 0 ≡ cond b (f w) 0 * d) [ true ↦ refl | false ↦ sym (zero-mul d) ] in
    let a : ℕ = cond bit (f w) 0 in
    let rest : ℕ = masked_sum bits (map f words) in
    let split : a * d + rest * d ≡ (a + rest) * d = omega arith in
    sum_by-cons g (bit, f w * d) (zip bits (map (λ w. f w * d) words))
    ∙ ap (λ t. t + masked_sum bits (map (λ w. f w * d) words)) here
    ∙ ap (λ t. a * d + t) (masked_times d f bits words)
    ∙ split
    ∙ ap (λ t. t * d) (sym (sum_by-cons g (bit, f w) (zip bits (map f words))))

-- the words of a ciphertext at their places, taken back to words
abbrev taken_back : ℕ → List ℕ → List ℕ
taken_back log_n words = map (λ w. mod_switched w log_n * 2 ^ (63 - log_n)) words

-- the circle has 2N places
circle : (log_n : ℕ) → log_n ≤ 13 → (2 * 2 ^ log_n) * 2 ^ (63 - log_n) ≡ 2 ^ 64
circle log_n high =
    let n : ℕ = 2 ^ log_n in
    let d : ℕ = 2 ^ (63 - log_n) in
    let together : 63 ≡ log_n + (63 - log_n) = omega arith in
    let whole : 2 ^ 63 ≡ n * d = ap (λ k. 2 ^ k) together ∙ pow-add 2 log_n (63 - log_n) in
    omega (arith, whole)

-- their phase is the switched phase, taken back
phase_taken_back : (log_n : ℕ) (bits : List Bool) (words : List ℕ) → log_n ≤ 13 → FitsKey bits words → phase_of bits (taken_back log_n words) ≡ switched_phase log_n bits words * 2 ^ (63 - log_n)
phase_taken_back log_n bits words high fits =
    let d : ℕ = 2 ^ (63 - log_n) in
    let f : ℕ → ℕ = λ w. mod_switched w log_n in
    let b : ℕ = f (get_or words (length bits) 0) in
    ap (λ t. word_difference t (masked_sum bits (taken_back log_n words))) (get_or-map (λ w. f w * d) words (length bits) 0 0 (omega arith))
    ∙ ap (λ t. word_difference (b * d) t) (masked_times d f bits words)
    ∙ places_scaled (2 * 2 ^ log_n) d b (switched_sum log_n bits words) (omega (arith, pow_pos log_n)) (pow_pos (63 - log_n)) (circle log_n high)

-- and is near the phase
pub record PhaseServing : Type 0 where
  pub rows : RowLaws
  pub switching : SwitchingLaws
  pub signed : SignedLaws
  pub phases : PhaseLaws
  pub sizes : PhaseSizeLaws
  pub noise : NoiseLaws

switching_within : PhaseServing → (log_n : ℕ) (words : List ℕ) → log_n ≤ 13 → RowWithin (2 ^ (62 - log_n)) (row_difference (taken_back log_n words) words)
switching_within laws log_n words high =
    let back : List ℕ = taken_back log_n words in
    let f : ℕ → ℕ = λ w. mod_switched w log_n * 2 ^ (63 - log_n) in
    let long : length back ≡ length words = length-map words f in
    All-from_get_or (λ w. size w ≤ 2 ^ (62 - log_n)) (row_difference back words) 0
    (λ i h.
    let inside : i < length words = omega (arith, laws.rows.zip_length word_difference back words) in
    let is : get_or (row_difference back words) i 0 ≡ word_difference (f (get_or words i 0)) (get_or words i 0) =
    laws.rows.zip_word word_difference back words i (omega arith) inside ∙ ap (λ t. word_difference t (get_or words i 0)) (get_or-map f words i 0 0 inside) in
    subst (λ w. size w ≤ 2 ^ (62 - log_n)) (sym is) (laws.switching.switching_error (get_or words i 0) log_n high))

phase_near : PhaseServing → (log_n : ℕ) (bits : List Bool) (words : List ℕ) → log_n ≤ 13 → FitsKey bits words → size (word_difference (phase_of bits (taken_back log_n words)) (phase_of bits words)) ≤ (1 + ones_of bits) * 2 ^ (62 - log_n)
phase_near laws log_n bits words high fits =
    let back : List ℕ = taken_back log_n words in
    let back_fits : FitsKey bits back = length-map words (λ w. mod_switched w log_n * 2 ^ (63 - log_n)) ∙ fits in
    subst (λ w. size w ≤ (1 + ones_of bits) * 2 ^ (62 - log_n)) (laws.phases.phase_difference bits back words back_fits fits)
    (laws.sizes.phase_size (2 ^ (62 - log_n)) bits (row_difference back words) (switching_within laws log_n words high))

-- a place less than half a box from the middle of a value's box stands in it: n places of d in a half circle, in boxes of 2*h
in_box : (n d box h v m : ℕ) → 0 < d → 1 ≤ h → (2 * n) * d ≡ 2 ^ 64 → box ≡ 2 * h → (v + 1) * box ≤ n → m < 2 * n → size (word_difference (m * d) (v * box * d)) < h * d → (m + h) % (2 * n) / box ≡ v
in_box n d box h v m step some whole halves room below near =
    let x : ℕ = m * d in
    let y : ℕ = v * box * d in
    let g : ℕ = h * d in
    let most : x < 2 ^ 64 = subst (λ t. x < t) whole (mul-lt-mul_of_pos_right below step) in
    let top : (v + 1) * box * d ≤ n * d = mul-le-mul_right d room in
    let split : (v + 1) * box * d ≡ y + box * d = omega arith in
    let box_is : box * d ≡ 2 * g = ap (λ t. t * d) halves ∙ (let e : (2 * h) * d ≡ 2 * (h * d) = omega arith in e) in
    let half : 2 * (n * d) ≡ 2 ^ 64 = (let e : 2 * (n * d) ≡ (2 * n) * d = omega arith in e) ∙ whole in
    let sum : x + g ≡ (m + h) * d = omega arith in
    ⊎_elim
    (λ (past : 2 ^ 64 + y < x + g).
    let scaled : (2 * n + v * box) * d < (m + h) * d =
    (let e : (2 * n + v * box) * d ≡ (2 * n) * d + v * box * d = omega arith in subst (λ t. t < (m + h) * d) (sym e) (omega arith)) in
    let over : 2 * n + v * box < m + h = lt_of_mul-lt-mul_right d scaled in
    let none : v ≡ 0 = ⊎_elim (λ (z : v < 1). omega arith) (λ (one : 1 ≤ v). let least : 1 * box ≤ v * box = mul-le-mul_right box one in absurd (omega arith)) (cases_lt v 1) in
    let left : m + h - 2 * n < box = omega arith in
    let few : m + h - 2 * n < 2 * n = omega arith in
    ap (λ t. t / box) (mod-eq-sub-mod (let e : 2 * n ≤ m + h = omega arith in e) ∙ mod-eq_of_lt few) ∙ div-eq_of_lt left ∙ sym none)
    (λ (low : x + g ≤ 2 ^ 64 + y).
    let above : y < x + g = omega arith in
    let under : x < y + g = omega arith in
    let from : v * box < m + h = lt_of_mul-lt-mul_right d (subst (λ t. v * box * d < t) sum above) in
    let upto : m < v * box + h = lt_of_mul-lt-mul_right d (let e : (v * box + h) * d ≡ y + g = omega arith in subst (λ t. m * d < t) (sym e) under) in
    let rest : ℕ = m + h - v * box in
    let inside : rest < box = omega arith in
    let parts : m + h ≡ v * box + rest = omega arith in
    let one_more : (v + 1) * box ≡ v * box + box = omega arith in
    let few : m + h < 2 * n = omega arith in
    ap (λ t. t / box) (mod-eq_of_lt few ∙ parts) ∙ div-mul-add v box rest inside)
    (cases_lt (2 ^ 64 + y) (x + g))

-- the boxes of a table of so many values among n = 2^log_n coefficients, where n places of d make half a circle
record Boxes (log_n width n d box h : ℕ) : Type 0 where
  pub some : 1 ≤ h
  pub halves : box ≡ 2 * h
  pub whole : 2 ^ width * box ≡ n
  pub step : box * d ≡ 2 ^ (63 - width)
  pub half_step : h * d ≡ 2 ^ (62 - width)

-- a power of 2 as the product of two
pow_parts : (n i j : ℕ) → n ≡ i + j → 2 ^ n ≡ 2 ^ i * 2 ^ j
pow_parts n i j e = ap (λ k. 2 ^ k) e ∙ pow-add 2 i j

boxes : (log_n width : ℕ) → log_n ≤ 13 → width < log_n → Boxes log_n width (2 ^ log_n) (2 ^ (63 - log_n)) (box_of (2 ^ log_n) width) (half_box (2 ^ log_n) width)
boxes log_n width high below =
    let w : ℕ = 2 ^ width in
    let d : ℕ = 2 ^ (63 - log_n) in
    let b : ℕ = 2 ^ (log_n - width) in
    let g : ℕ = 2 ^ (log_n - width - 1) in
    let parts : 2 ^ log_n ≡ b * w = pow_parts log_n (log_n - width) width (omega arith) in
    let is : 2 ^ log_n / w ≡ b = ap (λ x. x / w) parts ∙ shl-shr b width in
    let twice : b ≡ 2 ^ 1 * g = pow_parts (log_n - width) 1 (log_n - width - 1) (omega arith) in
    let box_step : 2 ^ (63 - width) ≡ b * d = pow_parts (63 - width) (log_n - width) (63 - log_n) (omega arith) in
    let half_is : 2 ^ log_n / w / 2 ≡ g = omega (arith, is, twice) in
    let step : 2 ^ (62 - width) ≡ g * d = pow_parts (62 - width) (log_n - width - 1) (63 - log_n) (omega arith) in
    record {
      some = omega (arith, half_is, pow_pos (log_n - width - 1));
      halves = omega (arith, is, twice);
      whole = ap (λ x. w * x) is ∙ (let e : w * b ≡ b * w = omega arith in e) ∙ sym parts;
      step = ap (λ x. x * d) is ∙ sym box_step;
      half_step = ap (λ x. x * d) half_is ∙ sym step;
    }

-- room for the noise of switching leaves boxes of two places at least
width_below : (bound ones log_n width : ℕ) → bound + (1 + ones) * 2 ^ (62 - log_n) < 2 ^ (62 - width) → width < log_n
width_below bound ones log_n width room =
    ⊎_elim (λ (low : width < log_n). low)
    (λ (over : log_n ≤ width).
    let more : 2 ^ (62 - width) ≤ 2 ^ (62 - log_n) = pow-le-pow_right {n = 2} (omega arith) (let e : 62 - width ≤ 62 - log_n = omega arith in e) in
    let split : (1 + ones) * 2 ^ (62 - log_n) ≡ 2 ^ (62 - log_n) + ones * 2 ^ (62 - log_n) = omega arith in
    absurd (omega arith))
    (cases_lt width log_n)

-- the place of a value, by boxes
place_by_boxes : SignedLaws → (log_n width n d box h v : ℕ) → Boxes log_n width n d box h → n * d ≡ 2 ^ 63 → v < 2 ^ width → encoded width (pos v) ≡ v * box * d
place_by_boxes signed log_n width n d box h v is half below =
    let room : (v + 1) * box ≤ 2 ^ width * box = mul-le-mul_right box (omega arith) in
    let some : v * box ≤ n = omega (arith, is.whole, (let e : (v + 1) * box ≡ v * box + box = omega arith in e)) in
    let small : v * box * d ≤ n * d = mul-le-mul_right d some in
    let values : 2 ^ width ≤ 2 ^ width * box = (let e : 2 ^ width * 1 ≤ 2 ^ width * box = mul-le-mul_left (2 ^ width) (let o : 1 ≤ box = omega (arith, is.some, is.halves) in o) in omega arith) in
    let steps : 1 * n ≤ d * n = mul-le-mul_right n (let e : 1 ≤ d = ⊎_elim (λ (z : d < 1). absurd (let e : n * d ≡ 0 = ap (λ t. n * t) (let z0 : d ≡ 0 = omega arith in z0) ∙ (let e0 : n * 0 ≡ 0 = omega arith in e0) in omega arith)) (λ (o : 1 ≤ d). o) (cases_lt d 1) in e) in
    let number : v < 2 ^ 64 = omega (arith, is.whole, (let e : d * n ≡ n * d = omega arith in e)) in
    let word : word_of (pos v) ≡ v = signed.natural_word v ∙ mod-eq_of_lt number in
    ap (λ t. (t * 2 ^ (63 - width)) % 2 ^ 64) word
    ∙ ap (λ t. (v * t) % 2 ^ 64) (sym is.step)
    ∙ ap (λ t. t % 2 ^ 64) (sym (mul_assoc v box d))
    ∙ mod-eq_of_lt (let e : v * box * d < 2 ^ 64 = omega arith in e)

pub entry_read : PhaseServing → LookupLaws → (log_n width v bound small_ones : ℕ) (bits : List Bool) (words : List ℕ) (entries : List ℤ) → log_n ≤ 13 → v < 2 ^ width → ones_of bits ≤ small_ones → Encrypts bits words (pos v) width bound → bound + (1 + small_ones) * 2 ^ (62 - log_n) < 2 ^ (62 - width) → get_or (rotation (2 * 2 ^ log_n - switched_phase log_n bits words) (test_polynomial entries (2 ^ log_n) width)) 0 0 ≡ encoded width (entry_at entries v)
entry_read laws lookups log_n width v bound small_ones bits words entries high below few stands room =
    let n : ℕ = 2 ^ log_n in
    let d : ℕ = 2 ^ (63 - log_n) in
    let e : ℕ = 2 ^ (62 - log_n) in
    let fits : width < log_n = width_below bound small_ones log_n width room in
    let box : ℕ = box_of n width in
    let h : ℕ = half_box n width in
    let is : Boxes log_n width n d box h = boxes log_n width high fits in
    let whole : (2 * n) * d ≡ 2 ^ 64 = circle log_n high in
    let half : n * d ≡ 2 ^ 63 = omega (arith, (let t : (2 * n) * d ≡ 2 * (n * d) = omega arith in t)) in
    let m : ℕ = switched_phase log_n bits words in
    let back : List ℕ = taken_back log_n words in
    let back_fits : FitsKey bits back = length-map words (λ w. mod_switched w log_n * d) ∙ stands.fits in
    let moved : Encrypts bits back (pos v) width (bound + (1 + ones_of bits) * e) =
    laws.noise.encrypts_moved bits bits words back (pos v) width bound ((1 + ones_of bits) * e) stands back_fits (phase_near laws log_n bits words high stands.fits) in
    let fewer : (1 + ones_of bits) * e ≤ (1 + small_ones) * e = mul-le-mul_right e (omega arith) in
    let error : unsigned_abs (centred_error (phase_of bits back) (pos v) width) ≡ size (word_difference (m * d) (v * box * d)) =
    laws.noise.error_size (phase_of bits back) width (pos v)
    ∙ ap (λ t. size (word_difference t (encoded width (pos v)))) (phase_taken_back log_n bits words high stands.fits)
    ∙ ap (λ t. size (word_difference (m * d) t)) (place_by_boxes laws.signed log_n width n d box h v is half below) in
    let near : size (word_difference (m * d) (v * box * d)) < h * d = omega (arith, error, moved.near, is.half_step) in
    let inside : m < 2 * n = mod_below (mod_switched (get_or words (length bits) 0) log_n + (2 * n - switched_sum log_n bits words % (2 * n))) (2 * n) (omega (arith, pow_pos log_n)) in
    let values : (v + 1) * box ≤ n = omega (arith, is.whole, (let t : (v + 1) * box ≤ 2 ^ width * box = mul-le-mul_right box (omega arith) in t)) in
    lookups.looked_up entries log_n width m v fits inside below
    (in_box n d box h v m (pow_pos (63 - log_n)) is.some whole is.halves values inside near)

pub switched_phases : PhaseServing → LookupLaws → SwitchedPhaseLaws
switched_phases laws lookups = record { entry_read = entry_read laws lookups }

-- minus a switched body, and a sum, is minus the difference: modulo m places
exponents : (m b s : ℕ) → b < m → (m - b + s) % m ≡ (m - (b + (m - s % m)) % m) % m
exponents m b s below =
    let r : ℕ = s % m in
    let left : r < m = mod_below s m (omega arith) in
    sym (add-mod-mod (m - b) s m)
    ∙ ⊎_elim
    (λ (low : b < r).
    let inside : b + (m - r) < m = omega arith in
    let here : m - b + r ≡ m + (r - b) = omega arith in
    let there : m - (b + (m - r)) ≡ r - b = omega arith in
    ap (λ t. t % m) here ∙ add-mod_left m (r - b) ∙ ap (λ t. t % m) (sym there) ∙ ap (λ t. (m - t) % m) (sym (mod-eq_of_lt inside)))
    (λ (high : r ≤ b).
    let past : m ≤ b + (m - r) = omega arith in
    let rest : b + (m - r) - m ≡ b - r = omega arith in
    let inside : b - r < m = omega arith in
    let same : m - b + r ≡ m - (b - r) = omega arith in
    ap (λ t. t % m) same ∙ ap (λ t. (m - t) % m) (sym (mod-eq-sub-mod past ∙ ap (λ t. t % m) rest ∙ mod-eq_of_lt inside)))
    (cases_lt b r)

-- so the exponent after all steps is minus the switched phase
pub turned_back : RotationLaws → SwitchingLaws → (log_n : ℕ) (bits : List Bool) (words p : List ℕ) → length p ≡ 2 ^ log_n → rotation (exponent_after log_n bits words (length bits)) p ≡ rotation (2 * 2 ^ log_n - switched_phase log_n bits words) p
turned_back rotations switching log_n bits words p long =
    let m : ℕ = 2 * 2 ^ log_n in
    let b : ℕ = mod_switched (get_or words (length bits) 0) log_n in
    let s : ℕ = switched_sum log_n bits words in
    let places : 2 * length p ≡ m = ap (λ t. 2 * t) long in
    let whole : exponent_after log_n bits words (length bits) ≡ m - b + s = ap (λ bs. m - b + switched_sum log_n bs words) (take_all (length bits) bits (omega arith)) in
    ap (λ t. rotation t p) whole
    ∙ sym (rotations.rotation_residue (m - b + s) p)
    ∙ ap (λ t. rotation ((m - b + s) % t) p) places
    ∙ ap (λ t. rotation t p) (exponents m b s (switching.switched_below (get_or words (length bits) 0) log_n))
    ∙ ap (λ t. rotation ((m - switched_phase log_n bits words) % t) p) (sym places)
    ∙ rotations.rotation_residue (m - switched_phase log_n bits words) p
