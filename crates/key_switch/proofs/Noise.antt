-- How far a switch moves a phase.
use Rattle.std.proofs.Common.{◌≡◌, ℕ, suc, ◌+◌, ◌-◌, ◌*◌, ◌%◌, ◌^◌, ◌<◌, ◌≤◌, Bool, true, false, cond, List, [], ◌∷◌, ◌++◌, length, get_or, take, drop, map, replicate, arith, ap, sym, subst, ◌∙◌, refl, zero-mul, one-mul, mul_assoc}
use Rattle.std.proofs.Math.Nat.{mul-add, mul-le-mul_right}
use Rattle.std.specs.List.{All, zip, sum_by, flat_map}
use Rattle.std.proofs.lemmas.Nat.{mul-mod_second}
use Rattle.std.proofs.lemmas.List.{length-map, length-append, length-replicate, length-take-le, length-drop, get_or-map, get_or-take, get_or-drop, take-append-drop, length_push}
use Rattle.std.proofs.lemmas.List.Elements.{All-nil, All-append, All-from_get_or}
use Rattle.std.proofs.lemmas.List.FromFn.{length-map-range_with_len, get_or-map-range_with_len}
use Rattle.std.proofs.lemmas.List.Sums.{sum_by-cons, sum_by-append}
use Rattle.word_ring.specs.Words.{word_sum, word_difference, word_product, word_negation, size, RingLaws, ResidueLaws, SizeLaws}
use Rattle.word_ring.specs.Rows.{row_difference, sum_of_rows, scaled_rows, RowWithin, RowLaws}
use Rattle.word_ring.specs.RowLaws.{RowRingLaws, RowSizeLaws, RowTotalLaws, CombinedLaws}
use Rattle.word_ring.specs.Rounding.{rounded}
use Rattle.lwe_core.specs.Secret.{bit_word, ones_of}
use Rattle.lwe_core.specs.Phase.{FitsKey, masked_sum, phase_of, trivial}
use Rattle.lwe_core.specs.Laws.{PhaseLaws, PhaseSizeLaws}
use Rattle.gadget_decomp.specs.Decomposition.{IsGadget, gadget, place_weight, digits_as_words, rounded_polynomial}
use Rattle.gadget_decomp.specs.Laws.{DigitLaws, PolynomialDigitLaws}
use Rattle.key_switch.specs.Key.{SwitchRows, IsSwitchKey}
use Rattle.key_switch.specs.Switching.{mask_digits, switched, switch_noise}
use Rattle.key_switch.specs.Laws.{KeepsPhase}
use Rattle.key_switch.proofs.Places.{place_inside}

-- what the laws of the crates below say, where all of it is needed
pub record Below : Type 0 where
  pub ring : RingLaws
  pub residues : ResidueLaws
  pub sizes : SizeLaws
  pub row_ring : RowRingLaws
  pub row_sizes : RowSizeLaws
  pub row_totals : RowTotalLaws
  pub combined : CombinedLaws
  pub rows : RowLaws
  pub digits : DigitLaws
  pub polynomials : PolynomialDigitLaws
  pub phases : PhaseLaws
  pub phase_sizes : PhaseSizeLaws

-- ---- weighed sums

abbrev dot : List ℕ → List ℕ → ℕ
dot xs ys = sum_by (λ p. p.0 * p.1) (zip xs ys)

zip_append : {X Y : Type 0} → (xs us : List X) (ys vs : List Y) → length xs ≡ length ys → zip (xs ++ us) (ys ++ vs) ≡ zip xs ys ++ zip us vs
zip_append [] us [] vs long = refl
zip_append [] us (y ∷ ys) vs long = absurd (omega arith)
zip_append (x ∷ xs) us [] vs long = absurd (omega arith)
zip_append (x ∷ xs) us (y ∷ ys) vs long = ap (λ ps. (x, y) ∷ ps) (zip_append xs us ys vs (omega arith))

dot_append : (xs us ys vs : List ℕ) → length xs ≡ length ys → dot (xs ++ us) (ys ++ vs) ≡ dot xs ys + dot us vs
dot_append xs us ys vs long =
    ap (sum_by (λ (p : ℕ × ℕ). p.0 * p.1)) (zip_append xs us ys vs long) ∙ sum_by-append (λ p. p.0 * p.1) (zip xs ys) (zip us vs)

-- a factor of the one side goes out
dot_multiple : (factor : ℕ) (xs ys : List ℕ) → dot xs (map (λ y. factor * y) ys) ≡ factor * dot xs ys
dot_multiple factor [] ys = omega arith
dot_multiple factor (x ∷ xs) [] = omega arith
dot_multiple factor (x ∷ xs) (y ∷ ys) =
    let left = sum_by-cons (λ (p : ℕ × ℕ). p.0 * p.1) (x, factor * y) (zip xs (map (λ y. factor * y) ys)) in
    let right = ap (λ n. factor * n) (sum_by-cons (λ (p : ℕ × ℕ). p.0 * p.1) (x, y) (zip xs ys)) in
    let rest = dot_multiple factor xs ys in
    let parts : factor * (x * y + dot xs ys) ≡ factor * (x * y) + factor * dot xs ys = mul-add factor (x * y) (dot xs ys) in
    let turned : x * (factor * y) ≡ factor * (x * y) = omega arith in
    omega arith

-- a product by what one factor has more than another
product_split : (ring : RingLaws) (w p m : ℕ) → (w * p) % 2 ^ 64 ≡ (w * m + w * word_difference p m) % 2 ^ 64
product_split ring w p m =
    let d : ℕ = word_difference p m in
    let back : word_sum m d ≡ p % 2 ^ 64 = omega arith in
    let whole : word_product w (word_sum m d) ≡ (w * p) % 2 ^ 64 = ap (word_product w) back ∙ mul-mod_second w p (2 ^ 64) in
    let parts : word_product w (word_sum m d) ≡ word_sum (word_product w m) (word_product w d) = ring.product_sum w m d in
    omega arith

-- a weighed sum by what its words have more than others
dot_difference : (ring : RingLaws) (ws ps ms : List ℕ) → length ps ≡ length ms → dot ws ps % 2 ^ 64 ≡ (dot ws ms + dot ws (row_difference ps ms)) % 2 ^ 64
dot_difference ring [] ps ms long = refl
dot_difference ring (w ∷ ws) [] [] long = refl
dot_difference ring (w ∷ ws) [] (m ∷ ms) long = absurd (omega arith)
dot_difference ring (w ∷ ws) (p ∷ ps) [] long = absurd (omega arith)
dot_difference ring (w ∷ ws) (p ∷ ps) (m ∷ ms) long =
    let left = sum_by-cons (λ (q : ℕ × ℕ). q.0 * q.1) (w, p) (zip ws ps) in
    let middle = sum_by-cons (λ (q : ℕ × ℕ). q.0 * q.1) (w, m) (zip ws ms) in
    let right = sum_by-cons (λ (q : ℕ × ℕ). q.0 * q.1) (w, word_difference p m) (zip ws (row_difference ps ms)) in
    let rest = dot_difference ring ws ps ms (omega arith) in
    let here = product_split ring w p m in
    omega arith

-- so does a masked sum
masked_difference : (bits : List Bool) (xs ys : List ℕ) → length xs ≡ length ys → masked_sum bits xs % 2 ^ 64 ≡ (masked_sum bits ys + masked_sum bits (row_difference xs ys)) % 2 ^ 64
masked_difference [] xs ys long = refl
masked_difference (bit ∷ bits) [] [] long = refl
masked_difference (bit ∷ bits) [] (y ∷ ys) long = absurd (omega arith)
masked_difference (bit ∷ bits) (x ∷ xs) [] long = absurd (omega arith)
masked_difference (true ∷ bits) (x ∷ xs) (y ∷ ys) long =
    let left = sum_by-cons (λ (q : Bool × ℕ). cond q.0 q.1 0) (true, x) (zip bits xs) in
    let middle = sum_by-cons (λ (q : Bool × ℕ). cond q.0 q.1 0) (true, y) (zip bits ys) in
    let right = sum_by-cons (λ (q : Bool × ℕ). cond q.0 q.1 0) (true, word_difference x y) (zip bits (row_difference xs ys)) in
    let rest = masked_difference bits xs ys (omega arith) in
    omega arith
masked_difference (false ∷ bits) (x ∷ xs) (y ∷ ys) long =
    let left = sum_by-cons (λ (q : Bool × ℕ). cond q.0 q.1 0) (false, x) (zip bits xs) in
    let middle = sum_by-cons (λ (q : Bool × ℕ). cond q.0 q.1 0) (false, y) (zip bits ys) in
    let right = sum_by-cons (λ (q : Bool × ℕ). cond q.0 q.1 0) (false, word_difference x y) (zip bits (row_difference xs ys)) in
    let rest = masked_difference bits xs ys (omega arith) in
    omega arith

-- a masked sum sees the mask alone
masked_mask : (bits : List Bool) (words : List ℕ) → masked_sum bits (take (length bits) words) ≡ masked_sum bits words
masked_mask bits words = ap (sum_by (λ (p : Bool × ℕ). cond p.0 p.1 0)) (zip_mask bits words)
  where
    zip_mask : (bits : List Bool) (words : List ℕ) → zip bits (take (length bits) words) ≡ zip bits words
    zip_mask [] words = refl
    zip_mask (bit ∷ bits) [] = refl
    zip_mask (bit ∷ bits) (w ∷ words) = ap (λ ps. (bit, w) ∷ ps) (zip_mask bits words)

-- ---- what the rows stand for

-- the messages of all rows in order
abbrev messages : ℕ → ℕ → List Bool → List ℕ
messages base level big = flat_map (λ bit. map (λ weight. bit_word bit * weight) (gadget base level)) big

messages_of_bit : (base level : ℕ) (bit : Bool) → length (map (λ weight. bit_word bit * weight) (gadget base level)) ≡ level
messages_of_bit base level bit = length-map (gadget base level) (λ weight. bit_word bit * weight) ∙ length-map-range_with_len (place_weight base) 1 level

length-messages : (base level : ℕ) (big : List Bool) → length (messages base level big) ≡ length big * level
length-messages base level [] = omega arith
length-messages base level (bit ∷ big) =
    omega (arith, length-append (map (λ weight. bit_word bit * weight) (gadget base level)) (messages base level big), messages_of_bit base level bit, length-messages base level big)

pub length-mask_digits : (digits : DigitLaws) (base level : ℕ) (mask : List ℕ) → length (mask_digits base level mask) ≡ length mask * level
length-mask_digits digits base level [] = omega arith
length-mask_digits digits base level (w ∷ mask) =
    omega (arith, length-append (digits_as_words w base level) (mask_digits base level mask), digits.digits_count w base level, length-mask_digits digits base level mask)

mask_digits_within : (digits : DigitLaws) (base level : ℕ) (mask : List ℕ) → IsGadget base level → RowWithin (2 ^ (base - 1)) (mask_digits base level mask)
mask_digits_within digits base level [] is = All-nil (λ w. size w ≤ 2 ^ (base - 1))
mask_digits_within digits base level (w ∷ mask) is =
    All-append (λ w. size w ≤ 2 ^ (base - 1)) (digits_as_words w base level) (mask_digits base level mask) (digits.digits_within w base level is) (mask_digits_within digits base level mask is)

-- the digits of a word times a bit's messages make up the rounded word where the bit is 1
bit_weighed : (digits : DigitLaws) (base level w : ℕ) (bit : Bool) → IsGadget base level → dot (digits_as_words w base level) (map (λ weight. bit_word bit * weight) (gadget base level)) % 2 ^ 64 ≡ cond bit (rounded w base level) 0 % 2 ^ 64
bit_weighed digits base level w true is =
    let rounding = digits.digits_weighed w base level is in
    let one : 1 * dot (digits_as_words w base level) (gadget base level) ≡ dot (digits_as_words w base level) (gadget base level) = one-mul (dot (digits_as_words w base level) (gadget base level)) in
    omega (arith, dot_multiple 1 (digits_as_words w base level) (gadget base level), one, rounding)
bit_weighed digits base level w false is =
    let none : 0 * dot (digits_as_words w base level) (gadget base level) ≡ 0 = zero-mul (dot (digits_as_words w base level) (gadget base level)) in
    omega (arith, dot_multiple 0 (digits_as_words w base level) (gadget base level), none)

-- so all digits times all messages make up the masked sum of the rounded mask
messages_weighed :
    (digits : DigitLaws) (base level : ℕ) (big : List Bool) (mask : List ℕ) → IsGadget base level → length mask ≡ length big
    → dot (mask_digits base level mask) (messages base level big) % 2 ^ 64 ≡ masked_sum big (rounded_polynomial base level mask) % 2 ^ 64
messages_weighed digits base level [] [] is long = refl
messages_weighed digits base level [] (w ∷ mask) is long = absurd (omega arith)
messages_weighed digits base level (bit ∷ big) [] is long = absurd (omega arith)
messages_weighed digits base level (bit ∷ big) (w ∷ mask) is long =
    let as_long : length (digits_as_words w base level) ≡ length (map (λ weight. bit_word bit * weight) (gadget base level)) = digits.digits_count w base level ∙ sym (messages_of_bit base level bit) in
    let split = dot_append (digits_as_words w base level) (mask_digits base level mask) (map (λ weight. bit_word bit * weight) (gadget base level)) (messages base level big) as_long in
    let masked = sum_by-cons (λ (q : Bool × ℕ). cond q.0 q.1 0) (bit, rounded w base level) (zip big (rounded_polynomial base level mask)) in
    let here = bit_weighed digits base level w bit is in
    let rest = messages_weighed digits base level big mask is (omega arith) in
    omega (arith, split, masked, here, rest)

-- ---- the errors of the rows

-- the phases of the rows of one bit
near_bit :
    (base level error : ℕ) (bit : Bool) (phases : List ℕ) → level ≤ length phases
    → ((t : ℕ) → 1 ≤ t → t ≤ level → size (word_difference (get_or phases (t - 1) 0) (bit_word bit * place_weight base t)) ≤ error)
    → (rows : RowLaws) → RowWithin error (row_difference (take level phases) (map (λ weight. bit_word bit * weight) (gadget base level)))
near_bit base level error bit phases enough near rows =
    let front : List ℕ = take level phases in
    let message : List ℕ = map (λ weight. bit_word bit * weight) (gadget base level) in
    let front_long : length front ≡ level = length-take-le level phases enough in
    let message_long : length message ≡ level = messages_of_bit base level bit in
    let long = rows.zip_length word_difference front message in
    All-from_get_or (λ w. size w ≤ error) (row_difference front message) 0
    (λ k h. let inside : k < level = omega arith in
    let in_gadget : k < length (gadget base level) = subst (λ n. k < n) (sym (length-map-range_with_len (place_weight base) 1 level)) inside in
    let word = rows.zip_word word_difference front message k (omega arith) (omega arith) in
    let phase : get_or front k 0 ≡ get_or phases k 0 = get_or-take level phases k 0 inside in
    let weight : get_or message k 0 ≡ bit_word bit * place_weight base (k + 1) =
    get_or-map (λ weight. bit_word bit * weight) (gadget base level) k 0 0 in_gadget
    ∙ ap (λ w. bit_word bit * w) (get_or-map-range_with_len (place_weight base) 1 level k (k + 1) 0 inside (omega arith)) in
    let here : size (word_difference (get_or phases k 0) (bit_word bit * place_weight base (k + 1))) ≤ error =
    subst (λ j. size (word_difference (get_or phases j 0) (bit_word bit * place_weight base (k + 1))) ≤ error) (omega arith) (near (k + 1) (omega arith) (omega arith)) in
    subst (λ w. size w ≤ error) (sym (word ∙ ap (λ p. word_difference p (get_or message k 0)) phase ∙ ap (word_difference (get_or phases k 0)) weight)) here)

-- and of all
all_near :
    (row_ring : RowRingLaws) (rows : RowLaws) (base level error : ℕ) (big : List Bool) (phases : List ℕ) → length phases ≡ length big * level
    → ((i t : ℕ) → i < length big → 1 ≤ t → t ≤ level → size (word_difference (get_or phases (i * level + (t - 1)) 0) (bit_word (get_or big i false) * place_weight base t)) ≤ error)
    → RowWithin error (row_difference phases (messages base level big))
all_near row_ring rows base level error [] phases long near = subst (RowWithin error) (nothing_zipped phases) (All-nil (λ w. size w ≤ error))
  where
    nothing_zipped : (ps : List ℕ) → [] ≡ row_difference ps []
    nothing_zipped [] = refl
    nothing_zipped (p ∷ ps) = refl
all_near row_ring rows base level error (bit ∷ big) phases long near =
    let front : List ℕ = take level phases in
    let back : List ℕ = drop level phases in
    let message : List ℕ = map (λ weight. bit_word bit * weight) (gadget base level) in
    let enough : level ≤ length phases = omega arith in
    let as_long : length front ≡ length message = length-take-le level phases enough ∙ sym (messages_of_bit base level bit) in
    let back_long : length back ≡ length big * level = omega (arith, length-drop level phases) in
    let first = near_bit base level error bit phases enough (λ t least most. subst (λ j. size (word_difference (get_or phases j 0) (bit_word bit * place_weight base t)) ≤ error) (omega arith) (near 0 t (omega arith) least most)) rows in
    let others = all_near row_ring rows base level error big back back_long
    (λ i t inside least most. subst (λ p. size (word_difference p (bit_word (get_or big i false) * place_weight base t)) ≤ error)
    (ap (λ j. get_or phases j 0) (omega arith) ∙ sym (get_or-drop level phases (i * level + (t - 1)) 0))
    (near (suc i) t (omega arith) least most)) in
    subst (λ ps. RowWithin error (row_difference ps (message ++ messages base level big))) (take-append-drop level phases)
    (subst (RowWithin error) (sym (row_ring.zip_append word_difference front back message (messages base level big) as_long))
    (All-append (λ w. size w ≤ error) (row_difference front message) (row_difference back (messages base level big)) first others))

-- ---- phases

phases_weighed : (bits : List Bool) (ws : List ℕ) (rows : List (List ℕ)) → sum_by (λ p. p.0 * phase_of bits p.1) (zip ws rows) ≡ dot ws (map (phase_of bits) rows)
phases_weighed bits [] rows = refl
phases_weighed bits (w ∷ ws) [] = refl
phases_weighed bits (w ∷ ws) (row ∷ rows) =
    let left = sum_by-cons (λ (p : ℕ × List ℕ). p.0 * phase_of bits p.1) (w, row) (zip ws rows) in
    let right = sum_by-cons (λ (p : ℕ × ℕ). p.0 * p.1) (w, phase_of bits row) (zip ws (map (phase_of bits) rows)) in
    let rest = phases_weighed bits ws rows in
    omega arith

-- the phase of a sum of weighted rows
total_phase :
    (below : Below) (bits : List Bool) (ws : List ℕ) (rows : List (List ℕ)) → All (FitsKey bits) rows
    → phase_of bits (sum_of_rows (length bits + 1) (scaled_rows ws rows)) ≡ dot ws (map (phase_of bits) rows) % 2 ^ 64
total_phase below bits ws rows long =
    let zero_row : List ℕ = replicate (length bits + 1) 0 in
    let none : phase_of bits zero_row ≡ 0 = below.phases.phase_sum_of_rows bits [] (All-nil (FitsKey bits)) in
    let whole = below.phases.phase_combined bits zero_row ws rows (length-replicate {A = ℕ} (length bits + 1) 0) long in
    let sum = phases_weighed bits ws rows in
    ap (phase_of bits) (sym (below.combined.combined_from_zero (length bits + 1) ws rows long)) ∙ whole ∙ ap (λ n. n % 2 ^ 64) (omega arith)

trivial_fits : (bits : List Bool) (body : ℕ) → FitsKey bits (trivial (length bits) body)
trivial_fits bits body = length_push (replicate (length bits) 0) body ∙ ap (λ n. n + 1) (length-replicate {A = ℕ} (length bits) 0)

-- the phase of a switched ciphertext: the body minus the weighed phases of the rows
switched_phase :
    (below : Below) (key : SwitchRows) (small : List Bool) (words : List ℕ) → length small ≡ key.small_dim → All (FitsKey small) key.rows
    → phase_of small (switched key words)
    ≡ word_difference (get_or words key.big_dim 0) (dot (mask_digits key.base key.level (take key.big_dim words)) (map (phase_of small) key.rows))
switched_phase below key small words small_length long =
    let ws : List ℕ = mask_digits key.base key.level (take key.big_dim words) in
    let body : ℕ = get_or words key.big_dim 0 in
    let sum : List ℕ = sum_of_rows (length small + 1) (scaled_rows ws key.rows) in
    let sum_fits : FitsKey small sum = below.row_totals.total_length (length small + 1) (scaled_rows ws key.rows) (below.row_totals.scaled_lengths (length small + 1) ws key.rows long) in
    let start = below.phases.phase_trivial small body in
    let total = total_phase below small ws key.rows long in
    ap (λ n. phase_of small (row_difference (trivial n body) (sum_of_rows (n + 1) (scaled_rows ws key.rows)))) (sym small_length)
    ∙ below.phases.phase_difference small (trivial (length small) body) sum (trivial_fits small body) sum_fits
    ∙ ap (λ p. word_difference p (phase_of small sum)) start
    ∙ ap (word_difference (body % 2 ^ 64)) total
    ∙ below.residues.difference_residues body (dot ws (map (phase_of small) key.rows))

-- two phases over one body differ by what is subtracted from it
bodies_cancel : (body a m more other : ℕ) → a % 2 ^ 64 ≡ (m + (more + other)) % 2 ^ 64 → word_difference (word_difference body a) (word_difference body m) ≡ word_negation (more + other)
bodies_cancel body a m more other e = omega arith

errors_add : (below : Below) (more other x y : ℕ) → size more ≤ x → size other ≤ y → size (word_negation (more + other)) ≤ x + y
errors_add below more other x y p q =
    let residue = below.row_sizes.residue_size (more + other) in
    omega (arith, below.sizes.size_negation (more + other), below.sizes.size_sum more other, residue)

pub near : (below : Below) (key : SwitchRows) (words : List ℕ) → length words ≡ key.big_dim + 1 → KeepsPhase key words (switched key words)
near below key words long big small big_ones error fits =
    let is : IsGadget key.base key.level = fits.is_key.gadget in
    let mask : List ℕ = take key.big_dim words in
    let rounded_mask : List ℕ = rounded_polynomial key.base key.level mask in
    let ws : List ℕ = mask_digits key.base key.level mask in
    let phases : List ℕ = map (phase_of small) key.rows in
    let said : List ℕ = messages key.base key.level big in
    let body : ℕ = get_or words key.big_dim 0 in
    let mask_long : length mask ≡ key.big_dim = length-take-le key.big_dim words (omega arith) in
    let as_many : length mask ≡ length big = mask_long ∙ sym fits.big_length in
    let phases_long : length phases ≡ length big * key.level = length-map key.rows (phase_of small) ∙ fits.rows_fit.count in
    let said_long : length said ≡ length big * key.level = length-messages key.base key.level big in
    let row_errors : ℕ = dot ws (row_difference phases said) in
    let rounding : ℕ = masked_sum big (row_difference rounded_mask mask) in
    let by_rows : dot ws phases % 2 ^ 64 ≡ (dot ws said + row_errors) % 2 ^ 64 = dot_difference below.ring ws phases said (phases_long ∙ sym said_long) in
    let by_messages : dot ws said % 2 ^ 64 ≡ masked_sum big rounded_mask % 2 ^ 64 = messages_weighed below.digits key.base key.level big mask is as_many in
    let by_rounding : masked_sum big rounded_mask % 2 ^ 64 ≡ (masked_sum big mask + rounding) % 2 ^ 64 = masked_difference big rounded_mask mask (length-map mask (λ w. rounded w key.base key.level)) in
    let whole : dot ws phases % 2 ^ 64 ≡ (masked_sum big mask + (row_errors + rounding)) % 2 ^ 64 = omega arith in
    let errors_within : RowWithin error (row_difference phases said) =
    all_near below.row_ring below.rows key.base key.level error big phases phases_long
    (λ i t inside least most. subst (λ p. size (word_difference p (bit_word (get_or big i false) * place_weight key.base t)) ≤ error)
    (sym (get_or-map (phase_of small) key.rows (i * key.level + (t - 1)) [] 0 (place_inside (length big) key.level i t (length key.rows) fits.rows_fit.count inside least most)))
    (fits.rows_fit.near i t inside least most)) in
    let ws_long : length ws ≡ key.big_dim * key.level = length-mask_digits below.digits key.base key.level mask ∙ ap (λ n. n * key.level) mask_long in
    let row_size : size row_errors ≤ key.big_dim * key.level * 2 ^ (key.base - 1) * error =
    subst (λ n. size row_errors ≤ n) (ap (λ n. n * (2 ^ (key.base - 1) * error)) ws_long ∙ sym (mul_assoc (key.big_dim * key.level) (2 ^ (key.base - 1)) error))
    (below.row_sizes.weighted_size (2 ^ (key.base - 1)) error ws (row_difference phases said) (mask_digits_within below.digits key.base key.level mask is) errors_within) in
    let each_one : size rounding ≤ ones_of big * 2 ^ (63 - key.base * key.level) =
    below.phase_sizes.masked_size (2 ^ (63 - key.base * key.level)) big (row_difference rounded_mask mask) (below.polynomials.rounding_within key.base key.level mask is) in
    let few : ones_of big * 2 ^ (63 - key.base * key.level) ≤ big_ones * 2 ^ (63 - key.base * key.level) = mul-le-mul_right (2 ^ (63 - key.base * key.level)) fits.few_ones in
    let rounding_size : size rounding ≤ big_ones * 2 ^ (63 - key.base * key.level) = omega arith in
    let old : phase_of big words ≡ word_difference body (masked_sum big mask) =
    ap (λ n. word_difference (get_or words n 0) (masked_sum big words)) fits.big_length
    ∙ ap (word_difference body) (sym (masked_mask big words) ∙ ap (λ n. masked_sum big (take n words)) fits.big_length) in
    let new : phase_of small (switched key words) ≡ word_difference body (dot ws phases) = switched_phase below key small words fits.small_length fits.rows_fit.long in
    let moved : word_difference (phase_of small (switched key words)) (phase_of big words) ≡ word_negation (row_errors + rounding) =
    ap (λ p. word_difference p (phase_of big words)) new
    ∙ ap (word_difference (word_difference body (dot ws phases))) old
    ∙ bodies_cancel body (dot ws phases) (masked_sum big mask) row_errors rounding whole in
    subst (λ w. size w ≤ switch_noise key.big_dim key.base key.level big_ones error) (sym moved)
    (errors_add below row_errors rounding (key.big_dim * key.level * 2 ^ (key.base - 1) * error) (big_ones * 2 ^ (63 - key.base * key.level)) row_size rounding_size)

-- as many words as the rows
pub length-switched : (below : Below) (key : SwitchRows) (words : List ℕ) → IsSwitchKey key → length (switched key words) ≡ key.small_dim + 1
length-switched below key words is =
    let ws : List ℕ = mask_digits key.base key.level (take key.big_dim words) in
    let body : ℕ = get_or words key.big_dim 0 in
    let start : length (trivial key.small_dim body) ≡ key.small_dim + 1 = length_push (replicate key.small_dim 0) body ∙ ap (λ n. n + 1) (length-replicate {A = ℕ} key.small_dim 0) in
    let sum : length (sum_of_rows (key.small_dim + 1) (scaled_rows ws key.rows)) ≡ key.small_dim + 1 =
    below.row_totals.total_length (key.small_dim + 1) (scaled_rows ws key.rows) (below.row_totals.scaled_lengths (key.small_dim + 1) ws key.rows is.long) in
    omega (arith, below.rows.zip_length word_difference (trivial key.small_dim body) (sum_of_rows (key.small_dim + 1) (scaled_rows ws key.rows)))
