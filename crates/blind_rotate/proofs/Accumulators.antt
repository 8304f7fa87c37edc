-- What the accumulator of a bootstrap stands for, step by step.
use Rattle.std.proofs.Common.{◌≡◌, ℕ, ◌+◌, ◌-◌, ◌*◌, ◌^◌, ◌<◌, ◌≤◌, Bool, true, false, cond, List, [], ◌∷◌, length, map, get_or, take, replicate, arith, ap, sym, ◌∙◌, subst, add-zero}
use Rattle.std.specs.List.{All, zip, sum_by}
use Rattle.std.proofs.lemmas.List.{length-map, get_or-map, length-replicate, length_push}
use Rattle.std.proofs.lemmas.List.Elements.{All-replicate, All-append, All-cons, All-nil}
use Rattle.std.proofs.lemmas.List.Sums.{sum_by_more}
use Rattle.std.proofs.lemmas.Nat.{pow_pos}
use Rattle.std.proofs.lemmas.Slice.Zip.{length-zip, get_or-zip}
use Rattle.word_ring.specs.Words.{word_difference, size}
use Rattle.word_ring.specs.Rows.{row_sum, row_difference, RowWithin, RowLaws}
use Rattle.word_ring.specs.RowLaws.{RowRingLaws, RowSizeLaws}
use Rattle.word_ring.specs.Rounding.{mod_switched}
use Rattle.lwe_core.specs.Secret.{bit_word, ones_of}
use Rattle.lwe_core.specs.Phase.{FitsKey, masked_sum}
use Rattle.lwe_core.specs.Laws.{OnesLaws}
use Rattle.negacyclic.specs.Product.{rotation}
use Rattle.negacyclic.specs.Laws.{RotationLaws, ProductSizeLaws}
use Rattle.glwe_core.specs.Glwe.{FitsGlweKey, IsKeyFrom, flat_key_of, glwe_phase, rotated, trivial_glwe}
use Rattle.glwe_core.specs.Laws.{GlweShapeLaws, GlwePhaseLaws}
use Rattle.ggsw_core.specs.Ggsw.{GgswRows, cmux_of}
use Rattle.ggsw_core.specs.Noise.{GgswFits, product_noise, rows_noise, digits_noise, GgswShapeLaws, GgswNoiseLaws}
use Rattle.blind_rotate.specs.BootKey.{ggsw_at}
use Rattle.blind_rotate.specs.Bootstrap.{accumulator_step, first_accumulator}
use Rattle.blind_rotate.specs.Fits.{KeyNumbers, BootKeyFits, key_polynomials}
use Rattle.blind_rotate.specs.Noise.{switched_sum, exponent_after, step_noise, one_noise, shape_of, AccumulatorHolds}
use Rattle.blind_rotate.specs.Laws.{AccumulatorLaws}
use Rattle.blind_rotate.proofs.KeyParts.{polynomials_are}
use Rattle.blind_rotate.proofs.Steps.{zip_take}

-- the laws that serve
pub record StepServing : Type 0 where
  pub rows : RowLaws
  pub ring : RowRingLaws
  pub sizes : RowSizeLaws
  pub ones : OnesLaws
  pub rotations : RotationLaws
  pub rotation_sizes : ProductSizeLaws
  pub shapes : GlweShapeLaws
  pub phases : GlwePhaseLaws
  pub products : GgswShapeLaws
  pub noise : GgswNoiseLaws

-- one more word of a masked sum
masked_more : (bits : List Bool) (words : List ℕ) (i : ℕ) → i < length bits → i < length words → masked_sum (take (i + 1) bits) words ≡ masked_sum (take i bits) words + cond (get_or bits i false) (get_or words i 0) 0
masked_more bits words i in_bits in_words =
    let g : Bool × ℕ → ℕ = λ p. cond p.0 p.1 0 in
    ap (sum_by g) (zip_take (i + 1) bits words)
    ∙ sum_by_more g (zip bits words) i (false, 0) (omega (arith, length-zip bits words))
    ∙ ap (λ (t : Bool × ℕ). sum_by g (take i (zip bits words)) + g t) (get_or-zip bits words i (false, 0) in_bits in_words)
    ∙ ap (λ ps. sum_by g ps + cond (get_or bits i false) (get_or words i 0) 0) (sym (zip_take i bits words))

-- one more step of the exponent
exponent_more : (log_n : ℕ) (bits : List Bool) (words : List ℕ) (i : ℕ) → i < length bits → FitsKey bits words → exponent_after log_n bits words (i + 1) ≡ exponent_after log_n bits words i + cond (get_or bits i false) (mod_switched (get_or words i 0) log_n) 0
exponent_more log_n bits words i inside fits =
    let f : ℕ → ℕ = λ w. mod_switched w log_n in
    let start : ℕ = 2 * 2 ^ log_n - f (get_or words (length bits) 0) in
    let more : switched_sum log_n (take (i + 1) bits) words ≡ switched_sum log_n (take i bits) words + cond (get_or bits i false) (f (get_or words i 0)) 0 =
    masked_more bits (map f words) i inside (omega (arith, length-map words f))
    ∙ ap (λ t. switched_sum log_n (take i bits) words + cond (get_or bits i false) t 0) (get_or-map f words i 0 0 (omega arith)) in
    omega (arith, more)

-- the difference over a row between
difference_between : StepServing → (n : ℕ) (x y z : List ℕ) → length x ≡ n → length y ≡ n → length z ≡ n → row_difference x z ≡ row_sum (row_difference x y) (row_difference y z)
difference_between laws n x y z e f g =
    let d : List ℕ = row_difference x z in
    let long : length d ≡ n = laws.rows.zip_length word_difference x z ∙ omega arith in
    sym (laws.ring.sum_zero d (laws.ring.zip_are_words word_difference x z (λ a b. omega arith)))
    ∙ ap (λ k. row_sum d (replicate k 0)) (long ∙ sym f)
    ∙ ap (row_sum d) (sym (laws.ring.difference_same y))
    ∙ sym (laws.ring.difference_of_sums x y z y)
    ∙ ap (row_difference (row_sum x y)) (laws.ring.sum_commutative z y)
    ∙ laws.ring.difference_of_sums x y y z

-- the key's polynomials
key_number : (p : KeyNumbers) (big small : List Bool) (key : List GgswRows) → BootKeyFits p big small key → IsKeyFrom p.k (2 ^ p.log_n) big (key_polynomials p.k (2 ^ p.log_n) big)
key_number p big small key fits = polynomials_are p.k (2 ^ p.log_n) big fits.secret.dimensions.big_length

zeros_within : (n bound : ℕ) → RowWithin bound (replicate n 0)
zeros_within n bound = All-replicate (λ w. size w ≤ bound) n 0 (omega arith)

-- before the first step
pub accumulator_first : StepServing → (p : KeyNumbers) (big small : List Bool) (key : List GgswRows) (test words : List ℕ) → BootKeyFits p big small key → length test ≡ 2 ^ p.log_n → AccumulatorHolds p big small test words 0 (first_accumulator (shape_of p) test (get_or words (length small) 0))
unfolding first_accumulator
accumulator_first laws p big small key test words fits long =
    let n : ℕ = 2 ^ p.log_n in
    let polys : List (List Bool) = key_polynomials p.k n big in
    let is : IsKeyFrom p.k n big polys = key_number p big small key fits in
    let by : ℕ = 2 * n - mod_switched (get_or words (length small) 0) p.log_n in
    let body : List ℕ = rotation by test in
    let body_long : length body ≡ n = laws.rotations.rotation_length by test ∙ long in
    let acc : List (List ℕ) = trivial_glwe p.k body in
    let none : exponent_after p.log_n small words 0 ≡ by = add-zero by in
    let phase : glwe_phase polys acc ≡ body =
    ap (λ k. glwe_phase polys (trivial_glwe k body)) (sym is.number)
    ∙ laws.phases.phase_trivial polys body (subst (λ m. All (λ bits. length bits ≡ m) polys) (sym body_long) is.lengths) (laws.rotations.rotation_words by test) in
    let same : row_difference (glwe_phase polys acc) (rotation (exponent_after p.log_n small words 0) test) ≡ replicate (length body) 0 =
    ap (λ x. row_difference x (rotation (exponent_after p.log_n small words 0) test)) phase
    ∙ ap (λ e. row_difference body (rotation e test)) none
    ∙ laws.ring.difference_same body in
    let zeros : List (List ℕ) = replicate p.k (replicate (length body) 0) in
    record {
      fits = record {
        number = length_push zeros body ∙ ap (λ k. k + 1) (length-replicate p.k (replicate {A = ℕ} (length body) 0) ∙ sym is.number);
        lengths =
            All-append (λ row. length row ≡ n) zeros (body ∷ [])
            (All-replicate (λ row. length row ≡ n) p.k (replicate (length body) 0) (length-replicate (length body) 0 ∙ body_long))
            (All-cons (λ row. length row ≡ n) body [] body_long (All-nil (λ row. length row ≡ n)));
        bits = is.lengths;
      };
      near = subst (RowWithin (0 * step_noise p + ones_of (take 0 small) * one_noise p)) (sym same) (zeros_within (length body) (0 * step_noise p + ones_of (take 0 small) * one_noise p));
    }

-- the noise of a product with the GGSW ciphertext of a bit, by the numbers of the parameters
noise_is : (p : KeyNumbers) (key : List (List Bool)) (bit : Bool) (g : GgswRows) → length key ≡ p.k → g.base ≡ p.boot_base → g.level ≡ p.boot_level → product_noise (2 ^ p.log_n) p.big_ones p.big_error key bit g ≡ step_noise p + bit_word bit * one_noise p
noise_is p key bit g number base level =
    ap (λ k. rows_noise (k + 1) g.level (2 ^ p.log_n) g.base p.big_error + bit_word bit * digits_noise p.big_ones g.base g.level) number
    ∙ ap (λ l. rows_noise (p.k + 1) l (2 ^ p.log_n) g.base p.big_error + bit_word bit * digits_noise p.big_ones g.base l) level
    ∙ ap (λ b. rows_noise (p.k + 1) p.boot_level (2 ^ p.log_n) b p.big_error + bit_word bit * digits_noise p.big_ones b p.boot_level) base

-- the phase that a step selects, against the test polynomial rotated once more
selected_near : StepServing → (n bound by e : ℕ) (key : List (List Bool)) (bit : Bool) (acc : List (List ℕ)) (test : List ℕ) → 0 < n → length test ≡ n → FitsGlweKey n key acc → RowWithin bound (row_difference (glwe_phase key acc) (rotation e test)) → RowWithin bound (row_difference (glwe_phase key (cond bit (rotated by acc) acc)) (rotation (e + cond bit by 0) test))
selected_near laws n bound by e key false acc test some long fits near =
    subst (λ t. RowWithin bound (row_difference (glwe_phase key acc) (rotation t test))) (sym (add-zero e)) near
selected_near laws n bound by e key true acc test some long fits near =
    let x : List ℕ = glwe_phase key acc in
    let y : List ℕ = rotation e test in
    let x_long : length x ≡ n = laws.phases.phase_length n key acc fits in
    let y_long : length y ≡ n = laws.rotations.rotation_length e test ∙ long in
    let turn : by + e ≡ e + by = omega arith in
    let moved : row_difference (glwe_phase key (rotated by acc)) (rotation (e + by) test) ≡ rotation by (row_difference x y) =
    ap (λ t. row_difference t (rotation (e + by) test)) (laws.phases.phase_rotated n by key acc fits)
    ∙ ap (λ t. row_difference (rotation by x) (rotation t test)) (sym turn)
    ∙ ap (row_difference (rotation by x)) (sym (laws.rotations.rotation_rotation by e test (omega arith)))
    ∙ sym (laws.rotations.rotation_difference by x y (x_long ∙ sym y_long)) in
    subst (RowWithin bound) (sym moved) (laws.rotation_sizes.rotation_bound bound by (row_difference x y) near)

-- the bounds of a step add up
bounds_more : (i o b a r : ℕ) → a + b * r + (i * a + o * r) ≡ (i + 1) * a + (o + b) * r
bounds_more i o b a r = omega arith

-- whichever a bit selects fits the key
selected_fits : (n : ℕ) (key : List (List Bool)) (bit : Bool) (other acc : List (List ℕ)) → FitsGlweKey n key other → FitsGlweKey n key acc → FitsGlweKey n key (cond bit other acc)
selected_fits n key true other acc p q = p
selected_fits n key false other acc p q = q

pub accumulator_kept : StepServing → (p : KeyNumbers) (big small : List Bool) (key : List GgswRows) (test words : List ℕ) (i : ℕ) (acc : List (List ℕ)) → BootKeyFits p big small key → length test ≡ 2 ^ p.log_n → FitsKey small words → i < length small → AccumulatorHolds p big small test words i acc → AccumulatorHolds p big small test words (i + 1) (accumulator_step p.log_n acc (ggsw_at key i) (get_or words i 0))
unfolding accumulator_step
accumulator_kept laws p big small key test words i acc fits long fitting inside holds =
    let n : ℕ = 2 ^ p.log_n in
    let polys : List (List Bool) = key_polynomials p.k n big in
    let is : IsKeyFrom p.k n big polys = key_number p big small key fits in
    let bit : Bool = get_or small i false in
    let none : GgswRows = record { base = 0; level = 0; rows = [] } in
    let g : GgswRows = get_or key i none in
    let in_key : i < length key = omega (arith, fits.boot_rows.number) in
    let rows_fit : GgswFits n p.big_error polys bit g = fits.boot_rows.near i inside in
    let by : ℕ = mod_switched (get_or words i 0) p.log_n in
    let other : List (List ℕ) = rotated by acc in
    let other_fits : FitsGlweKey n polys other = laws.shapes.fits_lengths n polys acc other holds.fits (laws.shapes.rotated_lengths by acc) in
    let chosen : List (List ℕ) = cond bit other acc in
    let chosen_fits : FitsGlweKey n polys chosen = selected_fits n polys bit other acc other_fits holds.fits in
    let new : List (List ℕ) = cmux_of g acc other in
    let new_fits : FitsGlweKey n polys new = laws.products.cmux_fits n p.big_error polys bit g acc other rows_fit holds.fits other_fits in
    let few : ones_of (flat_key_of polys) ≤ p.big_ones = subst (λ bits. ones_of bits ≤ p.big_ones) (sym is.flat_bits) fits.secret.few_in_big in
    let e : ℕ = exponent_after p.log_n small words i in
    let a : ℕ = step_noise p in
    let r : ℕ = one_noise p in
    let o : ℕ = ones_of (take i small) in
    let x : List ℕ = glwe_phase polys new in
    let y : List ℕ = glwe_phase polys chosen in
    let z : List ℕ = rotation (e + cond bit by 0) test in
    let stepped : RowWithin (a + bit_word bit * r) (row_difference x y) =
    subst (λ bound. RowWithin bound (row_difference x y))
    (noise_is p polys bit g is.number (fits.boot_rows.bases i none in_key) (fits.boot_rows.levels i none in_key))
    (laws.noise.cmux_noise g acc other n p.big_ones p.big_error polys bit rows_fit few holds.fits other_fits) in
    let so_far : RowWithin (i * a + o * r) (row_difference y z) =
    selected_near laws n (i * a + o * r) by e polys bit acc test (pow_pos p.log_n) long holds.fits holds.near in
    let together : RowWithin (a + bit_word bit * r + (i * a + o * r)) (row_sum (row_difference x y) (row_difference y z)) =
    laws.sizes.sum_within (a + bit_word bit * r) (i * a + o * r) (row_difference x y) (row_difference y z) stepped so_far in
    let between : row_difference x z ≡ row_sum (row_difference x y) (row_difference y z) =
    difference_between laws n x y z (laws.phases.phase_length n polys new new_fits) (laws.phases.phase_length n polys chosen chosen_fits)
    (laws.rotations.rotation_length (e + cond bit by 0) test ∙ long) in
    let ones : ones_of (take (i + 1) small) ≡ o + bit_word bit = laws.ones.ones_more small i inside in
    let bound : a + bit_word bit * r + (i * a + o * r) ≡ (i + 1) * a + ones_of (take (i + 1) small) * r =
    bounds_more i o (bit_word bit) a r ∙ ap (λ t. (i + 1) * a + t * r) (sym ones) in
    record {
      fits = new_fits;
      near =
          subst (λ t. RowWithin ((i + 1) * a + ones_of (take (i + 1) small) * r) (row_difference x (rotation t test))) (sym (exponent_more p.log_n small words i inside fitting))
          (subst (λ t. RowWithin t (row_difference x z)) bound (subst (RowWithin (a + bit_word bit * r + (i * a + o * r))) (sym between) together));
    }

pub accumulators : StepServing → AccumulatorLaws
accumulators laws = record { accumulator_first = accumulator_first laws; accumulator_kept = accumulator_kept laws }
