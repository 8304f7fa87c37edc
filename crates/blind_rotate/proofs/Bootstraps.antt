-- The noise of a bootstrap, and what its result stands for.
use Rattle.std.proofs.Common.{◌≡◌, ℕ, zero, suc, ◌+◌, ◌-◌, ◌*◌, ◌^◌, ◌<◌, ◌≤◌, Bool, List, [], length, get_or, take, arith, ap, sym, ◌∙◌, subst, add-one}
use Rattle.std.proofs.Math.Nat.{mul-le-mul_right}
use Rattle.std.specs.Int.RustNames.{unsigned_abs}
use Rattle.std.proofs.lemmas.List.{take_all}
use Rattle.std.proofs.lemmas.Nat.{pow_pos}
use Rattle.word_ring.specs.Words.{word_difference, size}
use Rattle.word_ring.specs.Rows.{row_difference}
use Rattle.lwe_core.specs.Secret.{ones_of}
use Rattle.lwe_core.specs.Phase.{FitsKey, phase_of}
use Rattle.lwe_core.specs.Decoding.{encoded}
use Rattle.lwe_core.specs.Encrypts.{centred_error}
use Rattle.negacyclic.specs.Product.{rotation}
use Rattle.glwe_core.specs.Glwe.{IsKeyFrom, glwe_phase, extracted}
use Rattle.glwe_core.specs.Laws.{ExtractionLaws}
use Rattle.ggsw_core.specs.Ggsw.{GgswRows}
use Rattle.lut_encode.specs.TestPolynomial.{entry_at}
use Rattle.lut_encode.specs.Laws.{LookupLaws}
use Rattle.blind_rotate.specs.BootKey.{GlweShape, BootRows}
use Rattle.blind_rotate.specs.Bootstrap.{blind_rotation, first_accumulator, bootstrapped}
use Rattle.blind_rotate.specs.Fits.{KeyNumbers, BootKeyFits, key_polynomials}
use Rattle.blind_rotate.specs.Noise.{switched_phase, exponent_after, step_noise, one_noise, boot_noise, shape_of, AccumulatorHolds, ReadsTest, LooksUp}
use Rattle.blind_rotate.specs.Laws.{BootstrapLaws}
use Rattle.blind_rotate.proofs.KeyParts.{polynomials_are}
use Rattle.blind_rotate.proofs.Steps.{rotated_more, rotated_all}
use Rattle.blind_rotate.proofs.SwitchedPhases.{PhaseServing, entry_read, turned_back}
use Rattle.blind_rotate.proofs.Accumulators.{StepServing, accumulator_first, accumulator_kept}

-- the laws that serve
pub record BootServing : Type 0 where
  pub steps : StepServing
  pub switched : PhaseServing
  pub lookups : LookupLaws
  pub extraction : ExtractionLaws

-- after the first i steps the accumulator holds
after_steps : StepServing → (p : KeyNumbers) (big small : List Bool) (key : List GgswRows) (test words : List ℕ) (start : List (List ℕ)) → BootKeyFits p big small key → length test ≡ 2 ^ p.log_n → FitsKey small words → AccumulatorHolds p big small test words 0 start → (i : ℕ) → i ≤ length small → AccumulatorHolds p big small test words i (blind_rotation p.log_n start (take i key) words)
after_steps laws p big small key test words start fits long fitting holds zero upto = holds
after_steps laws p big small key test words start fits long fitting holds (suc i) upto =
    let none : GgswRows = record { base = 0; level = 0; rows = [] } in
    let kept : AccumulatorHolds p big small test words (i + 1) (blind_rotation p.log_n start (take (i + 1) key) words) =
    subst (AccumulatorHolds p big small test words (i + 1)) (sym (rotated_more p.log_n start key words i none (omega (arith, fits.boot_rows.number)) (omega arith)))
    (accumulator_kept laws p big small key test words i (blind_rotation p.log_n start (take i key) words) fits long fitting (omega arith)
    (after_steps laws p big small key test words start fits long fitting holds i (omega arith))) in
    subst (λ k. AccumulatorHolds p big small test words k (blind_rotation p.log_n start (take k key) words)) (add-one i) kept

-- after all of them too
after_all : StepServing → (p : KeyNumbers) (big small : List Bool) (key : List GgswRows) (test words : List ℕ) → BootKeyFits p big small key → length test ≡ 2 ^ p.log_n → length words ≡ length key + 1 → AccumulatorHolds p big small test words (length small) (blind_rotation p.log_n (first_accumulator (shape_of p) test (get_or words (length key) 0)) key words)
after_all laws p big small key test words fits long fitting =
    let dim : length small ≡ length key = sym fits.boot_rows.number in
    let first : ℕ → List (List ℕ) = λ at. first_accumulator (shape_of p) test (get_or words at 0) in
    let begun : AccumulatorHolds p big small test words 0 (first (length key)) =
    subst (λ k. AccumulatorHolds p big small test words 0 (first k)) dim (accumulator_first laws p big small key test words fits long) in
    subst (AccumulatorHolds p big small test words (length small)) (rotated_all p.log_n (first (length key)) key words (length small) (omega arith))
    (after_steps laws p big small key test words (first (length key)) fits long (omega arith) begun (length small) (omega arith))

-- the result of a bootstrap is a ciphertext under the big key, and its phase is what the rotated test polynomial has at place 0
record Read (p : KeyNumbers) (big small : List Bool) (test words result : List ℕ) : Type 0 where
  pub fits : FitsKey big result
  pub near : size (word_difference (phase_of big result) (get_or (rotation (2 * 2 ^ p.log_n - switched_phase p.log_n small words) test) 0 0)) ≤ boot_noise p

-- where the accumulator holds after all steps
read : BootServing → (p : KeyNumbers) (big small : List Bool) (ggsws : List GgswRows) (test words : List ℕ) (acc : List (List ℕ)) → BootKeyFits p big small ggsws → length test ≡ 2 ^ p.log_n → AccumulatorHolds p big small test words (length small) acc → Read p big small test words (extracted acc)
read laws p big small ggsws test words acc fits long holds =
    let n : ℕ = 2 ^ p.log_n in
    let polys : List (List Bool) = key_polynomials p.k n big in
    let is : IsKeyFrom p.k n big polys = polynomials_are p.k n big fits.secret.dimensions.big_length in
    let phase : List ℕ = glwe_phase polys acc in
    let phase_long : length phase ≡ n = laws.steps.phases.phase_length n polys acc holds.fits in
    let by : ℕ = exponent_after p.log_n small words (length small) in
    let turned : List ℕ = rotation by test in
    let turned_long : length turned ≡ n = laws.steps.rotations.rotation_length by test ∙ long in
    let some : 0 < n = pow_pos p.log_n in
    let there : List ℕ = rotation (2 * n - switched_phase p.log_n small words) test in
    let place : get_or (row_difference phase turned) 0 0 ≡ word_difference (phase_of big (extracted acc)) (get_or there 0 0) =
    laws.steps.rows.zip_word word_difference phase turned 0 (omega arith) (omega arith)
    ∙ ap (λ w. word_difference w (get_or turned 0 0)) (sym (ap (λ bits. phase_of bits (extracted acc)) (sym is.flat_bits) ∙ laws.extraction.phase_extracted n polys acc some holds.fits))
    ∙ ap (λ row. word_difference (phase_of big (extracted acc)) (get_or row 0 0)) (turned_back laws.steps.rotations laws.switched.switching p.log_n small words test long) in
    let within : size (get_or (row_difference phase turned) 0 0) ≤ length small * step_noise p + ones_of (take (length small) small) * one_noise p =
    holds.near 0 0 (omega (arith, laws.steps.rows.zip_length word_difference phase turned)) in
    let few : ones_of (take (length small) small) * one_noise p ≤ p.small_ones * one_noise p =
    mul-le-mul_right (one_noise p) (subst (λ bits. ones_of bits ≤ p.small_ones) (sym (take_all (length small) small (omega arith))) fits.secret.few_in_small) in
    let same : length small * step_noise p ≡ p.small_dim * step_noise p = ap (λ k. k * step_noise p) fits.secret.dimensions.small_length in
    record {
      fits = subst (λ bits. FitsKey bits (extracted acc)) is.flat_bits (laws.extraction.extracted_fits n polys acc holds.fits);
      near = subst (λ w. size w ≤ boot_noise p) place (omega arith);
    }

-- for a key of whatever shape the parameters have
read_key : BootServing → (key : BootRows) (test words : List ℕ) (p : KeyNumbers) (big small : List Bool) → length test ≡ 2 ^ key.shape.log_n → length words ≡ length key.ggsws + 1 → shape_of p ≡ key.shape → BootKeyFits p big small key.ggsws → Read p big small test words (bootstrapped key test words)
unfolding bootstrapped
read_key laws key test words p big small long fitting same fits =
    let P : GlweShape → Type 0 = λ shape.
    length test ≡ 2 ^ shape.log_n
    → Read p big small test words (extracted (blind_rotation shape.log_n (first_accumulator shape test (get_or words (length key.ggsws) 0)) key.ggsws words)) in
    subst P same
    (λ l.
    read laws p big small key.ggsws test words (blind_rotation p.log_n (first_accumulator (shape_of p) test (get_or words (length key.ggsws) 0)) key.ggsws words) fits l
    (after_all laws.steps p big small key.ggsws test words fits l fitting))
    long

pub bootstrapped_near : BootServing → (key : BootRows) (test words : List ℕ) → length test ≡ 2 ^ key.shape.log_n → length words ≡ length key.ggsws + 1 → ReadsTest key test words (bootstrapped key test words)
bootstrapped_near laws key test words long fitting p big small same fits = (read_key laws key test words p big small long fitting same fits).near

pub bootstrapped_entry : BootServing → (key : BootRows) (test words : List ℕ) → key.shape.log_n ≤ 13 → length test ≡ 2 ^ key.shape.log_n → length words ≡ length key.ggsws + 1 → LooksUp key test words (bootstrapped key test words)
bootstrapped_entry laws key test words high long fitting p big small entries width v bound same fits table below stands room =
    let result : List ℕ = bootstrapped key test words in
    let is : Read p big small test words result = read_key laws key test words p big small long fitting same fits in
    let numbers : p.log_n ≡ key.shape.log_n = ap (λ (shape : GlweShape). shape.log_n) same in
    let entry : get_or (rotation (2 * 2 ^ p.log_n - switched_phase p.log_n small words) test) 0 0 ≡ encoded width (entry_at entries v) =
    ap (λ t. get_or (rotation (2 * 2 ^ p.log_n - switched_phase p.log_n small words) t) 0 0) table
    ∙ entry_read laws.switched laws.lookups p.log_n width v bound p.small_ones small words entries (omega arith) below fits.secret.few_in_small stands room in
    let error : unsigned_abs (centred_error (phase_of big result) (entry_at entries v) width) ≡ size (word_difference (phase_of big result) (encoded width (entry_at entries v))) =
    laws.switched.noise.error_size (phase_of big result) width (entry_at entries v) in
    record {
      fits = is.fits;
      near =
          subst (λ e. e ≤ boot_noise p) (sym error)
          (subst (λ w. size (word_difference (phase_of big result) w) ≤ boot_noise p) entry is.near);
    }

pub bootstraps : BootServing → BootstrapLaws
bootstraps laws = record { bootstrapped_near = bootstrapped_near laws; bootstrapped_entry = bootstrapped_entry laws }
