-- What each kind of operation gives stands for its value, where its operands do.
use Rattle.std.proofs.Common.{◌≡◌, ℕ, zero, suc, ◌+◌, ◌-◌, ◌*◌, ◌^◌, ◌<◌, ◌≤◌, ℤ, pos, ◌+ℤ◌, ◌*ℤ◌, Bool, true, false, List, [], ◌∷◌, length, replicate, map, get_or, All, refl, sym, ap, ◌∙◌, subst, arith, Some}
use Rattle.std.specs.Prelude.{unsigned_abs}
use Rattle.std.specs.List.{sum_by, AllByRecursion, range_with_len}
use Rattle.std.proofs.lemmas.Int.{ints}
use Rattle.std.proofs.lemmas.List.{length-replicate, get_or-replicate}
use Rattle.std.proofs.lemmas.List.FromFn.{length-map-range_with_len}
use Rattle.std.proofs.lemmas.List.Sums.{sum_by-cons}
use Rattle.std.proofs.lemmas.List.Elements.{All-weaker}
use Rattle.word_ring.specs.Words.{IsWord, word_difference, size}
use Rattle.word_ring.specs.Rows.{sum_with_scaled, RowLaws}
use Rattle.word_ring.specs.Signed.{word_of}
use Rattle.lwe_core.specs.Phase.{FitsKey, phase_of}
use Rattle.lwe_core.specs.Encrypts.{Encrypts}
use Rattle.lwe_core.specs.Laws.{NoiseLaws, DecodingLaws}
use Rattle.gadget_decomp.specs.Decomposition.{IsGadget}
use Rattle.key_switch.specs.Key.{SwitchRows, SwitchRowsFit, IsSwitchKey}
use Rattle.key_switch.specs.Switching as switching
use Rattle.key_switch.specs.Laws.{SwitchLaws, SwitchKeyFits}
use Rattle.lut_encode.specs.TestPolynomial.{test_polynomial, test_coefficient}
use Rattle.blind_rotate.specs.BootKey.{BootRows}
use Rattle.blind_rotate.specs.Bootstrap.{bootstrapped}
use Rattle.blind_rotate.specs.Fits.{KeysFit}
use Rattle.blind_rotate.specs.Laws.{FittingLaws, BootstrapLaws}
use Rattle.key_gen.specs.Seeds.{key_numbers}
use Rattle.fhe_params.specs.declared.params.Params.{Params}
use Rattle.fhe_params.specs.Params.{big_dimension, IsParams}
use Rattle.forms.specs.Forms.{number_at, int_sum, form_value}
use Rattle.forms.specs.Laws.{FormLaws}
use Rattle.tfhe_level.specs.Laws.{NodeLaws}
use Rattle.noise_model.specs.Bounds.{switch_noise, boot_noise}
use Rattle.noise_laws.specs.Laws as sides
use Rattle.circuit_run.specs.Running.{row_at, weighted_row, lin_row, looked_up_by, switched_by}
use Rattle.circuit_run.specs.Noise.{AreOfParams}

-- the laws that the noise of a run stands on
pub record CiphertextLaws : Type 0 where
  pub rows : RowLaws
  pub noise : NoiseLaws
  pub decoding : DecodingLaws
  pub switching : SwitchLaws
  pub fitting : FittingLaws
  pub bootstraps : BootstrapLaws
  pub adds : sides.NoiseLaws
  pub constraints : sides.ConstraintLaws
  pub forms : FormLaws
  pub nodes : NodeLaws

-- the same, spelled otherwise
pub otherwise : (bits : List Bool) (width : ℕ) (row row' : List ℕ) (value value' : ℤ) (bound bound' : ℕ) → row' ≡ row → value' ≡ value → bound' ≡ bound → Encrypts bits row value width bound → Encrypts bits row' value' width bound'
otherwise bits width row row' value value' bound bound' p q r stands = rw (p, q, r) stands

-- ---- weighted sums

zeros_are_words : (n : ℕ) → All IsWord (replicate n 0)
zeros_are_words n = λ k d lt. subst (λ word. word < 2 ^ 64) (sym (get_or-replicate n k 0 d (omega (arith, length-replicate {A = ℕ} n 0)))) (omega arith)

turned : (a b : ℤ) → a +ℤ b ≡ b +ℤ a
turned a b = omega (arith, ints)

turned_naturals : (whole first rest : ℕ) → whole ≡ first + rest → whole ≡ rest + first
turned_naturals whole first rest e = omega arith

weighted_stands : CiphertextLaws → (bits : List Bool) (width : ℕ) (rows : List (List ℕ)) (values : List ℤ) (bounds : List ℕ) (terms : List (ℕ × ℤ)) → AllByRecursion (λ t. Encrypts bits (row_at rows t.0) (number_at values t.0) width (get_or bounds t.0 0)) terms
    → Encrypts bits (weighted_row (length bits + 1) terms rows) (int_sum (map (λ t. t.1 *ℤ number_at values t.0) terms)) width (sum_by (λ t. unsigned_abs t.1 * get_or bounds t.0 0) terms)
weighted_stands laws bits width rows values bounds [] each =
    let zeros : List ℕ = replicate (length bits + 1) 0 in
    subst (λ row. Encrypts bits row (pos 0) width 0) (sym (laws.rows.combined_none zeros (zeros_are_words (length bits + 1)))) (laws.noise.encrypts_zero bits width)
weighted_stands laws bits width rows values bounds (t ∷ terms) each =
    let zeros : List ℕ = replicate (length bits + 1) 0 in
    let row : List ℕ = row_at rows t.0 in
    let others : List ℕ = weighted_row (length bits + 1) terms rows in
    let value : ℤ = number_at values t.0 in
    let rest : ℤ = int_sum (map (λ u. u.1 *ℤ number_at values u.0) terms) in
    let of_term : ℕ × ℤ → ℕ = λ u. unsigned_abs u.1 * get_or bounds u.0 0 in
    let bound : ℕ = sum_by of_term terms in
    let operand = each.0 in
    let more = laws.noise.encrypts_sum_with_multiple bits others row rest value t.1 width bound (get_or bounds t.0 0) (weighted_stands laws bits width rows values bounds terms each.1) operand in
    otherwise bits width (sum_with_scaled others (word_of t.1) row) _ (rest +ℤ t.1 *ℤ value) _ (bound + unsigned_abs t.1 * get_or bounds t.0 0) _
    (laws.rows.combined_first zeros (map (λ u. word_of u.1) terms) (map (λ u. row_at rows u.0) terms) (word_of t.1) row (operand.fits ∙ sym (length-replicate {A = ℕ} (length bits + 1) 0)))
    (turned (t.1 *ℤ value) rest)
    (turned_naturals _ (of_term t) bound (sum_by-cons of_term t terms))
    more

pub lin_stands : CiphertextLaws → (bits : List Bool) (dim width : ℕ) (rows : List (List ℕ)) (values : List ℤ) (bounds : List ℕ) (constant : ℤ) (terms : List (ℕ × ℤ)) → length bits ≡ dim → AllByRecursion (λ t. Encrypts bits (row_at rows t.0) (number_at values t.0) width (get_or bounds t.0 0)) terms
    → Encrypts bits (lin_row dim width constant terms rows) (form_value constant terms values) width (sum_by (λ t. unsigned_abs t.1 * get_or bounds t.0 0) terms)
unfolding lin_row
lin_stands laws bits dim width rows values bounds constant terms same each =
    let sum : ℤ = int_sum (map (λ t. t.1 *ℤ number_at values t.0) terms) in
    let bound : ℕ = sum_by (λ t. unsigned_abs t.1 * get_or bounds t.0 0) terms in
    subst (λ d. Encrypts bits (lin_row d width constant terms rows) (constant +ℤ sum) width bound) same
    (otherwise bits width _ _ (sum +ℤ constant) _ _ _ refl (turned constant sum) refl
    (laws.noise.encrypts_message bits (weighted_row (length bits + 1) terms rows) sum constant width bound (weighted_stands laws bits width rows values bounds terms each)))

-- ---- key switches

fits_otherwise : (base base' level level' error : ℕ) (big small : List Bool) (rows : List (List ℕ)) → base ≡ base' → level ≡ level' → SwitchRowsFit base' level' error big small rows → SwitchRowsFit base level error big small rows
fits_otherwise base base' level level' error big small rows p q fit = rw (p, q) fit

noise_otherwise : (dim dim' base base' level level' ones error : ℕ) → dim ≡ dim' → base ≡ base' → level ≡ level' → switching.switch_noise dim base level ones error ≡ switching.switch_noise dim' base' level' ones error
noise_otherwise dim dim' base base' level level' ones error p q r = rw (p, q, r) refl

gadget_of : (base base' level level' : ℕ) → base ≡ base' → level ≡ level' → IsGadget base' level' → IsGadget base level
gadget_of base base' level level' p q is = rw (p, q) is

-- the switch key of parameters fits
switch_key_fits : (p : Params) (big small : List Bool) (switch : SwitchRows) (boot : BootRows) → IsParams p → AreOfParams p switch boot → KeysFit (key_numbers p) big small switch.rows boot.ggsws → SwitchKeyFits switch big small p.glwe.ones p.lwe.error
switch_key_fits p big small switch boot is of_p fit =
    let big_dim : length big ≡ switch.big_dim = fit.secret.dimensions.big_length ∙ sym of_p.big_dim in
    let small_dim : length small ≡ switch.small_dim = fit.secret.dimensions.small_length ∙ sym of_p.small_dim in
    record {
      is_key = record {
        gadget = gadget_of switch.base p.switch.base switch.level p.switch.level of_p.base of_p.level
            (record { some_bits = is.switch.base_low; some_digits = is.switch.level_low; fits = is.switch.bits });
        count = fit.switch_rows.count ∙ ap (λ n. n * p.switch.level) big_dim ∙ sym (ap (λ n. switch.big_dim * n) of_p.level);
        long = All-weaker (FitsKey small) (λ row. length row ≡ switch.small_dim + 1) (λ row e. e ∙ ap (λ n. n + 1) small_dim) switch.rows fit.switch_rows.long;
      };
      big_length = big_dim;
      small_length = small_dim;
      few_ones = fit.secret.few_in_big;
      rows_fit = fits_otherwise switch.base p.switch.base switch.level p.switch.level p.lwe.error big small switch.rows of_p.base of_p.level fit.switch_rows;
    }

pub switch_stands : CiphertextLaws → (p : Params) (big small : List Bool) (switch : SwitchRows) (boot : BootRows) (row : List ℕ) (value : ℤ) (width bound : ℕ) → IsParams p → AreOfParams p switch boot → KeysFit (key_numbers p) big small switch.rows boot.ggsws → Encrypts big row value width bound
    → Encrypts small (switching.switched switch row) value width (bound + switch_noise p)
switch_stands laws p big small switch boot row value width bound is of_p fit stands =
    let key = switch_key_fits p big small switch boot is of_p fit in
    let long : length row ≡ switch.big_dim + 1 = stands.fits ∙ ap (λ n. n + 1) key.big_length in
    let fits : FitsKey small (switching.switched switch row) = laws.switching.switched_length switch row key.is_key ∙ sym (ap (λ n. n + 1) key.small_length) in
    let near = laws.switching.switched_near switch row long big small p.glwe.ones p.lwe.error key in
    let same : switching.switch_noise switch.big_dim switch.base switch.level p.glwe.ones p.lwe.error ≡ switch_noise p =
    noise_otherwise switch.big_dim (big_dimension p) switch.base p.switch.base switch.level p.switch.level p.glwe.ones p.lwe.error of_p.big_dim of_p.base of_p.level ∙ sym (laws.adds.switch_adds p) in
    laws.noise.encrypts_moved big small row (switching.switched switch row) value width bound (switch_noise p) stands fits
    (subst (λ n. size (word_difference (phase_of small (switching.switched switch row)) (phase_of big row)) ≤ n) same near)

-- ---- bootstraps

pub length-test : (entries : List ℤ) (n width : ℕ) → length (test_polynomial entries n width) ≡ n
length-test entries n width = length-map-range_with_len (test_coefficient entries n width) 0 n

pub boot_stands : CiphertextLaws → (p : Params) (big small : List Bool) (switch : SwitchRows) (boot : BootRows) (row : List ℕ) (entries : List ℤ) (v width bound : ℕ) → IsParams p → AreOfParams p switch boot → KeysFit (key_numbers p) big small switch.rows boot.ggsws → Encrypts small row (pos v) width bound → v < 2 ^ width → bound + (1 + p.lwe.ones) * 2 ^ (62 - p.glwe.log_n) < 2 ^ (62 - width)
    → Encrypts big (looked_up_by (Some boot) width entries row) (number_at entries v) width (boot_noise p)
boot_stands laws p big small switch boot row entries v width bound is of_p fit stands small_v room =
    let key = laws.fitting.boot_key_fits (key_numbers p) big small switch.rows boot.ggsws fit in
    let log_n : boot.shape.log_n ≡ p.glwe.log_n = ap (λ shape. shape.log_n) of_p.shape in
    let test : List ℕ = test_polynomial entries (2 ^ boot.shape.log_n) width in
    let low : boot.shape.log_n ≤ 13 = let high = is.glwe.log_n_high in omega (arith, log_n, high) in
    let long : length row ≡ length boot.ggsws + 1 = stands.fits ∙ sym (ap (λ n. n + 1) key.boot_rows.number) in
    let read = laws.bootstraps.bootstrapped_entry boot test row low (length-test entries (2 ^ boot.shape.log_n) width) long
    (key_numbers p) big small entries width v bound (sym of_p.shape) key (ap (λ n. test_polynomial entries (2 ^ n) width) log_n) small_v stands room in
    subst (λ n. Encrypts big (bootstrapped boot test row) (number_at entries v) width n) (sym (laws.adds.boot_adds p)) read
