-- The keys of a seed fit each other, and the errors keep their bounds, whatever the seed.
use Rattle.std.specs.Prelude.{◌≡◌, ℕ, ◌*◌, ◌≤◌, ◌^◌, ℤ, Bool, List, length}
use Rattle.lwe_core.specs.Secret.{ones_of}
use Rattle.lwe_core.specs.Decoding.{encoded}
use Rattle.lwe_core.specs.Encrypts.{Encrypts}
use Rattle.key_switch.specs.Key.{SwitchRowsFit}
use Rattle.gadget_decomp.specs.Decomposition.{IsGadget}
use Rattle.blind_rotate.specs.Fits.{KeyNumbers, BootRowsFit, KeysFit}
use Rattle.fhe_params.specs.declared.params.Params.{Params}
use Rattle.fhe_params.specs.Params.{IsParams}
use Rattle.key_gen.specs.Seeds.{drawn_bits, drawn_row, drawn_switch_key, drawn_boot_key, key_numbers, CanBeDrawn, big_key_of_seed, small_key_of_seed, switch_key_of_seed, boot_key_of_seed}

-- secret keys, switch keys and fresh ciphertexts
pub record KeyLaws : Type 0 where
  -- a secret key has no more ones than were drawn
  pub few_ones : (key : List ℕ) (dim ones : ℕ) → 1 ≤ dim → ones_of (drawn_bits key dim ones) ≤ ones
  -- the rows of a switch key fit both secret keys within the bound on errors
  pub switch_fits : (key : List ℕ) (base level bound : ℕ) (big small : List Bool) → IsGadget base level
      → SwitchRowsFit base level bound big small (drawn_switch_key key base level bound big small).rows
  -- a fresh ciphertext stands for its value within the bound on errors
  pub fresh : (key : List ℕ) (place : ℕ) (bits : List Bool) (value : ℤ) (width bound : ℕ)
      → Encrypts bits (drawn_row key place bits (encoded width value) bound) value width bound

-- boot keys, and all keys together
pub record BootKeyLaws : Type 0 where
  -- the rows of a boot key fit both secret keys within the bound on errors
  pub boot_fits : (key : List ℕ) (p : KeyNumbers) (big small : List Bool) → IsGadget p.boot_base p.boot_level
      → length big ≡ p.k * 2 ^ p.log_n
      → BootRowsFit p.k p.log_n p.boot_base p.boot_level p.big_error big small (drawn_boot_key key p big small).ggsws
  -- keys can be drawn for all parameters within their limits
  pub parameters_can : (params : Params) → IsParams params → CanBeDrawn (key_numbers params)
  -- and whatever the seed, the keys that are drawn fit each other
  pub keys_fit : (p : KeyNumbers) (seed : List ℕ) → CanBeDrawn p
      → KeysFit p (big_key_of_seed p seed) (small_key_of_seed p seed)
      (switch_key_of_seed p seed).rows (boot_key_of_seed p seed).ggsws
