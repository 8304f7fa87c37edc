-- What keys have to be for the parameters, over plain numbers.
use Rattle.std.specs.Prelude.{◌≡◌, ℕ, ◌*◌, ◌^◌, ◌<◌, Bool, false, List, [], ◌∷◌, All, length, take, drop}
use Rattle.std.specs.List.{slice_index_or}
use Rattle.std.proofs.Common.{zero, suc}
use Rattle.lwe_core.specs.Secret.{SecretFits}
use Rattle.key_switch.specs.Key.{SwitchRowsFit}
use Rattle.ggsw_core.specs.Ggsw.{GgswRows}
use Rattle.ggsw_core.specs.Noise.{GgswFits}
use Rattle.blind_rotate.specs.BootKey.{ggsw_at}

-- the k polynomials of n bits each whose coefficients in order are the bits of a flat key
abbrev pub key_polynomials : ℕ → ℕ → List Bool → List (List Bool)
key_polynomials zero n flat = []
key_polynomials (suc k) n flat = take n flat ∷ key_polynomials k n (drop n flat)

-- the part of the fitting keys on boot rows: for each bit of the small key a GGSW ciphertext of this base and level,
-- whose rows fit the bit under the big key, with an error of at most `error` in the size of each coefficient
pub record BootRowsFit (k log_n base level error : ℕ) (big small : List Bool) (key : List GgswRows) : Type 0 where
  pub number : length key ≡ length small
  pub bases : All (λ g. g.base ≡ base) key
  pub levels : All (λ g. g.level ≡ level) key
  pub near :
      (i : ℕ) → i < length small
      → GgswFits (2 ^ log_n) error (key_polynomials k (2 ^ log_n) big) (slice_index_or small i false) (ggsw_at key i)

-- the numbers of the parameters that keys hang on
pub record KeyNumbers : Type 0 where
  pub k : ℕ
  pub log_n : ℕ
  pub big_ones : ℕ
  pub big_error : ℕ
  pub small_dim : ℕ
  pub small_ones : ℕ
  pub small_error : ℕ
  pub boot_base : ℕ
  pub boot_level : ℕ
  pub switch_base : ℕ
  pub switch_level : ℕ

-- a secret key, and a boot key whose rows fit it
pub record BootKeyFits (p : KeyNumbers) (big small : List Bool) (boot : List GgswRows) : Type 0 where
  pub secret : SecretFits (p.k * 2 ^ p.log_n) p.big_ones p.small_dim p.small_ones big small
  pub boot_rows : BootRowsFit p.k p.log_n p.boot_base p.boot_level p.big_error big small boot

-- the keys fit: the secret key, the rows of the switch key, and those of the boot key
pub record KeysFit (p : KeyNumbers) (big small : List Bool) (switch : List (List ℕ)) (boot : List GgswRows)
    : Type 0 where
  pub secret : SecretFits (p.k * 2 ^ p.log_n) p.big_ones p.small_dim p.small_ones big small
  pub switch_rows : SwitchRowsFit p.switch_base p.switch_level p.small_error big small switch
  pub boot_rows : BootRowsFit p.k p.log_n p.boot_base p.boot_level p.big_error big small boot
