-- Boot keys: a GGSW ciphertext for each bit of the small key, in order (Chillotti et al. 2020, bootstrapping keys).
use Rattle.std.specs.Prelude.{◌≡◌, ℕ, ◌+◌, ◌^◌, ◌<◌, ◌≤◌, List, [], All, length, replicate, slice_set}
use Rattle.std.specs.List.{slice_index_or}
use Rattle.ggsw_core.specs.Ggsw.{GgswRows, IsGgsw, row_lengths, row_of, zero_ggsw, with_row}

-- the shape of GLWE ciphertexts: k mask polynomials and a body, of 2^log_n coefficients each
pub record GlweShape : Type 0 where
  pub k : ℕ
  pub log_n : ℕ

-- that of k and log_n
abbrev pub glwe_shape : ℕ → ℕ → GlweShape
glwe_shape k log_n = record { k = k; log_n = log_n }

-- how many coefficients each of their parts has
abbrev pub shape_lengths : GlweShape → List ℕ
shape_lengths shape = replicate (shape.k + 1) (2 ^ shape.log_n)

-- a boot key: the shape of its rows, how words are taken to digits, and its GGSW ciphertexts
pub record BootRows : Type 0 where
  pub shape : GlweShape
  pub base : ℕ
  pub level : ℕ
  pub ggsws : List GgswRows

-- the key of this shape, base, level and these GGSW ciphertexts
abbrev pub boot_rows : ℕ → ℕ → ℕ → ℕ → List GgswRows → BootRows
boot_rows k log_n base level ggsws = record {
  shape = glwe_shape k log_n;
  base = base;
  level = level;
  ggsws = ggsws;
}

-- the GGSW ciphertext of bit i
abbrev pub ggsw_at : List GgswRows → ℕ → GgswRows
ggsw_at ggsws i = slice_index_or ggsws i (record { base = 0; level = 0; rows = [] })

-- the row of part j at place t of bit i
abbrev pub boot_row : BootRows → ℕ → ℕ → ℕ → List (List ℕ)
boot_row key i j t = row_of (ggsw_at key.ggsws i) j t

-- the GGSW ciphertexts are as the key says
pub record IsBootKey (key : BootRows) : Type 0 where
  pub ciphertexts : All IsGgsw key.ggsws
  pub lengths : All (λ g. row_lengths g ≡ shape_lengths key.shape) key.ggsws
  pub bases : All (λ g. g.base ≡ key.base) key.ggsws
  pub levels : All (λ g. g.level ≡ key.level) key.ggsws

-- the key has a row of part j at place t of bit i
pub record HasBootRow (key : BootRows) (i j t : ℕ) : Type 0 where
  pub bit : i < length key.ggsws
  pub part : j ≤ key.shape.k
  pub first : 1 ≤ t
  pub last : t ≤ key.level

-- the key for so many bits whose rows are 0
abbrev pub zero_boot_key : ℕ → ℕ → ℕ → ℕ → ℕ → BootRows
zero_boot_key k log_n dim base level =
    boot_rows k log_n base level (replicate dim (zero_ggsw (k + 1) (2 ^ log_n) base level))

-- the key with another row of part j at place t of bit i
abbrev pub with_boot_row : BootRows → ℕ → ℕ → ℕ → List (List ℕ) → BootRows
with_boot_row key i j t row = record key { ggsws = slice_set key.ggsws i (with_row (ggsw_at key.ggsws i) j t row) }
