-- The words of a bootstrap (Chillotti et al. 2020, bootstrapping with a table).
use Rattle.std.specs.Prelude.{ℕ, ◌-◌, ◌*◌, ◌^◌, List, length, slice_index}
use Rattle.std.specs.List.{fold, zip}
use Rattle.word_ring.specs.Rounding.{mod_switched}
use Rattle.negacyclic.specs.Product.{rotation}
use Rattle.glwe_core.specs.Glwe.{rotated, trivial_glwe, extracted}
use Rattle.ggsw_core.specs.Ggsw.{GgswRows, cmux_of}
use Rattle.blind_rotate.specs.BootKey.{GlweShape, BootRows}

-- one step: CMux between the accumulator and X^a times it, where a is the switched mask word
unfoldable pub accumulator_step : ℕ → List (List ℕ) → GgswRows → ℕ → List (List ℕ)
accumulator_step log_n acc g word = cmux_of g acc (rotated (mod_switched word log_n) acc)

-- a step for each GGSW ciphertext with its mask word, one after the other
abbrev pub blind_rotation : ℕ → List (List ℕ) → List GgswRows → List ℕ → List (List ℕ)
blind_rotation log_n acc ggsws words = fold (λ acc p. accumulator_step log_n acc p.0 p.1) acc (zip ggsws words)

-- the accumulator before the first step: without a mask, X^(-b) times the test polynomial, where b is the switched body
unfoldable pub first_accumulator : GlweShape → List ℕ → ℕ → List (List ℕ)
first_accumulator shape test body =
    trivial_glwe shape.k (rotation (2 * 2 ^ shape.log_n - mod_switched body shape.log_n) test)

-- a bootstrap: the accumulator after all steps, extracted
unfoldable pub bootstrapped : BootRows → List ℕ → List ℕ → List ℕ
bootstrapped key test words =
    let start = first_accumulator key.shape test (slice_index words (length key.ggsws)) in
    extracted (blind_rotation key.shape.log_n start key.ggsws words)
