-- the definitions on worked circuits and tables
use Rattle.std.proofs.Common.{◌≡◌, ℕ, pos, List, [], ◌∷◌, refl}
use Rattle.fhe_params.specs.declared.params.Params.{Params}
use Rattle.tfhe_level.specs.declared.level.TfheOp.{TfheOp}
use Rattle.tfhe_level.specs.declared.level.TfheOp.TheVariants.{Input, Lin, Switch, Boot, Out}
use Rattle.noise_model.specs.Bounds.{noise_bounds}
use Rattle.noise_model.specs.Constraints.{modulus_noise}

-- one choice at N 256 or 16, with small keys
abbrev small_params : ℕ → Params
small_params log_n = record {
  glwe = record { k = 1; log_n = log_n; ones = 4; error = 1024 };
  lwe = record { n = 8; ones = 2; error = 1048576 };
  boot = record { base = 8; level = 4 };
  switch = record { base = 4; level = 6 };
}

-- one at N 1024
abbrev large_params : Params
large_params = record {
  glwe = record { k = 1; log_n = 10; ones = 32; error = 131072 };
  lwe = record { n = 128; ones = 24; error = 1073741824 };
  boot = record { base = 12; level = 2 };
  switch = record { base = 4; level = 4 };
}

abbrev lookup : List TfheOp
lookup = Input (pos 0) (pos 3) ∷ Switch 0 ∷ Boot 1 (pos 1 ∷ pos 3 ∷ pos 0 ∷ pos 2 ∷ []) ∷ Out 2 (pos 0) (pos 3) ∷ []

abbrev squares : List TfheOp
squares =
    Input (pos 0) (pos 3) ∷ Input (pos 0) (pos 3) ∷ Input (pos 0) (pos 2)
    ∷ Lin (pos 0) ((0, pos 1) ∷ (1, pos 2) ∷ (2, pos 3) ∷ [])
    ∷ Switch 3
    ∷ Boot 4 []
    ∷ Out 5 (pos 0) (pos 9)
    ∷ []

bounds_of_lookup : noise_bounds (small_params 8) lookup ≡ 1024 ∷ 2211908158464 ∷ 23622320128 ∷ 23622320128 ∷ []
bounds_of_lookup = refl

bounds_at_16 : noise_bounds (small_params 4) lookup ≡ 1024 ∷ 2199828562944 ∷ 21609054208 ∷ 21609054208 ∷ []
bounds_at_16 = refl

bounds_of_squares : noise_bounds large_params squares ≡ 131072 ∷ 131072 ∷ 131072 ∷ 786432 ∷ 4538784000245760 ∷ 576144092954624 ∷ 576144092954624 ∷ []
bounds_of_squares = refl

modulus_noises : modulus_noise (small_params 8) ∷ modulus_noise (small_params 4) ∷ modulus_noise large_params ∷ [] ≡ 54043195528445952 ∷ 864691128455135232 ∷ 112589990684262400 ∷ []
modulus_noises = refl
