-- How far the ciphertext of a node may be off, in parts of 2^64: worst cases, where Bergerat et al. 2023 take
-- variances.
use Rattle.std.specs.Prelude.{ℕ, ◌+◌, ◌-◌, ◌*◌, ◌^◌, min, List, [], slice_index, unsigned_abs}
use Rattle.std.specs.List.{sum_by}
use Rattle.fhe_params.specs.declared.params.Params.{Params}
use Rattle.fhe_params.specs.Params.{coefficients, big_dimension}
use Rattle.tfhe_level.specs.declared.level.TfheOp.{TfheOp}
use Rattle.tfhe_level.specs.declared.level.TfheOp.TheVariants.{Input, Lin, Switch, Boot, Out}
use Rattle.forms.specs.FromEarlier.{from_earlier}

-- what a key switch adds: for each row the greatest digit times the error, and for each one of the big key half the
-- weight of the last place, which rounding may leave
abbrev pub switch_noise : Params → ℕ
switch_noise p =
    big_dimension p * p.switch.level * 2 ^ (p.switch.base - 1) * p.lwe.error
    + p.glwe.ones * 2 ^ (63 - p.switch.base * p.switch.level)

-- what one product with a bit of the small key adds by the errors of its rows
abbrev pub rows_noise : Params → ℕ
rows_noise p = (p.glwe.k + 1) * p.boot.level * coefficients p.glwe * 2 ^ (p.boot.base - 1) * p.glwe.error

-- and where the bit is 1, by rounding to digits
abbrev pub digits_noise : Params → ℕ
digits_noise p = (1 + p.glwe.ones) * 2 ^ (63 - p.boot.base * p.boot.level)

-- what a bootstrap leaves: a product for each bit of the small key
abbrev pub boot_noise : Params → ℕ
boot_noise p = p.lwe.n * rows_noise p + p.lwe.ones * digits_noise p

-- the bound of an operation, from those of the operations before it
abbrev pub bound_of : Params → List ℕ → TfheOp → ℕ
bound_of p earlier (Input lo hi) = p.glwe.error
bound_of p earlier (Lin constant terms) = sum_by (λ t. unsigned_abs t.1 * slice_index earlier t.0) terms
bound_of p earlier (Switch source) = slice_index earlier source + switch_noise p
bound_of p earlier (Boot source entries) = boot_noise p
bound_of p earlier (Out source lo hi) = slice_index earlier source

-- the bounds of all operations
abbrev pub noise_bounds : Params → List TfheOp → List ℕ
noise_bounds p operations = from_earlier (bound_of p) [] operations

-- the bound of the operation with a number
abbrev pub noise_bound : Params → List TfheOp → ℕ → ℕ
noise_bound p operations number = slice_index (noise_bounds p operations) number

-- a bound as it is given: the least of itself and 2^64
abbrev pub capped : ℕ → ℕ
capped bound = min bound (2 ^ 64)
