-- How large a weight times an end of a range is.
use Rattle.std.proofs.Common.{◌*◌, ◌≤◌, ℤ, ◌*ℤ◌, w64, arith, mul-le-mul}
use Rattle.std.specs.Prelude.{FitsSigned, unsigned_abs}
use Rattle.std.proofs.lemmas.Int.{unsigned_abs-mul, fits_signed_mul}
use Rattle.forms.specs.Limits.{most_weight}
use Rattle.range_pass.specs.Bounds.{most_end}

-- it fits 64 bits
pub product_fits : (weight end : ℤ) → unsigned_abs weight ≤ most_weight → unsigned_abs end ≤ most_end
    → FitsSigned w64 (weight *ℤ end)
product_fits weight end small_weight small_end =
    fits_signed_mul w64 weight end most_weight most_end small_weight small_end (omega arith)

-- and is no larger in size than the product of their limits
pub product_small : (weight end : ℤ) → unsigned_abs weight ≤ most_weight → unsigned_abs end ≤ most_end
    → unsigned_abs (weight *ℤ end) ≤ most_weight * most_end
product_small weight end small_weight small_end =
    rw (unsigned_abs-mul weight end) (mul-le-mul small_weight small_end)
