-- The bounds of circuits are made of what their operations add to the noise.
use Rattle.std.specs.Prelude.{◌≡◌, ℕ, ◌+◌, ◌-◌, ◌*◌, ◌^◌, ◌<◌}
use Rattle.fhe_params.specs.declared.params.Params.{Params}
use Rattle.fhe_params.specs.Params.{coefficients, big_dimension}
use Rattle.tfhe_level.specs.declared.shape.Shape.{Shape}
use Rattle.tfhe_level.specs.Nodes.{nodes_of}
use Rattle.key_switch.specs.Switching as switching
use Rattle.ggsw_core.specs.Noise as products
use Rattle.blind_rotate.specs.Noise as bootstraps
use Rattle.noise_model.specs.Bounds.{switch_noise, rows_noise, digits_noise, boot_noise, noise_bound}
use Rattle.noise_model.specs.Constraints.{IsMet, boot_constraint, out_constraint}
use Rattle.key_gen.specs.Seeds.{key_numbers}

-- what parameters say of the noise of an operation is what the operation adds
pub record NoiseLaws : Type 0 where
  -- a key switch
  pub switch_adds : (p : Params) → switch_noise p
      ≡ switching.switch_noise (big_dimension p) p.switch.base p.switch.level p.glwe.ones p.lwe.error
  -- a product with a bit, by the errors of its rows
  pub rows_add : (p : Params) → rows_noise p
      ≡ products.rows_noise (p.glwe.k + 1) p.boot.level (coefficients p.glwe) p.boot.base p.glwe.error
  -- and by rounding to digits
  pub digits_add : (p : Params) → digits_noise p ≡ products.digits_noise p.glwe.ones p.boot.base p.boot.level
  -- a bootstrap
  pub boot_adds : (p : Params) → boot_noise p ≡ bootstraps.boot_noise (key_numbers p)

-- a constraint that is met
pub record ConstraintLaws : Type 0 where
  -- at a bootstrap leaves room for the noise of switching to 2N places, so that the entry is looked up
  pub boot_is_read : (p : Params) (shape : Shape) (boot : ℕ × ℕ) → IsMet (boot_constraint p shape boot)
      → noise_bound p (nodes_of shape) boot.1 + (1 + p.lwe.ones) * 2 ^ (62 - p.glwe.log_n) < 2 ^ (62 - shape.width)
  -- and at an out leaves less than half a step, so that it is decoded
  pub out_is_read : (p : Params) (shape : Shape) (out : ℕ × ℕ) → IsMet (out_constraint p shape out)
      → noise_bound p (nodes_of shape) out.1 < 2 ^ (62 - shape.width)
