-- The parameters of a circuit, and the limits that they keep.
use Rattle.std.specs.Prelude.{ℕ, ◌-◌, ◌*◌, ◌/◌, ◌^◌, ◌<◌, ◌≤◌, Bool, ◌&&◌, nat_le}
use Rattle.fhe_params.specs.declared.params.GlweChoice.{GlweChoice}
use Rattle.fhe_params.specs.declared.params.LweChoice.{LweChoice}
use Rattle.fhe_params.specs.declared.params.Gadget.{Gadget}
use Rattle.fhe_params.specs.declared.params.Params.{Params}
use Rattle.fhe_params.specs.Limits.{most_polynomials, most_log_n, most_small_dimension, error_limit, most_base, most_digit_bits}

-- the coefficients of a polynomial
abbrev pub coefficients : GlweChoice → ℕ
coefficients g = 2 ^ g.log_n

-- the dimension of big ciphertexts: the coefficients of k polynomials
abbrev pub big_dimension : Params → ℕ
big_dimension p = p.glwe.k * coefficients p.glwe

-- whether a number lies between these two
abbrev pub is_between : ℕ → ℕ → ℕ → Bool
is_between least most n = nat_le least n && nat_le n most

-- the parameters of the ring keep their limits
pub record IsGlwe (g : GlweChoice) : Type 0 where
  pub k_low : 1 ≤ g.k
  pub k_high : g.k ≤ most_polynomials
  pub log_n_low : 1 ≤ g.log_n
  pub log_n_high : g.log_n ≤ most_log_n
  pub ones : g.ones ≤ g.k * coefficients g
  pub error : g.error < error_limit

-- the test of that
abbrev pub is_glwe : GlweChoice → Bool
is_glwe g =
    (is_between 1 most_polynomials g.k && is_between 1 most_log_n g.log_n)
    && (is_between 0 (g.k * coefficients g) g.ones && is_between 0 (error_limit - 1) g.error)

-- the parameters of small ciphertexts keep their limits
pub record IsLwe (l : LweChoice) : Type 0 where
  pub n_low : 1 ≤ l.n
  pub n_high : l.n ≤ most_small_dimension
  pub ones : l.ones ≤ l.n
  pub error : l.error < error_limit

-- the test of that
abbrev pub is_lwe : LweChoice → Bool
is_lwe l = is_between 1 most_small_dimension l.n && (is_between 0 l.n l.ones && is_between 0 (error_limit - 1) l.error)

-- a cut into digits keeps its limits
pub record IsGadget (g : Gadget) : Type 0 where
  pub base_low : 1 ≤ g.base
  pub base_high : g.base ≤ most_base
  pub level_low : 1 ≤ g.level
  pub bits : g.base * g.level ≤ most_digit_bits

-- the test of that
abbrev pub is_gadget : Gadget → Bool
is_gadget g = is_between 1 most_base g.base && is_between 1 (most_digit_bits / g.base) g.level

-- all parameters keep their limits
pub record IsParams (p : Params) : Type 0 where
  pub glwe : IsGlwe p.glwe
  pub lwe : IsLwe p.lwe
  pub boot : IsGadget p.boot
  pub switch : IsGadget p.switch

-- the test of that
abbrev pub is_params : Params → Bool
is_params p = (is_glwe p.glwe && is_lwe p.lwe) && (is_gadget p.boot && is_gadget p.switch)
