-- The tests of limits are those of their rules.
use Rattle.std.proofs.Common.{◌≡◌, ℕ, ◌+◌, ◌-◌, ◌*◌, ◌/◌, ◌^◌, ◌≤◌, ◌<◌, Bool, true, false, ◌&&◌, nat_le, refl, arith, mul_comm, le-div_iff_mul-le}
use Rattle.std.specs.Prelude.{IsTrue, ◌↔◌}
use Rattle.std.proofs.lemmas.Bool.{and_parts}
use Rattle.std.proofs.lemmas.Bool.Decides.{nat_tests}
use Rattle.fhe_params.specs.declared.params.GlweChoice.{GlweChoice}
use Rattle.fhe_params.specs.declared.params.LweChoice.{LweChoice}
use Rattle.fhe_params.specs.declared.params.Gadget.{Gadget}
use Rattle.fhe_params.specs.declared.params.Params.{Params}
use Rattle.fhe_params.specs.Params.{is_between, coefficients, IsGlwe, IsLwe, IsGadget, IsParams, is_glwe, is_lwe, is_gadget, is_params}
use Rattle.fhe_params.specs.Laws.{LimitLaws}

-- a number from least to most
abbrev pub IsBetween : ℕ → ℕ → ℕ → Type 0
IsBetween least most n = (least ≤ n) × (n ≤ most)

pub lies_between : (least most n : ℕ) → is_between least most n ≡ true → IsBetween least most n
lies_between least most n held = let (low, high) = and_parts (nat_le least n) (nat_le n most) held in (grind (arith, nat_tests), grind (arith, nat_tests))

pub test_between : (least most n : ℕ) → least ≤ n → n ≤ most → is_between least most n ≡ true
test_between least most n low high = grind (arith, nat_tests)

both : (a b : Bool) → a ≡ true → b ≡ true → a && b ≡ true
both a b first second = rw (first, second) refl

pub bits_fit : (base level : ℕ) → 1 ≤ base → level ≤ 63 / base → base * level ≤ 63
bits_fit base level low most = let product : level * base ≤ 63 = (le-div_iff_mul-le {k = base} {x = level} {y = 63} low).0 most in omega (arith, mul_comm base level)

pub level_fits : (base level : ℕ) → 1 ≤ base → base * level ≤ 63 → level ≤ 63 / base
level_fits base level low bits =
    let product : level * base ≤ 63 = omega (arith, mul_comm base level) in
    (le-div_iff_mul-le {k = base} {x = level} {y = 63} low).1 product

glwe_test : (g : GlweChoice) → IsTrue (is_glwe g) ↔ IsGlwe g
glwe_test g = (
  λ held.
      let (sizes, rest) = and_parts (is_between 1 3 g.k && is_between 1 13 g.log_n) (is_between 0 (g.k * coefficients g) g.ones && is_between 0 (2 ^ 62 - 1) g.error) held in
      let (k_in, log_n_in) = and_parts (is_between 1 3 g.k) (is_between 1 13 g.log_n) sizes in
      let (ones_in, error_in) = and_parts (is_between 0 (g.k * coefficients g) g.ones) (is_between 0 (2 ^ 62 - 1) g.error) rest in
      let k = lies_between 1 3 g.k k_in in
      let log_n = lies_between 1 13 g.log_n log_n_in in
      let ones = lies_between 0 (g.k * coefficients g) g.ones ones_in in
      let error = lies_between 0 (2 ^ 62 - 1) g.error error_in in
      record { k_low = k.0; k_high = k.1; log_n_low = log_n.0; log_n_high = log_n.1; ones = ones.1; error = omega (arith, error.1) },
  λ is.
      both (is_between 1 3 g.k && is_between 1 13 g.log_n) (is_between 0 (g.k * coefficients g) g.ones && is_between 0 (2 ^ 62 - 1) g.error)
      (both (is_between 1 3 g.k) (is_between 1 13 g.log_n) (test_between 1 3 g.k is.k_low is.k_high) (test_between 1 13 g.log_n is.log_n_low is.log_n_high))
      (both (is_between 0 (g.k * coefficients g) g.ones) (is_between 0 (2 ^ 62 - 1) g.error) (test_between 0 (g.k * coefficients g) g.ones (omega arith) is.ones) (test_between 0 (2 ^ 62 - 1) g.error (omega arith) (omega (arith, is.error)))),
)

lwe_test : (l : LweChoice) → IsTrue (is_lwe l) ↔ IsLwe l
lwe_test l = (
  λ held.
      let (n_in, rest) = and_parts (is_between 1 1024 l.n) (is_between 0 l.n l.ones && is_between 0 (2 ^ 62 - 1) l.error) held in
      let (ones_in, error_in) = and_parts (is_between 0 l.n l.ones) (is_between 0 (2 ^ 62 - 1) l.error) rest in
      let n = lies_between 1 1024 l.n n_in in
      let ones = lies_between 0 l.n l.ones ones_in in
      let error = lies_between 0 (2 ^ 62 - 1) l.error error_in in
      record { n_low = n.0; n_high = n.1; ones = ones.1; error = omega (arith, error.1) },
  λ is.
      both (is_between 1 1024 l.n) (is_between 0 l.n l.ones && is_between 0 (2 ^ 62 - 1) l.error)
      (test_between 1 1024 l.n is.n_low is.n_high)
      (both (is_between 0 l.n l.ones) (is_between 0 (2 ^ 62 - 1) l.error) (test_between 0 l.n l.ones (omega arith) is.ones) (test_between 0 (2 ^ 62 - 1) l.error (omega arith) (omega (arith, is.error)))),
)

gadget_test : (g : Gadget) → IsTrue (is_gadget g) ↔ IsGadget g
gadget_test g = (
  λ held.
      let (base_in, level_in) = and_parts (is_between 1 31 g.base) (is_between 1 (63 / g.base) g.level) held in
      let base = lies_between 1 31 g.base base_in in
      let level = lies_between 1 (63 / g.base) g.level level_in in
      record { base_low = base.0; base_high = base.1; level_low = level.0; bits = bits_fit g.base g.level base.0 level.1 },
  λ is.
      both (is_between 1 31 g.base) (is_between 1 (63 / g.base) g.level) (test_between 1 31 g.base is.base_low is.base_high)
      (test_between 1 (63 / g.base) g.level is.level_low (level_fits g.base g.level is.base_low is.bits)),
)

params_test : (p : Params) → IsTrue (is_params p) ↔ IsParams p
params_test p = (
  λ held.
      let (rings, gadgets) = and_parts (is_glwe p.glwe && is_lwe p.lwe) (is_gadget p.boot && is_gadget p.switch) held in
      let (glwe, lwe) = and_parts (is_glwe p.glwe) (is_lwe p.lwe) rings in
      let (boot, switch) = and_parts (is_gadget p.boot) (is_gadget p.switch) gadgets in
      record { glwe = (glwe_test p.glwe).0 glwe; lwe = (lwe_test p.lwe).0 lwe; boot = (gadget_test p.boot).0 boot; switch = (gadget_test p.switch).0 switch },
  λ is.
      both (is_glwe p.glwe && is_lwe p.lwe) (is_gadget p.boot && is_gadget p.switch)
      (both (is_glwe p.glwe) (is_lwe p.lwe) ((glwe_test p.glwe).1 is.glwe) ((lwe_test p.lwe).1 is.lwe))
      (both (is_gadget p.boot) (is_gadget p.switch) ((gadget_test p.boot).1 is.boot) ((gadget_test p.switch).1 is.switch)),
)

pub limit_tests : LimitLaws
limit_tests = record { glwe = glwe_test; lwe = lwe_test; gadget = gadget_test; params = params_test }
