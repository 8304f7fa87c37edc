-- a bound that is capped on the way is capped in the end alike
use Rattle.std.proofs.Common.{◌≡◌, ℕ, zero, suc, ◌+◌, ◌*◌, ◌^◌, ◌≤◌, ap, inl, inr, arith}
use Rattle.std.proofs.lemmas.Bool.{cases_lt}
use Rattle.noise_model.specs.Bounds.{capped}

pub capped-add : (a b : ℕ) → capped (capped a + capped b) ≡ capped (a + b)
capped-add a b = omega arith

pub capped-add_left : (a b : ℕ) → capped (capped a + b) ≡ capped (a + b)
capped-add_left a b = omega arith

-- any number but 0 times one that is large is large
large_product : (w b : ℕ) → 1 ≤ w → 2 ^ 64 ≤ b → 2 ^ 64 ≤ w * b
large_product zero b low large = absurd (omega arith)
large_product (suc w) b low large = omega arith

pub capped-mul : (w b : ℕ) → capped (w * capped b) ≡ capped (w * b)
capped-mul zero b = omega arith
capped-mul (suc w) b =
    elim (cases_lt b (2 ^ 64)) [
      | inl below ↦ let same : capped b ≡ b = omega arith in ap (λ n. capped (suc w * n)) same
      | inr above ↦
          let first : 2 ^ 64 ≤ suc w * capped b = large_product (suc w) (capped b) (omega arith) (omega arith) in
          let last : 2 ^ 64 ≤ suc w * b = large_product (suc w) b (omega arith) above in
          omega (arith, first, last)
    ]
