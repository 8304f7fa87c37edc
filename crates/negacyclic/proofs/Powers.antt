-- Powers of 2.
use Rattle.std.proofs.Common.{◌≡◌, ℕ, ◌-◌, ◌*◌, ◌^◌, ◌<◌, ◌≤◌, zero, suc, arith, ap, ◌∙◌, sym}
use Rattle.std.proofs.Math.Nat.{pow-succ'}

-- one less in the exponent is half
pub halved : (n : ℕ) → 0 < n → 2 ^ n ≡ 2 * 2 ^ (n - 1)
halved zero h = absurd (omega arith)
halved (suc n) h =
    let back : suc n - 1 ≡ n = omega arith in
    pow-succ' 2 n ∙ ap (λ t. 2 * 2 ^ t) (sym back)

-- three less is an eighth
pub eighth : (n : ℕ) → 3 ≤ n → 2 ^ n ≡ 8 * 2 ^ (n - 3)
eighth n h =
    let two : n - 1 - 1 ≡ n - 2 = omega arith in
    let three : n - 2 - 1 ≡ n - 3 = omega arith in
    let a : 2 ^ n ≡ 2 * 2 ^ (n - 1) = halved n (omega arith) in
    let b : 2 ^ (n - 1) ≡ 2 * 2 ^ (n - 2) = halved (n - 1) (omega arith) ∙ ap (λ t. 2 * 2 ^ t) two in
    let c : 2 ^ (n - 2) ≡ 2 * 2 ^ (n - 3) = halved (n - 2) (omega arith) ∙ ap (λ t. 2 * 2 ^ t) three in
    omega arith
