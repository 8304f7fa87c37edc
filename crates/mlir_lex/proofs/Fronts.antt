-- The longest front of a list whose bytes pass a test.
use Rattle.std.proofs.Common.{◌≡◌, ℕ, zero, suc, ◌+◌, ◌≤◌, Bool, true, List, [], ◌∷◌, length, take, refl, arith}
use Rattle.std.specs.List.{prefix_len, list_all}
use Rattle.std.proofs.lemmas.Bool.{cond_both, and_parts, cond-true}

-- each byte of the longest passing front passes
pub list_all-prefix_len : (p : ℕ → Bool) (xs : List ℕ) → list_all p (take (prefix_len p xs) xs) ≡ true
list_all-prefix_len p [] = refl
list_all-prefix_len p (x ∷ xs) =
    cond_both (p x) (1 + prefix_len p xs) 0 (λ n. list_all p (take n (x ∷ xs)) ≡ true)
    (λ e. grind (arith, list_all-prefix_len p xs))
    (λ e. refl)

-- a front whose bytes all pass is no longer than the longest
pub prefix_len_longest : (p : ℕ → Bool) (xs : List ℕ) (m : ℕ) → m ≤ length xs → list_all p (take m xs) ≡ true → m ≤ prefix_len p xs
prefix_len_longest p [] m h e = omega arith
prefix_len_longest p (x ∷ xs) zero h e = omega arith
prefix_len_longest p (x ∷ xs) (suc m) h e =
    let parts = and_parts (p x) (list_all p (take m xs)) e in
    let rest : m ≤ prefix_len p xs = prefix_len_longest p xs m (omega arith) (parts.1) in
    let here : prefix_len p (x ∷ xs) ≡ 1 + prefix_len p xs = cond-true (p x) (1 + prefix_len p xs) 0 (parts.0) in
    omega arith
