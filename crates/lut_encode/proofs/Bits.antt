-- How many bits a number below 2^64 has, and coefficients that are set one after another.
use Rattle.std.proofs.Common.{◌≡◌, ℕ, ◌+◌, ◌<◌, ◌≤◌, ◌^◌, List, [], ◌∷◌, ◌++◌, length, take, map, slice_set, sym, ap, ◌∙◌, ⊎_elim, arith, zero-add}
use Rattle.std.proofs.lemmas.Bool.{cases_lt}
use Rattle.std.proofs.lemmas.List.{take_more_set}
use Rattle.std.proofs.lemmas.List.FromFn.{map-range_with_len_more}
use Rattle.std.specs.List.{range_with_len}
use Rattle.std.proofs.Math.Nat.{pow-le-pow_right}

-- an exponent whose power is below 2^64 is below 64
pub below_64 : (width : ℕ) → 2 ^ width < 2 ^ 64 → width < 64
below_64 width below =
    ⊎_elim (λ (less : width < 64). less)
    (λ (more : 64 ≤ width). absurd (omega (arith, below, pow-le-pow_right {n = 2} (omega arith) more))) (cases_lt width 64)

-- one more coefficient is right
pub one_more : (f : ℕ → ℕ) (out : List ℕ) (j word : ℕ) → j < length out → word ≡ f j → take j out ≡ map f (range_with_len 0 j) → take (j + 1) (slice_set out j word) ≡ map f (range_with_len 0 (j + 1))
one_more f out j word inside is_right done =
    take_more_set out j word inside
    ∙ ap (λ xs. xs ++ word ∷ []) done
    ∙ ap (λ (w : ℕ). map f (range_with_len 0 j) ++ w ∷ []) is_right
    ∙ sym (map-range_with_len_more f 0 j j (zero-add j))
