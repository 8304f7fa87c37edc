-- Decoding, as the code computes it.
use Rattle.std.proofs.Common.{◌≡◌, ℕ, ◌+◌, ◌-◌, ◌*◌, ◌/◌, ◌%◌, ◌^◌, ◌<◌, ◌≤◌, ℤ, pos, ◌+ℤ◌, ◌-ℤ◌, ◌*ℤ◌, arith, ap, sym, subst, ◌∙◌}
use Rattle.std.proofs.Math.Nat.{div-lt_iff_lt-mul, pow-le-pow_right}
use Rattle.std.proofs.lemmas.Nat.{pow_pos, pow-add, mul-mod_second}
use Rattle.word_ring.specs.Words.{word_sum, word_difference, word_product}
use Rattle.word_ring.specs.Signed.{word_of, SignedLaws}
use Rattle.lwe_core.specs.Decoding.{encoded, decoded}

offset_residues : (a s h x y z w : ℕ) → x ≡ a % 2 ^ 64 → y % 2 ^ 64 ≡ w % 2 ^ 64 → z ≡ h % 2 ^ 64 → word_sum (word_difference x y) z ≡ word_sum (word_difference a w) h
offset_residues a s h x y z w p q r = omega (arith, p, q, r)

-- the word of a phase's distance over the least value, in words
word_of-offset : SignedLaws → (a s h : ℕ) (lo : ℤ) → word_of ((pos a -ℤ lo *ℤ pos s) +ℤ pos h) ≡ word_sum (word_difference a (word_product (word_of lo) s)) h
word_of-offset signed a s h lo =
    let place : word_of (lo *ℤ pos s) ≡ word_product (word_of lo) (s % 2 ^ 64) = signed.product_word lo (pos s) ∙ ap (word_product (word_of lo)) (signed.natural_word s) in
    signed.sum_word (pos a -ℤ lo *ℤ pos s) (pos h)
    ∙ ap (λ n. word_sum n (word_of (pos h))) (signed.difference_word (pos a) (lo *ℤ pos s))
    ∙ offset_residues a s h (word_of (pos a)) (word_of (lo *ℤ pos s)) (word_of (pos h)) (word_product (word_of lo) s) (signed.natural_word a) (ap (λ n. n % 2 ^ 64) (place ∙ mul-mod_second (word_of lo) s (2 ^ 64))) (signed.natural_word h)

-- the distance of the code, by whole steps, is the offset
pub decoded_is : SignedLaws → (phase width past : ℕ) (lo : ℤ) → past ≡ word_sum (word_difference phase (encoded width lo)) (2 ^ (62 - width)) → past / 2 ^ (63 - width) ≡ decoded phase width lo
decoded_is signed phase width past lo past_is =
    ap (λ x. x / 2 ^ (63 - width)) (past_is ∙ sym (word_of-offset signed phase (2 ^ (63 - width)) (2 ^ (62 - width)) lo))

-- an offset is below 2^(width + 1)
pub offset_below : (x width : ℕ) → x < 2 ^ 64 → width ≤ 62 → x / 2 ^ (63 - width) < 2 ^ (width + 1)
offset_below x width word small =
    let together : 64 ≡ width + 1 + (63 - width) = omega arith in
    let whole : 2 ^ 64 ≡ 2 ^ (width + 1) * 2 ^ (63 - width) = ap (λ k. 2 ^ k) together ∙ pow-add 2 (width + 1) (63 - width) in
    (div-lt_iff_lt-mul (pow_pos (63 - width))).1 (subst (λ n. x < n) whole word)

-- and so fits 32 bits
pub offset_fits : (x width : ℕ) → x < 2 ^ 64 → width ≤ 16 → x / 2 ^ (63 - width) < 2 ^ 32
offset_fits x width word small =
    let most : 2 ^ (width + 1) ≤ 2 ^ 17 = pow-le-pow_right {n = 2} (omega arith) {i = width + 1} {j = 17} (omega arith) in
    omega (arith, offset_below x width word (omega arith), most)
