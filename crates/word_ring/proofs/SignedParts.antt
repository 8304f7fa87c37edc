-- Signed numbers as words.
use Rattle.std.proofs.Common.{⊎_elim, ◌≡◌, ℕ, ◌+◌, ◌-◌, ◌*◌, ◌%◌, ◌^◌, ◌<◌, ◌≤◌, ℤ, pos, ◌+ℤ◌, ◌-ℤ◌, ◌*ℤ◌, ◌≤ℤ◌, ◌<ℤ◌, arith, ap, sym, ◌∙◌, refl, mul_comm}
use lib.IntN.{negsuc, neg_ℤ}
use Rattle.std.specs.Int.RustNames.{unsigned_abs}
use Rattle.std.proofs.lemmas.Bool.{cases_lt, lt-ltb, le-ltb}
use Rattle.std.proofs.lemmas.Int.{ints, int_rem_euclid_is}
use Rattle.std.proofs.lemmas.Nat.{mul-mod, mul-mod_first, mul-mod_second}
use Rattle.word_ring.specs.Words.{word_sum, word_difference, word_product, word_negation, centred, size}
use Rattle.word_ring.specs.Signed.{word_of, SignedLaws}
use Rattle.word_ring.proofs.WordLaws.{negation-product}

-- the natural number that is congruent to a number: itself, or n times 2^64 - 1 for -n
abbrev above : ℤ → ℕ
above (pos n) = n
above (negsuc n) = (n + 1) * (2 ^ 64 - 1)

-- how many times 2^64 lies between the two
abbrev turns : ℤ → ℕ
turns (pos n) = 0
turns (negsuc n) = n + 1

above_is : (a : ℤ) → a +ℤ pos (turns a * 2 ^ 64) ≡ pos (above a)
above_is (pos n) = omega (arith, ints)
above_is (negsuc n) = omega (arith, ints)

-- a number and some turns, as a natural number
word_is : (a : ℤ) (k m : ℕ) → a +ℤ pos (k * 2 ^ 64) ≡ pos m → word_of a ≡ m % 2 ^ 64
word_is a k m e = ap unsigned_abs (int_rem_euclid_is a (pos (2 ^ 64)) (2 ^ 64) k m (omega arith) refl e)

word_above : (a : ℤ) → word_of a ≡ above a % 2 ^ 64
word_above a = word_is a (turns a) (above a) (above_is a)

pub natural : (n : ℕ) → word_of (pos n) ≡ n % 2 ^ 64
natural n = word_above (pos n)

pub below : (a : ℤ) → word_of a < 2 ^ 64
below a = omega (arith, word_above a)

pub sum : (a b : ℤ) → word_of (a +ℤ b) ≡ word_sum (word_of a) (word_of b)
sum a b =
    let whole : word_of (a +ℤ b) ≡ (above a + above b) % 2 ^ 64 = word_is (a +ℤ b) (turns a + turns b) (above a + above b) (omega (arith, ints, above_is a, above_is b)) in
    omega (arith, whole, word_above a, word_above b)

pub difference : (a b : ℤ) → word_of (a -ℤ b) ≡ word_difference (word_of a) (word_of b)
difference a b =
    let back : (a -ℤ b) +ℤ b ≡ a = omega (arith, ints) in
    let parts : word_of a ≡ word_sum (word_of (a -ℤ b)) (word_of b) = ap word_of (sym back) ∙ sum (a -ℤ b) b in
    omega (arith, parts, below (a -ℤ b))

-- the word of a number below 0
negative : (n : ℕ) → word_of (negsuc n) ≡ word_negation (n + 1)
negative n = word_above (negsuc n) ∙ omega arith

negative_of : (m : ℕ) → word_of (neg_ℤ (pos m)) ≡ word_negation m
negative_of m = word_is (neg_ℤ (pos m)) m (m * (2 ^ 64 - 1)) (omega (arith, ints)) ∙ omega arith

product_commutes : (a b : ℕ) → word_product a b ≡ word_product b a
product_commutes a b = ap (λ n. n % 2 ^ 64) (mul_comm a b)

-- a product with a negation on its right
product-negation : (a b : ℕ) → word_product a (word_negation b) ≡ word_negation (word_product a b)
product-negation a b = product_commutes a (word_negation b) ∙ negation-product b a ∙ ap word_negation (product_commutes b a)

product_residue : (a b : ℕ) → word_product (a % 2 ^ 64) b ≡ word_product a b
product_residue a b = mul-mod_first a b (2 ^ 64)

pub product : (a b : ℤ) → word_of (a *ℤ b) ≡ word_product (word_of a) (word_of b)
product (pos m) (pos n) = natural (m * n) ∙ mul-mod m n (2 ^ 64) ∙ rw (natural m, natural n) refl
product (pos m) (negsuc n) =
    let is : pos m *ℤ negsuc n ≡ neg_ℤ (pos (m * (n + 1))) = omega (arith, ints) in
    ap word_of is ∙ negative_of (m * (n + 1)) ∙ rw (natural m, negative n) (sym (product_residue m (word_negation (n + 1)) ∙ product-negation m (n + 1) ∙ omega arith))
product (negsuc m) (pos n) =
    let is : negsuc m *ℤ pos n ≡ neg_ℤ (pos ((m + 1) * n)) = omega (arith, ints) in
    ap word_of is ∙ negative_of ((m + 1) * n) ∙ rw (negative m, natural n) (sym (mul-mod_second (word_negation (m + 1)) n (2 ^ 64) ∙ negation-product (m + 1) n ∙ omega arith))
product (negsuc m) (negsuc n) =
    let is : negsuc m *ℤ negsuc n ≡ pos ((m + 1) * (n + 1)) = omega (arith, ints) in
    ap word_of is ∙ natural ((m + 1) * (n + 1)) ∙ rw (negative m, negative n) (sym (negation-product (m + 1) (word_negation (n + 1)) ∙ ap word_negation (product-negation (m + 1) (n + 1)) ∙ omega arith))

pub size_of_word : (a : ℤ) → size (word_of a) ≤ unsigned_abs a
size_of_word (pos n) = omega (arith, natural n)
size_of_word (negsuc n) = rw (negative n) (omega arith)

-- ---- centred numbers

centred_small : (w : ℕ) → w % 2 ^ 64 < 2 ^ 63 → centred w ≡ pos (w % 2 ^ 64)
centred_small w small = rw (lt-ltb (w % 2 ^ 64) (2 ^ 63) small) refl

centred_large : (w : ℕ) → 2 ^ 63 ≤ w % 2 ^ 64 → centred w ≡ negsuc (2 ^ 64 - 1 - w % 2 ^ 64)
centred_large w large = rw (le-ltb (w % 2 ^ 64) (2 ^ 63) large) refl

word_of_centred : (w : ℕ) → word_of (centred w) ≡ w % 2 ^ 64
word_of_centred w =
    ⊎_elim
    (λ (small : w % 2 ^ 64 < 2 ^ 63). ap word_of (centred_small w small) ∙ natural (w % 2 ^ 64) ∙ omega arith)
    (λ (large : 2 ^ 63 ≤ w % 2 ^ 64). ap word_of (centred_large w large) ∙ negative (2 ^ 64 - 1 - w % 2 ^ 64) ∙ omega arith)
    (cases_lt (w % 2 ^ 64) (2 ^ 63))

centred_of_word : (a : ℤ) → negsuc (2 ^ 63 - 1) ≤ℤ a → a <ℤ pos (2 ^ 63) → centred (word_of a) ≡ a
centred_of_word (pos n) low high =
    let small : n < 2 ^ 63 = omega (arith, ints, high) in
    let word : word_of (pos n) ≡ n = natural n ∙ omega arith in
    centred_small (word_of (pos n)) (omega (arith, word)) ∙ ap pos (omega (arith, word))
centred_of_word (negsuc n) low high =
    let small : n + 1 ≤ 2 ^ 63 = omega (arith, ints, low) in
    let word : word_of (negsuc n) ≡ 2 ^ 64 - (n + 1) = negative n ∙ omega arith in
    centred_large (word_of (negsuc n)) (omega (arith, word)) ∙ ap negsuc (omega (arith, word))

pub laws : SignedLaws
laws = record {
  natural_word = natural;
  number_word = below;
  sum_word = sum;
  difference_word = difference;
  product_word = product;
  word_size = size_of_word;
  centred_word = word_of_centred;
  word_centred = centred_of_word;
}
