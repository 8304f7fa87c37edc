-- The laws of words.
use Rattle.std.proofs.Common.{◌≡◌, ℕ, ◌+◌, ◌-◌, ◌*◌, ◌%◌, ◌^◌, ◌≤◌, min, ◌⊎◌, arith, ap, sym, subst, ◌∙◌, zero-add, zero-mul, one-mul, add_assoc, add_comm, mul_assoc, mul_comm, ⊎_elim}
use Rattle.std.proofs.Math.Nat.{add-mod, mod-add-mod, add-mod-mod, mod-mod, add-mul, mul-add}
use Rattle.std.proofs.lemmas.Nat.{mul-mod, mul-mod_first, mul-mod_second}
use Rattle.std.proofs.lemmas.Bool.Decides.{nat_tests}
use Rattle.std.specs.Int.RustNames.{unsigned_abs}
use Rattle.word_ring.specs.Words.{word_sum, word_difference, word_product, word_negation, centred, size, RingLaws, ResidueLaws, SizeLaws}

-- what is added up to 0 with y is the negation of y
negation_from_zero : (x y : ℕ) → (x + y) % 2 ^ 64 ≡ 0 → x % 2 ^ 64 ≡ word_negation y
negation_from_zero x y e = omega arith

pub sum-negation : (w : ℕ) → word_sum w (word_negation w) ≡ 0
sum-negation w = omega arith

pub negation-product : (a b : ℕ) → word_product (word_negation a) b ≡ word_negation (word_product a b)
negation-product a b =
    let n : ℕ = word_negation a in
    let cancel : (n + a) % 2 ^ 64 ≡ 0 = omega arith in
    let none : (n * b + a * b) % 2 ^ 64 ≡ 0 =
    ap (λ x. x % 2 ^ 64) (sym (add-mul n a b)) ∙ sym (mul-mod_first (n + a) b (2 ^ 64)) ∙ ap (λ x. (x * b) % 2 ^ 64) cancel ∙ ap (λ x. x % 2 ^ 64) (zero-mul b) in
    negation_from_zero (n * b) (a * b) none ∙ ap (λ x. (2 ^ 64 - x) % 2 ^ 64) (sym (mod-mod (a * b) (2 ^ 64)))

pub ring : RingLaws
ring = record {
  sum_associative = λ a b c. mod-add-mod (a + b) (2 ^ 64) c ∙ ap (λ x. x % 2 ^ 64) (add_assoc a b c) ∙ sym (add-mod-mod a (b + c) (2 ^ 64));
  sum_commutative = λ a b. ap (λ x. x % 2 ^ 64) (add_comm a b);
  sum_zero = λ w. ap (λ x. x % 2 ^ 64) (zero-add w);
  sum_negation = sum-negation;
  difference_is = λ a b. sym (add-mod-mod a (2 ^ 64 - b % 2 ^ 64) (2 ^ 64));
  product_associative = λ a b c. mul-mod_first (a * b) c (2 ^ 64) ∙ ap (λ x. x % 2 ^ 64) (mul_assoc a b c) ∙ sym (mul-mod_second a (b * c) (2 ^ 64));
  product_commutative = λ a b. ap (λ x. x % 2 ^ 64) (mul_comm a b);
  product_one = λ w. ap (λ x. x % 2 ^ 64) (one-mul w);
  product_sum = λ a b c. mul-mod_second a (b + c) (2 ^ 64) ∙ ap (λ x. x % 2 ^ 64) (mul-add a b c) ∙ add-mod (a * b) (a * c) (2 ^ 64);
  sum_product = λ a b c. mul-mod_first (a + b) c (2 ^ 64) ∙ ap (λ x. x % 2 ^ 64) (add-mul a b c) ∙ add-mod (a * c) (b * c) (2 ^ 64);
  negation_product = negation-product;
}

pub residues : ResidueLaws
residues = record {
  sum_residues = λ a b. sym (add-mod a b (2 ^ 64));
  difference_residues = λ a b. omega arith;
  product_residues = λ a b. sym (mul-mod a b (2 ^ 64));
  negation_residue = λ a. omega arith;
}

-- the size is that of what is left
size_same : (a b : ℕ) → a % 2 ^ 64 ≡ b % 2 ^ 64 → size a ≡ size b
size_same a b e = ap (λ r. min r (2 ^ 64 - r)) e

pub size-negation : (a : ℕ) → size (word_negation a) ≡ size a
size-negation a = omega arith

pub size-sum : (a b : ℕ) → size (word_sum a b) ≤ size a + size b
size-sum a b = omega arith

pub size-difference : (a b : ℕ) → size (word_difference a b) ≤ size a + size b
size-difference a b = omega arith

-- a number is at least as large as its size
size_below : (a : ℕ) → size a ≤ a
size_below a = omega arith

-- a size is the word or its negation
size_cases : (a : ℕ) → (size a ≡ a % 2 ^ 64) ⊎ (size a ≡ word_negation a)
size_cases a = grind arith

-- a factor may be taken by its size
size-product_first : (a b : ℕ) → size (a * b) ≡ size (size a * b)
size-product_first a b =
    ⊎_elim
    (λ e. size_same (a * b) (size a * b) (sym (mul-mod_first a b (2 ^ 64)) ∙ ap (λ x. (x * b) % 2 ^ 64) (sym e)))
    (λ e. sym (size_same (size a * b) (word_negation (a * b))
    (ap (λ x. (x * b) % 2 ^ 64) e ∙ negation-product a b ∙ omega arith) ∙ size-negation (a * b)))
    (size_cases a)

pub size-product : (a b : ℕ) → size (word_product a b) ≤ size a * size b
size-product a b =
    let e : size (word_product a b) ≡ size (size a * size b) =
    size_same (word_product a b) (a * b) (mod-mod (a * b) (2 ^ 64))
    ∙ size-product_first a b
    ∙ ap size (mul_comm (size a) b)
    ∙ size-product_first b (size a)
    ∙ ap size (mul_comm (size b) (size a)) in
    subst (λ x. x ≤ size a * size b) (sym e) (size_below (size a * size b))

pub size-centred : (w : ℕ) → unsigned_abs (centred w) ≡ size w
size-centred w = grind (arith, nat_tests)

pub sizes : SizeLaws
sizes = record {
  size_sum = size-sum;
  size_difference = size-difference;
  size_product = size-product;
  size_negation = size-negation;
  size_centred = size-centred;
}
