-- The longest common prefix of two texts.
use Rattle.std.proofs.Common.{◌≡◌, ◌≢◌, ℕ, zero, suc, ◌+◌, ◌<◌, ◌≤◌, Bool, true, false, ◌&&◌, List, [], ◌∷◌, length, take, get_or, eqb, leb, sym, ap, refl, ◌∙◌, subst, arith, min, inl, inr, ◌⊎◌}
use Rattle.std.specs.Prelude.{◌==◌, ◌↔◌, IsTrue}
use Rattle.std.proofs.lemmas.Bool.{eqb-true, eq-eqb, ne_eqb, leb-true, leb-false, and_parts}
use Rattle.cost_cert.specs.Check.{common_prefix, is_same}

heads : (x y : ℕ) (xs ys : List ℕ) → x ∷ xs ≡ y ∷ ys → (x ≡ y) × (xs ≡ ys)
heads x y xs ys e = (cc, cc)

prefix_more : (x y : ℕ) (text bytes : List ℕ) → x ≡ y → common_prefix (x ∷ text) (y ∷ bytes) ≡ x ∷ common_prefix text bytes
prefix_more x y text bytes is = rw (eq-eqb x y is) refl

prefix_ends : (x y : ℕ) (text bytes : List ℕ) → x ≢ y → common_prefix (x ∷ text) (y ∷ bytes) ≡ []
prefix_ends x y text bytes is = rw (ne_eqb x y is) refl

-- the same so far, and then not
pub apart_at : (i : ℕ) (text bytes : List ℕ) (d e : ℕ) → i < length text → i < length bytes → take i text ≡ take i bytes → get_or text i d ≢ get_or bytes i e → length (common_prefix text bytes) ≡ i
apart_at i [] bytes d e lt less same is = absurd (omega (arith, lt))
apart_at i (x ∷ text) [] d e lt less same is = absurd (omega (arith, less))
apart_at zero (x ∷ text) (y ∷ bytes) d e lt less same is = ap length (prefix_ends x y text bytes is)
apart_at (suc i) (x ∷ text) (y ∷ bytes) d e lt less same is =
    let parts = heads x y (take i text) (take i bytes) same in
    ap length (prefix_more x y text bytes parts.0) ∙ ap suc (apart_at i text bytes d e (omega (arith, lt)) (omega (arith, less)) parts.1 is)

-- the same up to the end of one
pub same_all : (n : ℕ) (text bytes : List ℕ) → n ≤ length text → n ≤ length bytes → (length text ≤ n) ⊎ (length bytes ≤ n) → take n text ≡ take n bytes → length (common_prefix text bytes) ≡ n
same_all n [] bytes low high ends same = omega (arith, low)
same_all n (x ∷ text) [] low high ends same = omega (arith, high)
same_all zero (x ∷ text) (y ∷ bytes) low high (inl ends) same = absurd (omega (arith, ends))
same_all zero (x ∷ text) (y ∷ bytes) low high (inr ends) same = absurd (omega (arith, ends))
same_all (suc n) (x ∷ text) (y ∷ bytes) low high (inl ends) same =
    let parts = heads x y (take n text) (take n bytes) same in
    ap length (prefix_more x y text bytes parts.0) ∙ ap suc (same_all n text bytes (omega (arith, low)) (omega (arith, high)) (inl (omega (arith, ends))) parts.1)
same_all (suc n) (x ∷ text) (y ∷ bytes) low high (inr ends) same =
    let parts = heads x y (take n text) (take n bytes) same in
    ap length (prefix_more x y text bytes parts.0) ∙ ap suc (same_all n text bytes (omega (arith, low)) (omega (arith, high)) (inr (omega (arith, ends))) parts.1)

-- one byte more that is the same
pub same_more : (i : ℕ) (text bytes : List ℕ) (d e : ℕ) → i < length text → i < length bytes → take i text ≡ take i bytes → get_or text i d ≡ get_or bytes i e → take (i + 1) text ≡ take (i + 1) bytes
same_more i [] bytes d e lt less same is = absurd (omega (arith, lt))
same_more i (x ∷ text) [] d e lt less same is = absurd (omega (arith, less))
same_more zero (x ∷ text) (y ∷ bytes) d e lt less same is = ap (λ z. z ∷ []) is
same_more (suc i) (x ∷ text) (y ∷ bytes) d e lt less same is =
    let parts = heads x y (take i text) (take i bytes) same in
    let later = same_more i text bytes d e (omega (arith, lt)) (omega (arith, less)) parts.1 is in
    let more : take (suc (i + 1)) (x ∷ text) ≡ take (suc (i + 1)) (y ∷ bytes) = ap (λ z. z ∷ take (i + 1) text) parts.0 ∙ ap (λ zs. y ∷ zs) later in
    let count : suc (i + 1) ≡ suc i + 1 = omega arith in
    subst (λ n. take n (x ∷ text) ≡ take n (y ∷ bytes)) count more

taken_step : (x y : ℕ) (text bytes : List ℕ) (test : Bool) → eqb x y ≡ test → take (length (common_prefix text bytes)) text ≡ common_prefix text bytes
    → take (length (common_prefix (x ∷ text) (y ∷ bytes))) (x ∷ text) ≡ common_prefix (x ∷ text) (y ∷ bytes)
taken_step x y text bytes true is later = rw is (ap (λ zs. x ∷ zs) later)
taken_step x y text bytes false is later = rw is refl

-- it is the front of the first
pub taken : (text bytes : List ℕ) → take (length (common_prefix text bytes)) text ≡ common_prefix text bytes
taken [] bytes = refl
taken (x ∷ text) [] = refl
taken (x ∷ text) (y ∷ bytes) = taken_step x y text bytes (eqb x y) refl (taken text bytes)

short_step : (x y : ℕ) (text bytes : List ℕ) (test : Bool) → eqb x y ≡ test → (length (common_prefix text bytes) ≤ length text) × (length (common_prefix text bytes) ≤ length bytes)
    → (length (common_prefix (x ∷ text) (y ∷ bytes)) ≤ length (x ∷ text)) × (length (common_prefix (x ∷ text) (y ∷ bytes)) ≤ length (y ∷ bytes))
short_step x y text bytes true is later = rw is (omega (arith, later.0), omega (arith, later.1))
short_step x y text bytes false is later = rw is (omega arith, omega arith)

-- and no longer than either
pub short : (text bytes : List ℕ) → (length (common_prefix text bytes) ≤ length text) × (length (common_prefix text bytes) ≤ length bytes)
short [] bytes = (omega arith, omega arith)
short (x ∷ text) [] = (omega arith, omega arith)
short (x ∷ text) (y ∷ bytes) = short_step x y text bytes (eqb x y) refl (short text bytes)

-- ---- where it is the whole of both they are one

whole_step : (x y : ℕ) (text bytes : List ℕ) (test : Bool) → eqb x y ≡ test → length (common_prefix (x ∷ text) (y ∷ bytes)) ≡ length (x ∷ text) → length (common_prefix (x ∷ text) (y ∷ bytes)) ≡ length (y ∷ bytes)
    → (length (common_prefix text bytes) ≡ length text → length (common_prefix text bytes) ≡ length bytes → bytes ≡ text) → y ∷ bytes ≡ x ∷ text
whole_step x y text bytes true is first second later =
    let head : x ≡ y = eqb-true x y is in
    let more = prefix_more x y text bytes head in
    let one : suc (length (common_prefix text bytes)) ≡ suc (length text) = sym (ap length more) ∙ first in
    let two : suc (length (common_prefix text bytes)) ≡ suc (length bytes) = sym (ap length more) ∙ second in
    ap (λ z. z ∷ bytes) (sym head) ∙ ap (λ zs. x ∷ zs) (later (omega (arith, one)) (omega (arith, two)))
whole_step x y text bytes false is first second later =
    let none : length (common_prefix (x ∷ text) (y ∷ bytes)) ≡ 0 = rw is refl in
    absurd (omega (arith, none, first))

whole : (text bytes : List ℕ) → length (common_prefix text bytes) ≡ length text → length (common_prefix text bytes) ≡ length bytes → bytes ≡ text
whole [] [] first second = refl
whole [] (y ∷ bytes) first second = absurd (omega (arith, second))
whole (x ∷ text) [] first second = absurd (omega (arith, first))
whole (x ∷ text) (y ∷ bytes) first second = whole_step x y text bytes (eqb x y) refl first second (whole text bytes)

itself : (text : List ℕ) → common_prefix text text ≡ text
itself [] = refl
itself (x ∷ text) = prefix_more x x text text refl ∙ ap (λ zs. x ∷ zs) (itself text)

both_true : (a b : Bool) → a ≡ true → b ≡ true → a && b ≡ true
both_true a b e f = rw (e, f) refl

pub same_is : (text bytes : List ℕ) → IsTrue (is_same text bytes) ↔ (bytes ≡ text)
same_is text bytes = (
  λ is.
      let parts = and_parts (length (common_prefix text bytes) == length text) (length (common_prefix text bytes) == length bytes) is in
      whole text bytes (eqb-true (length (common_prefix text bytes)) (length text) parts.0) (eqb-true (length (common_prefix text bytes)) (length bytes) parts.1),
  λ e. subst (λ b. IsTrue (is_same text b)) (sym e)
      (both_true (length (common_prefix text text) == length text) (length (common_prefix text text) == length text)
      (eq-eqb (length (common_prefix text text)) (length text) (ap length (itself text))) (eq-eqb (length (common_prefix text text)) (length text) (ap length (itself text)))),
)

ends_step : (m n k : ℕ) (test : Bool) → leb m n ≡ test → k ≡ min m n → (m ≤ k) ⊎ (n ≤ k)
ends_step m n k true is e = inl (omega (arith, leb-true m n is, e))
ends_step m n k false is e = inr (omega (arith, leb-false m n is, e))

-- the least of two lengths is one of them
pub one_ends : (m n k : ℕ) → k ≡ min m n → (m ≤ k) ⊎ (n ≤ k)
one_ends m n k is = ends_step m n k (leb m n) refl is
