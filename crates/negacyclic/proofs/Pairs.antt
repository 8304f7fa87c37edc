-- Sums over pairs of places, in halves.
use Rattle.std.proofs.Common.{◌≡◌, ◌≢◌, ⊎_elim, ℕ, zero, suc, ◌+◌, ◌*◌, ◌%◌, ◌^◌, ◌<◌, ◌≤◌, arith, ap, sym, refl, ◌∙◌, cond, eqb, true, false, add-zero, add-suc}
use Rattle.std.proofs.Math.Nat.{add-mul, mul-add}
use Rattle.std.proofs.lemmas.Bool.{eq-eqb, ne_eqb, cond-false, cases_eq}
use Rattle.negacyclic.specs.Product.{sum_below}
use Rattle.negacyclic.proofs.Sums.{sum-same, sum-congruent, sum-zero, sum-add}
use Rattle.negacyclic.proofs.Coefficients.{mul-congruent}

-- the sum over the pairs i + j = s with both below n
abbrev pub pairs : ℕ → (ℕ → ℕ) → (ℕ → ℕ) → ℕ → ℕ
pairs n p q s = sum_below n (λ i. sum_below n (λ j. cond (eqb (i + j) s) (p i * q j) 0))

-- the same, k places on
abbrev pub later : ℕ → ℕ → (ℕ → ℕ) → (ℕ → ℕ) → ℕ → ℕ
later k n p q s = sum_below n (λ i. sum_below n (λ j. cond (eqb (k + (i + j)) s) (p i * q j) 0))

pub sum-split : (h k : ℕ) (f : ℕ → ℕ) → sum_below (h + k) f ≡ sum_below h f + sum_below k (λ i. f (h + i))
sum-split h zero f = ap (λ t. sum_below t f) (add-zero h) ∙ sym (add-zero (sum_below h f))
sum-split h (suc k) f =
    let low : sum_below (h + k) f ≡ sum_below h f + sum_below k (λ i. f (h + i)) = sum-split h k f in
    ap (λ t. sum_below t f) (add-suc h k) ∙ omega arith

pub later-none : (k n : ℕ) (p q : ℕ → ℕ) (s : ℕ) → s < k → later k n p q s ≡ 0
later-none k n p q s short =
    sum-zero n (λ i. sum_below n (λ j. cond (eqb (k + (i + j)) s) (p i * q j) 0))
    (λ i _. sum-zero n (λ j. cond (eqb (k + (i + j)) s) (p i * q j) 0)
    (λ j _. cond-false (eqb (k + (i + j)) s) (p i * q j) 0 (ne_eqb _ _ (λ e. absurd (omega arith)))))

pub pairs-none : (n : ℕ) (p q : ℕ → ℕ) (s : ℕ) → n + n ≤ s → pairs n p q s ≡ 0
pairs-none n p q s far =
    sum-zero n (λ i. sum_below n (λ j. cond (eqb (i + j) s) (p i * q j) 0))
    (λ i x. sum-zero n (λ j. cond (eqb (i + j) s) (p i * q j) 0)
    (λ j y. cond-false (eqb (i + j) s) (p i * q j) 0 (ne_eqb _ _ (λ e. absurd (omega arith)))))

same_test : (k x t : ℕ) → eqb (k + x) (k + t) ≡ eqb x t
same_test k x t =
    ⊎_elim
    (λ (e : x ≡ t). eq-eqb (k + x) (k + t) (omega arith) ∙ sym (eq-eqb x t e))
    (λ (d : x ≢ t). ne_eqb (k + x) (k + t) (λ e. d (omega arith)) ∙ sym (ne_eqb x t d))
    (cases_eq x t)

pub later-on : (k n : ℕ) (p q : ℕ → ℕ) (t : ℕ) → later k n p q (k + t) ≡ pairs n p q t
later-on k n p q t =
    sum-same n (λ i. sum_below n (λ j. cond (eqb (k + (i + j)) (k + t)) (p i * q j) 0)) (λ i. sum_below n (λ j. cond (eqb (i + j) t) (p i * q j) 0))
    (λ i _. sum-same n (λ j. cond (eqb (k + (i + j)) (k + t)) (p i * q j) 0) (λ j. cond (eqb (i + j) t) (p i * q j) 0)
    (λ j _. ap (λ b. cond b (p i * q j) 0) (same_test k (i + j) t)))

-- the four parts
pub in_halves : (h : ℕ) (p q : ℕ → ℕ) (s : ℕ) → pairs (h + h) p q s ≡ pairs h p q s + (later h h p (λ j. q (h + j)) s + later h h (λ i. p (h + i)) q s) + later (h + h) h (λ i. p (h + i)) (λ j. q (h + j)) s
in_halves h p q s =
    let G : ℕ → ℕ → ℕ = λ i j. cond (eqb (i + j) s) (p i * q j) 0 in
    let F : ℕ → ℕ = λ i. sum_below (h + h) (G i) in
    let outer : sum_below (h + h) F ≡ sum_below h F + sum_below h (λ i. F (h + i)) = sum-split h h F in
    let front : sum_below h F ≡ sum_below h (λ i. sum_below h (G i)) + sum_below h (λ i. sum_below h (λ j. G i (h + j))) =
    sum-same h F (λ i. sum_below h (G i) + sum_below h (λ j. G i (h + j))) (λ i _. sum-split h h (G i))
    ∙ sum-add h (λ i. sum_below h (G i)) (λ i. sum_below h (λ j. G i (h + j))) in
    let back : sum_below h (λ i. F (h + i)) ≡ sum_below h (λ i. sum_below h (G (h + i))) + sum_below h (λ i. sum_below h (λ j. G (h + i) (h + j))) =
    sum-same h (λ i. F (h + i)) (λ i. sum_below h (G (h + i)) + sum_below h (λ j. G (h + i) (h + j))) (λ i _. sum-split h h (G (h + i)))
    ∙ sum-add h (λ i. sum_below h (G (h + i))) (λ i. sum_below h (λ j. G (h + i) (h + j))) in
    let second : sum_below h (λ i. sum_below h (λ j. G i (h + j))) ≡ later h h p (λ j. q (h + j)) s =
    sum-same h (λ i. sum_below h (λ j. G i (h + j))) (λ i. sum_below h (λ j. cond (eqb (h + (i + j)) s) (p i * q (h + j)) 0))
    (λ i _. sum-same h (λ j. G i (h + j)) (λ j. cond (eqb (h + (i + j)) s) (p i * q (h + j)) 0)
    (λ j _. ap (λ t. cond (eqb t s) (p i * q (h + j)) 0) (omega arith))) in
    let third : sum_below h (λ i. sum_below h (G (h + i))) ≡ later h h (λ i. p (h + i)) q s =
    sum-same h (λ i. sum_below h (G (h + i))) (λ i. sum_below h (λ j. cond (eqb (h + (i + j)) s) (p (h + i) * q j) 0))
    (λ i _. sum-same h (G (h + i)) (λ j. cond (eqb (h + (i + j)) s) (p (h + i) * q j) 0)
    (λ j _. ap (λ t. cond (eqb t s) (p (h + i) * q j) 0) (omega arith))) in
    let fourth : sum_below h (λ i. sum_below h (λ j. G (h + i) (h + j))) ≡ later (h + h) h (λ i. p (h + i)) (λ j. q (h + j)) s =
    sum-same h (λ i. sum_below h (λ j. G (h + i) (h + j))) (λ i. sum_below h (λ j. cond (eqb (h + h + (i + j)) s) (p (h + i) * q (h + j)) 0))
    (λ i _. sum-same h (λ j. G (h + i) (h + j)) (λ j. cond (eqb (h + h + (i + j)) s) (p (h + i) * q (h + j)) 0)
    (λ j _. ap (λ t. cond (eqb t s) (p (h + i) * q (h + j)) 0) (omega arith))) in
    omega arith

-- sums in either factor
pub pairs-add : (n : ℕ) (p r q : ℕ → ℕ) (s : ℕ) → pairs n (λ i. p i + r i) q s ≡ pairs n p q s + pairs n r q s
pairs-add n p r q s =
    sum-same n (λ i. sum_below n (λ j. cond (eqb (i + j) s) ((p i + r i) * q j) 0)) (λ i. sum_below n (λ j. cond (eqb (i + j) s) (p i * q j) 0) + sum_below n (λ j. cond (eqb (i + j) s) (r i * q j) 0))
    (λ i _.
    sum-same n (λ j. cond (eqb (i + j) s) ((p i + r i) * q j) 0) (λ j. cond (eqb (i + j) s) (p i * q j) 0 + cond (eqb (i + j) s) (r i * q j) 0)
    (λ j _. elim (eqb (i + j) s) as (λ b. cond b ((p i + r i) * q j) 0 ≡ cond b (p i * q j) 0 + cond b (r i * q j) 0) [ true ↦ add-mul (p i) (r i) (q j) | false ↦ refl ])
    ∙ sum-add n (λ j. cond (eqb (i + j) s) (p i * q j) 0) (λ j. cond (eqb (i + j) s) (r i * q j) 0))
    ∙ sum-add n (λ i. sum_below n (λ j. cond (eqb (i + j) s) (p i * q j) 0)) (λ i. sum_below n (λ j. cond (eqb (i + j) s) (r i * q j) 0))

pub pairs_add_second : (n : ℕ) (p q r : ℕ → ℕ) (s : ℕ) → pairs n p (λ j. q j + r j) s ≡ pairs n p q s + pairs n p r s
pairs_add_second n p q r s =
    sum-same n (λ i. sum_below n (λ j. cond (eqb (i + j) s) (p i * (q j + r j)) 0)) (λ i. sum_below n (λ j. cond (eqb (i + j) s) (p i * q j) 0) + sum_below n (λ j. cond (eqb (i + j) s) (p i * r j) 0))
    (λ i _.
    sum-same n (λ j. cond (eqb (i + j) s) (p i * (q j + r j)) 0) (λ j. cond (eqb (i + j) s) (p i * q j) 0 + cond (eqb (i + j) s) (p i * r j) 0)
    (λ j _. elim (eqb (i + j) s) as (λ b. cond b (p i * (q j + r j)) 0 ≡ cond b (p i * q j) 0 + cond b (p i * r j) 0) [ true ↦ mul-add (p i) (q j) (r j) | false ↦ refl ])
    ∙ sum-add n (λ j. cond (eqb (i + j) s) (p i * q j) 0) (λ j. cond (eqb (i + j) s) (p i * r j) 0))
    ∙ sum-add n (λ i. sum_below n (λ j. cond (eqb (i + j) s) (p i * q j) 0)) (λ i. sum_below n (λ j. cond (eqb (i + j) s) (p i * r j) 0))

-- the product of two sums
pub pairs_of_sums : (n : ℕ) (p r q t : ℕ → ℕ) (s : ℕ) → pairs n (λ i. p i + r i) (λ j. q j + t j) s ≡ pairs n p q s + (pairs n p t s + pairs n r q s) + pairs n r t s
pairs_of_sums n p r q t s =
    let outer : pairs n (λ i. p i + r i) (λ j. q j + t j) s ≡ pairs n p (λ j. q j + t j) s + pairs n r (λ j. q j + t j) s = pairs-add n p r (λ j. q j + t j) s in
    let first : pairs n p (λ j. q j + t j) s ≡ pairs n p q s + pairs n p t s = pairs_add_second n p q t s in
    let second : pairs n r (λ j. q j + t j) s ≡ pairs n r q s + pairs n r t s = pairs_add_second n r q t s in
    omega arith

-- only residues count
pub pairs-congruent : (n : ℕ) (p r q t : ℕ → ℕ) (s : ℕ) → ((i : ℕ) → i < n → p i % 2 ^ 64 ≡ r i % 2 ^ 64) → ((i : ℕ) → i < n → q i % 2 ^ 64 ≡ t i % 2 ^ 64) → pairs n p q s % 2 ^ 64 ≡ pairs n r t s % 2 ^ 64
pairs-congruent n p r q t s f g =
    sum-congruent n (λ i. sum_below n (λ j. cond (eqb (i + j) s) (p i * q j) 0)) (λ i. sum_below n (λ j. cond (eqb (i + j) s) (r i * t j) 0))
    (λ i x. sum-congruent n (λ j. cond (eqb (i + j) s) (p i * q j) 0) (λ j. cond (eqb (i + j) s) (r i * t j) 0)
    (λ j y. elim (eqb (i + j) s) as (λ b. cond b (p i * q j) 0 % 2 ^ 64 ≡ cond b (r i * t j) 0 % 2 ^ 64) [ true ↦ mul-congruent (p i) (r i) (q j) (t j) (f i x) (g j y) | false ↦ refl ]))
