-- Sums and products of whole numbers.
use Rattle.std.proofs.Common.{◌≡◌, ℕ, zero, suc, ℤ, pos, ◌+ℤ◌, ◌-ℤ◌, ◌*ℤ◌, refl, sym, ap, ◌∙◌, arith}
use lib.IntN.{negsuc, suc_ℤ-*ℤ, pred_ℤ-*ℤ, zero-*ℤ, *ℤ-zero, *ℤ_comm}
use Rattle.std.proofs.lemmas.Int.{ints}
use Rattle.linear_forms.specs.Forms.{weighted}

step_up : (x y z a b s t u : ℤ) → x ≡ y +ℤ z → s ≡ x +ℤ (a +ℤ b) → t ≡ y +ℤ a → u ≡ z +ℤ b → s ≡ t +ℤ u
step_up x y z a b s t u p q r w = omega (arith, ints)

step_down : (x y z a b s t u : ℤ) → x ≡ y +ℤ z → s ≡ x -ℤ (a +ℤ b) → t ≡ y -ℤ a → u ≡ z -ℤ b → s ≡ t +ℤ u
step_down x y z a b s t u p q r w = omega (arith, ints)

none : (s t u : ℤ) → s ≡ pos 0 → t ≡ pos 0 → u ≡ pos 0 → s ≡ t +ℤ u
none s t u p q r = omega (arith, ints)

times_pos : (n : ℕ) (a b : ℤ) → pos n *ℤ (a +ℤ b) ≡ pos n *ℤ a +ℤ pos n *ℤ b
times_pos zero a b = none (pos 0 *ℤ (a +ℤ b)) (pos 0 *ℤ a) (pos 0 *ℤ b) (zero-*ℤ (a +ℤ b)) (zero-*ℤ a) (zero-*ℤ b)
times_pos (suc n) a b =
    step_up (pos n *ℤ (a +ℤ b)) (pos n *ℤ a) (pos n *ℤ b) a b (pos (suc n) *ℤ (a +ℤ b)) (pos (suc n) *ℤ a) (pos (suc n) *ℤ b)
    (times_pos n a b) (suc_ℤ-*ℤ (pos n) (a +ℤ b)) (suc_ℤ-*ℤ (pos n) a) (suc_ℤ-*ℤ (pos n) b)

times_neg : (n : ℕ) (a b : ℤ) → negsuc n *ℤ (a +ℤ b) ≡ negsuc n *ℤ a +ℤ negsuc n *ℤ b
times_neg zero a b =
    step_down (pos 0 *ℤ (a +ℤ b)) (pos 0 *ℤ a) (pos 0 *ℤ b) a b (negsuc 0 *ℤ (a +ℤ b)) (negsuc 0 *ℤ a) (negsuc 0 *ℤ b)
    (times_pos 0 a b) (pred_ℤ-*ℤ (pos 0) (a +ℤ b)) (pred_ℤ-*ℤ (pos 0) a) (pred_ℤ-*ℤ (pos 0) b)
times_neg (suc n) a b =
    step_down (negsuc n *ℤ (a +ℤ b)) (negsuc n *ℤ a) (negsuc n *ℤ b) a b (negsuc (suc n) *ℤ (a +ℤ b)) (negsuc (suc n) *ℤ a) (negsuc (suc n) *ℤ b)
    (times_neg n a b) (pred_ℤ-*ℤ (negsuc n) (a +ℤ b)) (pred_ℤ-*ℤ (negsuc n) a) (pred_ℤ-*ℤ (negsuc n) b)

-- a number times a sum
pub times_sum : (f a b : ℤ) → f *ℤ (a +ℤ b) ≡ f *ℤ a +ℤ f *ℤ b
times_sum (pos n) a b = times_pos n a b
times_sum (negsuc n) a b = times_neg n a b

-- a sum times a number
pub sum_times : (a b f : ℤ) → (a +ℤ b) *ℤ f ≡ a *ℤ f +ℤ b *ℤ f
sum_times a b f = *ℤ_comm (a +ℤ b) f ∙ times_sum f a b ∙ ap (λ x. x +ℤ f *ℤ b) (*ℤ_comm f a) ∙ ap (λ x. a *ℤ f +ℤ x) (*ℤ_comm f b)

more : (p x y k l q s t : ℤ) → p ≡ x +ℤ k → s ≡ y +ℤ l → t ≡ q +ℤ l → y ≡ q → s ≡ t
more p x y k l q s t e f g h = omega (arith, ints)

-- a product times a number
assoc_pos : (n : ℕ) (b c : ℤ) → (pos n *ℤ b) *ℤ c ≡ pos n *ℤ (b *ℤ c)
assoc_pos zero b c = ap (λ x. x *ℤ c) (zero-*ℤ b) ∙ zero-*ℤ c ∙ sym (zero-*ℤ (b *ℤ c))
assoc_pos (suc n) b c =
    ap (λ x. x *ℤ c) (suc_ℤ-*ℤ (pos n) b) ∙ sum_times (pos n *ℤ b) b c
    ∙ ap (λ x. x +ℤ b *ℤ c) (assoc_pos n b c) ∙ sym (suc_ℤ-*ℤ (pos n) (b *ℤ c))

less : (x y z s t : ℤ) → s ≡ t +ℤ z → x ≡ s → y ≡ t → y ≡ x -ℤ z
less x y z s t p q r = omega (arith, ints)

again : (a b : ℤ) → a ≡ (a -ℤ b) +ℤ b
again a b = omega (arith, ints)

-- a difference times a number
pub difference_times : (a b f : ℤ) → (a -ℤ b) *ℤ f ≡ a *ℤ f -ℤ b *ℤ f
difference_times a b f =
    less (a *ℤ f) ((a -ℤ b) *ℤ f) (b *ℤ f) (((a -ℤ b) +ℤ b) *ℤ f) ((a -ℤ b) *ℤ f) (sum_times (a -ℤ b) b f)
    (ap (λ x. x *ℤ f) (again a b)) refl

assoc_neg : (n : ℕ) (b c : ℤ) → (negsuc n *ℤ b) *ℤ c ≡ negsuc n *ℤ (b *ℤ c)
assoc_neg zero b c =
    ap (λ x. x *ℤ c) (pred_ℤ-*ℤ (pos 0) b) ∙ difference_times (pos 0 *ℤ b) b c
    ∙ ap (λ x. x -ℤ b *ℤ c) (assoc_pos 0 b c) ∙ sym (pred_ℤ-*ℤ (pos 0) (b *ℤ c))
assoc_neg (suc n) b c =
    ap (λ x. x *ℤ c) (pred_ℤ-*ℤ (negsuc n) b) ∙ difference_times (negsuc n *ℤ b) b c
    ∙ ap (λ x. x -ℤ b *ℤ c) (assoc_neg n b c) ∙ sym (pred_ℤ-*ℤ (negsuc n) (b *ℤ c))

pub product_times : (a b c : ℤ) → (a *ℤ b) *ℤ c ≡ a *ℤ (b *ℤ c)
product_times (pos n) b c = assoc_pos n b c
product_times (negsuc n) b c = assoc_neg n b c

-- ---- sums of two products

pub weighted_none : (factor number other_factor other : ℤ) → number ≡ pos 0 → other ≡ pos 0 → weighted factor number other_factor other ≡ pos 0
weighted_none factor number other_factor other first second =
    rw (first, second) (ap (λ x. x +ℤ other_factor *ℤ pos 0) (*ℤ-zero factor) ∙ ap (λ x. pos 0 +ℤ x) (*ℤ-zero other_factor))

pub weighted_same : (f f' n n' g g' o o' : ℤ) → f ≡ f' → n ≡ n' → g ≡ g' → o ≡ o' → weighted f n g o ≡ weighted f' n' g' o'
weighted_same f f' n n' g g' o o' p q r s =
    ap (λ x. weighted x n g o) p ∙ ap (λ x. weighted f' x g o) q ∙ ap (λ x. weighted f' n' x o) r ∙ ap (λ x. weighted f' n' g' x) s

pairs : (fa fb ga gb s t u v : ℤ) → s ≡ fa +ℤ fb → t ≡ ga +ℤ gb → u ≡ fa +ℤ ga → v ≡ fb +ℤ gb → s +ℤ t ≡ u +ℤ v
pairs fa fb ga gb s t u v p q r w = omega (arith, ints)

-- of sums
pub weighted_sums : (f a b g c d : ℤ) → weighted f (a +ℤ b) g (c +ℤ d) ≡ weighted f a g c +ℤ weighted f b g d
weighted_sums f a b g c d =
    pairs (f *ℤ a) (f *ℤ b) (g *ℤ c) (g *ℤ d) (f *ℤ (a +ℤ b)) (g *ℤ (c +ℤ d)) (weighted f a g c) (weighted f b g d)
    (times_sum f a b) (times_sum g c d) refl refl

-- times a number
pub weighted_times : (f a g b v : ℤ) → weighted f a g b *ℤ v ≡ weighted f (a *ℤ v) g (b *ℤ v)
weighted_times f a g b v =
    sum_times (f *ℤ a) (g *ℤ b) v ∙ ap (λ x. x +ℤ (g *ℤ b) *ℤ v) (product_times f a v) ∙ ap (λ x. f *ℤ (a *ℤ v) +ℤ x) (product_times g b v)
