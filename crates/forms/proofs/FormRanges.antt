-- The value of a form lies in its range.
use Rattle.std.proofs.Common.{◌≡◌, ℕ, ◌+◌, ◌*◌, ◌<◌, ◌≤◌, ℤ, pos, ◌+ℤ◌, ◌*ℤ◌, ◌≤ℤ◌, false, cond, List, [], ◌∷◌, length, map, All, arith}
use lib.IntN.{negsuc}
use Prim.Native.Nat.{zero, suc}
use Rattle.std.specs.Prelude.{int_lt}
use Rattle.std.proofs.Math.Nat.{mul-le-mul_left}
use Rattle.std.proofs.lemmas.Int.{ints}
use Rattle.std.specs.List.{AllByRecursion}
use Rattle.std.proofs.lemmas.Bool.{le-ltb}
use Rattle.std.proofs.lemmas.List.Elements.{recursion_from_All}
use Rattle.forms.specs.Forms.{int_sum, number_at, range_at, form_value, form_range, least_of_term, greatest_of_term, IsIn, AreIn}

-- ---- products keep an order, or turn it

times_natural : (m : ℕ) (a b : ℤ) → a ≤ℤ b → (pos m *ℤ a) ≤ℤ (pos m *ℤ b)
times_natural m (pos a) (pos b) le =
    let p : m * a ≤ m * b = mul-le-mul_left m (omega (arith, ints, le)) in
    omega (arith, ints, p)
times_natural m (pos a) (negsuc b) le = absurd (omega (arith, ints, le))
times_natural m (negsuc a) (pos b) le = omega (arith, ints)
times_natural m (negsuc a) (negsuc b) le =
    let p : m * (b + 1) ≤ m * (a + 1) = mul-le-mul_left m (omega (arith, ints, le)) in
    omega (arith, ints, p)

times_negative : (m : ℕ) (a b : ℤ) → a ≤ℤ b → (negsuc m *ℤ b) ≤ℤ (negsuc m *ℤ a)
times_negative m (pos a) (pos b) le =
    let p : (m + 1) * a ≤ (m + 1) * b = mul-le-mul_left (m + 1) (omega (arith, ints, le)) in
    omega (arith, ints, p)
times_negative m (pos a) (negsuc b) le = absurd (omega (arith, ints, le))
times_negative m (negsuc a) (pos b) le = omega (arith, ints)
times_negative m (negsuc a) (negsuc b) le =
    let p : (m + 1) * (b + 1) ≤ (m + 1) * (a + 1) = mul-le-mul_left (m + 1) (omega (arith, ints, le)) in
    omega (arith, ints, p)

-- the ends that the sign of a weight calls for
no_sign : (m : ℕ) → int_lt (pos m) (pos 0) ≡ false
no_sign m = le-ltb m 0 (omega arith)

end_least : (w x lo hi : ℤ) → lo ≤ℤ x → x ≤ℤ hi → (w *ℤ cond (int_lt w (pos 0)) hi lo) ≤ℤ (w *ℤ x)
end_least (pos m) x lo hi p q = rw (no_sign m) (times_natural m lo x p)
end_least (negsuc m) x lo hi p q = times_negative m x hi q

end_most : (w x lo hi : ℤ) → lo ≤ℤ x → x ≤ℤ hi → (w *ℤ x) ≤ℤ (w *ℤ cond (int_lt w (pos 0)) lo hi)
end_most (pos m) x lo hi p q = rw (no_sign m) (times_natural m x hi q)
end_most (negsuc m) x lo hi p q = times_negative m lo x p

-- ---- leaves

pub leaf_in : (ranges : List (ℤ × ℤ)) (values : List ℤ) (place : ℕ) → AreIn ranges values → place < length ranges → IsIn (range_at ranges place) (number_at values place)
leaf_in [] values place are within = absurd (omega arith)
leaf_in (range ∷ ranges) [] place are within = absurd are
leaf_in (range ∷ ranges) (value ∷ values) zero are within = are.0
leaf_in (range ∷ ranges) (value ∷ values) (suc place) are within = leaf_in ranges values place are.1 (omega arith)

-- ---- sums

sum_least : (a b x y : ℤ) → a ≤ℤ x → b ≤ℤ y → (a +ℤ b) ≤ℤ (x +ℤ y)
sum_least a b x y p q = omega (arith, ints, p, q)

terms_least : (ranges : List (ℤ × ℤ)) (values : List ℤ) (terms : List (ℕ × ℤ)) → AreIn ranges values → AllByRecursion (λ t. t.0 < length ranges) terms → int_sum (map (least_of_term ranges) terms) ≤ℤ int_sum (map (λ t. t.1 *ℤ number_at values t.0) terms)
terms_least ranges values [] are within = omega (arith, ints)
terms_least ranges values (t ∷ ts) are within =
    let leaf = leaf_in ranges values t.0 are within.0 in
    sum_least (least_of_term ranges t) (int_sum (map (least_of_term ranges) ts)) (t.1 *ℤ number_at values t.0) _ (end_least t.1 (number_at values t.0) _ _ leaf.least leaf.most) (terms_least ranges values ts are within.1)

terms_most : (ranges : List (ℤ × ℤ)) (values : List ℤ) (terms : List (ℕ × ℤ)) → AreIn ranges values → AllByRecursion (λ t. t.0 < length ranges) terms → int_sum (map (λ t. t.1 *ℤ number_at values t.0) terms) ≤ℤ int_sum (map (greatest_of_term ranges) terms)
terms_most ranges values [] are within = omega (arith, ints)
terms_most ranges values (t ∷ ts) are within =
    let leaf = leaf_in ranges values t.0 are within.0 in
    sum_least (t.1 *ℤ number_at values t.0) _ (greatest_of_term ranges t) (int_sum (map (greatest_of_term ranges) ts)) (end_most t.1 (number_at values t.0) _ _ leaf.least leaf.most) (terms_most ranges values ts are within.1)

pub form_in : (constant : ℤ) (terms : List (ℕ × ℤ)) (ranges : List (ℤ × ℤ)) (values : List ℤ) → AreIn ranges values → All (λ t. t.0 < length ranges) terms → IsIn (form_range constant terms ranges) (form_value constant terms values)
form_in constant terms ranges values are within =
    let each = recursion_from_All (λ (t : ℕ × ℤ). t.0 < length ranges) terms within in
    let same : constant ≤ℤ constant = omega (arith, ints) in
    record {
      least = sum_least constant _ constant _ same (terms_least ranges values terms are each);
      most = sum_least constant _ constant _ same (terms_most ranges values terms are each);
    }
