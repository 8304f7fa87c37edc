-- The ranges of operations, and of the leaves of a weighted sum.
use Rattle.std.proofs.Common.{◌≡◌, ℕ, zero, suc, ◌+◌, ◌<◌, ◌≤◌, ◌^◌, T, Bool, true, false, cond, ◌&&◌, leb, ltb, inl, inr, Option, List, [], ◌∷◌, ◌++◌, length, map, get_or, All, ℤ, pos, ◌+ℤ◌, ◌*ℤ◌, int_le, arith, sym, ap, refl, ◌∙◌, subst}
use Rattle.std.specs.Prelude.{slice_get, Some, None, IsTrue, IsSomeAnd, not, unsigned_abs, int_lt, count_by}
use Rattle.std.specs.List.{slice_index_or, list_all, AllByRecursion}
use Rattle.std.specs.Ordering.{int_eq}
use Rattle.std.proofs.lemmas.Bool.{and_parts, leb-true, cases_lt}
use Rattle.std.proofs.lemmas.List.Elements.{All-from_recursion}
use Rattle.std.proofs.lemmas.Option.{slice_get_past}
use Rattle.forms.specs.Forms.{int_sum, range_at, least_end, greatest_end, least_of_term, greatest_of_term, form_range, AreRising}
use Rattle.range_pass.specs.Bounds.{IsSmallRange, IsSmallTerm, AreSmall, IsWide}
use Rattle.tfhe_level.specs.declared.level.TfheOp.{TfheOp}
use Rattle.tfhe_level.specs.Operations.{is_leaf, is_lin}
use Rattle.tfhe_level.specs.Nodes.{node_ranges}
use Rattle.tfhe_level.specs.Rules.{Stands}
use Rattle.circuit_nodes.specs.Tests.{some_is, stands, is_term, are_rising, keeps_lin}
use Rattle.circuit_nodes.specs.Nodes.{TellLeaves}

-- what holds of all elements and of the other holds of the one at a place
pub at_or : {A : Type 0} (P : A → Type 0) (xs : List A) (i : ℕ) (other : A) → All P xs → P other → P (slice_index_or xs i other)
at_or P [] i other all rest = rest
at_or P (x ∷ xs) zero other all rest = all 0 other (omega arith)
at_or P (x ∷ xs) (suc i) other all rest = at_or P xs i other (λ k d lt. all (suc k) d (omega (arith, lt))) rest

-- ---- what stands at a place

some_place : (kind : TfheOp → Bool) (o : Option TfheOp) → IsTrue (some_is kind o) → IsSomeAnd o (λ op. IsTrue (kind op))
some_place kind None e = absurd cc
some_place kind (Some op) e = e

pub stands_rule : (kind : TfheOp → Bool) (ops : List TfheOp) (place : ℕ) → IsTrue (stands kind ops place) → Stands kind ops place
stands_rule kind ops place e = some_place kind (slice_get ops place) e

no_place : (kind : TfheOp → Bool) (o : Option TfheOp) → o ≡ None → IsSomeAnd o (λ op. IsTrue (kind op)) → ⊥
no_place kind None none is = is
no_place kind (Some op) none is = absurd cc

pub stands_below : (kind : TfheOp → Bool) (ops : List TfheOp) (place : ℕ) → Stands kind ops place → place < length ops
stands_below kind ops place is =
    elim (cases_lt place (length ops)) [
      | inl lt ↦ lt
      | inr ge ↦ absurd (no_place kind (slice_get ops place) (slice_get_past ops place ge) is)
    ]

-- ---- the terms of a weighted sum that keeps its rule

-- a term is on a leaf, and its weight is within its limit
pub record IsLeafTerm (ops : List TfheOp) (t : ℕ × ℤ) : Type 0 where
  pub leaf : Stands is_leaf ops t.0
  pub weight : unsigned_abs t.1 ≤ 2 ^ 40

pub term_rule : (ops : List TfheOp) (t : ℕ × ℤ) → IsTrue (is_term ops t) → IsLeafTerm ops t
term_rule ops t e =
    let a = and_parts (stands is_leaf ops t.0) (not (int_eq t.1 (pos 0)) && leb (unsigned_abs t.1) (2 ^ 40)) e in
    let b = and_parts (not (int_eq t.1 (pos 0))) (leb (unsigned_abs t.1) (2 ^ 40)) a.1 in
    record { leaf = stands_rule is_leaf ops t.0 a.0; weight = leb-true (unsigned_abs t.1) (2 ^ 40) b.1 }

pub terms_rule : (ops : List TfheOp) (terms : List (ℕ × ℤ)) → IsTrue (list_all (is_term ops) terms) → AllByRecursion (IsLeafTerm ops) terms
terms_rule ops [] e = tt
terms_rule ops (t ∷ terms) e =
    let a = and_parts (is_term ops t) (list_all (is_term ops) terms) e in
    (term_rule ops t a.0, terms_rule ops terms a.1)

rising_few : (ops : List TfheOp) (low : ℕ) (terms : List (ℕ × ℤ)) → low ≤ length ops → AllByRecursion (IsLeafTerm ops) terms → IsTrue (are_rising low terms) → low + length terms ≤ length ops
unfolding are_rising
rising_few ops low [] le all e = omega (arith, le)
rising_few ops low (t ∷ terms) le all e =
    let a = and_parts (leb low t.0) (are_rising (t.0 + 1) terms) e in
    let below : t.0 < length ops = stands_below is_leaf ops t.0 all.0.leaf in
    omega (arith, leb-true low t.0 a.0, below, rising_few ops (t.0 + 1) terms (omega (arith, below)) all.1 a.1)

-- what a weighted sum that keeps its rule has
pub record IsLeafSum (ops : List TfheOp) (terms : List (ℕ × ℤ)) : Type 0 where
  pub each : AllByRecursion (IsLeafTerm ops) terms
  pub few : length terms ≤ length ops

pub lin_constant : (ops : List TfheOp) (constant : ℤ) (terms : List (ℕ × ℤ)) → IsTrue (keeps_lin ops constant terms) → unsigned_abs constant ≤ 2 ^ 41
lin_constant ops constant terms e = leb-true (unsigned_abs constant) (2 ^ 41) (and_parts (leb (unsigned_abs constant) (2 ^ 41)) (list_all (is_term ops) terms && (are_rising 0 terms && ltb (count_by is_lin ops) 1088)) e).0

pub lin_rule : (ops : List TfheOp) (constant : ℤ) (terms : List (ℕ × ℤ)) → IsTrue (keeps_lin ops constant terms) → IsLeafSum ops terms
lin_rule ops constant terms e =
    let a = and_parts (leb (unsigned_abs constant) (2 ^ 41)) (list_all (is_term ops) terms && (are_rising 0 terms && ltb (count_by is_lin ops) 1088)) e in
    let b = and_parts (list_all (is_term ops) terms) (are_rising 0 terms && ltb (count_by is_lin ops) 1088) a.1 in
    let c = and_parts (are_rising 0 terms) (ltb (count_by is_lin ops) 1088) b.1 in
    let each = terms_rule ops terms b.0 in
    record { each = each; few = omega (arith, rising_few ops 0 terms (omega arith) each c.0) }

small_terms : (ops : List TfheOp) (n : ℕ) (terms : List (ℕ × ℤ)) → n ≡ length ops → AllByRecursion (IsLeafTerm ops) terms → AllByRecursion (IsSmallTerm n) terms
small_terms ops n [] same all = tt
small_terms ops n (t ∷ terms) same all = (record { leaf = omega (arith, same, stands_below is_leaf ops t.0 all.0.leaf); weight = all.0.weight }, small_terms ops n terms same all.1)

pub lin_small : (ops : List TfheOp) (leaves : List (ℤ × ℤ)) (constant : ℤ) (terms : List (ℕ × ℤ)) → TellLeaves ops leaves → length ops ≤ 3264 → IsTrue (keeps_lin ops constant terms) → AreSmall terms leaves
lin_small ops leaves constant terms tell few e =
    let sum = lin_rule ops constant terms e in
    record { few = omega (arith, sum.few, few); each_term = All-from_recursion (IsSmallTerm (length leaves)) terms (small_terms ops (length leaves) terms tell.number sum.each); each_range = tell.small }

-- terms on leaves have their ends where the leaves are told
same_ends : (a b : List (ℤ × ℤ)) (t : ℕ × ℤ) → range_at a t.0 ≡ range_at b t.0 → (least_of_term a t ≡ least_of_term b t) × (greatest_of_term a t ≡ greatest_of_term b t)
same_ends a b t same = (ap (λ (r : ℤ × ℤ). t.1 *ℤ cond (int_lt t.1 (pos 0)) r.1 r.0) same, ap (λ (r : ℤ × ℤ). t.1 *ℤ cond (int_lt t.1 (pos 0)) r.0 r.1) same)

same_sums : (ops : List TfheOp) (leaves : List (ℤ × ℤ)) (terms : List (ℕ × ℤ)) → TellLeaves ops leaves → AllByRecursion (IsLeafTerm ops) terms
    → (int_sum (map (least_of_term leaves) terms) ≡ int_sum (map (least_of_term (node_ranges ops)) terms)) × (int_sum (map (greatest_of_term leaves) terms) ≡ int_sum (map (greatest_of_term (node_ranges ops)) terms))
same_sums ops leaves [] tell all = (refl, refl)
same_sums ops leaves (t ∷ terms) tell all =
    let here = same_ends leaves (node_ranges ops) t (tell.agree t.0 all.0.leaf) in
    let later = same_sums ops leaves terms tell all.1 in
    (ap (λ z. z +ℤ int_sum (map (least_of_term leaves) terms)) here.0 ∙ ap (λ z. least_of_term (node_ranges ops) t +ℤ z) later.0, ap (λ z. z +ℤ int_sum (map (greatest_of_term leaves) terms)) here.1 ∙ ap (λ z. greatest_of_term (node_ranges ops) t +ℤ z) later.1)

pub lin_range : (ops : List TfheOp) (leaves : List (ℤ × ℤ)) (constant : ℤ) (terms : List (ℕ × ℤ)) → TellLeaves ops leaves → IsTrue (keeps_lin ops constant terms) → form_range constant terms leaves ≡ form_range constant terms (node_ranges ops)
lin_range ops leaves constant terms tell e =
    let sums = same_sums ops leaves terms tell (lin_rule ops constant terms e).each in
    ap (λ z. (constant +ℤ z, constant +ℤ int_sum (map (greatest_of_term leaves) terms))) sums.0 ∙ ap (λ z. (constant +ℤ int_sum (map (least_of_term (node_ranges ops)) terms), constant +ℤ z)) sums.1
