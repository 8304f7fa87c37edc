-- Both ends of a form's range are reached, at corners of the box of its leaves' ranges.
use Rattle.std.proofs.Common.{◌≡◌, ◌≢◌, ℕ, ◌+◌, ◌<◌, ◌≤◌, ℤ, pos, ◌+ℤ◌, ◌*ℤ◌, ◌≤ℤ◌, Bool, true, false, cond, List, [], ◌∷◌, length, map, set, All, refl, ap, arith, ◌∙◌}
use Prim.Native.Nat.{zero, suc}
use Rattle.std.specs.Prelude.{int_lt}
use Rattle.std.specs.List.{AllByRecursion}
use Rattle.std.proofs.lemmas.Int.{ints}
use Rattle.std.proofs.lemmas.List.{get_or-set_same, get_or-set_other}
use Rattle.std.proofs.lemmas.List.Elements.{All-head, All-tail, recursion_from_All}
use Rattle.forms.specs.Forms.{int_sum, number_at, form_value, range_at, least_end, greatest_end, form_range, IsIn, AreIn, AreRanges, AreRising}

-- a term is on one of the leaves
abbrev OnLeaf : List (ℤ × ℤ) → ℕ × ℤ → Type 0
OnLeaf ranges t = t.0 < length ranges

-- an end for each term, and every other leaf at its least number
abbrev corner : (ℕ × ℤ → ℤ) → List (ℤ × ℤ) → List (ℕ × ℤ) → List ℤ
corner end ranges [] = map (λ range. range.0) ranges
corner end ranges (t ∷ ts) = set (corner end ranges ts) t.0 (end t)

-- an end is a number of its leaf's range
abbrev EndsIn : (ℕ × ℤ → ℤ) → List (ℤ × ℤ) → Type 0
EndsIn end ranges = (t : ℕ × ℤ) → t.0 < length ranges → IsIn (range_at ranges t.0) (end t)

-- a range that is not empty
abbrev IsRange : ℤ × ℤ → Type 0
IsRange range = range.0 ≤ℤ range.1

-- ---- corners are values in the ranges

in_length : (ranges : List (ℤ × ℤ)) (values : List ℤ) → AreIn ranges values → length values ≡ length ranges
in_length [] [] are = refl
in_length [] (v ∷ vs) are = absurd are
in_length (r ∷ rs) [] are = absurd are
in_length (r ∷ rs) (v ∷ vs) are = ap suc (in_length rs vs are.1)

least_in : (ranges : List (ℤ × ℤ)) → AreRanges ranges → AreIn ranges (map (λ (range : ℤ × ℤ). range.0) ranges)
least_in [] are = tt
least_in (r ∷ rs) are = (record { least = omega (arith, ints); most = All-head IsRange r rs are }, least_in rs (All-tail IsRange r rs are))

set_in : (ranges : List (ℤ × ℤ)) (values : List ℤ) (leaf : ℕ) (value : ℤ) → AreIn ranges values → leaf < length ranges → IsIn (range_at ranges leaf) value → AreIn ranges (set values leaf value)
set_in [] values leaf value are within is = absurd (omega arith)
set_in (r ∷ rs) [] leaf value are within is = absurd are
set_in (r ∷ rs) (v ∷ vs) zero value are within is = (is, are.1)
set_in (r ∷ rs) (v ∷ vs) (suc leaf) value are within is = (are.0, set_in rs vs leaf value are.1 (omega arith) is)

corner_in : (end : ℕ × ℤ → ℤ) (ranges : List (ℤ × ℤ)) (terms : List (ℕ × ℤ)) → AreRanges ranges → EndsIn end ranges → AllByRecursion (OnLeaf ranges) terms → AreIn ranges (corner end ranges terms)
corner_in end ranges [] are ends on = least_in ranges are
corner_in end ranges (t ∷ ts) are ends on =
    set_in ranges (corner end ranges ts) t.0 (end t) (corner_in end ranges ts are ends on.1) on.0 (ends t on.0)

-- ---- the value at a corner

-- a leaf below those of the terms counts for nothing
apart : (values : List ℤ) (leaf low : ℕ) (value : ℤ) (terms : List (ℕ × ℤ)) → leaf < low → AreRising low terms
    → int_sum (map (λ (t : ℕ × ℤ). t.1 *ℤ number_at (set values leaf value) t.0) terms) ≡ int_sum (map (λ (t : ℕ × ℤ). t.1 *ℤ number_at values t.0) terms)
apart values leaf low value [] below rising = refl
apart values leaf low value (t ∷ ts) below rising =
    let above : low ≤ t.0 = rising.0 in
    let other : t.0 ≢ leaf = λ e. omega (arith, e, above, below) in
    let next : leaf < t.0 + 1 = omega (arith, above, below) in
    let first : number_at (set values leaf value) t.0 ≡ number_at values t.0 = get_or-set_other values leaf t.0 value (pos 0) other in
    let rest = apart values leaf (t.0 + 1) value ts next rising.1 in
    rw first (rw rest refl)

corner_sum : (end : ℕ × ℤ → ℤ) (ranges : List (ℤ × ℤ)) (low : ℕ) (terms : List (ℕ × ℤ)) → AreRanges ranges → EndsIn end ranges → AreRising low terms → AllByRecursion (OnLeaf ranges) terms
    → int_sum (map (λ (t : ℕ × ℤ). t.1 *ℤ number_at (corner end ranges terms) t.0) terms) ≡ int_sum (map (λ (t : ℕ × ℤ). t.1 *ℤ end t) terms)
corner_sum end ranges low [] are ends rising on = refl
corner_sum end ranges low (t ∷ ts) are ends rising on =
    let before = corner end ranges ts in
    let long : length before ≡ length ranges = in_length ranges before (corner_in end ranges ts are ends on.1) in
    let there : t.0 < length ranges = on.0 in
    let first : number_at (set before t.0 (end t)) t.0 ≡ end t = get_or-set_same before t.0 (end t) (pos 0) (omega (arith, long, there)) in
    let rest : int_sum (map (λ (s : ℕ × ℤ). s.1 *ℤ number_at (set before t.0 (end t)) s.0) ts) ≡ int_sum (map (λ (s : ℕ × ℤ). s.1 *ℤ end s) ts)
    = apart before t.0 (t.0 + 1) (end t) ts (omega arith) rising.1 ∙ corner_sum end ranges (t.0 + 1) ts are ends rising.1 on.1 in
    rw first (rw rest refl)

-- ---- both ends

either_in : (b : Bool) (lo hi : ℤ) → lo ≤ℤ hi → IsIn (lo, hi) (cond b hi lo)
either_in true lo hi le = record { least = le; most = omega (arith, ints) }
either_in false lo hi le = record { least = omega (arith, ints); most = le }

other_in : (b : Bool) (lo hi : ℤ) → lo ≤ℤ hi → IsIn (lo, hi) (cond b lo hi)
other_in true lo hi le = record { least = omega (arith, ints); most = le }
other_in false lo hi le = record { least = le; most = omega (arith, ints) }

range_is : (ranges : List (ℤ × ℤ)) (leaf : ℕ) → AreRanges ranges → leaf < length ranges → (range_at ranges leaf).0 ≤ℤ (range_at ranges leaf).1
range_is [] leaf are within = absurd (omega arith)
range_is (r ∷ rs) zero are within = All-head IsRange r rs are
range_is (r ∷ rs) (suc leaf) are within = range_is rs leaf (All-tail IsRange r rs are) (omega arith)

pub least_reached : (constant : ℤ) (terms : List (ℕ × ℤ)) (ranges : List (ℤ × ℤ)) → AreRanges ranges → AreRising 0 terms → All (λ (t : ℕ × ℤ). t.0 < length ranges) terms
    → (values : List ℤ) × AreIn ranges values × (form_value constant terms values ≡ (form_range constant terms ranges).0)
least_reached constant terms ranges are rising on =
    let each = recursion_from_All (OnLeaf ranges) terms on in
    let ends : EndsIn (least_end ranges) ranges = λ t within. either_in (int_lt t.1 (pos 0)) (range_at ranges t.0).0 (range_at ranges t.0).1 (range_is ranges t.0 are within) in (
      corner (least_end ranges) ranges terms,
      corner_in (least_end ranges) ranges terms are ends each,
      ap (λ sum. constant +ℤ sum) (corner_sum (least_end ranges) ranges 0 terms are ends rising each),
    )

pub greatest_reached : (constant : ℤ) (terms : List (ℕ × ℤ)) (ranges : List (ℤ × ℤ)) → AreRanges ranges → AreRising 0 terms → All (λ (t : ℕ × ℤ). t.0 < length ranges) terms
    → (values : List ℤ) × AreIn ranges values × (form_value constant terms values ≡ (form_range constant terms ranges).1)
greatest_reached constant terms ranges are rising on =
    let each = recursion_from_All (OnLeaf ranges) terms on in
    let ends : EndsIn (greatest_end ranges) ranges = λ t within. other_in (int_lt t.1 (pos 0)) (range_at ranges t.0).0 (range_at ranges t.0).1 (range_is ranges t.0 are within) in (
      corner (greatest_end ranges) ranges terms,
      corner_in (greatest_end ranges) ranges terms are ends each,
      ap (λ sum. constant +ℤ sum) (corner_sum (greatest_end ranges) ranges 0 terms are ends rising each),
    )
