-- The test of the least width is its rule.
use Rattle.std.proofs.Common.{◌≡◌, ◌↔◌, ℕ, zero, suc, ◌+◌, ◌-◌, ◌<◌, ◌≤◌, ◌^◌, T, Bool, true, false, ◌&&◌, ◌||◌, eqb, leb, inl, inr, List, [], ◌∷◌, All, get_or, ℤ, pos, ◌<ℤ◌, arith, sym, ap, refl, ◌∙◌, subst}
use Rattle.std.specs.Prelude.{IsTrue, not, int_lt}
use Rattle.std.specs.List.{list_all, AllByRecursion}
use Rattle.std.proofs.lemmas.Bool.{and_parts, leb-true, le-leb, eqb-true, eq-eqb, cases_lt, cases_eq}
use Rattle.std.proofs.lemmas.Int.{ints}
use Rattle.std.proofs.lemmas.List.Elements.{All-from_recursion, recursion_from_All}
use Rattle.std.proofs.Math.Pow.{pow_mono}
use Rattle.forms.specs.Forms.{span_of}
use Rattle.forms.specs.Ranges.{HoldsRanges, IsLeastWidth}
use Rattle.circuit_nodes.specs.Tests.{holds_range, is_least_width}
use Rattle.circuit_nodes.proofs.Pushing.{holds}
use Rattle.circuit_nodes.proofs.Rules.{from_holds}

abbrev Held : ℕ → ℤ × ℤ → Type 0
Held width range = span_of range <ℤ pos (2 ^ width)

held_rule : (width : ℕ) (range : ℤ × ℤ) → IsTrue (holds_range width range) → Held width range
held_rule width range e = record { lt = holds (int_lt (span_of range) (pos (2 ^ width))) e }

held_test : (width : ℕ) (range : ℤ × ℤ) → Held width range → IsTrue (holds_range width range)
held_test width range is = from_holds (int_lt (span_of range) (pos (2 ^ width))) is.lt

all_rule : (width : ℕ) (ranges : List (ℤ × ℤ)) → IsTrue (list_all (holds_range width) ranges) → AllByRecursion (Held width) ranges
all_rule width [] e = tt
all_rule width (range ∷ ranges) e = let a = and_parts (holds_range width range) (list_all (holds_range width) ranges) e in (held_rule width range a.0, all_rule width ranges a.1)

all_test : (width : ℕ) (ranges : List (ℤ × ℤ)) → AllByRecursion (Held width) ranges → IsTrue (list_all (holds_range width) ranges)
all_test width [] all = refl
all_test width (range ∷ ranges) all = rw (held_test width range all.0, all_test width ranges all.1) refl

-- a wider one holds them too
wider : (narrow wide : ℕ) (ranges : List (ℤ × ℤ)) → narrow ≤ wide → HoldsRanges narrow ranges → HoldsRanges wide ranges
wider narrow wide ranges le all = λ k d lt. let one : span_of (get_or ranges k d) <ℤ pos (2 ^ narrow) = all k d lt in omega (arith, ints, one, pow_mono le)

either_of : (a b : Bool) → (a || b) ≡ true → a ≡ false → b ≡ true
either_of true b e none = absurd (let n = none in cc)
either_of false b e none = e

not_held : (test : Bool) → not test ≡ true → test ≡ true → ⊥
not_held true e is = absurd cc
not_held false e is = absurd cc

other_eqb : (test : Bool) (width : ℕ) → (test ≡ true → width ≡ 1) → (width ≡ 1 → ⊥) → test ≡ false
other_eqb true width is other = absurd (other (is refl))
other_eqb false width is other = refl

one_or_more : (width : ℕ) → (width ≡ 1 → ⊥) → eqb width 1 ≡ false
one_or_more width other = other_eqb (eqb width 1) width (eqb-true width 1) other

least_of : (ranges : List (ℤ × ℤ)) (width other : ℕ) → 1 ≤ width → (eqb width 1 || not (list_all (holds_range (width - 1)) ranges)) ≡ true → 1 ≤ other → HoldsRanges other ranges → width ≤ other
least_of ranges width other low needs some held =
    elim (cases_lt other width) [
      | inl lt ↦
          let more : width ≡ 1 → ⊥ = λ one. absurd (omega (arith, one, lt, some)) in
          let none = either_of (eqb width 1) (not (list_all (holds_range (width - 1)) ranges)) needs (one_or_more width more) in
          let narrower : HoldsRanges (width - 1) ranges = wider other (width - 1) ranges (omega (arith, lt)) held in
          absurd (not_held (list_all (holds_range (width - 1)) ranges) none (all_test (width - 1) ranges (recursion_from_All (Held (width - 1)) ranges narrower)))
      | inr ge ↦ ge
    ]

width_rule : (ranges : List (ℤ × ℤ)) (width : ℕ) → IsTrue (is_least_width ranges width) → IsLeastWidth ranges width
width_rule ranges width e =
    let least = eqb width 1 || not (list_all (holds_range (width - 1)) ranges) in
    let a = and_parts (leb 1 width && leb width 16) (list_all (holds_range width) ranges && least) e in
    let between = and_parts (leb 1 width) (leb width 16) a.0 in
    let b = and_parts (list_all (holds_range width) ranges) least a.1 in
    let low : 1 ≤ width = leb-true 1 width between.0 in
    record { low = low; high = leb-true width 16 between.1; holds = All-from_recursion (Held width) ranges (all_rule width ranges b.0); least = λ other some held. least_of ranges width other low b.1 some held }

needs_it : (test : Bool) → (test ≡ true → ⊥) → not test ≡ true
needs_it true held = absurd (held refl)
needs_it false held = refl

or_right : (a b : Bool) → b ≡ true → (a || b) ≡ true
or_right true b e = refl
or_right false b e = e

other_low : (width : ℕ) → (width ≡ 1 → ⊥) → 1 ≤ width → 1 ≤ width - 1
other_low zero other low = absurd (omega (arith, low))
other_low (suc zero) other low = absurd (other refl)
other_low (suc (suc n)) other low = omega arith

width_needed : (ranges : List (ℤ × ℤ)) (width : ℕ) → IsLeastWidth ranges width → (eqb width 1 || not (list_all (holds_range (width - 1)) ranges)) ≡ true
width_needed ranges width is =
    elim (cases_eq width 1) [
      | inl one ↦ rw (eq-eqb width 1 one) refl
      | inr other ↦
          let smaller : list_all (holds_range (width - 1)) ranges ≡ true → ⊥ =
          λ all. absurd (omega (arith, other_low width other is.low, is.least (width - 1) (other_low width other is.low) (All-from_recursion (Held (width - 1)) ranges (all_rule (width - 1) ranges all)))) in
          or_right (eqb width 1) (not (list_all (holds_range (width - 1)) ranges)) (needs_it (list_all (holds_range (width - 1)) ranges) smaller)
    ]

width_test : (ranges : List (ℤ × ℤ)) (width : ℕ) → IsLeastWidth ranges width → IsTrue (is_least_width ranges width)
width_test ranges width is = rw (le-leb 1 width is.low, le-leb width 16 is.high, all_test width ranges (recursion_from_All (Held width) ranges is.holds), width_needed ranges width is) refl

pub test : (ranges : List (ℤ × ℤ)) (width : ℕ) → IsTrue (is_least_width ranges width) ↔ IsLeastWidth ranges width
test ranges width = (width_rule ranges width, width_test ranges width)
