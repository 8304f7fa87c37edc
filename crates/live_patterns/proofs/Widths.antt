-- The least width that holds ranges, one range after the other.
use Rattle.std.proofs.Common.{◌≡◌, ℕ, ◌+◌, ◌≤◌, ◌^◌, List, [], ◌∷◌, ◌++◌, get_or, ℤ, pos, ◌<ℤ◌, arith, inl, inr, subst}
use Rattle.std.specs.List.{AllByRecursion}
use Rattle.std.proofs.Math.Pow.{pow_mono}
use Rattle.std.proofs.lemmas.Bool.{cases_lt}
use Rattle.std.proofs.lemmas.Int.{ints}
use Rattle.std.proofs.lemmas.List.Elements.{All-append, All-head, All-from_recursion, recursion_from_All}
use Rattle.forms.specs.Forms.{span_of}
use Rattle.forms.specs.Ranges.{HoldsRanges, IsLeastWidth}
use Rattle.live_patterns.specs.Renumbering.{IsWidened}

-- a width holds a range
abbrev Held : ℕ → ℤ × ℤ → Type 0
Held width range = span_of range <ℤ pos (2 ^ width)

-- a width that does not hold a range is less than one that does
pub held_above : (width other : ℕ) (range : ℤ × ℤ) → (Held width range → ⊥) → HoldsRanges other (range ∷ []) → width ≤ other → width + 1 ≤ other
held_above width other range not_held held le = elim (cases_lt width other) [
  | inl lt ↦ omega (arith, lt)
  | inr ge ↦
      let same : other ≡ width = omega (arith, le, ge) in
      absurd (not_held (subst (λ w. Held w range) same (All-head (Held other) range [] held)))
]

wider : (narrow wide : ℕ) (ranges : List (ℤ × ℤ)) → narrow ≤ wide → HoldsRanges narrow ranges → HoldsRanges wide ranges
wider narrow wide ranges le all = λ k d lt. let one : span_of (get_or ranges k d) <ℤ pos (2 ^ narrow) = all k d lt in omega (arith, ints, one, pow_mono le)

pub all_parts : {A : Type 0} (P : A → Type 0) (xs ys : List A) → AllByRecursion P (xs ++ ys) → AllByRecursion P xs × AllByRecursion P ys
all_parts P [] ys a = (tt, a)
all_parts P (x ∷ xs) ys a =
    let rest = all_parts P xs ys a.1 in
    ((a.0, rest.0), rest.1)

-- the least width that holds these and more
pub least_with_more : (messages more : List (ℤ × ℤ)) (width wide : ℕ) → IsLeastWidth messages width → IsWidened width more wide → IsLeastWidth (messages ++ more) wide
least_with_more messages more width wide least widened = record {
  low = omega (arith, least.low, widened.from);
  high = widened.most;
  holds = All-append (Held wide) messages more (wider width wide messages widened.from least.holds) widened.holds;
  least = λ other some held.
      let parts = all_parts (Held other) messages more (recursion_from_All (Held other) (messages ++ more) held) in
      widened.least other (least.least other some (All-from_recursion (Held other) messages parts.0)) (All-from_recursion (Held other) more parts.1);
}

pub least_of_none : IsLeastWidth [] 1
least_of_none = record { low = omega arith; high = omega arith; holds = λ k d lt. absurd (omega arith); least = λ other some held. some }
