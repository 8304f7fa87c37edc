-- The pattern of a look-up more.
use Rattle.std.proofs.Common.{◌≡◌, ◌-◌, ◌≤◌, ◌^◌, false, true, List, [], ◌∷◌, ◌++◌, length, map, All, sym, subst, append_assoc, arith}
use Rattle.std.specs.Prelude.{ℤ, pos, ◌+ℤ◌, ◌-ℤ◌, ◌≤ℤ◌, ◌<ℤ◌, unsigned_abs}
use Rattle.std.specs.Ordering.{int_eq}
use Rattle.std.proofs.lemmas.Int.{ints}
use Rattle.std.proofs.lemmas.List.{append-nil}
use Rattle.forms.specs.Forms.{int_sum, least_of_term, greatest_of_term, span_of}
use Rattle.forms.specs.Ranges.{range_of_entries, IsNumber}
use Rattle.linear_forms.specs.declared.linear.Form.{Form}
use Rattle.live_patterns.specs.declared.patterns.Look.{Look}
use Rattle.fhe_text.specs.declared.source.Entries.{Entries}
use Rattle.pattern_walk.specs.Looking.{range_on, pattern_on, is_new}
use Rattle.pattern_walk.specs.Safe.{IsSafeForm}
use Rattle.pattern_pass.proofs.Sound.{IsSoundLook, AreSoundLooks}

-- ---- the look-up

apart_by : (a b : ℤ) → int_eq a b ≡ false → a ≤ℤ b → a <ℤ b
apart_by a b apart rising = grind (arith, ints)

-- the ends of a form whose constant is less its least value
starts_by : (constant least : ℤ) → (constant -ℤ (constant +ℤ least)) +ℤ least ≡ pos 0
starts_by constant least = omega (arith, ints)

many_by : (constant least most : ℤ) → (constant +ℤ least) <ℤ (constant +ℤ most)
    → pos 0 <ℤ ((constant -ℤ (constant +ℤ least)) +ℤ most)
many_by constant least most apart = omega (arith, ints, apart)

narrow_by : (constant least most : ℤ) → pos 0 ≤ℤ (constant +ℤ least) → (constant +ℤ most) ≤ℤ pos (2 ^ 16 - 1)
    → ((constant -ℤ (constant +ℤ least)) +ℤ most) <ℤ pos (2 ^ 16)
narrow_by constant least most low high = omega (arith, ints, low, high)

number_by : (constant least most number : ℤ) → number ≡ ((constant +ℤ most) -ℤ (constant +ℤ least)) +ℤ pos 1
    → number ≡ ((constant -ℤ (constant +ℤ least)) +ℤ most) +ℤ pos 1
number_by constant least most number is = omega (arith, ints, is)

less_least : (constant least : ℤ) → unsigned_abs constant ≤ 2 ^ 40 → pos 0 ≤ℤ least → least ≤ℤ pos (2 ^ 16 - 1)
    → unsigned_abs (constant -ℤ least) ≤ 2 ^ 41
less_least constant least small low high = omega (arith, ints, small, low, high)

below_most : (least most : ℤ) → least ≤ℤ most → most ≤ℤ pos (2 ^ 16 - 1) → least ≤ℤ pos (2 ^ 16 - 1)
below_most least most rising high = omega (arith, ints, rising, high)

-- on a small form with more than one value of 16 bits, and with an entry for each
pub new_look : (ranges : List (ℤ × ℤ)) (input : Form) (found : Entries) → IsSafeForm ranges input
    → int_eq (range_on ranges input).0 (range_on ranges input).1 ≡ false
    → pos (length (pattern_on (range_on ranges input) input found).entries) ≡ span_of (range_on ranges input) +ℤ pos 1
    → All IsNumber (pattern_on (range_on ranges input) input found).entries
    → IsSoundLook ranges (pattern_on (range_on ranges input) input found)
new_look ranges input found safe apart number each =
    let constant = input.constant in
    let least = int_sum (map (least_of_term ranges) input.terms) in
    let most = int_sum (map (greatest_of_term ranges) input.terms) in
    let low = safe.range.low in let rising = safe.range.rising in let high = safe.range.high in
    record {
      built = record { rising = safe.built.rising; below = safe.built.below; weights = safe.built.weights };
      constant = less_least constant (constant +ℤ least) safe.small.constant low (below_most _ _ rising high);
      weights = safe.small.weights;
      starts = starts_by constant least;
      many = many_by constant least most (apart_by (constant +ℤ least) (constant +ℤ most) apart rising);
      narrow = narrow_by constant least most low high;
      number = number_by constant least most _ number;
      each = each;
    }

-- ---- a look-up behind others

-- those before it stay
pub looks_push : (ranges : List (ℤ × ℤ)) (earlier looks : List Look) (look : Look) → AreSoundLooks ranges earlier looks
    → IsSoundLook (ranges ++ map (λ (l : Look). range_of_entries l.entries) looks) look → is_new (earlier ++ looks) look ≡ true
    → AreSoundLooks ranges earlier (looks ++ look ∷ [])
looks_push ranges earlier [] look are own new = (
  subst (λ (r : List (ℤ × ℤ)). IsSoundLook r look) (append-nil ranges) own,
  subst (λ (l : List Look). is_new l look ≡ true) (append-nil earlier) new,
  tt,
)
looks_push ranges earlier (first ∷ looks) look are own new =
    let range = range_of_entries first.entries in
    let on : (ranges ++ range ∷ []) ++ map (λ (l : Look). range_of_entries l.entries) looks
    ≡ ranges ++ (range ∷ map (λ (l : Look). range_of_entries l.entries) looks) =
    append_assoc ranges (range ∷ []) (map (λ (l : Look). range_of_entries l.entries) looks) in
    let behind : (earlier ++ first ∷ []) ++ looks ≡ earlier ++ (first ∷ looks) = append_assoc earlier (first ∷ []) looks in (
      are.0,
      are.1,
      looks_push (ranges ++ range ∷ []) (earlier ++ first ∷ []) looks look are.2
          (subst (λ (r : List (ℤ × ℤ)). IsSoundLook r look) (sym on) own)
          (subst (λ (l : List Look). is_new l look ≡ true) (sym behind) new),
    )
