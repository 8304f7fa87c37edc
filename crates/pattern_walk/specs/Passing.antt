-- What a statement passed. These facts are proved on this page, so that each crate may cite them.
use Rattle.std.proofs.Common.{◌≡◌, ℕ, ◌+◌, ◌-◌, ◌≤◌, Bool, true, false, length, refl, sym, subst, arith, Ok}
use Rattle.std.specs.Prelude.{ℤ, ◌≤ℤ◌, nat_le, int_le, Result}
use Rattle.std.proofs.lemmas.Int.{ints}
use Rattle.std.proofs.lemmas.Bool.{leb-true}
use Rattle.refusals.specs.Reading.{unless}
use Rattle.refusals.specs.Steps.{one_value, no_value, value_of_step, test_held}
use Rattle.forms.specs.Limits.{most_weight}
use Rattle.linear_forms.specs.declared.linear.Form.{Form}
use Rattle.linear_forms.specs.Forms.{size_of}
use Rattle.fhe_text.specs.declared.source.WrittenType.{WrittenType}
use Rattle.pattern_walk.specs.Looking.{range_on}
use Rattle.pattern_walk.specs.Walking.{Walked, most_weights, with_form, with_weights, check_range, check_small, small_form, with_small_form, with_statement, is_in_type}

pub holds_le : (a b : ℤ) → int_le a b ≡ true → a ≤ℤ b
holds_le a b e = grind (arith, ints)

-- what a statement with a small form passed
pub record IsPassed (inputs : ℕ) (walked : Walked) (number : ℕ) (ty : WrittenType) (range : ℤ × ℤ) (form : Form) (next : Walked) : Type 0 where
  pub weights : walked.weights + length form.terms ≤ most_weights
  pub inside : is_in_type ty range ≡ true
  pub is : with_form (with_weights walked (length form.terms)) number form ≡ next

pub ok_same : {A F : Type 0} (x y : A) → ◌≡◌ {A = Result A F} (Ok x) (Ok y) → x ≡ y
ok_same x y same = one_value x (Ok y) same

unless_held : {F : Type 0} (test : Bool) (fault : F) (value : Unit {0}) → unless test fault ≡ Ok value → test ≡ true
unless_held true fault value e = refl
unless_held false fault value e = absurd (no_value fault (Ok value) e)

checked_inside : (place inputs : ℕ) (ty : WrittenType) (range : ℤ × ℤ) (value : Unit {0})
    → check_range (place - inputs) ty range ≡ Ok value → is_in_type ty range ≡ true
checked_inside place inputs ty range value e = unless_held (is_in_type ty range) _ value e

pub small_passed : (inputs : ℕ) (walked : Walked) (number : ℕ) (ty : WrittenType) (range : ℤ × ℤ) (form : Form) (next : Walked)
    → with_small_form inputs walked number ty range form ≡ Ok next → IsPassed inputs walked number ty range form next
small_passed inputs walked number ty range form next e =
    let checked = value_of_step (check_small inputs walked ty range (length form.terms))
    (λ _. Ok (with_form (with_weights walked (length form.terms)) number form)) next e in
    let few = test_held (nat_le (walked.weights + length form.terms) most_weights) _ _ checked.0 checked.1 in
    let inside = checked_inside walked.place inputs ty range checked.0 few.1 in
    record {
      weights = leb-true (walked.weights + length form.terms) most_weights few.0;
      inside = inside;
      is = ok_same _ next checked.2;
    }

-- and one whose numbers were checked too
pub statement_passed : (inputs : ℕ) (walked : Walked) (number : ℕ) (ty : WrittenType) (form : Form) (next : Walked)
    → with_statement inputs walked number ty form ≡ Ok next
    → (size_of form ≤ most_weight) × IsPassed inputs walked number ty (range_on walked.ranges form) form next
statement_passed inputs walked number ty form next e =
    let taken = value_of_step (small_form form) (λ small. with_small_form inputs walked number ty (range_on walked.ranges small) small) next e in
    let small = test_held (nat_le (size_of form) most_weight) _ _ taken.0 taken.1 in
    let same : form ≡ taken.0 = ok_same form taken.0 small.1 in
    let rest = subst (λ (f : Form). with_small_form inputs walked number ty (range_on walked.ranges f) f ≡ Ok next) (sym same) taken.2 in
    (leb-true (size_of form) most_weight small.0, small_passed inputs walked number ty (range_on walked.ranges form) form next rest)
