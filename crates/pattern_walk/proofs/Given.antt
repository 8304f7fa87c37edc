-- What a call gives, where its arguments are the same.
use Rattle.std.proofs.Common.{◌≡◌, ℕ, length, sym, ap, ◌∙◌, subst, Ok}
use Rattle.std.specs.Prelude.{ℤ, Result}
use Rattle.refusals.specs.declared.refusal.Refusal.{Refusal}
use Rattle.refusals.specs.Reading.{Gives, ◌>>=◌}
use Rattle.linear_forms.specs.declared.linear.Form.{Form}
use Rattle.fhe_text.specs.declared.source.WrittenType.{WrittenType}
use Rattle.pattern_walk.specs.declared.fault.FormFault.{FormFault}
use Rattle.pattern_walk.specs.Walking.{Walked, with_form, with_weights, check_small, with_small_form}

pub small_given : (result : Result Walked (Refusal FormFault)) (inputs others : ℕ) (walked other : Walked) (number : ℕ) (ty : WrittenType)
    (range other_range : ℤ × ℤ) (form other_form : Form) → inputs ≡ others → walked ≡ other → range ≡ other_range → form ≡ other_form
    → Gives (λ walk. walk) result (with_small_form inputs walked number ty range form)
    → Gives (λ walk. walk) result (with_small_form others other number ty other_range other_form)
small_given result inputs others walked other number ty range other_range form other_form same_inputs same_walked same_range same_form given =
    subst (λ (n : ℕ). Gives (λ walk. walk) result (with_small_form n other number ty other_range other_form)) same_inputs
    (subst (λ (w : Walked). Gives (λ walk. walk) result (with_small_form inputs w number ty other_range other_form)) same_walked
    (subst (λ (r : ℤ × ℤ). Gives (λ walk. walk) result (with_small_form inputs walked number ty r other_form)) same_range
    (subst (λ (f : Form). Gives (λ walk. walk) result (with_small_form inputs walked number ty range f)) same_form given)))

pub small_is : (inputs : ℕ) (walked : Walked) (number : ℕ) (ty : WrittenType) (range : ℤ × ℤ) (form : Form) (more : ℕ) (value : Unit {0}) (after : Walked)
    → more ≡ length form.terms → check_small inputs walked ty range more ≡ Ok value
    → (weighed : Walked) → weighed ≡ with_weights walked more → after ≡ with_form weighed number form
    → with_small_form inputs walked number ty range form ≡ Ok after
small_is inputs walked number ty range form more value after same checked weighed with_more is =
    let now_checked : check_small inputs walked ty range (length form.terms) ≡ Ok value =
    subst (λ (n : ℕ). check_small inputs walked ty range n ≡ Ok value) same checked in
    let now_weighed : weighed ≡ with_weights walked (length form.terms) = with_more ∙ ap (with_weights walked) same in
    ap (λ (r : Result (Unit {0}) FormFault). r >>= λ _. Ok (with_form (with_weights walked (length form.terms)) number form)) now_checked
    ∙ ap (λ (w : Walked). Ok (with_form w number form)) (sym now_weighed) ∙ ap (λ (w : Walked). Ok w) (sym is)
