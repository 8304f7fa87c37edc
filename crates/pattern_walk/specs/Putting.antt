-- Forms by the numbers of their operations. These facts are proved on this page, so that each crate may cite them.
use Rattle.std.proofs.Common.{◌≡◌, ◌≢◌, ℕ, cond, List, [], ◌∷◌, refl, sym, ap, ◌∙◌, subst, inl, inr, eq-eqb, Some}
use Rattle.std.specs.Prelude.{nat_eq, pos}
use Rattle.std.specs.Map.{lookup}
use Rattle.std.specs.Option.{unwrap_or}
use Rattle.std.proofs.lemmas.Bool.{ne_eqb}
use Rattle.std.proofs.lemmas.Bool.Decides.{eqb_tells}
use Rattle.indexmap.specs.IndexMap.{insert_entry}
use Rattle.linear_forms.specs.declared.linear.Form.{Form}
use Rattle.linear_forms.specs.Forms.{constant_form}
use Rattle.pattern_walk.specs.Sums.{form_at}

found_put : (forms : List (ℕ × Form)) (number : ℕ) (form : Form)
    → lookup (nat_eq number) (insert_entry nat_eq forms number form) ≡ Some form
found_put [] number form = rw (eq-eqb number number refl) refl
found_put (entry ∷ forms) number form =
    elim (eqb_tells number entry.0) [
      | inl same ↦ rw (same.0, same.0) refl
      | inr other ↦ rw (other.0, other.0) (found_put forms number form)
    ]

other_put : (forms : List (ℕ × Form)) (number : ℕ) (form : Form) (wanted : ℕ) → wanted ≢ number
    → lookup (nat_eq wanted) (insert_entry nat_eq forms number form) ≡ lookup (nat_eq wanted) forms
other_put [] number form wanted apart = rw (ne_eqb wanted number apart) refl
other_put (entry ∷ forms) number form wanted apart =
    elim (eqb_tells number entry.0) [
      | inl same ↦
          let not_here : wanted ≢ entry.0 = λ e. apart (e ∙ sym same.1) in
          rw (same.0, ne_eqb wanted entry.0 not_here) refl
      | inr other ↦
          rw other.0 (ap (λ later. cond (nat_eq wanted entry.0) (Some entry.1) later) (other_put forms number form wanted apart))
    ]

-- the form that was put
pub form_put : (forms : List (ℕ × Form)) (number : ℕ) (form : Form) → form_at (insert_entry nat_eq forms number form) number ≡ form
form_put forms number form = ap (λ found. unwrap_or found (constant_form (pos 0))) (found_put forms number form)

-- the others stay
pub form_kept : (forms : List (ℕ × Form)) (number : ℕ) (form : Form) (wanted : ℕ) → wanted ≢ number
    → form_at (insert_entry nat_eq forms number form) wanted ≡ form_at forms wanted
form_kept forms number form wanted apart =
    ap (λ found. unwrap_or found (constant_form (pos 0))) (other_put forms number form wanted apart)

-- what holds of the form that was put, and of all others, holds of each
pub forms_put : (P : Form → Type 0) (forms : List (ℕ × Form)) (number : ℕ) (form : Form) → P form
    → ((wanted : ℕ) → P (form_at forms wanted)) → (wanted : ℕ) → P (form_at (insert_entry nat_eq forms number form) wanted)
forms_put P forms number form own others wanted =
    elim (eqb_tells wanted number) [
      | inl same ↦
          subst P (sym (ap (form_at (insert_entry nat_eq forms number form)) same.1 ∙ form_put forms number form)) own
      | inr other ↦ subst P (sym (form_kept forms number form wanted other.1)) (others wanted)
    ]
