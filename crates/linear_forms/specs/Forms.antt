-- Forms of values, and what sums and multiples of them are.
use Rattle.std.specs.Prelude.{ℕ, ◌==◌, List, [], ◌∷◌, ◌++◌, fold, max, ℤ, pos, ◌+ℤ◌, ◌*ℤ◌, unsigned_abs, zero, suc, if◌then◌else◌}
use Rattle.std.specs.Ordering.{int_eq}
use Rattle.linear_forms.specs.declared.linear.Form.{Form}

-- ---- weights

-- the weight on a leaf, and 0 where there is none
abbrev pub weight_on : List (ℕ × ℤ) → ℕ → ℤ
weight_on [] leaf = pos 0
weight_on (t ∷ terms) leaf = if t.0 == leaf then t.1 +ℤ weight_on terms leaf else weight_on terms leaf

-- the term of a weight, unless it is 0
abbrev pub term_on : ℕ → ℤ → List (ℕ × ℤ)
term_on leaf weight = if int_eq weight (pos 0) then [] else (leaf, weight) ∷ []

-- the terms with these weights on so many leaves, in the order of the leaves, without weights of 0
abbrev pub terms_of : ℕ → (ℕ → ℤ) → List (ℕ × ℤ)
terms_of zero weight = []
terms_of (suc leaves) weight = terms_of leaves weight ++ term_on leaves (weight leaves)

-- ---- forms

-- a number
abbrev pub constant_form : ℤ → Form
constant_form z = record { constant = z; terms = [] }

-- a leaf
abbrev pub leaf_form : ℕ → Form
leaf_form leaf = record { constant = pos 0; terms = (leaf, pos 1) ∷ [] }

-- one number times another, and a third times a fourth
abbrev pub weighted : ℤ → ℤ → ℤ → ℤ → ℤ
weighted factor number other_factor other = factor *ℤ number +ℤ other_factor *ℤ other

-- the weights of one number times some terms, and of another times others
abbrev pub weights_of : ℤ → List (ℕ × ℤ) → ℤ → List (ℕ × ℤ) → ℕ → ℤ
weights_of factor terms other_factor others leaf = weighted factor (weight_on terms leaf) other_factor (weight_on others leaf)

-- a number, and one number times a form, and another times another form, on so many leaves
abbrev pub combined : ℕ → ℤ → ℤ → Form → ℤ → Form → Form
combined leaves moved factor form other_factor other = record {
  constant = moved +ℤ weighted factor form.constant other_factor other.constant;
  terms = terms_of leaves (weights_of factor form.terms other_factor other.terms);
}

-- the greatest size among its constant and its weights
abbrev pub size_of : Form → ℕ
size_of form = fold (λ most t. max most (unsigned_abs t.1)) (unsigned_abs form.constant) form.terms
