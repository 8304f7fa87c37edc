-- Two lists of terms that are merged, leaf by leaf.
use Rattle.std.specs.Prelude.{◌≡◌, ℕ, ◌+◌, ◌<◌, ◌==◌, ◌&&◌, nat_lt, Bool, true, List, length, drop, ℤ, pos, slice_index_or, ◌⊎◌, if◌then◌else◌}
use Rattle.forms.specs.Forms.{AreRising}
use Rattle.linear_forms.specs.declared.linear.Form.{Form}
use Rattle.linear_forms.specs.declared.combining.WideForm.{WideForm}
use Rattle.linear_forms.specs.Sound.{AreBelow}

-- the form that a wide one is
abbrev pub form_in : WideForm → Form
form_in wide = record { constant = wide.constant; terms = wide.terms.items }

-- the term at a place is on this leaf
abbrev pub is_at : List (ℕ × ℤ) → ℕ → ℕ → Bool
is_at terms place leaf = nat_lt place (length terms) && ((slice_index_or terms place (0, pos 0)).0 == leaf)

-- the place behind the term on a leaf
abbrev pub place_past : List (ℕ × ℤ) → ℕ → ℕ → ℕ
place_past terms place leaf = if is_at terms place leaf then place + 1 else place

-- the terms from a place on begin with this leaf
pub record IsFirst (terms : List (ℕ × ℤ)) (place leaf : ℕ) : Type 0 where
  pub there : is_at terms place leaf ≡ true
  pub rising : AreRising leaf (drop place terms)
  pub below : (leaves : ℕ) → AreBelow leaves terms → leaf < leaves

-- a leaf is the least one of terms from these places on
pub record IsLeast (terms : List (ℕ × ℤ)) (place : ℕ) (others : List (ℕ × ℤ)) (other_place leaf : ℕ) : Type 0 where
  pub rising : AreRising leaf (drop place terms)
  pub other_rising : AreRising leaf (drop other_place others)
  pub there : (is_at terms place leaf ≡ true) ⊎ (is_at others other_place leaf ≡ true)
  pub below : (leaves : ℕ) → AreBelow leaves terms → AreBelow leaves others → leaf < leaves
