-- The entries of a pattern are those of the table that it was made of.
use Rattle.std.proofs.Common.{◌≡◌, ℕ, ◌+◌, ◌<◌, true, List, drop, refl, ap, ◌∙◌, arith}
use Rattle.std.specs.Prelude.{ℤ, pos, ◌≤ℤ◌, ◌+ℤ◌, ◌-ℤ◌, unsigned_abs, ◌&&◌, ◌==◌}
use Rattle.std.specs.Bool.{Decides}
use Rattle.std.specs.Ordering.{int_eq}
use Rattle.std.specs.Cmp.Lexicographic.{pointwise}
use Rattle.std.proofs.lemmas.Int.{ints}
use Rattle.std.proofs.lemmas.Bool.Decides.{Decides-eqb, Decides-int_eq}
use Rattle.std.proofs.lemmas.Slice.Eq.{slice_eq-Decides}
use Rattle.std.proofs.lemmas.List.{get_or-take, get_or-drop, get_or-replicate}
use Rattle.forms.specs.Forms.{number_at, span_of, IsIn}
use Rattle.fhe_text.specs.declared.source.Entries.{Entries}
use Rattle.fhe_text.specs.declared.source.Entries.TheVariants as tables
use Rattle.fhe_level.specs.Programs.{entry_of}
use Rattle.fhe_level.specs.Standing.{both}
use Rattle.linear_forms.specs.declared.linear.Form.{Form}
use Rattle.linear_forms.specs.Laws.{value_of}
use Rattle.live_patterns.specs.declared.patterns.Look.{Look}
use Rattle.pattern_walk.specs.Looking.{entries_from, pattern_on, same_term, same_look}
use Rattle.pattern_pass.proofs.Leaves.{look_value}

-- ---- entries

-- so many entries from a place on are those of the table
pub entry_from : (found : Entries) (least many place : ℕ) → place < many
    → number_at (entries_from found least many) place ≡ entry_of found (pos (least + place))
entry_from (tables.List numbers) least many place within =
    get_or-take many (drop least numbers) place (pos 0) within ∙ get_or-drop least numbers place (pos 0)
entry_from (tables.Splat z) least many place within = get_or-replicate many place z (pos 0) within

moved : (constant least sum : ℤ) → (constant -ℤ least) +ℤ sum ≡ (constant +ℤ sum) -ℤ least
moved constant least sum = omega (arith, ints)

place_below : (least most v : ℤ) → least ≤ℤ v → v ≤ℤ most → unsigned_abs (v -ℤ least) < unsigned_abs (most -ℤ least) + 1
place_below least most v low high = omega (arith, ints, low, high)

place_whole : (least v : ℤ) → pos 0 ≤ℤ least → least ≤ℤ v → pos (unsigned_abs least + unsigned_abs (v -ℤ least)) ≡ v
place_whole least v from low = omega (arith, ints, from, low)

-- the pattern of a look-up gives the entry at the input's value
pub pattern_entry : (range : ℤ × ℤ) (input : Form) (found : Entries) (values : List ℤ) → pos 0 ≤ℤ range.0
    → IsIn range (value_of input values)
    → look_value values (pattern_on range input found) ≡ entry_of found (value_of input values)
pattern_entry range input found values from inside =
    let v = value_of input values in
    let least = inside.least in let most = inside.most in
    ap (λ z. number_at (entries_from found (unsigned_abs range.0) (unsigned_abs (span_of range) + 1)) (unsigned_abs z))
    (moved input.constant range.0 _)
    ∙ entry_from found (unsigned_abs range.0) (unsigned_abs (span_of range) + 1) (unsigned_abs (v -ℤ range.0))
    (place_below range.0 range.1 v least most)
    ∙ ap (entry_of found) (place_whole range.0 v from least)

-- ---- the same pattern

pair_same : (t other : ℕ × ℤ) → t.0 ≡ other.0 → t.1 ≡ other.1 → t ≡ other
pair_same t other p q = ap (λ (n : ℕ). (n, t.1)) p ∙ ap (λ (z : ℤ). (other.0, z)) q

term_decides : (t other : ℕ × ℤ) → Decides (same_term t other) (t ≡ other)
term_decides t other = (
  λ same.
      let parts = both (t.0 == other.0) (int_eq t.1 other.1) same in
      pair_same t other ((Decides-eqb t.0 other.0).0 parts.0) ((Decides-int_eq t.1 other.1).0 parts.1),
  λ same.
      let first : (t.0 == other.0) ≡ true = (Decides-eqb t.0 other.0).1 (ap (λ (u : ℕ × ℤ). u.0) same) in
      let second : int_eq t.1 other.1 ≡ true = (Decides-int_eq t.1 other.1).1 (ap (λ (u : ℕ × ℤ). u.1) same) in
      ap (λ b. b && int_eq t.1 other.1) first ∙ second,
)

abbrev look_of : ℤ → List (ℕ × ℤ) → List ℤ → Look
look_of constant terms entries = record { form = record { constant = constant; terms = terms }; entries = entries }

-- look-ups that are the same are one
pub look_same : (look other : Look) → same_look look other ≡ true → look ≡ other
look_same look other same =
    let parts = both (int_eq look.form.constant other.form.constant)
    (pointwise same_term look.form.terms other.form.terms && pointwise int_eq look.entries other.entries) same in
    let lists = both (pointwise same_term look.form.terms other.form.terms) (pointwise int_eq look.entries other.entries) parts.1 in
    let constants : look.form.constant ≡ other.form.constant = (Decides-int_eq look.form.constant other.form.constant).0 parts.0 in
    let terms : look.form.terms ≡ other.form.terms =
    (slice_eq-Decides term_decides look.form.terms other.form.terms (pointwise same_term look.form.terms other.form.terms) refl).0 lists.0 in
    let entries : look.entries ≡ other.entries =
    (slice_eq-Decides Decides-int_eq look.entries other.entries (pointwise int_eq look.entries other.entries) refl).0 lists.1 in
    ap (λ (z : ℤ). look_of z look.form.terms look.entries) constants
    ∙ ap (λ (ts : List (ℕ × ℤ)). look_of other.form.constant ts look.entries) terms
    ∙ ap (look_of other.form.constant other.form.terms) entries
