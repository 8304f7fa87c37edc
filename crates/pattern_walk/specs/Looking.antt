-- Patterns: what they are made of, and which ones are the same.
use Rattle.std.specs.Prelude.{ℕ, ◌+◌, ◌==◌, ◌&&◌, not, Bool, List, length, take, drop, replicate, ℤ, ◌-ℤ◌, unsigned_abs}
use Rattle.std.specs.Ordering.{int_eq}
use Rattle.std.specs.List.{list_any, position_or_len}
use Rattle.std.specs.Cmp.Lexicographic.{pointwise}
use Rattle.forms.specs.Forms.{form_range, span_of}
use Rattle.fhe_text.specs.declared.source.Entries.{Entries}
use Rattle.fhe_text.specs.declared.source.Entries.TheVariants as tables
use Rattle.linear_forms.specs.declared.linear.Form.{Form}
use Rattle.live_patterns.specs.declared.patterns.Look.{Look}

-- the range of a form on leaves of these ranges
abbrev pub range_on : List (ℤ × ℤ) → Form → ℤ × ℤ
range_on ranges form = form_range form.constant form.terms ranges

-- so many entries from a place on
abbrev pub entries_from : Entries → ℕ → ℕ → List ℤ
entries_from (tables.List numbers) place many = take many (drop place numbers)
entries_from (tables.Splat z) place many = replicate many z

-- the pattern of a look-up whose input has this range: the input less the least value, and the entries from the least to
-- the greatest
abbrev pub pattern_on : ℤ × ℤ → Form → Entries → Look
pattern_on range input found = record {
  form = record { constant = input.constant -ℤ range.0; terms = input.terms };
  entries = entries_from found (unsigned_abs range.0) (unsigned_abs (span_of range) + 1);
}

-- ---- patterns that are shared

-- the same term
abbrev pub same_term : ℕ × ℤ → ℕ × ℤ → Bool
same_term t other = (t.0 == other.0) && int_eq t.1 other.1

-- the same form and the same entries
abbrev pub same_look : Look → Look → Bool
same_look look other =
    int_eq look.form.constant other.form.constant
    && (pointwise same_term look.form.terms other.form.terms && pointwise int_eq look.entries other.entries)

-- the place of the first look-up that is the same, and behind all where none is
abbrev pub place_in : List Look → Look → ℕ
place_in looks look = position_or_len (same_look look) looks

-- no look-up is the same
abbrev pub is_new : List Look → Look → Bool
is_new looks look = not (list_any (same_look look) looks)
