-- The values of leaves: those of the arguments, and of each look-up the entry at its form's value.
use Rattle.std.proofs.Common.{◌≡◌, ℕ, zero, suc, ◌+◌, ◌<◌, List, [], ◌∷◌, ◌++◌, length, get_or, map, refl, sym, ap, ◌∙◌, subst, arith, append_assoc}
use Rattle.std.specs.Prelude.{ℤ, pos, ◌≤ℤ◌, ◌+ℤ◌, unsigned_abs}
use Rattle.std.proofs.lemmas.Int.{ints, fold-int_max_bounds, fold-int_min_bounds}
use Rattle.std.proofs.lemmas.List.{append-nil, length_push}
use Rattle.std.proofs.Math.Seq.{get_or-append_seam}
use Rattle.forms.specs.Forms.{number_at, IsIn, AreIn}
use Rattle.forms.specs.Ranges.{range_of_entries}
use Rattle.forms.specs.FromEarlier.{from_earlier, from_earlier_push, from_earlier_keeps, length-from_earlier}
use Rattle.forms.specs.Laws.{FormLaws}
use Rattle.linear_forms.specs.Sound.{AreBelow}
use Rattle.linear_forms.specs.Laws.{value_of}
use Rattle.linear_forms.specs.Staying.{value_stays}
use Rattle.live_patterns.specs.declared.patterns.Look.{Look}
use Rattle.pattern_walk.specs.Looking.{range_on}
use Rattle.pattern_pass.proofs.Sound.{IsSoundLook, AreSoundLooks}

-- the entry of a look-up at its form's value
abbrev pub look_value : List ℤ → Look → ℤ
look_value earlier look = number_at look.entries (unsigned_abs (value_of look.form earlier))

-- the values of the arguments, and then of the look-ups
abbrev pub leaf_values : List ℤ → List Look → List ℤ
leaf_values inputs looks = from_earlier look_value inputs looks

-- ---- ranges

-- one value more, in one range more
pub in_push : (ranges : List (ℤ × ℤ)) (values : List ℤ) (range : ℤ × ℤ) (value : ℤ) → AreIn ranges values → IsIn range value
    → AreIn (ranges ++ range ∷ []) (values ++ value ∷ [])
in_push [] [] range value are is = (is, tt)
in_push [] (v ∷ values) range value are is = absurd are
in_push (r ∷ ranges) [] range value are is = absurd are
in_push (r ∷ ranges) (v ∷ values) range value are is = (are.0, in_push ranges values range value are.1 is)

-- an entry lies between the least and the greatest
pub entry_in : (entries : List ℤ) (place : ℕ) → place < length entries → IsIn (range_of_entries entries) (number_at entries place)
entry_in [] place within = absurd (omega arith)
entry_in (entry ∷ entries) zero within = record {
  least = (fold-int_min_bounds entry entries _ refl).0;
  most = (fold-int_max_bounds entry entries _ refl).0;
}
entry_in (entry ∷ entries) (suc place) within = record {
  least = (fold-int_min_bounds entry entries _ refl).1 place (pos 0) (omega arith);
  most = (fold-int_max_bounds entry entries _ refl).1 place (pos 0) (omega arith);
}

index_below : (v hi : ℤ) (many : ℕ) → pos 0 ≤ℤ v → v ≤ℤ hi → pos many ≡ hi +ℤ pos 1 → unsigned_abs v < many
index_below v hi many low high number = omega (arith, ints, low, high, number)

-- the value of a sound look-up lies between its entries
pub look_in : (laws : FormLaws) (ranges : List (ℤ × ℤ)) (values : List ℤ) (look : Look) → IsSoundLook ranges look → AreIn ranges values
    → IsIn (range_of_entries look.entries) (look_value values look)
look_in laws ranges values look sound are =
    let inside = laws.form look.form.constant look.form.terms ranges values are sound.built.below in
    let low : pos 0 ≤ℤ value_of look.form values = subst (λ z. z ≤ℤ value_of look.form values) sound.starts inside.least in
    entry_in look.entries (unsigned_abs (value_of look.form values))
    (index_below (value_of look.form values) (range_on ranges look.form).1 (length look.entries) low inside.most sound.number)

-- ---- leaves that stay

-- the value of each look-up's leaf is its value on all leaves
pub leaf_is : (ranges : List (ℤ × ℤ)) (earlier : List Look) (values : List ℤ) (looks : List Look) (place : ℕ) (d : Look)
    → AreSoundLooks ranges earlier looks → length values ≡ length ranges → place < length looks
    → number_at (from_earlier look_value values looks) (length values + place)
    ≡ look_value (from_earlier look_value values looks) (get_or looks place d)
leaf_is ranges earlier values [] place d sound long within = absurd (omega arith)
leaf_is ranges earlier values (look ∷ looks) zero d sound long within =
    let value = look_value values look in
    let later = from_earlier_keeps look_value (values ++ value ∷ []) looks in
    let all : from_earlier look_value (values ++ value ∷ []) looks ≡ values ++ (value ∷ later.0) =
    later.1 ∙ append_assoc values (value ∷ []) later.0 in
    let below : AreBelow (length values) look.form.terms = subst (λ (n : ℕ). AreBelow n look.form.terms) (sym long) sound.0.built.below in
    let none : length values + 0 ≡ length values = omega arith in
    ap (λ l. number_at l (length values + 0)) all
    ∙ ap (number_at (values ++ (value ∷ later.0))) none
    ∙ get_or-append_seam values value later.0 (pos 0)
    ∙ sym (ap (λ l. look_value l look) all
    ∙ ap (λ z. number_at look.entries (unsigned_abs z)) (value_stays look.form.constant look.form.terms values (value ∷ later.0) below))
leaf_is ranges earlier values (look ∷ looks) (suc place) d sound long within =
    let value = look_value values look in
    let grown = values ++ value ∷ [] in
    let range = range_of_entries look.entries in
    let one_more : length grown ≡ length values + 1 = length_push values value in
    let range_more : length (ranges ++ range ∷ []) ≡ length ranges + 1 = length_push ranges range in
    let longer : length grown ≡ length (ranges ++ range ∷ []) = omega (arith, one_more, range_more, long) in
    let at : length values + suc place ≡ length grown + place = omega (arith, one_more) in
    ap (number_at (from_earlier look_value grown looks)) at
    ∙ leaf_is (ranges ++ range ∷ []) (earlier ++ look ∷ []) grown looks place d sound.2 longer (omega arith)

-- ---- one look-up more

-- the last look-up is sound on the leaves before it
pub last_sound : (ranges : List (ℤ × ℤ)) (earlier looks : List Look) (look : Look) → AreSoundLooks ranges earlier (looks ++ look ∷ [])
    → IsSoundLook (ranges ++ map (λ (l : Look). range_of_entries l.entries) looks) look
last_sound ranges earlier [] look sound = subst (λ (r : List (ℤ × ℤ)). IsSoundLook r look) (sym (append-nil ranges)) sound.0
last_sound ranges earlier (first ∷ looks) look sound =
    subst (λ (r : List (ℤ × ℤ)). IsSoundLook r look)
    (append_assoc ranges (range_of_entries first.entries ∷ []) (map (λ (l : Look). range_of_entries l.entries) looks))
    (last_sound (ranges ++ range_of_entries first.entries ∷ []) (earlier ++ first ∷ []) looks look sound.2)

-- its value stands behind the others
pub values_push : (inputs : List ℤ) (looks : List Look) (look : Look)
    → leaf_values inputs (looks ++ look ∷ []) ≡ leaf_values inputs looks ++ look_value (leaf_values inputs looks) look ∷ []
values_push inputs looks look = from_earlier_push look_value inputs looks look

-- how many there are
pub values_many : (inputs : List ℤ) (looks : List Look) → length (leaf_values inputs looks) ≡ length inputs + length looks
values_many inputs looks = length-from_earlier look_value inputs looks
