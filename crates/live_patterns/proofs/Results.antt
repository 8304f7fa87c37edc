-- The values and the ranges of the patterns that stay are those that they had.
use Rattle.std.proofs.Common.{◌≡◌, ℕ, ◌<◌, Bool, true, false, cond, List, [], ◌∷◌, ◌++◌, length, map, get_or, refl, sym, ap, ◌∙◌, arith, ℤ, pos, ◌+ℤ◌, ◌*ℤ◌}
use Rattle.std.specs.Prelude.{filter, unsigned_abs, Option, Some, None, option_to_list}
use Rattle.std.specs.List.{AllByRecursion, zip, cons_option}
use Rattle.std.proofs.lemmas.Bool.{false≢true}
use Rattle.std.proofs.lemmas.List.{append-nil, length-map, map_push, get_or-map, get_or_append_left, get_or_push}
use Rattle.std.proofs.lemmas.List.Elements.{filter_map-append, recursion_from_All}
use Rattle.forms.specs.Forms.{int_sum, number_at, range_at, form_value, form_range, least_of_term, greatest_of_term}
use Rattle.forms.specs.Terms.{leaves_of, terms_on}
use Rattle.forms.specs.FromEarlier.{from_earlier, from_earlier_push, length-from_earlier}
use Rattle.ir_core.specs.Graph.{place_of, numbers_of}
use Rattle.ap_level.specs.declared.level.ApOp.{ApOp}
use Rattle.ap_level.specs.declared.level.ApOp.TheVariants.{Input, Look, Out}
use Rattle.ap_level.specs.Operations.{operands_of, is_input, is_look, is_out}
use Rattle.ap_level.specs.Patterns.{value_of, range_of, at_outs, pattern_values, clear_values, argument_range, argument_ranges}
use Rattle.live_patterns.specs.Found.{KeepsFoundRule, AreFound}
use Rattle.live_patterns.specs.Live.{renumbered, in_places, kept_before, live_patterns}
use Rattle.live_patterns.proofs.Walk.{IsPlaced, numbers_push, length-numbers, IsKept, IsSteady, walk}
use Rattle.live_patterns.proofs.SoFar.{all_weaker, IsSoFar, nothing_so_far, so_far_dropped, so_far_kept}

-- ---- forms on other leaves

-- the leaves have under their new numbers what they had
abbrev pub Agrees : {B : Type 0} → B → (ℕ → ℕ) → List B → List B → List ℕ → Type 0
Agrees d numbering found earlier operands = AllByRecursion (λ o. get_or found (numbering o) d ≡ get_or earlier o d) operands

sum_same : (numbering : ℕ → ℕ) (found earlier : List ℤ) (terms : List (ℕ × ℤ)) → Agrees (pos 0) numbering found earlier (leaves_of terms)
    → int_sum (map (λ (t : ℕ × ℤ). t.1 *ℤ number_at found t.0) (terms_on terms (map numbering (leaves_of terms)))) ≡ int_sum (map (λ (t : ℕ × ℤ). t.1 *ℤ number_at earlier t.0) terms)
sum_same numbering found earlier [] agrees = refl
sum_same numbering found earlier (t ∷ terms) agrees =
    let first : number_at found (numbering t.0) ≡ number_at earlier t.0 = agrees.0 in
    let rest = sum_same numbering found earlier terms agrees.1 in
    rw first (rw rest refl)

least_same : (numbering : ℕ → ℕ) (found earlier : List (ℤ × ℤ)) (terms : List (ℕ × ℤ)) → Agrees (pos 0, pos 0) numbering found earlier (leaves_of terms)
    → int_sum (map (least_of_term found) (terms_on terms (map numbering (leaves_of terms)))) ≡ int_sum (map (least_of_term earlier) terms)
least_same numbering found earlier [] agrees = refl
least_same numbering found earlier (t ∷ terms) agrees =
    let first : range_at found (numbering t.0) ≡ range_at earlier t.0 = agrees.0 in
    let rest = least_same numbering found earlier terms agrees.1 in
    rw first (rw rest refl)

greatest_same : (numbering : ℕ → ℕ) (found earlier : List (ℤ × ℤ)) (terms : List (ℕ × ℤ)) → Agrees (pos 0, pos 0) numbering found earlier (leaves_of terms)
    → int_sum (map (greatest_of_term found) (terms_on terms (map numbering (leaves_of terms)))) ≡ int_sum (map (greatest_of_term earlier) terms)
greatest_same numbering found earlier [] agrees = refl
greatest_same numbering found earlier (t ∷ terms) agrees =
    let first : range_at found (numbering t.0) ≡ range_at earlier t.0 = agrees.0 in
    let rest = greatest_same numbering found earlier terms agrees.1 in
    rw first (rw rest refl)

value_same : (numbering : ℕ → ℕ) (found earlier : List ℤ) (constant : ℤ) (terms : List (ℕ × ℤ)) → Agrees (pos 0) numbering found earlier (leaves_of terms)
    → form_value constant (terms_on terms (map numbering (leaves_of terms))) found ≡ form_value constant terms earlier
value_same numbering found earlier constant terms agrees = ap (λ s. constant +ℤ s) (sum_same numbering found earlier terms agrees)

pub range_same : (numbering : ℕ → ℕ) (found earlier : List (ℤ × ℤ)) (constant : ℤ) (terms : List (ℕ × ℤ)) → Agrees (pos 0, pos 0) numbering found earlier (leaves_of terms)
    → form_range constant (terms_on terms (map numbering (leaves_of terms))) found ≡ form_range constant terms earlier
range_same numbering found earlier constant terms agrees =
    let least = least_same numbering found earlier terms agrees in
    let greatest = greatest_same numbering found earlier terms agrees in
    rw least (rw greatest refl)

-- ---- results of operations

-- a result hangs on what the operands have, and that of an argument on its place
abbrev HangsOnOperands : {B : Type 0} → B → (List B → ApOp → B) → Type 0
HangsOnOperands {B} d result_of = (numbering : ℕ → ℕ) (found earlier : List B) (op : ApOp) → Agrees d numbering found earlier (operands_of op) → (is_input op ≡ true → length found ≡ length earlier)
    → result_of found (renumbered numbering op) ≡ result_of earlier op

values_hang : (inputs : List ℤ) → HangsOnOperands (pos 0) (value_of inputs)
values_hang inputs numbering found earlier (Input lo hi) agrees same = ap (number_at inputs) (same refl)
values_hang inputs numbering found earlier (Look constant terms entries) agrees same = ap (λ v. number_at entries (unsigned_abs v)) (value_same numbering found earlier constant terms agrees)
values_hang inputs numbering found earlier (Out constant terms) agrees same = value_same numbering found earlier constant terms agrees

ranges_hang : HangsOnOperands (pos 0, pos 0) range_of
ranges_hang numbering found earlier (Input lo hi) agrees same = refl
ranges_hang numbering found earlier (Look constant terms entries) agrees same = refl
ranges_hang numbering found earlier (Out constant terms) agrees same = range_same numbering found earlier constant terms agrees

-- those that stay have their results
pub record HaveResults {B : Type 0} (d : B) (result_of : List B → ApOp → B) (all : List (ℕ × ApOp)) (earlier : List ApOp) (done : List (ℕ × ApOp)) : Type 0 where
  pub so_far : IsSoFar all earlier done
  pub same : from_earlier result_of [] (in_places all done) ≡ map (λ n. get_or (from_earlier result_of [] earlier) n d) (numbers_of done)

picked_longer : {B : Type 0} (d : B) (results : List B) (more : B) (bound : ℕ) (done : List (ℕ × ApOp)) → length results ≡ bound → AllByRecursion (λ e. e.0 < bound) done
    → map (λ n. get_or (results ++ more ∷ []) n d) (numbers_of done) ≡ map (λ n. get_or results n d) (numbers_of done)
picked_longer d results more bound [] same below = refl
picked_longer d results more bound (e ∷ done) same below =
    let first : get_or (results ++ more ∷ []) e.0 d ≡ get_or results e.0 d = get_or_append_left results (more ∷ []) d e.0 (omega (arith, same, below.0)) in
    let rest = picked_longer d results more bound done same below.1 in
    cc

pub agrees_here : {B : Type 0} (d : B) (result_of : List B → ApOp → B) (all : List (ℕ × ApOp)) (earlier : List ApOp) (done : List (ℕ × ApOp)) → HaveResults d result_of all earlier done → (operands : List ℕ)
    → AllByRecursion (IsPlaced all done) operands → Agrees d (place_of all) (from_earlier result_of [] (in_places all done)) (from_earlier result_of [] earlier) operands
agrees_here d result_of all earlier done have operands placed =
    let results = from_earlier result_of [] earlier in
    all_weaker (IsPlaced all done) (λ o. get_or (from_earlier result_of [] (in_places all done)) (place_of all o) d ≡ get_or results o d)
    (λ o is.
    ap (λ l. get_or l (place_of all o) d) have.same
    ∙ get_or-map (λ n. get_or results n d) (numbers_of done) (place_of all o) 0 d (omega (arith, is.below, length-numbers done))
    ∙ ap (λ n. get_or results n d) is.at)
    operands placed

pub in_places_push : (all done : List (ℕ × ApOp)) (entry : ℕ × ApOp) → in_places all (done ++ entry ∷ []) ≡ in_places all done ++ renumbered (place_of all) entry.1 ∷ []
in_places_push all done entry = map_push (λ (e : ℕ × ApOp). renumbered (place_of all) e.1) done entry

results_dropped : {B : Type 0} (d : B) (result_of : List B → ApOp → B) (all : List (ℕ × ApOp)) (earlier : List ApOp) (done : List (ℕ × ApOp)) (op : ApOp) → is_look op ≡ true → HaveResults d result_of all earlier done → HaveResults d result_of all (earlier ++ op ∷ []) done
results_dropped d result_of all earlier done op look have =
    let results = from_earlier result_of [] earlier in
    record {
      so_far = so_far_dropped all earlier done op look have.so_far;
      same =
          have.same
          ∙ sym (picked_longer d results (result_of results op) (length earlier) done (omega (arith, length-from_earlier result_of [] earlier)) have.so_far.below)
          ∙ ap (λ l. map (λ n. get_or l n d) (numbers_of done)) (sym (from_earlier_push result_of [] earlier op));
    }

-- the result of one that is kept
pub result_kept : {B : Type 0} (d : B) (result_of : List B → ApOp → B) → HangsOnOperands d result_of → (all : List (ℕ × ApOp)) (earlier : List ApOp) (done : List (ℕ × ApOp)) (op : ApOp) → IsKept all done earlier op
    → (is_input op ≡ true → length done ≡ length earlier) → HaveResults d result_of all earlier done → result_of (from_earlier result_of [] (in_places all done)) (renumbered (place_of all) op) ≡ result_of (from_earlier result_of [] earlier) op
result_kept d result_of hangs all earlier done op kept same have =
    hangs (place_of all) (from_earlier result_of [] (in_places all done)) (from_earlier result_of [] earlier) op (agrees_here d result_of all earlier done have (operands_of op) kept.operands)
    (λ is. omega (arith, same is, length-from_earlier result_of [] (in_places all done), length-from_earlier result_of [] earlier, length-map done (λ (e : ℕ × ApOp). renumbered (place_of all) e.1)))

results_kept : {B : Type 0} (d : B) (result_of : List B → ApOp → B) → HangsOnOperands d result_of → (all : List (ℕ × ApOp)) (earlier : List ApOp) (done : List (ℕ × ApOp)) (op : ApOp) → IsKept all done earlier op
    → (is_input op ≡ true → length done ≡ length earlier) → HaveResults d result_of all earlier done → HaveResults d result_of all (earlier ++ op ∷ []) (done ++ (length earlier, op) ∷ [])
results_kept {B} d result_of hangs all earlier done op kept same have =
    let entry : ℕ × ApOp = (length earlier, op) in
    let before = from_earlier result_of [] earlier in
    let one = result_of before op in
    let found = from_earlier result_of [] (in_places all done) in
    let long : length before ≡ length earlier = omega (arith, length-from_earlier result_of [] earlier) in
    let pick : ℕ → B = λ n. get_or (before ++ one ∷ []) n d in
    let left : from_earlier result_of [] (in_places all (done ++ entry ∷ [])) ≡ map (λ n. get_or before n d) (numbers_of done) ++ one ∷ []
    = ap (from_earlier result_of []) (in_places_push all done entry)
    ∙ from_earlier_push result_of [] (in_places all done) (renumbered (place_of all) op)
    ∙ ap (λ r. found ++ r ∷ []) (result_kept d result_of hangs all earlier done op kept same have)
    ∙ ap (λ l. l ++ one ∷ []) have.same in
    let right : map pick (numbers_of (done ++ entry ∷ [])) ≡ map (λ n. get_or before n d) (numbers_of done) ++ one ∷ []
    = ap (map pick) (numbers_push done entry)
    ∙ map_push pick (numbers_of done) (length earlier)
    ∙ ap (λ l. l ++ pick (length earlier) ∷ []) (picked_longer d before one (length earlier) done long have.so_far.below)
    ∙ ap (λ r. map (λ n. get_or before n d) (numbers_of done) ++ r ∷ []) (get_or_push before one d (length earlier) long) in
    record {
      so_far = so_far_kept all earlier done op kept have.so_far;
      same = left ∙ sym right ∙ ap (λ l. map (λ n. get_or l n d) (numbers_of (done ++ entry ∷ []))) (sym (from_earlier_push result_of [] earlier op));
    }

all_inputs : (earlier : List ApOp) (op : ApOp) → KeepsFoundRule earlier op → is_input op ≡ true → AllByRecursion (λ o. is_input o ≡ true) earlier
all_inputs earlier (Input lo hi) rule is = recursion_from_All (λ (o : ApOp). is_input o ≡ true) earlier rule.first
all_inputs earlier (Look constant terms entries) rule is = absurd (false≢true is)
all_inputs earlier (Out constant terms) rule is = absurd (false≢true is)

pub input_place : (all : List (ℕ × ApOp)) (earlier : List ApOp) (done : List (ℕ × ApOp)) (op : ApOp) → KeepsFoundRule earlier op → IsSoFar all earlier done → is_input op ≡ true → length done ≡ length earlier
input_place all earlier done op rule so is = so.inputs (all_inputs earlier op rule is)

nothing_found : {B : Type 0} (d : B) (result_of : List B → ApOp → B) (all : List (ℕ × ApOp)) → HaveResults d result_of all [] []
nothing_found d result_of all = record { so_far = nothing_so_far all; same = refl }

-- ---- ranges

abbrev pub HaveRanges : List (ℕ × ApOp) → List ApOp → List (ℕ × ApOp) → Type 0
HaveRanges all earlier done = HaveResults (pos 0, pos 0) range_of all earlier done

pub no_ranges : (all : List (ℕ × ApOp)) → HaveRanges all [] []
no_ranges all = nothing_found (pos 0, pos 0) range_of all

pub ranges_dropped : (all : List (ℕ × ApOp)) (earlier : List ApOp) (done : List (ℕ × ApOp)) (op : ApOp) → is_look op ≡ true → HaveRanges all earlier done → HaveRanges all (earlier ++ op ∷ []) done
ranges_dropped all earlier done op look have = results_dropped (pos 0, pos 0) range_of all earlier done op look have

pub ranges_kept : (all : List (ℕ × ApOp)) (earlier : List ApOp) (done : List (ℕ × ApOp)) (op : ApOp) → IsKept all done earlier op → HaveRanges all earlier done → HaveRanges all (earlier ++ op ∷ []) (done ++ (length earlier, op) ∷ [])
ranges_kept all earlier done op kept have = results_kept (pos 0, pos 0) range_of ranges_hang all earlier done op kept (input_place all earlier done op kept.rule have.so_far) have

-- ---- values

pub out_renumbered : (numbering : ℕ → ℕ) (op : ApOp) → is_out (renumbered numbering op) ≡ is_out op
out_renumbered numbering (Input lo hi) = refl
out_renumbered numbering (Look constant terms entries) = refl
out_renumbered numbering (Out constant terms) = refl

no_out : (op : ApOp) → is_look op ≡ true → is_out op ≡ false
no_out (Input lo hi) look = refl
no_out (Look constant terms entries) look = refl
no_out (Out constant terms) look = absurd (false≢true look)

abbrev taken : Bool → ℤ → List ℤ
taken out value = cond out (value ∷ []) []

one_more : (out : Bool) (op : ApOp) (value : ℤ) (rest more : List (ApOp × ℤ)) (tail : List ℤ) → map (λ (r : ApOp × ℤ). r.1) more ≡ map (λ (r : ApOp × ℤ). r.1) rest ++ tail
    → map (λ (r : ApOp × ℤ). r.1) (cond out ((op, value) ∷ more) more) ≡ map (λ (r : ApOp × ℤ). r.1) (cond out ((op, value) ∷ rest) rest) ++ tail
one_more true op value rest more tail same = ap (λ l. value ∷ l) same
one_more false op value rest more tail same = same

last_one : (out : Bool) (op : ApOp) (value : ℤ) → map (λ (r : ApOp × ℤ). r.1) (cond out ((op, value) ∷ []) []) ≡ taken out value
last_one true op value = refl
last_one false op value = refl

outs_push : (operations : List ApOp) (values : List ℤ) (op : ApOp) (value : ℤ) → length values ≡ length operations → at_outs (operations ++ op ∷ []) (values ++ value ∷ []) ≡ at_outs operations values ++ taken (is_out op) value
outs_push [] [] op value same = last_one (is_out op) op value
outs_push [] (v ∷ values) op value same = absurd (omega (arith, same))
outs_push (o ∷ operations) [] op value same = absurd (omega (arith, same))
outs_push (o ∷ operations) (v ∷ values) op value same =
    one_more (is_out o) o v (filter (λ (r : ApOp × ℤ). is_out r.0) (zip operations values)) (filter (λ (r : ApOp × ℤ). is_out r.0) (zip (operations ++ op ∷ []) (values ++ value ∷ []))) (taken (is_out op) value) (outs_push operations values op value (omega (arith, same)))

-- one operation more, and what the results have
outs_of_push : (inputs : List ℤ) (operations : List ApOp) (op : ApOp) → clear_values (operations ++ op ∷ []) inputs ≡ clear_values operations inputs ++ taken (is_out op) (value_of inputs (pattern_values operations inputs) op)
outs_of_push inputs operations op =
    ap (at_outs (operations ++ op ∷ [])) (from_earlier_push (value_of inputs) [] operations op)
    ∙ outs_push operations (pattern_values operations inputs) op (value_of inputs (pattern_values operations inputs) op) (omega (arith, length-from_earlier (value_of inputs) [] operations))

-- those that stay have their values, and the results are the same
record HaveValues (inputs : List ℤ) (all : List (ℕ × ApOp)) (earlier : List ApOp) (done : List (ℕ × ApOp)) : Type 0 where
  values : HaveResults (pos 0) (value_of inputs) all earlier done
  outs : clear_values (in_places all done) inputs ≡ clear_values earlier inputs

values_dropped : (inputs : List ℤ) (all : List (ℕ × ApOp)) (earlier : List ApOp) (done : List (ℕ × ApOp)) (op : ApOp) → is_look op ≡ true → HaveValues inputs all earlier done → HaveValues inputs all (earlier ++ op ∷ []) done
values_dropped inputs all earlier done op look have = record {
  values = results_dropped (pos 0) (value_of inputs) all earlier done op look have.values;
  outs =
      have.outs
      ∙ sym (append-nil (clear_values earlier inputs))
      ∙ sym (ap (λ b. clear_values earlier inputs ++ taken b (value_of inputs (pattern_values earlier inputs) op)) (no_out op look))
      ∙ sym (outs_of_push inputs earlier op);
}

values_kept : (inputs : List ℤ) (all : List (ℕ × ApOp)) (earlier : List ApOp) (done : List (ℕ × ApOp)) (op : ApOp) → IsKept all done earlier op → HaveValues inputs all earlier done → HaveValues inputs all (earlier ++ op ∷ []) (done ++ (length earlier, op) ∷ [])
values_kept inputs all earlier done op kept have =
    let same = input_place all earlier done op kept.rule have.values.so_far in
    let moved = renumbered (place_of all) op in
    let here = value_of inputs (pattern_values earlier inputs) op in
    record {
      values = results_kept (pos 0) (value_of inputs) (values_hang inputs) all earlier done op kept same have.values;
      outs =
          ap (λ l. clear_values l inputs) (in_places_push all done (length earlier, op))
          ∙ outs_of_push inputs (in_places all done) moved
          ∙ ap (λ b. clear_values (in_places all done) inputs ++ taken b (value_of inputs (pattern_values (in_places all done) inputs) moved)) (out_renumbered (place_of all) op)
          ∙ ap (λ v. clear_values (in_places all done) inputs ++ taken (is_out op) v) (result_kept (pos 0) (value_of inputs) (values_hang inputs) all earlier done op kept same have.values)
          ∙ ap (λ l. l ++ taken (is_out op) here) have.outs
          ∙ sym (outs_of_push inputs earlier op);
    }

values_steady : (inputs : List ℤ) (all : List (ℕ × ApOp)) → IsSteady all (HaveValues inputs all)
values_steady inputs all = record { dropped = λ earlier done op look rule have. values_dropped inputs all earlier done op look have; kept = λ earlier done op kept have. values_kept inputs all earlier done op kept have }

pub values_same : (operations : List ApOp) (inputs : List ℤ) → AreFound operations → clear_values (live_patterns operations) inputs ≡ clear_values operations inputs
values_same operations inputs found =
    let all = kept_before 0 operations [] in
    let end : HaveValues inputs all operations all = walk operations (HaveValues inputs all) found.rules found.narrow (values_steady inputs all) (record { values = nothing_found (pos 0) (value_of inputs) all; outs = refl }) in
    end.outs

-- ---- arguments

range_renumbered : (numbering : ℕ → ℕ) (op : ApOp) → argument_range (renumbered numbering op) ≡ argument_range op
range_renumbered numbering (Input lo hi) = refl
range_renumbered numbering (Look constant terms entries) = refl
range_renumbered numbering (Out constant terms) = refl

no_range : (op : ApOp) → is_look op ≡ true → argument_range op ≡ None
no_range (Input lo hi) look = absurd (false≢true look)
no_range (Look constant terms entries) look = refl
no_range (Out constant terms) look = refl

abbrev HaveInputs : List (ℕ × ApOp) → List ApOp → List (ℕ × ApOp) → Type 0
HaveInputs all earlier done = argument_ranges (in_places all done) ≡ argument_ranges earlier

one_range : (range : Option (ℤ × ℤ)) → cons_option range [] ≡ option_to_list range
one_range None = refl
one_range (Some range) = refl

inputs_push : (operations : List ApOp) (op : ApOp) → argument_ranges (operations ++ op ∷ []) ≡ argument_ranges operations ++ option_to_list (argument_range op)
inputs_push operations op = filter_map-append argument_range operations (op ∷ []) ∙ ap (λ l. argument_ranges operations ++ l) (one_range (argument_range op))

inputs_steady : (all : List (ℕ × ApOp)) → IsSteady all (HaveInputs all)
inputs_steady all = record {
  dropped = λ earlier done op look rule have.
      have ∙ sym (append-nil (argument_ranges earlier)) ∙ sym (ap (λ o. argument_ranges earlier ++ option_to_list o) (no_range op look)) ∙ sym (inputs_push earlier op);
  kept = λ earlier done op kept have.
      ap argument_ranges (in_places_push all done (length earlier, op))
      ∙ inputs_push (in_places all done) (renumbered (place_of all) op)
      ∙ ap (λ o. argument_ranges (in_places all done) ++ option_to_list o) (range_renumbered (place_of all) op)
      ∙ ap (λ l. l ++ option_to_list (argument_range op)) have
      ∙ sym (inputs_push earlier op);
}

pub inputs_same : (operations : List ApOp) → AreFound operations → argument_ranges (live_patterns operations) ≡ argument_ranges operations
inputs_same operations found =
    let all = kept_before 0 operations [] in
    walk operations (HaveInputs all) found.rules found.narrow (inputs_steady all) refl
