-- The operations that stay are numbered anew one after the other.
use Rattle.std.proofs.Common.{◌≡◌, ℕ, ◌<◌, ◌≤◌, List, [], ◌∷◌, ◌++◌, length, map, set, get_or, All, refl, sym, ap, ◌∙◌, subst, arith, inl, inr, ℤ}
use Rattle.std.specs.Prelude.{AllPairs}
use Rattle.std.specs.List.{AllByRecursion, slice_index}
use Rattle.std.proofs.lemmas.Bool.{cases_lt}
use Rattle.std.proofs.lemmas.List.{append-nil, append_assoc, length-map, length_push, length-append, length-set, map-append, get_or_append_left, get_or_at, get_or-set_same, get_or-set_other}
use Rattle.std.proofs.lemmas.List.Elements.{All-from_recursion}
use Rattle.forms.specs.FromEarlier.{from_earlier_push}
use Rattle.forms.specs.Limits.{most_width}
use Rattle.forms.specs.Ranges.{HoldsRanges, IsLeastWidth}
use Rattle.range_pass.specs.Bounds.{IsSmallRange}
use Rattle.ir_core.specs.Graph.{place_of, numbers_of}
use Rattle.ap_level.specs.declared.level.ApOp.{ApOp}
use Rattle.ap_level.specs.Operations.{operands_of, with_operands}
use Rattle.ap_level.specs.Patterns.{pattern_ranges, range_of}
use Rattle.ap_level.specs.PutOperands.{put_is_read}
use Rattle.ap_level.specs.Rules.{ranges_on, message_ranges, KeepsRule, KeepRules}
use Rattle.live_patterns.specs.Found.{AreNarrow, AreFound}
use Rattle.live_patterns.specs.Live.{renumbered, in_places, kept_of}
use Rattle.live_patterns.specs.Renumbering.{placed_anew, CanRange, CanPut, IsWidened}
use Rattle.live_patterns.proofs.Walk.{IsPlaced, numbers_push, length-numbers}
use Rattle.live_patterns.proofs.SoFar.{all_weaker, all_push}
use Rattle.live_patterns.proofs.Results.{in_places_push}
use Rattle.live_patterns.proofs.Keeping.{ArePlacedFrom, rules_hold}
use Rattle.live_patterns.proofs.Widths.{least_with_more, least_of_none}
use Rattle.live_patterns.proofs.Small.{rule_small, few_found, operands_earlier, few_operands, can_range, AllBelow, all_below_push, messages_push}

-- some are numbered anew, and these are left
pub record IsUnderway (all left : List (ℕ × ApOp)) (operations : List ApOp) (places : List ℕ) (found : List (ℤ × ℤ)) (wide : ℕ) : Type 0 where
  pub done : List (ℕ × ApOp)
  pub whole : all ≡ done ++ left
  pub there : ArePlacedFrom all done left
  pub rules : KeepRules (in_places all all) (in_places all done) (in_places all left)
  pub narrow : AreNarrow (in_places all done) (in_places all left)
  pub small : AllByRecursion IsSmallRange (pattern_ranges (in_places all done))
  pub below : AllBelow (length (in_places all done)) (in_places all done)
  pub numbers : AllByRecursion (λ e. e.0 < length places) all
  pub rising : AllPairs (λ a b. a < b) (numbers_of all)
  pub short : length all ≤ 1152
  pub patterns : operations ≡ in_places all done
  pub at : (k : ℕ) → k < length done → get_or places (get_or (numbers_of done) k 0) 0 ≡ k
  pub ranges : found ≡ pattern_ranges (in_places all done)
  pub width : IsLeastWidth (message_ranges (in_places all done)) wide

pub start : (operations : List ApOp) (places : List ℕ) → AreFound operations → length places ≡ length operations → IsUnderway (kept_of operations) (kept_of operations) [] places [] 1
start operations places found same =
    let holds = rules_hold operations found in
    let so = holds.ranges.so_far in
    record {
      done = [];
      whole = refl;
      there = holds.there;
      rules = holds.rules;
      narrow = holds.narrow;
      small = tt;
      below = tt;
      numbers = subst (λ n. AllByRecursion (λ (e : ℕ × ApOp). e.0 < n) (kept_of operations)) (sym same) so.below;
      rising = so.rising;
      short = omega (arith, so.short, few_found operations found.rules);
      patterns = refl;
      at = λ k lt. absurd (omega (arith, lt));
      ranges = refl;
      width = least_of_none;
    }

all_at : {A : Type 0} (P : A → Type 0) (first rest : List A) (x : A) → AllByRecursion P (first ++ x ∷ rest) → P x
all_at P [] rest x all = all.0
all_at P (y ∷ first) rest x all = all_at P first rest x all.1

many_places : (all done : List (ℕ × ApOp)) → length (in_places all done) ≡ length done
many_places all done = length-map done (λ (e : ℕ × ApOp). renumbered (place_of all) e.1)

-- ---- the places that are kept are those among all

same_places : (all done : List (ℕ × ApOp)) (places operands : List ℕ) → ((k : ℕ) → k < length done → get_or places (get_or (numbers_of done) k 0) 0 ≡ k) → AllByRecursion (IsPlaced all done) operands
    → map (slice_index places) operands ≡ map (place_of all) operands
same_places all done places [] at placed = refl
same_places all done places (o ∷ operands) at placed =
    let here : get_or places o 0 ≡ place_of all o = ap (λ n. get_or places n 0) (sym placed.0.at) ∙ at (place_of all o) placed.0.below in
    let rest = same_places all done places operands at placed.1 in
    ap (λ n. n ∷ map (slice_index places) operands) here ∙ ap (λ l. place_of all o ∷ l) rest

moved_same : (all left : List (ℕ × ApOp)) (entry : ℕ × ApOp) (operations : List ApOp) (places : List ℕ) (found : List (ℤ × ℤ)) (wide : ℕ) → IsUnderway all (entry ∷ left) operations places found wide
    → placed_anew places entry.1 ≡ renumbered (place_of all) entry.1
moved_same all left entry operations places found wide is = ap (with_operands entry.1) (same_places all is.done places (operands_of entry.1) is.at is.there.0)

numbers_within : (bound : ℕ) (done : List (ℕ × ApOp)) → AllByRecursion (λ e. e.0 < bound) done → AllByRecursion (λ n. n < bound) (numbers_of done)
numbers_within bound [] below = tt
numbers_within bound (e ∷ done) below = (below.0, numbers_within bound done below.1)

leaf_within : (bound : ℕ) (all done left : List (ℕ × ApOp)) (number : ℕ) → all ≡ done ++ left → AllByRecursion (λ e. e.0 < bound) all → IsPlaced all done number → number < bound
leaf_within bound all done left number whole within placed =
    let here : AllByRecursion (λ n. n < bound) (numbers_of done ++ numbers_of left) = subst (AllByRecursion (λ n. n < bound)) (ap numbers_of whole ∙ map-append (λ (e : ℕ × ApOp). e.0) done left) (numbers_within bound all within) in
    let one = All-from_recursion (λ n. n < bound) (numbers_of done ++ numbers_of left) here (place_of all number) 0 (omega (arith, placed.below, length-append (numbers_of done) (numbers_of left), length-numbers done)) in
    omega (arith, one, get_or_append_left (numbers_of done) (numbers_of left) 0 (place_of all number) (omega (arith, placed.below, length-numbers done)), placed.at)

pub can_put : (all left : List (ℕ × ApOp)) (entry : ℕ × ApOp) (operations : List ApOp) (places : List ℕ) (found : List (ℤ × ℤ)) (wide : ℕ) → IsUnderway all (entry ∷ left) operations places found wide → CanPut operations places found entry.0 entry.1
can_put all left entry operations places found wide is =
    let earlier = in_places all is.done in
    let op = renumbered (place_of all) entry.1 in
    let moved = moved_same all left entry operations places found wide is in
    let rule : KeepsRule (in_places all all) earlier op = is.rules.0 in
    let long : length operations ≡ length earlier = ap length is.patterns in
    let short : length earlier ≤ 1152 = omega (arith, is.short, ap length is.whole, length-append is.done (entry ∷ left), many_places all is.done) in
    let count : length (operands_of op) ≡ length (operands_of entry.1) = ap length (put_is_read entry.1 (map (place_of all) (operands_of entry.1)) (length-map (operands_of entry.1) (place_of all))) ∙ length-map (operands_of entry.1) (place_of all) in
    record {
      number = all_at (λ (e : ℕ × ApOp). e.0 < length places) is.done left entry (subst (AllByRecursion (λ (e : ℕ × ApOp). e.0 < length places)) is.whole is.numbers);
      leaves = All-from_recursion (λ o. o < length places) (operands_of entry.1) (all_weaker (IsPlaced all is.done) (λ o. o < length places) (λ o placed. leaf_within (length places) all is.done (entry ∷ left) o is.whole is.numbers placed) (operands_of entry.1) is.there.0);
      earlier =
          subst (λ l. All (λ o. o < length operations) (operands_of l)) (sym moved)
          (subst (λ n. All (λ o. o < n) (operands_of op)) (sym long) (All-from_recursion (λ o. o < length earlier) (operands_of op) (operands_earlier (in_places all all) earlier op rule)));
      few = omega (arith, few_operands (in_places all all) earlier op rule, short, count);
      numbers_left = omega (arith, long, short);
      range = subst (λ l. CanRange found l) (sym moved) (subst (λ r. CanRange r op) (sym is.ranges) (can_range (in_places all all) earlier op short is.small rule));
      narrow = subst (λ l. HoldsRanges most_width (ranges_on found l)) (sym moved) (subst (λ r. HoldsRanges most_width (ranges_on r op)) (sym is.ranges) is.narrow.0);
    }

-- ---- one more

number_before : (done left : List (ℕ × ApOp)) (entry : ℕ × ApOp) (k : ℕ) → AllPairs (λ a b. a < b) (numbers_of (done ++ entry ∷ left)) → k < length done → get_or (numbers_of done) k 0 < entry.0
number_before done left entry k rising below =
    let same : numbers_of (done ++ entry ∷ left) ≡ numbers_of done ++ entry.0 ∷ numbers_of left = map-append (λ (e : ℕ × ApOp). e.0) done (entry ∷ left) in
    let pairs = subst (AllPairs (λ a b. a < b)) same rising in
    let one = pairs k (length done) 0 below (omega (arith, length-append (numbers_of done) (entry.0 ∷ numbers_of left), length-numbers done)) in
    omega (arith, one, get_or_append_left (numbers_of done) (entry.0 ∷ numbers_of left) 0 k (omega (arith, below, length-numbers done)), get_or_at (numbers_of done) entry.0 (numbers_of left) 0 (length done) (length-numbers done))

places_more : (done left : List (ℕ × ApOp)) (entry : ℕ × ApOp) (places : List ℕ) (count : ℕ) → AllPairs (λ a b. a < b) (numbers_of (done ++ entry ∷ left)) → entry.0 < length places → count ≡ length done
    → ((k : ℕ) → k < length done → get_or places (get_or (numbers_of done) k 0) 0 ≡ k) → (k : ℕ) → k < length (done ++ entry ∷ []) → get_or (set places entry.0 count) (get_or (numbers_of (done ++ entry ∷ [])) k 0) 0 ≡ k
places_more done left entry places count rising within same at k below = elim (cases_lt k (length done)) [
  | inl lt ↦
      let number : get_or (numbers_of (done ++ entry ∷ [])) k 0 ≡ get_or (numbers_of done) k 0
      = ap (λ l. get_or l k 0) (numbers_push done entry) ∙ get_or_append_left (numbers_of done) (entry.0 ∷ []) 0 k (omega (arith, lt, length-numbers done)) in
      ap (λ n. get_or (set places entry.0 count) n 0) number
      ∙ get_or-set_other places entry.0 (get_or (numbers_of done) k 0) count 0 (λ e. omega (arith, e, number_before done left entry k rising lt))
      ∙ at k lt
  | inr ge ↦
      let last : k ≡ length done = omega (arith, ge, below, length_push done entry) in
      let number : get_or (numbers_of (done ++ entry ∷ [])) k 0 ≡ entry.0
      = ap (λ l. get_or l k 0) (numbers_push done entry) ∙ get_or_at (numbers_of done) entry.0 [] 0 k (length-numbers done ∙ sym last) in
      ap (λ n. get_or (set places entry.0 count) n 0) number ∙ get_or-set_same places entry.0 count 0 within ∙ same ∙ sym last
]

pub step : (all left : List (ℕ × ApOp)) (entry : ℕ × ApOp) (operations next : List ApOp) (places next_places : List ℕ) (found next_found : List (ℤ × ℤ)) (wide next_wide : ℕ) → IsUnderway all (entry ∷ left) operations places found wide
    → next ≡ operations ++ placed_anew places entry.1 ∷ [] → next_places ≡ set places entry.0 (length operations) → next_found ≡ found ++ range_of found (placed_anew places entry.1) ∷ []
    → IsWidened wide (ranges_on found (placed_anew places entry.1)) next_wide → IsUnderway all left next next_places next_found next_wide
step all left entry operations next places next_places found next_found wide next_wide is patterns put ranges widened =
    let earlier = in_places all is.done in
    let op = renumbered (place_of all) entry.1 in
    let moved = moved_same all left entry operations places found wide is in
    let rule : KeepsRule (in_places all all) earlier op = is.rules.0 in
    let push : in_places all (is.done ++ entry ∷ []) ≡ earlier ++ op ∷ [] = in_places_push all is.done entry in
    let split : all ≡ (is.done ++ entry ∷ []) ++ left = is.whole ∙ sym (append_assoc is.done (entry ∷ []) left) in
    let ranges_push : pattern_ranges (earlier ++ op ∷ []) ≡ pattern_ranges earlier ++ range_of (pattern_ranges earlier) op ∷ [] = from_earlier_push range_of [] earlier op in
    let on = operands_earlier (in_places all all) earlier op rule in
    let long : length next_places ≡ length places = ap length put ∙ length-set places entry.0 (length operations) in
    let within = (can_put all left entry operations places found wide is).number in
    let range_same : range_of found (placed_anew places entry.1) ≡ range_of (pattern_ranges earlier) op = ap (range_of found) moved ∙ ap (λ r. range_of r op) is.ranges in
    let messages_same : ranges_on found (placed_anew places entry.1) ≡ ranges_on (pattern_ranges earlier) op = ap (ranges_on found) moved ∙ ap (λ r. ranges_on r op) is.ranges in
    record {
      done = is.done ++ entry ∷ [];
      whole = split;
      there = is.there.1;
      rules = subst (λ l. KeepRules (in_places all all) l (in_places all left)) (sym push) is.rules.1;
      narrow = subst (λ l. AreNarrow l (in_places all left)) (sym push) is.narrow.1;
      small = subst (λ l. AllByRecursion IsSmallRange (pattern_ranges l)) (sym push) (subst (AllByRecursion IsSmallRange) (sym ranges_push) (all_push IsSmallRange (pattern_ranges earlier) (range_of (pattern_ranges earlier) op) is.small (rule_small (in_places all all) earlier op rule)));
      below = subst (λ l. AllBelow (length l) l) (sym push) (all_below_push earlier op is.below on);
      numbers = subst (λ n. AllByRecursion (λ (e : ℕ × ApOp). e.0 < n) all) (sym long) is.numbers;
      rising = is.rising;
      short = is.short;
      patterns = patterns ∙ ap (λ l. l ++ placed_anew places entry.1 ∷ []) is.patterns ∙ ap (λ o. earlier ++ o ∷ []) moved ∙ sym push;
      at = λ k lt. ap (λ l. get_or l (get_or (numbers_of (is.done ++ entry ∷ [])) k 0) 0) put
          ∙ places_more is.done left entry places (length operations) (subst (λ l. AllPairs (λ a b. a < b) (numbers_of l)) is.whole is.rising) within (ap length is.patterns ∙ many_places all is.done) is.at k lt;
      ranges = ranges ∙ ap (λ r. found ++ r ∷ []) range_same ∙ ap (λ l. l ++ range_of (pattern_ranges earlier) op ∷ []) is.ranges ∙ sym ranges_push ∙ ap pattern_ranges (sym push);
      width =
          subst (λ l. IsLeastWidth (message_ranges l) next_wide) (sym push)
          (subst (λ l. IsLeastWidth l next_wide) (sym (messages_push earlier op is.below on))
          (least_with_more (message_ranges earlier) (ranges_on (pattern_ranges earlier) op) wide next_wide is.width (subst (λ l. IsWidened wide l next_wide) messages_same widened)));
    }

-- ---- the end

pub all_done : (all : List (ℕ × ApOp)) (operations : List ApOp) (places : List ℕ) (found : List (ℤ × ℤ)) (wide : ℕ) → IsUnderway all [] operations places found wide → (operations ≡ in_places all all) × IsLeastWidth (message_ranges (in_places all all)) wide
all_done all operations places found wide is =
    let whole : is.done ≡ all = sym (append-nil is.done) ∙ sym is.whole in
    (is.patterns ∙ ap (in_places all) whole, subst (λ l. IsLeastWidth (message_ranges (in_places all l)) wide) whole is.width)
