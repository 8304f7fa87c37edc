-- The patterns that stay keep the rules of patterns.
use Rattle.std.proofs.Common.{◌≡◌, ℕ, ◌+◌, ◌≤◌, Bool, true, false, cond, List, [], ◌∷◌, ◌++◌, length, map, refl, sym, ap, ◌∙◌, subst, arith, inl, inr, ℤ, pos, ◌+ℤ◌, ◌<ℤ◌}
use Prim.Native.Nat.{zero, suc}
use Rattle.std.specs.Prelude.{filter, not, count_by, Some, slice_get, IsTrue}
use Rattle.std.specs.List.{AllByRecursion, list_any}
use Rattle.std.proofs.lemmas.Bool.{cases_Bool, false≢true}
use Rattle.std.proofs.lemmas.List.{append-nil, append_assoc, length-map, map-append}
use Rattle.std.proofs.lemmas.List.Sums.{sum_by_push}
use Rattle.std.proofs.lemmas.List.Elements.{All-from_recursion, recursion_from_All, filter-append, filter_passes}
use Rattle.std.proofs.lemmas.Option.{none-some, same_Some}
use Rattle.forms.specs.Limits.{most_width}
use Rattle.forms.specs.Ranges.{IsNumberRange, HoldsRanges}
use Rattle.forms.specs.Terms.{leaves_of}
use Rattle.ir_core.specs.Graph.{place_of}
use Rattle.ap_level.specs.declared.level.ApOp.{ApOp}
use Rattle.ap_level.specs.declared.level.ApOp.TheVariants.{Input, Look, Out}
use Rattle.ap_level.specs.Operations.{is_input, is_look, is_out}
use Rattle.ap_level.specs.Patterns.{pattern_ranges, range_of}
use Rattle.ap_level.specs.Rules.{range_on, is_user_of, KeepsRule, KeepRules, ArePatterns}
use Rattle.live_patterns.specs.Found.{IsNarrow, AreNarrow, AreFound}
use Rattle.live_patterns.specs.Live.{renumbered, in_places, with_live, is_live, kept_before, live_patterns}
use Rattle.live_patterns.proofs.Walk.{IsPlaced, ArePlaced, IsKept, walk}
use Rattle.live_patterns.proofs.SoFar.{all_weaker}
use Rattle.live_patterns.proofs.Results.{HaveRanges, no_ranges, ranges_dropped, ranges_kept, agrees_here, in_places_push, range_same, out_renumbered}
use Rattle.live_patterns.proofs.Moved.{moved_terms, StandsThere, form_moved, still_new, used_moved}

-- ---- what holds so far

-- operations go one after the other among those kept before
abbrev pub ArePlacedFrom : List (ℕ × ApOp) → List (ℕ × ApOp) → List (ℕ × ApOp) → Type 0
ArePlacedFrom all before [] = Unit {0}
ArePlacedFrom all before (e ∷ rest) = ArePlaced all before e.1 × ArePlacedFrom all (before ++ e ∷ []) rest

-- those that stay so far keep the rules
pub record HoldRules (all : List (ℕ × ApOp)) (earlier : List ApOp) (done : List (ℕ × ApOp)) : Type 0 where
  pub ranges : HaveRanges all earlier done
  pub there : ArePlacedFrom all [] done
  pub looks : count_by is_look (in_places all done) ≤ count_by is_look earlier
  pub outs : count_by is_out (in_places all done) ≡ count_by is_out earlier
  pub rules : KeepRules (in_places all all) [] (in_places all done)
  pub narrow : AreNarrow [] (in_places all done)

placed_from_push : (all before done : List (ℕ × ApOp)) (entry : ℕ × ApOp) → ArePlacedFrom all before done → ArePlaced all (before ++ done) entry.1 → ArePlacedFrom all before (done ++ entry ∷ [])
placed_from_push all before [] entry are is = (subst (λ l. ArePlaced all l entry.1) (append-nil before) is, tt)
placed_from_push all before (e ∷ done) entry are is =
    (are.0, placed_from_push all (before ++ e ∷ []) done entry are.1 (subst (λ l. ArePlaced all l entry.1) (sym (append_assoc before (e ∷ []) done)) is))

rules_push : (all earlier operations : List ApOp) (op : ApOp) → KeepRules all earlier operations → KeepsRule all (earlier ++ operations) op → KeepRules all earlier (operations ++ op ∷ [])
rules_push all earlier [] op rules rule = (subst (λ l. KeepsRule all l op) (append-nil earlier) rule, tt)
rules_push all earlier (first ∷ operations) op rules rule =
    (rules.0, rules_push all (earlier ++ first ∷ []) operations op rules.1 (subst (λ l. KeepsRule all l op) (sym (append_assoc earlier (first ∷ []) operations)) rule))

narrow_push : (earlier operations : List ApOp) (op : ApOp) → AreNarrow earlier operations → IsNarrow (earlier ++ operations) op → AreNarrow earlier (operations ++ op ∷ [])
narrow_push earlier [] op narrow is = (subst (λ l. IsNarrow l op) (append-nil earlier) is, tt)
narrow_push earlier (first ∷ operations) op narrow is =
    (narrow.0, narrow_push (earlier ++ first ∷ []) operations op narrow.1 (subst (λ l. IsNarrow l op) (sym (append_assoc earlier (first ∷ []) operations)) is))

pub count_push : (kind : ApOp → Bool) (operations : List ApOp) (op : ApOp) → count_by kind (operations ++ op ∷ []) ≡ count_by kind operations + cond (kind op) 1 0
count_push kind operations op = sum_by_push (λ (x : ApOp). cond (kind x) 1 0) operations op

-- ---- the rule of one that is kept

at_one : (P : ApOp → Type 0) (earlier : List ApOp) (number : ℕ) (op : ApOp) → AllByRecursion P earlier → slice_get earlier number ≡ Some op → P op
at_one P [] number op all at = absurd (none-some op at)
at_one P (first ∷ earlier) zero op all at = subst P (same_Some first op at) all.0
at_one P (first ∷ earlier) (suc number) op all at = at_one P earlier number op all.1 at

input_renumbered : (numbering : ℕ → ℕ) (op : ApOp) → is_input (renumbered numbering op) ≡ is_input op
input_renumbered numbering (Input lo hi) = refl
input_renumbered numbering (Look constant terms entries) = refl
input_renumbered numbering (Out constant terms) = refl

inputs_first : (numbering : ℕ → ℕ) (earlier : List ApOp) (done : List (ℕ × ApOp)) → AllByRecursion (λ op. IsTrue (is_input op)) earlier → AllByRecursion (StandsThere earlier) done
    → AllByRecursion (λ op. IsTrue (is_input op)) (map (λ (e : ℕ × ApOp). renumbered numbering e.1) done)
inputs_first numbering earlier [] first at = tt
inputs_first numbering earlier (e ∷ done) first at =
    (input_renumbered numbering e.1 ∙ at_one (λ op. IsTrue (is_input op)) earlier e.0 e.1 first at.0, inputs_first numbering earlier done first at.1)

range_kept : (all : List (ℕ × ApOp)) (earlier : List ApOp) (done : List (ℕ × ApOp)) (constant : ℤ) (terms : List (ℕ × ℤ)) → HaveRanges all earlier done → AllByRecursion (IsPlaced all done) (leaves_of terms)
    → range_on (in_places all done) constant (moved_terms (place_of all) terms) ≡ range_on earlier constant terms
range_kept all earlier done constant terms ranges placed =
    range_same (place_of all) (pattern_ranges (in_places all done)) (pattern_ranges earlier) constant terms (agrees_here (pos 0, pos 0) range_of all earlier done ranges (leaves_of terms) placed)

many_places : (all done : List (ℕ × ApOp)) → length (in_places all done) ≡ length done
many_places all done = length-map done (λ (e : ℕ × ApOp). renumbered (place_of all) e.1)

rule_kept : (all : List (ℕ × ApOp)) (earlier : List ApOp) (done : List (ℕ × ApOp)) (op : ApOp) → IsKept all done earlier op → HoldRules all earlier done → KeepsRule (in_places all all) (in_places all done) (renumbered (place_of all) op)
rule_kept all earlier done (Input lo hi) kept holds =
    let so = holds.ranges.so_far in
    record {
      first = All-from_recursion (λ (o : ApOp). IsTrue (is_input o)) (in_places all done) (inputs_first (place_of all) earlier done (recursion_from_All (λ (o : ApOp). IsTrue (is_input o)) earlier kept.rule.first) so.at);
      range = kept.rule.range;
      few = omega (arith, kept.rule.few, so.short, many_places all done);
    }
rule_kept all earlier done (Look constant terms entries) kept holds =
    let so = holds.ranges.so_far in
    let rule = kept.rule in
    let same = range_kept all earlier done constant terms holds.ranges kept.operands in
    let place : place_of all (length earlier) ≡ length (in_places all done) = kept.place so.below ∙ sym (many_places all done) in
    record {
      form = form_moved all earlier done constant terms so.at so.rising kept.operands rule.form;
      starts = ap (λ (r : ℤ × ℤ). r.0) same ∙ rule.starts;
      many = subst (λ (r : ℤ × ℤ). pos 0 <ℤ r.1) (sym same) rule.many;
      number = rule.number ∙ ap (λ (r : ℤ × ℤ). r.1 +ℤ pos 1) (sym same);
      each = rule.each;
      new = still_new all done earlier constant terms entries so.at so.placed kept.operands rule.new;
      used = subst (λ n. IsTrue (list_any (is_user_of n) (in_places all all))) place (used_moved (place_of all) (length earlier) all (kept.used refl));
      few = omega (arith, rule.few, holds.looks);
    }
rule_kept all earlier done (Out constant terms) kept holds =
    let so = holds.ranges.so_far in
    let same = range_kept all earlier done constant terms holds.ranges kept.operands in
    record {
      form = form_moved all earlier done constant terms so.at so.rising kept.operands kept.rule.form;
      range = subst (λ (r : ℤ × ℤ). IsNumberRange r.0 r.1) (sym same) kept.rule.range;
      few = omega (arith, kept.rule.few, holds.outs);
    }

narrow_kept : (all : List (ℕ × ApOp)) (earlier : List ApOp) (done : List (ℕ × ApOp)) (op : ApOp) → IsKept all done earlier op → HoldRules all earlier done → IsNarrow (in_places all done) (renumbered (place_of all) op)
narrow_kept all earlier done (Input lo hi) kept holds = kept.narrow
narrow_kept all earlier done (Look constant terms entries) kept holds =
    subst (λ r. HoldsRanges most_width (r ∷ [])) (sym (range_kept all earlier done constant terms holds.ranges kept.operands)) kept.narrow
narrow_kept all earlier done (Out constant terms) kept holds =
    subst (λ r. HoldsRanges most_width (r ∷ [])) (sym (range_kept all earlier done constant terms holds.ranges kept.operands)) kept.narrow

-- ---- the steps

no_out : (op : ApOp) → is_look op ≡ true → ◌≡◌ {A = ℕ} (cond (is_out op) 1 0) 0
no_out (Input lo hi) look = refl
no_out (Look constant terms entries) look = refl
no_out (Out constant terms) look = absurd (false≢true look)

rules_dropped : (all : List (ℕ × ApOp)) (earlier : List ApOp) (done : List (ℕ × ApOp)) (op : ApOp) → is_look op ≡ true → HoldRules all earlier done → HoldRules all (earlier ++ op ∷ []) done
rules_dropped all earlier done op look holds = record {
  ranges = ranges_dropped all earlier done op look holds.ranges;
  there = holds.there;
  looks = omega (arith, holds.looks, count_push is_look earlier op);
  outs = omega (arith, holds.outs, count_push is_out earlier op, no_out op look);
  rules = holds.rules;
  narrow = holds.narrow;
}

look_renumbered : (numbering : ℕ → ℕ) (op : ApOp) → is_look (renumbered numbering op) ≡ is_look op
look_renumbered numbering (Input lo hi) = refl
look_renumbered numbering (Look constant terms entries) = refl
look_renumbered numbering (Out constant terms) = refl

pub count_kept : (kind : ApOp → Bool) → ((numbering : ℕ → ℕ) (op : ApOp) → kind (renumbered numbering op) ≡ kind op) → (all done : List (ℕ × ApOp)) (entry : ℕ × ApOp)
    → count_by kind (in_places all (done ++ entry ∷ [])) ≡ count_by kind (in_places all done) + cond (kind entry.1) 1 0
count_kept kind same all done entry =
    ap (count_by kind) (in_places_push all done entry)
    ∙ count_push kind (in_places all done) (renumbered (place_of all) entry.1)
    ∙ ap (λ b. count_by kind (in_places all done) + cond b 1 0) (same (place_of all) entry.1)

rules_kept : (all : List (ℕ × ApOp)) (earlier : List ApOp) (done : List (ℕ × ApOp)) (op : ApOp) → IsKept all done earlier op → HoldRules all earlier done → HoldRules all (earlier ++ op ∷ []) (done ++ (length earlier, op) ∷ [])
rules_kept all earlier done op kept holds =
    let entry : ℕ × ApOp = (length earlier, op) in
    let push = in_places_push all done entry in
    record {
      ranges = ranges_kept all earlier done op kept holds.ranges;
      there = placed_from_push all [] done entry holds.there kept.operands;
      looks = omega (arith, holds.looks, count_push is_look earlier op, count_kept is_look look_renumbered all done entry);
      outs = omega (arith, holds.outs, count_push is_out earlier op, count_kept is_out out_renumbered all done entry);
      rules = subst (KeepRules (in_places all all) []) (sym push) (rules_push (in_places all all) [] (in_places all done) (renumbered (place_of all) op) holds.rules (rule_kept all earlier done op kept holds));
      narrow = subst (AreNarrow []) (sym push) (narrow_push [] (in_places all done) (renumbered (place_of all) op) holds.narrow (narrow_kept all earlier done op kept holds));
    }

pub rules_hold : (operations : List ApOp) → AreFound operations → HoldRules (kept_before 0 operations []) operations (kept_before 0 operations [])
rules_hold operations found =
    let all = kept_before 0 operations [] in
    walk operations (HoldRules all) found.rules found.narrow
    (record { dropped = λ earlier done op look rule holds. rules_dropped all earlier done op look holds; kept = λ earlier done op kept holds. rules_kept all earlier done op kept holds })
    (record { ranges = no_ranges all; there = tt; looks = omega arith; outs = refl; rules = tt; narrow = tt })

-- ---- the results stand last

two_parts : (number : ℕ) (first second : List ApOp) (later : List (ℕ × ApOp)) → kept_before number (first ++ second) later ≡ kept_before number first (kept_before (number + length first) second later)
two_parts number [] second later = ap (λ n. kept_before n second later) (omega arith)
two_parts number (op ∷ first) second later =
    ap (with_live number op) (two_parts (number + 1) first second later ∙ ap (λ n. kept_before (number + 1) first (kept_before n second later)) (omega arith))

-- of these, some stay in front
record StayInFront (Kind : ApOp → Type 0) (kept later : List (ℕ × ApOp)) : Type 0 where
  front : List (ℕ × ApOp)
  split : kept ≡ front ++ later
  kind : AllByRecursion (λ e. Kind e.1) front

stay_in_front : (Kind : ApOp → Type 0) (number : ℕ) (operations : List ApOp) (later : List (ℕ × ApOp)) → AllByRecursion Kind operations → StayInFront Kind (kept_before number operations later) later
stay_in_front Kind number [] later all = record { front = []; split = refl; kind = tt }
stay_in_front Kind number (op ∷ operations) later all =
    let rest = stay_in_front Kind (number + 1) operations later all.1 in
    let behind = kept_before (number + 1) operations later in
    elim (cases_Bool (is_live number op behind)) [
      | inl live ↦
          let stays : with_live number op behind ≡ (number, op) ∷ behind = rw live refl in
          record { front = (number, op) ∷ rest.front; split = stays ∙ ap (λ l. (number, op) ∷ l) rest.split; kind = (all.0, rest.kind) }
      | inr dead ↦
          let goes : with_live number op behind ≡ behind = rw dead refl in
          record { front = rest.front; split = goes ∙ rest.split; kind = rest.kind }
    ]

all_pass : (test : ApOp → Bool) (operations : List ApOp) → AllByRecursion (λ op. test op ≡ true) operations → filter test operations ≡ operations
all_pass test [] all = refl
all_pass test (op ∷ operations) all = rw all.0 (ap (λ l. op ∷ l) (all_pass test operations all.1))

none_pass : (test : ApOp → Bool) (operations : List ApOp) → AllByRecursion (λ op. test op ≡ false) operations → filter test operations ≡ []
none_pass test [] all = refl
none_pass test (op ∷ operations) all = rw all.0 (none_pass test operations all.1)

moved_kind : (kind : ApOp → Bool) → ((numbering : ℕ → ℕ) (op : ApOp) → kind (renumbered numbering op) ≡ kind op) → (b : Bool) (numbering : ℕ → ℕ) (kept : List (ℕ × ApOp)) → AllByRecursion (λ e. kind e.1 ≡ b) kept
    → AllByRecursion (λ op. kind op ≡ b) (map (λ (e : ℕ × ApOp). renumbered numbering e.1) kept)
moved_kind kind same b numbering [] all = tt
moved_kind kind same b numbering (e ∷ kept) all = (same numbering e.1 ∙ all.0, moved_kind kind same b numbering kept all.1)

not_renumbered : (numbering : ℕ → ℕ) (op : ApOp) → not (is_out (renumbered numbering op)) ≡ not (is_out op)
not_renumbered numbering op = ap not (out_renumbered numbering op)

turned : (b : Bool) → not b ≡ true → b ≡ false
turned true is = absurd (false≢true is)
turned false is = refl

turned_back : (b : Bool) → b ≡ true → not b ≡ false
turned_back b is = ap not is

last_in_order : (first last : List ApOp) → AllByRecursion (λ op. not (is_out op) ≡ true) first → AllByRecursion (λ op. is_out op ≡ true) last → first ++ last ≡ filter (λ op. not (is_out op)) (first ++ last) ++ filter is_out (first ++ last)
last_in_order first last no_outs outs =
    let other : ApOp → Bool = λ op. not (is_out op) in
    let kept : filter other (first ++ last) ≡ first
    = filter-append other first last ∙ ap (λ l. l ++ filter other last) (all_pass other first no_outs)
    ∙ ap (λ l. first ++ l) (none_pass other last (all_weaker (λ op. is_out op ≡ true) (λ op. not (is_out op) ≡ false) (λ op is. turned_back (is_out op) is) last outs)) ∙ append-nil first in
    let found : filter is_out (first ++ last) ≡ last
    = filter-append is_out first last ∙ ap (λ l. l ++ filter is_out last) (none_pass is_out first (all_weaker (λ op. not (is_out op) ≡ true) (λ op. is_out op ≡ false) (λ op is. turned (is_out op) is) first no_outs))
    ∙ all_pass is_out last outs in
    sym (ap (λ l. l ++ filter is_out (first ++ last)) kept ∙ ap (λ l. first ++ l) found)

outs_stay_last : (operations : List ApOp) → operations ≡ filter (λ op. not (is_out op)) operations ++ filter is_out operations
    → live_patterns operations ≡ filter (λ op. not (is_out op)) (live_patterns operations) ++ filter is_out (live_patterns operations)
outs_stay_last operations split =
    let other : ApOp → Bool = λ op. not (is_out op) in
    let leafs = filter other operations in
    let outs = filter is_out operations in
    let all = kept_before 0 operations [] in
    let behind = kept_before (0 + length leafs) outs [] in
    let front = stay_in_front (λ op. not (is_out op) ≡ true) 0 leafs behind (recursion_from_All (λ op. other op ≡ true) leafs (filter_passes other operations)) in
    let last = stay_in_front (λ op. is_out op ≡ true) (0 + length leafs) outs [] (recursion_from_All (λ op. is_out op ≡ true) outs (filter_passes is_out operations)) in
    let whole : all ≡ front.front ++ last.front = ap (λ l. kept_before 0 l []) split ∙ two_parts 0 leafs outs [] ∙ front.split ∙ ap (λ l. front.front ++ l) (last.split ∙ append-nil last.front) in
    let moved : live_patterns operations ≡ in_places all front.front ++ in_places all last.front = ap (in_places all) whole ∙ map-append (λ (e : ℕ × ApOp). renumbered (place_of all) e.1) front.front last.front in
    let order = last_in_order (in_places all front.front) (in_places all last.front) (moved_kind other not_renumbered true (place_of all) front.front front.kind) (moved_kind is_out out_renumbered true (place_of all) last.front last.kind) in
    subst (λ l. l ≡ filter other l ++ filter is_out l) (sym moved) order

-- ---- the whole

pub rules_stay : (operations : List ApOp) → AreFound operations → ArePatterns (live_patterns operations)
rules_stay operations found =
    let holds = rules_hold operations found in
    record { rules = holds.rules; outs_last = outs_stay_last operations found.outs_last; some_out = omega (arith, found.some_out, holds.outs) }
