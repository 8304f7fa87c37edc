-- Patterns that keep their rules are few, with few terms and small numbers.
use Rattle.std.proofs.Common.{◌≡◌, ℕ, ◌+◌, ◌<◌, ◌≤◌, ◌^◌, Bool, true, false, cond, List, [], ◌∷◌, ◌++◌, length, fold, refl, sym, ap, ◌∙◌, subst, arith, ℤ, pos, ◌≤ℤ◌}
use lib.IntN.{negsuc}
use Rattle.std.specs.Prelude.{unsigned_abs, int_lt, count_by}
use Rattle.std.specs.Int.{int_min, int_max}
use Rattle.std.specs.List.{AllByRecursion, flat_map}
use Rattle.std.proofs.lemmas.Int.{ints}
use Rattle.std.proofs.lemmas.List.{append-nil, append_assoc, length_push, length-map, flat_map_more}
use Rattle.std.proofs.lemmas.List.Elements.{All-from_recursion, recursion_from_All}
use Rattle.forms.specs.Forms.{form_range}
use Rattle.forms.specs.FromEarlier.{from_earlier_push, length-from_earlier}
use Rattle.forms.specs.Ranges.{IsNumber, IsNumberRange, range_of_entries}
use Rattle.forms.specs.Limits.{least_number, most_number}
use Rattle.forms.specs.Terms.{leaves_of}
use Rattle.range_pass.specs.Bounds.{IsSmallRange, IsSmallTerm, AreSmall}
use Rattle.linear_forms.specs.Sound.{AreBelow}
use Rattle.linear_forms.specs.Staying.{range_stays, terms_count}
use Rattle.ap_level.specs.declared.level.ApOp.{ApOp}
use Rattle.ap_level.specs.declared.level.ApOp.TheVariants.{Input, Look, Out}
use Rattle.ap_level.specs.Operations.{operands_of, is_look, is_out}
use Rattle.ap_level.specs.Patterns.{pattern_ranges, range_of}
use Rattle.ap_level.specs.Rules.{IsTerm, IsForm, ranges_on, message_ranges, KeepsRule}
use Rattle.live_patterns.specs.Found.{KeepsFoundRule, KeepFoundRules}
use Rattle.live_patterns.specs.Renumbering.{HaveEarlier, CanRange}
use Rattle.live_patterns.proofs.Walk.{terms_below, operands_below}
use Rattle.live_patterns.proofs.SoFar.{all_push, all_weaker}
use Rattle.live_patterns.proofs.Keeping.{count_push}

-- ---- numbers

small_number : (z : ℤ) → least_number ≤ℤ z → z ≤ℤ most_number → unsigned_abs z ≤ 2 ^ 16
small_number (pos n) low high = omega (arith, ints, low, high)
small_number (negsuc n) low high = omega (arith, ints, low, high)

either_is : (test : Bool) (a b : ℤ) → IsNumber a → IsNumber b → IsNumber (cond test a b)
either_is true a b is_a is_b = is_a
either_is false a b is_a is_b = is_b

fold_is : (choose : ℤ → ℤ → ℤ) → ((a b : ℤ) → IsNumber a → IsNumber b → IsNumber (choose a b)) → (first : ℤ) (entries : List ℤ) → IsNumber first → AllByRecursion IsNumber entries → IsNumber (fold choose first entries)
fold_is choose keeps first [] is all = is
fold_is choose keeps first (entry ∷ entries) is all = fold_is choose keeps (choose first entry) entries (keeps first entry is all.0) all.1

small_is : (z : ℤ) → IsNumber z → unsigned_abs z ≤ 2 ^ 16
small_is z is = small_number z is.low is.high

entries_small : (entries : List ℤ) → AllByRecursion IsNumber entries → IsSmallRange (range_of_entries entries)
entries_small [] all = record { lo = omega arith; hi = omega arith }
entries_small (entry ∷ entries) all = record {
  lo = small_is (fold int_min entry entries) (fold_is int_min (λ a b is_a is_b. either_is (int_lt b a) b a is_b is_a) entry entries all.0 all.1);
  hi = small_is (fold int_max entry entries) (fold_is int_max (λ a b is_a is_b. either_is (int_lt b a) a b is_a is_b) entry entries all.0 all.1);
}

range_small : (lo hi : ℤ) → IsNumberRange lo hi → IsSmallRange (lo, hi)
range_small lo hi is = record {
  lo = small_number lo is.low (omega (arith, ints, is.rising, is.high));
  hi = small_number hi (omega (arith, ints, is.low, is.rising)) is.high;
}

-- the range of an operation is small
pub rule_small : (all earlier : List ApOp) (op : ApOp) → KeepsRule all earlier op → IsSmallRange (range_of (pattern_ranges earlier) op)
rule_small all earlier (Input lo hi) rule = range_small lo hi rule.range
rule_small all earlier (Look constant terms entries) rule = entries_small entries (recursion_from_All IsNumber entries rule.each)
rule_small all earlier (Out constant terms) rule = range_small (form_range constant terms (pattern_ranges earlier)).0 (form_range constant terms (pattern_ranges earlier)).1 rule.range

-- ---- how many there are

-- no more than the arguments, the look-ups and the results
pub record AreFew (operations : List ApOp) : Type 0 where
  pub length : length operations ≤ 64 + count_by is_look operations + count_by is_out operations
  pub looks : count_by is_look operations ≤ 1024
  pub outs : count_by is_out operations ≤ 64

few_push : (operations : List ApOp) (op : ApOp) → KeepsFoundRule operations op → AreFew operations → AreFew (operations ++ op ∷ [])
few_push operations (Input lo hi) rule few = record {
  length = omega (arith, rule.few, length_push operations (Input lo hi));
  looks = omega (arith, few.looks, count_push is_look operations (Input lo hi));
  outs = omega (arith, few.outs, count_push is_out operations (Input lo hi));
}
few_push operations (Look constant terms entries) rule few =
    let op = Look constant terms entries in
    record {
      length = omega (arith, few.length, length_push operations op, count_push is_look operations op, count_push is_out operations op);
      looks = omega (arith, rule.few, count_push is_look operations op);
      outs = omega (arith, few.outs, count_push is_out operations op);
    }
few_push operations (Out constant terms) rule few =
    let op = Out constant terms in
    record {
      length = omega (arith, few.length, length_push operations op, count_push is_look operations op, count_push is_out operations op);
      looks = omega (arith, few.looks, count_push is_look operations op);
      outs = omega (arith, rule.few, count_push is_out operations op);
    }

few_from : (earlier rest : List ApOp) → KeepFoundRules earlier rest → AreFew earlier → AreFew (earlier ++ rest)
few_from earlier [] rules few = subst AreFew (sym (append-nil earlier)) few
few_from earlier (op ∷ rest) rules few = subst AreFew (append_assoc earlier (op ∷ []) rest) (few_from (earlier ++ op ∷ []) rest rules.1 (few_push earlier op rules.0 few))

pub few_found : (operations : List ApOp) → KeepFoundRules [] operations → length operations ≤ 1152
few_found operations rules =
    let few = few_from [] operations rules (record { length = omega arith; looks = omega arith; outs = omega arith }) in
    omega (arith, few.length, few.looks, few.outs)

have_from : (earlier rest : List ApOp) (number : ℕ) → number ≡ length earlier → KeepFoundRules earlier rest → HaveEarlier number rest
have_from earlier [] number same rules = tt
have_from earlier (op ∷ rest) number same rules = (
  All-from_recursion (λ o. o < number) (operands_of op) (subst (λ n. AllByRecursion (λ o. o < n) (operands_of op)) (sym same) (operands_below earlier op rules.0)),
  have_from (earlier ++ op ∷ []) rest (number + 1) (omega (arith, same, length_push earlier op)) rules.1,
)

pub have_earlier : (operations : List ApOp) → KeepFoundRules [] operations → HaveEarlier 0 operations
have_earlier operations rules = have_from [] operations 0 refl rules

-- ---- terms

below_leaves : (count : ℕ) (terms : List (ℕ × ℤ)) → AllByRecursion (λ o. o < count) (leaves_of terms) → AllByRecursion (λ (t : ℕ × ℤ). t.0 < count) terms
below_leaves count [] below = tt
below_leaves count (t ∷ terms) below = (below.0, below_leaves count terms below.1)

are_below : (count : ℕ) (terms : List (ℕ × ℤ)) → AllByRecursion (λ o. o < count) (leaves_of terms) → AreBelow count terms
are_below count terms below = All-from_recursion (λ (t : ℕ × ℤ). t.0 < count) terms (below_leaves count terms below)

pub operands_earlier : (all earlier : List ApOp) (op : ApOp) → KeepsRule all earlier op → AllByRecursion (λ o. o < length earlier) (operands_of op)
operands_earlier all earlier (Input lo hi) rule = tt
operands_earlier all earlier (Look constant terms entries) rule = terms_below earlier terms (recursion_from_All (IsTerm earlier) terms rule.form.each)
operands_earlier all earlier (Out constant terms) rule = terms_below earlier terms (recursion_from_All (IsTerm earlier) terms rule.form.each)

few_terms : (earlier : List ApOp) (constant : ℤ) (terms : List (ℕ × ℤ)) → IsForm earlier constant terms → length terms ≤ length earlier
few_terms earlier constant terms form = terms_count (length earlier) terms form.rising (are_below (length earlier) terms (terms_below earlier terms (recursion_from_All (IsTerm earlier) terms form.each)))

pub few_operands : (all earlier : List ApOp) (op : ApOp) → KeepsRule all earlier op → length (operands_of op) ≤ length earlier
few_operands all earlier (Input lo hi) rule = omega arith
few_operands all earlier (Look constant terms entries) rule = omega (arith, few_terms earlier constant terms rule.form, length-map terms (λ (t : ℕ × ℤ). t.0))
few_operands all earlier (Out constant terms) rule = omega (arith, few_terms earlier constant terms rule.form, length-map terms (λ (t : ℕ × ℤ). t.0))

many_ranges : (earlier : List ApOp) → length (pattern_ranges earlier) ≡ length earlier
many_ranges earlier = omega (arith, length-from_earlier range_of [] earlier)

small_terms : (earlier : List ApOp) (count : ℕ) (terms : List (ℕ × ℤ)) → AllByRecursion (λ o. o < count) (leaves_of terms) → AllByRecursion (IsTerm earlier) terms → AllByRecursion (IsSmallTerm count) terms
small_terms earlier count [] below each = tt
small_terms earlier count (t ∷ terms) below each = (record { leaf = below.0; weight = each.0.size }, small_terms earlier count terms below.1 each.1)

form_small : (earlier : List ApOp) (constant : ℤ) (terms : List (ℕ × ℤ)) → length earlier ≤ 1152 → AllByRecursion IsSmallRange (pattern_ranges earlier) → IsForm earlier constant terms → AreSmall terms (pattern_ranges earlier)
form_small earlier constant terms short small form =
    let each = recursion_from_All (IsTerm earlier) terms form.each in
    let below = subst (λ n. AllByRecursion (λ o. o < n) (leaves_of terms)) (sym (many_ranges earlier)) (terms_below earlier terms each) in
    record {
      few = omega (arith, few_terms earlier constant terms form, short);
      each_term = All-from_recursion (IsSmallTerm (length (pattern_ranges earlier))) terms (small_terms earlier (length (pattern_ranges earlier)) terms below each);
      each_range = All-from_recursion IsSmallRange (pattern_ranges earlier) small;
    }

-- the range of an operation can be computed
pub can_range : (all earlier : List ApOp) (op : ApOp) → length earlier ≤ 1152 → AllByRecursion IsSmallRange (pattern_ranges earlier) → KeepsRule all earlier op → CanRange (pattern_ranges earlier) op
can_range all earlier (Input lo hi) short small rule = tt
can_range all earlier (Look constant terms entries) short small rule = form_small earlier constant terms short small rule.form
can_range all earlier (Out constant terms) short small rule = (form_small earlier constant terms short small rule.form, rule.range)

-- ---- the ranges that the width must hold

-- the operands of all are earlier than this
abbrev pub AllBelow : ℕ → List ApOp → Type 0
AllBelow count operations = AllByRecursion (λ op. AllByRecursion (λ o. o < count) (operands_of op)) operations

one_stays : (ranges more : List (ℤ × ℤ)) (op : ApOp) → AllByRecursion (λ o. o < length ranges) (operands_of op) → ranges_on (ranges ++ more) op ≡ ranges_on ranges op
one_stays ranges more (Input lo hi) below = refl
one_stays ranges more (Look constant terms entries) below = ap (λ r. r ∷ []) (range_stays constant terms ranges more (are_below (length ranges) terms below))
one_stays ranges more (Out constant terms) below = ap (λ r. r ∷ []) (range_stays constant terms ranges more (are_below (length ranges) terms below))

all_stay : (ranges more : List (ℤ × ℤ)) (operations : List ApOp) → AllBelow (length ranges) operations → flat_map (ranges_on (ranges ++ more)) operations ≡ flat_map (ranges_on ranges) operations
all_stay ranges more [] below = refl
all_stay ranges more (op ∷ operations) below =
    ap (λ l. l ++ flat_map (ranges_on (ranges ++ more)) operations) (one_stays ranges more op below.0) ∙ ap (λ l. ranges_on ranges op ++ l) (all_stay ranges more operations below.1)

pub all_below_push : (operations : List ApOp) (op : ApOp) → AllBelow (length operations) operations → AllByRecursion (λ o. o < length operations) (operands_of op) → AllBelow (length (operations ++ op ∷ [])) (operations ++ op ∷ [])
all_below_push operations op below here =
    let count = length (operations ++ op ∷ []) in
    let more : (other : ApOp) → AllByRecursion (λ o. o < length operations) (operands_of other) → AllByRecursion (λ o. o < count) (operands_of other)
    = λ other is. all_weaker (λ o. o < length operations) (λ o. o < count) (λ o lt. omega (arith, lt, length_push operations op)) (operands_of other) is in
    all_push (λ (other : ApOp). AllByRecursion (λ o. o < count) (operands_of other)) operations op
    (all_weaker (λ (other : ApOp). AllByRecursion (λ o. o < length operations) (operands_of other)) (λ (other : ApOp). AllByRecursion (λ o. o < count) (operands_of other)) more operations below) (more op here)

pub messages_push : (operations : List ApOp) (op : ApOp) → AllBelow (length operations) operations → AllByRecursion (λ o. o < length operations) (operands_of op)
    → message_ranges (operations ++ op ∷ []) ≡ message_ranges operations ++ ranges_on (pattern_ranges operations) op
messages_push operations op below here =
    let ranges = pattern_ranges operations in
    let more = range_of ranges op ∷ [] in
    let long : length ranges ≡ length operations = many_ranges operations in
    ap (λ l. flat_map (ranges_on l) (operations ++ op ∷ [])) (from_earlier_push range_of [] operations op)
    ∙ sym (flat_map_more (ranges_on (ranges ++ more)) [] operations op)
    ∙ ap (λ l. l ++ ranges_on (ranges ++ more) op) (all_stay ranges more operations (subst (λ n. AllBelow n operations) (sym long) below))
    ∙ ap (λ l. flat_map (ranges_on ranges) operations ++ l) (one_stays ranges more op (subst (λ n. AllByRecursion (λ o. o < n) (operands_of op)) (sym long) here))
