-- The patterns that are found keep the rules of patterns, but that a look-up may have no user.
use Rattle.std.proofs.Common.{◌≡◌, ℕ, zero, suc, ◌+◌, ◌<◌, ◌≤◌, ◌^◌, ◌==◌, Bool, true, false, cond, List, [], ◌∷◌, ◌++◌, length, get_or, map, refl, sym, ap, ◌∙◌, subst, arith, inl, inr}
use Rattle.std.specs.Prelude.{ℤ, pos, ◌<ℤ◌, ◌&&◌, ◌||◌, not, filter, count_by, Contains, IsTrue}
use Rattle.std.specs.List.{AllByRecursion, list_any}
use Rattle.std.specs.Ordering.{int_eq}
use Rattle.std.specs.Cmp.Lexicographic.{pointwise}
use Rattle.std.proofs.lemmas.Int.{ints}
use Rattle.std.proofs.lemmas.Bool.{false≢true, or_right}
use Rattle.std.proofs.lemmas.Bool.Decides.{Decides-eqb, Decides-int_eq}
use Rattle.std.proofs.lemmas.List.{append-nil, append_assoc, length-map, length_push, map-append}
use Rattle.std.proofs.lemmas.List.Sums.{sum_by-cons, sum_by-append}
use Rattle.std.proofs.lemmas.List.Elements.{All-from_recursion, recursion_from_All, Contains-append_cases, filter-append}
use Rattle.forms.specs.Forms.{form_range, span_of}
use Rattle.forms.specs.Limits.{most_width}
use Rattle.forms.specs.Ranges.{range_of_entries, IsNumberRange, HoldsRanges}
use Rattle.forms.specs.FromEarlier.{from_earlier, from_earlier-append, from_earlier_push, from_earlier_keeps, length-from_earlier}
use Rattle.linear_forms.specs.declared.linear.Form.{Form}
use Rattle.linear_forms.specs.Staying.{range_stays}
use Rattle.ap_level.specs.declared.level.ApOp.{ApOp}
use Rattle.ap_level.specs.declared.level.ApOp.TheVariants as patterns
use Rattle.ap_level.specs.Operations.{is_input, is_look, is_out, is_leaf}
use Rattle.ap_level.specs.Patterns.{range_of, pattern_ranges}
use Rattle.ap_level.specs.Rules.{IsLeafAt, IsInput, IsOut}
use Rattle.live_patterns.specs.declared.patterns.Look.{Look}
use Rattle.live_patterns.specs.Found.{input_op, look_op, out_op, found_patterns, IsFound, KeepFoundRules, AreNarrow, AreFound}
use Rattle.fhe_level.specs.declared.program.Program.{Program}
use Rattle.fhe_level.specs.Checked.{IsChecked}
use Rattle.pattern_walk.specs.Sums.{form_at}
use Rattle.pattern_walk.specs.Looking.{same_term, same_look, is_new}
use Rattle.pattern_walk.specs.Walking.{Walked, patterns_in}
use Rattle.pattern_walk.specs.Safe.{IsRangeOf16, IsSafeForm}
use Rattle.pattern_walk.specs.Keeping.{start_safe, few_looks}
use Rattle.pattern_pass.proofs.Sound.{IsSoundLook, AreSoundLooks, IsSound}

-- operations keep their rules, and their ranges are narrow
abbrev KeepBoth : List ApOp → List ApOp → Type 0
KeepBoth earlier operations = KeepFoundRules earlier operations × AreNarrow earlier operations

-- ---- the same look-up

-- a list is the same as itself
pointwise_own : {A : Type 0} (same : A → A → Bool) → ((x : A) → same x x ≡ true) → (xs : List A)
    → pointwise same xs xs ≡ true
pointwise_own same own [] = refl
pointwise_own same own (x ∷ xs) = ap (λ b. b && pointwise same xs xs) (own x) ∙ pointwise_own same own xs

int_own : (z : ℤ) → int_eq z z ≡ true
int_own z = (Decides-int_eq z z).1 refl

term_own : (t : ℕ × ℤ) → same_term t t ≡ true
term_own t =
    let leaf : (t.0 == t.0) ≡ true = (Decides-eqb t.0 t.0).1 refl in
    ap (λ b. b && int_eq t.1 t.1) leaf ∙ int_own t.1

-- and so is a look-up
look_own : (look : Look) → same_look look look ≡ true
look_own look =
    let terms = pointwise same_term look.form.terms look.form.terms in
    let entries = pointwise int_eq look.entries look.entries in
    ap (λ b. b && (terms && entries)) (int_own look.form.constant)
    ∙ ap (λ b. b && entries) (pointwise_own same_term term_own look.form.terms)
    ∙ pointwise_own int_eq int_own look.entries

-- the look-up of an operation
abbrev look_from : ApOp → Look → Look
look_from (patterns.Look constant terms entries) d =
    record { form = record { constant = constant; terms = terms }; entries = entries }
look_from _ d = d

-- look-ups whose operations are the same are one
same_op : (look other : Look) → look_op look ≡ look_op other → look ≡ other
same_op look other same = ap (λ op. look_from op look) same

-- no argument is a look-up
no_input : (ranges : List (ℤ × ℤ)) (look : Look) (k : ℕ) → k < length (map input_op ranges)
    → get_or (map input_op ranges) k (look_op look) ≡ look_op look → ⊥
no_input [] look k within same = omega arith
no_input (range ∷ ranges) look zero within same = false≢true (ap is_look same)
no_input (range ∷ ranges) look (suc k) within same = no_input ranges look k (omega (arith, within)) same

-- a look-up whose operation stands there is among the earlier ones
there_already : (earlier : List Look) (look : Look) (k : ℕ) → k < length (map look_op earlier)
    → get_or (map look_op earlier) k (look_op look) ≡ look_op look → list_any (same_look look) earlier ≡ true
there_already [] look k within same = absurd (omega arith)
there_already (first ∷ earlier) look zero within same =
    let own : same_look look first ≡ true =
    subst (λ (l : Look). same_look look l ≡ true) (sym (same_op first look same)) (look_own look) in
    ap (λ b. b || list_any (same_look look) earlier) own
there_already (first ∷ earlier) look (suc k) within same =
    or_right (same_look look first) (list_any (same_look look) earlier)
    (there_already earlier look k (omega (arith, within)) same)

-- ---- arguments and look-ups

-- the operations that forms have terms on
abbrev leaves_in : List (ℤ × ℤ) → List Look → List ApOp
leaves_in args looks = map input_op args ++ map look_op looks

-- a new look-up is none of them
new_op : (args : List (ℤ × ℤ)) (earlier : List Look) (look : Look) → is_new earlier look ≡ true
    → Contains (leaves_in args earlier) (look_op look) → ⊥
new_op args earlier look new has =
    elim (Contains-append_cases (map input_op args) (map look_op earlier) (look_op look) has) [
      | inl at ↦ no_input args look at.0 at.1 at.2
      | inr at ↦ false≢true (sym (ap not (there_already earlier look at.0 at.1 at.2)) ∙ new)
    ]

-- a look-up more
leaves_push : (args : List (ℤ × ℤ)) (earlier : List Look) (look : Look)
    → leaves_in args earlier ++ look_op look ∷ [] ≡ leaves_in args (earlier ++ look ∷ [])
leaves_push args earlier look =
    append_assoc (map input_op args) (map look_op earlier) (look_op look ∷ [])
    ∙ ap (λ l. map input_op args ++ l) (sym (map-append look_op earlier (look ∷ [])))

-- their ranges: those of the arguments,
inputs_ranges : (earlier ranges : List (ℤ × ℤ))
    → from_earlier range_of earlier (map input_op ranges) ≡ earlier ++ ranges
inputs_ranges earlier [] = sym (append-nil earlier)
inputs_ranges earlier (range ∷ ranges) =
    inputs_ranges (earlier ++ range ∷ []) ranges ∙ append_assoc earlier (range ∷ []) ranges

-- and those of entries
looks_ranges : (earlier : List (ℤ × ℤ)) (looks : List Look)
    → from_earlier range_of earlier (map look_op looks)
    ≡ earlier ++ map (λ (look : Look). range_of_entries look.entries) looks
looks_ranges earlier [] = sym (append-nil earlier)
looks_ranges earlier (look ∷ looks) =
    looks_ranges (earlier ++ range_of_entries look.entries ∷ []) looks
    ∙ append_assoc earlier (range_of_entries look.entries ∷ []) (map (λ (l : Look). range_of_entries l.entries) looks)

leaf_ranges : (args : List (ℤ × ℤ)) (looks : List Look)
    → pattern_ranges (leaves_in args looks) ≡ args ++ map (λ (look : Look). range_of_entries look.entries) looks
leaf_ranges args looks =
    from_earlier-append range_of [] (map input_op args) (map look_op looks)
    ∙ ap (λ l. from_earlier range_of l (map look_op looks)) (inputs_ranges [] args)
    ∙ looks_ranges args looks

-- each of them is a leaf
looks_leaves : (looks : List Look) → AllByRecursion (λ (op : ApOp). IsTrue (is_leaf op)) (map look_op looks)
looks_leaves [] = tt
looks_leaves (look ∷ looks) = (refl, looks_leaves looks)

all_leaves : (args : List (ℤ × ℤ)) (looks : List Look)
    → AllByRecursion (λ (op : ApOp). IsTrue (is_leaf op)) (leaves_in args looks)
all_leaves [] looks = looks_leaves looks
all_leaves (range ∷ args) looks = (refl, all_leaves args looks)

leaf_there : (operations : List ApOp) (place : ℕ) → AllByRecursion (λ (op : ApOp). IsTrue (is_leaf op)) operations
    → place < length operations → IsLeafAt operations place
leaf_there [] place all within = absurd (omega arith)
leaf_there (op ∷ operations) zero all within = all.0
leaf_there (op ∷ operations) (suc place) all within = leaf_there operations place all.1 (omega (arith, within))

-- so at each place that has a range stands a leaf
leaf_ranged : (args : List (ℤ × ℤ)) (looks : List Look) (place : ℕ)
    → place < length (pattern_ranges (leaves_in args looks)) → IsLeafAt (leaves_in args looks) place
leaf_ranged args looks place within =
    let many = length-from_earlier range_of [] (leaves_in args looks) in
    leaf_there (leaves_in args looks) place (all_leaves args looks) (omega (arith, many, within))

-- a leaf stays where operations are added
leaf_front : (operations more : List ApOp) (place : ℕ) → IsLeafAt operations place → IsLeafAt (operations ++ more) place
leaf_front [] more place at = absurd at
leaf_front (op ∷ operations) more zero at = at
leaf_front (op ∷ operations) more (suc place) at = leaf_front operations more place at

-- ---- how many there are of a kind

-- what a test adds to a count
abbrev count_of : Bool → ℕ
count_of b = cond b 1 0

-- all, where each is of the kind
counted : {A : Type 0} (kind : ApOp → Bool) (op_of : A → ApOp) → ((x : A) → kind (op_of x) ≡ true) → (xs : List A)
    → count_by kind (map op_of xs) ≡ length xs
counted kind op_of each [] = refl
counted kind op_of each (x ∷ xs) =
    let first = sum_by-cons (λ (op : ApOp). count_of (kind op)) (op_of x) (map op_of xs) in
    let one = ap count_of (each x) in
    let rest = counted kind op_of each xs in
    omega (arith, first, one, rest)

-- and none, where none is
none_counted : {A : Type 0} (kind : ApOp → Bool) (op_of : A → ApOp) → ((x : A) → kind (op_of x) ≡ false) → (xs : List A)
    → count_by kind (map op_of xs) ≡ 0
none_counted kind op_of each [] = refl
none_counted kind op_of each (x ∷ xs) =
    let first = sum_by-cons (λ (op : ApOp). count_of (kind op)) (op_of x) (map op_of xs) in
    let none = ap count_of (each x) in
    let rest = none_counted kind op_of each xs in
    omega (arith, first, none, rest)

count_both : (kind : ApOp → Bool) (first second : List ApOp)
    → count_by kind (first ++ second) ≡ count_by kind first + count_by kind second
count_both kind first second = sum_by-append (λ (op : ApOp). count_of (kind op)) first second

-- the look-ups among the leaves,
looks_counted : (args : List (ℤ × ℤ)) (looks : List Look) → count_by is_look (leaves_in args looks) ≡ length looks
looks_counted args looks =
    let both = count_both is_look (map input_op args) (map look_op looks) in
    let none = none_counted is_look input_op (λ (x : ℤ × ℤ). refl) args in
    let all = counted is_look look_op (λ (x : Look). refl) looks in
    omega (arith, both, none, all)

-- no results among them,
no_outs : (args : List (ℤ × ℤ)) (looks : List Look) → count_by is_out (leaves_in args looks) ≡ 0
no_outs args looks =
    let both = count_both is_out (map input_op args) (map look_op looks) in
    let none = none_counted is_out input_op (λ (x : ℤ × ℤ). refl) args in
    let no_looks = none_counted is_out look_op (λ (x : Look). refl) looks in
    omega (arith, both, none, no_looks)

-- and the results behind them
outs_counted : (leaves : List ApOp) (outs : List Form) → count_by is_out leaves ≡ 0
    → count_by is_out (leaves ++ map out_op outs) ≡ length outs
outs_counted leaves outs none =
    let both = count_both is_out leaves (map out_op outs) in
    let all = counted is_out out_op (λ (x : Form). refl) outs in
    omega (arith, both, none, all)

-- ---- which ones pass a test

-- all, where each passes
all_kept : {A : Type 0} (test : ApOp → Bool) (op_of : A → ApOp) → ((x : A) → test (op_of x) ≡ true) → (xs : List A)
    → filter test (map op_of xs) ≡ map op_of xs
all_kept test op_of each [] = refl
all_kept test op_of each (x ∷ xs) =
    ap (λ b. cond b (op_of x ∷ filter test (map op_of xs)) (filter test (map op_of xs))) (each x)
    ∙ ap (λ l. op_of x ∷ l) (all_kept test op_of each xs)

-- and none, where none does
none_kept : {A : Type 0} (test : ApOp → Bool) (op_of : A → ApOp) → ((x : A) → test (op_of x) ≡ false) → (xs : List A)
    → filter test (map op_of xs) ≡ []
none_kept test op_of each [] = refl
none_kept test op_of each (x ∷ xs) =
    ap (λ b. cond b (op_of x ∷ filter test (map op_of xs)) (filter test (map op_of xs))) (each x)
    ∙ none_kept test op_of each xs

-- those of three kinds
filter_three : (test : ApOp → Bool) (args : List (ℤ × ℤ)) (looks : List Look) (outs : List Form)
    → filter test (leaves_in args looks ++ map out_op outs)
    ≡ (filter test (map input_op args) ++ filter test (map look_op looks)) ++ filter test (map out_op outs)
filter_three test args looks outs =
    filter-append test (leaves_in args looks) (map out_op outs)
    ∙ ap (λ l. l ++ filter test (map out_op outs)) (filter-append test (map input_op args) (map look_op looks))

-- the results stand last
last_outs : (args : List (ℤ × ℤ)) (looks : List Look) (outs : List Form)
    → leaves_in args looks ++ map out_op outs
    ≡ filter (λ op. not (is_out op)) (leaves_in args looks ++ map out_op outs)
    ++ filter is_out (leaves_in args looks ++ map out_op outs)
last_outs args looks outs =
    let is_no : ApOp → Bool = λ op. not (is_out op) in
    let first : filter is_no (leaves_in args looks ++ map out_op outs) ≡ leaves_in args looks =
    filter_three is_no args looks outs
    ∙ ap (λ l. (l ++ filter is_no (map look_op looks)) ++ filter is_no (map out_op outs))
    (all_kept is_no input_op (λ x. refl) args)
    ∙ ap (λ l. (map input_op args ++ l) ++ filter is_no (map out_op outs)) (all_kept is_no look_op (λ x. refl) looks)
    ∙ ap (λ l. leaves_in args looks ++ l) (none_kept is_no out_op (λ x. refl) outs)
    ∙ append-nil (leaves_in args looks) in
    let second : filter is_out (leaves_in args looks ++ map out_op outs) ≡ map out_op outs =
    filter_three is_out args looks outs
    ∙ ap (λ l. (l ++ filter is_out (map look_op looks)) ++ filter is_out (map out_op outs))
    (none_kept is_out input_op (λ x. refl) args)
    ∙ ap (λ l. l ++ filter is_out (map out_op outs)) (none_kept is_out look_op (λ x. refl) looks)
    ∙ all_kept is_out out_op (λ x. refl) outs in
    sym (ap (λ l. l ++ filter is_out (leaves_in args looks ++ map out_op outs)) first
    ∙ ap (λ l. leaves_in args looks ++ l) second)

-- ---- rules, one part after the other

rules_join : (earlier first second : List ApOp) → KeepFoundRules earlier first
    → KeepFoundRules (earlier ++ first) second → KeepFoundRules earlier (first ++ second)
rules_join earlier [] second keep rest = subst (λ (l : List ApOp). KeepFoundRules l second) (append-nil earlier) rest
rules_join earlier (op ∷ first) second keep rest = (
  keep.0,
  rules_join (earlier ++ op ∷ []) first second keep.1
      (subst (λ (l : List ApOp). KeepFoundRules l second) (sym (append_assoc earlier (op ∷ []) first)) rest),
)

narrow_join : (earlier first second : List ApOp) → AreNarrow earlier first → AreNarrow (earlier ++ first) second
    → AreNarrow earlier (first ++ second)
narrow_join earlier [] second are rest = subst (λ (l : List ApOp). AreNarrow l second) (append-nil earlier) rest
narrow_join earlier (op ∷ first) second are rest = (
  are.0,
  narrow_join (earlier ++ op ∷ []) first second are.1
      (subst (λ (l : List ApOp). AreNarrow l second) (sym (append_assoc earlier (op ∷ []) first)) rest),
)

both_join : (earlier first second : List ApOp) → KeepBoth earlier first → KeepBoth (earlier ++ first) second
    → KeepBoth earlier (first ++ second)
both_join earlier first second keep rest =
    (rules_join earlier first second keep.0 rest.0, narrow_join earlier first second keep.1 rest.1)

-- ---- ranges

-- a range of 16 bits is one of numbers
number_range : (range : ℤ × ℤ) → IsRangeOf16 range → IsNumberRange range.0 range.1
number_range range is =
    let low = is.low in let high = is.high in
    record { low = omega (arith, ints, low); rising = is.rising; high = high }

-- 16 bits hold one range,
narrow_one : (range : ℤ × ℤ) → span_of range <ℤ pos (2 ^ most_width) → HoldsRanges most_width (range ∷ [])
narrow_one range is = All-from_recursion (λ (r : ℤ × ℤ). span_of r <ℤ pos (2 ^ most_width)) (range ∷ []) (is, tt)

-- of 16 bits
span_narrow : (range : ℤ × ℤ) → IsRangeOf16 range → span_of range <ℤ pos (2 ^ most_width)
span_narrow range is = let low = is.low in let high = is.high in omega (arith, ints, low, high)

-- or from 0 to a number of 16 bits
span_from_0 : (range : ℤ × ℤ) → range.0 ≡ pos 0 → range.1 <ℤ pos (2 ^ 16) → span_of range <ℤ pos (2 ^ most_width)
span_from_0 range starts narrow = omega (arith, ints, starts, narrow)

-- ---- the arguments

inputs_all : (ranges : List (ℤ × ℤ)) → AllByRecursion (λ (op : ApOp). IsTrue (is_input op)) (map input_op ranges)
inputs_all [] = tt
inputs_all (range ∷ ranges) = (refl, inputs_all ranges)

-- an argument keeps its rule,
input_found : (earlier : List (ℤ × ℤ)) (range : ℤ × ℤ) → IsRangeOf16 range → length earlier < 64
    → IsInput (map input_op earlier) range.0 range.1
input_found earlier range is few = record {
  first = All-from_recursion (λ (op : ApOp). IsTrue (is_input op)) (map input_op earlier) (inputs_all earlier);
  range = number_range range is;
  few = let long = length-map earlier input_op in omega (arith, long, few);
}

-- and so does each
inputs_found : (earlier ranges : List (ℤ × ℤ)) → AllByRecursion IsRangeOf16 ranges → length earlier + length ranges ≤ 64
    → KeepBoth (map input_op earlier) (map input_op ranges)
inputs_found earlier [] are few = (tt, tt)
inputs_found earlier (range ∷ ranges) are few =
    let long = length_push earlier range in
    let rest = inputs_found (earlier ++ range ∷ []) ranges are.1 (omega (arith, few, long)) in
    let pushed = map-append input_op earlier (range ∷ []) in (
      (
        input_found earlier range are.0 (omega (arith, few)),
        subst (λ (l : List ApOp). KeepFoundRules l (map input_op ranges)) pushed rest.0,
      ),
      (λ k d within. absurd (omega arith), subst (λ (l : List ApOp). AreNarrow l (map input_op ranges)) pushed rest.1),
    )

-- ---- the look-ups

module _ (args : List (ℤ × ℤ)) where
  -- a look-up keeps its rule,
  look_found : (earlier : List Look) (look : Look) → IsSoundLook (pattern_ranges (leaves_in args earlier)) look
      → is_new earlier look ≡ true → length earlier < 1024
      → IsFound (leaves_in args earlier) look.form.constant look.form.terms look.entries
  look_found earlier look sound new few = record {
    form = record {
      size = sound.constant;
      each = λ k d within. record {
        leaf = leaf_ranged args earlier (get_or look.form.terms k d).0 (sound.built.below k d within);
        weight = sound.built.weights k d within;
        size = sound.weights k d within;
      };
      rising = sound.built.rising;
    };
    starts = sound.starts;
    many = sound.many;
    number = sound.number;
    each = sound.each;
    new = new_op args earlier look new;
    few = let many = looks_counted args earlier in omega (arith, many, few);
  }

  -- and so does each
  looks_found : (earlier looks : List Look) (ranges : List (ℤ × ℤ)) → pattern_ranges (leaves_in args earlier) ≡ ranges
      → AreSoundLooks ranges earlier looks → length earlier + length looks ≤ 1024
      → KeepBoth (leaves_in args earlier) (map look_op looks)
  looks_found earlier [] ranges same are few = (tt, tt)
  looks_found earlier (look ∷ looks) ranges same are few =
      let sound : IsSoundLook (pattern_ranges (leaves_in args earlier)) look =
      subst (λ (r : List (ℤ × ℤ)). IsSoundLook r look) (sym same) are.0 in
      let long = length_push earlier look in
      let pushed = leaves_push args earlier look in
      let own = form_range look.form.constant look.form.terms (pattern_ranges (leaves_in args earlier)) in
      let range = range_of_entries look.entries in
      let later : pattern_ranges (leaves_in args (earlier ++ look ∷ [])) ≡ ranges ++ range ∷ [] =
      ap pattern_ranges (sym pushed)
      ∙ from_earlier_push range_of [] (leaves_in args earlier) (look_op look)
      ∙ ap (λ r. r ++ range ∷ []) same in
      let within : length (earlier ++ look ∷ []) + length looks ≤ 1024 = omega (arith, few, long) in
      let rest = looks_found (earlier ++ look ∷ []) looks (ranges ++ range ∷ []) later are.2 within in (
        (
          look_found earlier look sound are.1 (omega (arith, few)),
          subst (λ (l : List ApOp). KeepFoundRules l (map look_op looks)) (sym pushed) rest.0,
        ),
        (
          narrow_one own (span_from_0 own sound.starts sound.narrow),
          subst (λ (l : List ApOp). AreNarrow l (map look_op looks)) (sym pushed) rest.1,
        ),
      )

-- ---- the results

module _ (leaves : List ApOp) (none : count_by is_out leaves ≡ 0)
    (there : (place : ℕ) → place < length (pattern_ranges leaves) → IsLeafAt leaves place) where
  -- the range of a form on the leaves stays behind other results
  out_range : (so_far : List Form) (form : Form) → IsSafeForm (pattern_ranges leaves) form
      → form_range form.constant form.terms (pattern_ranges (leaves ++ map out_op so_far))
      ≡ form_range form.constant form.terms (pattern_ranges leaves)
  out_range so_far form safe =
      let more = from_earlier_keeps range_of (pattern_ranges leaves) (map out_op so_far) in
      ap (form_range form.constant form.terms) (from_earlier-append range_of [] leaves (map out_op so_far) ∙ more.1)
      ∙ range_stays form.constant form.terms (pattern_ranges leaves) more.0 safe.built.below

  -- a result keeps its rule,
  out_found : (so_far : List Form) (form : Form) → IsSafeForm (pattern_ranges leaves) form → length so_far < 64
      → IsOut (leaves ++ map out_op so_far) form.constant form.terms
  out_found so_far form safe few = record {
    form = record {
      size = let small = safe.small.constant in omega (arith, small);
      each = λ k d within. record {
        leaf = leaf_front leaves (map out_op so_far) (get_or form.terms k d).0
            (there (get_or form.terms k d).0 (safe.built.below k d within));
        weight = safe.built.weights k d within;
        size = safe.small.weights k d within;
      };
      rising = safe.built.rising;
    };
    range = subst (λ (r : ℤ × ℤ). IsNumberRange r.0 r.1) (sym (out_range so_far form safe))
        (number_range (form_range form.constant form.terms (pattern_ranges leaves)) safe.range);
    few = let many = outs_counted leaves so_far none in omega (arith, many, few);
  }

  -- and so does each
  outs_found : (so_far outs : List Form) → AllByRecursion (IsSafeForm (pattern_ranges leaves)) outs
      → length so_far + length outs ≤ 64 → KeepBoth (leaves ++ map out_op so_far) (map out_op outs)
  outs_found so_far [] are few = (tt, tt)
  outs_found so_far (form ∷ outs) are few =
      let long = length_push so_far form in
      let rest = outs_found (so_far ++ form ∷ []) outs are.1 (omega (arith, few, long)) in
      let pushed : (leaves ++ map out_op so_far) ++ out_op form ∷ [] ≡ leaves ++ map out_op (so_far ++ form ∷ []) =
      append_assoc leaves (map out_op so_far) (out_op form ∷ [])
      ∙ ap (λ l. leaves ++ l) (sym (map-append out_op so_far (form ∷ []))) in (
        (
          out_found so_far form are.0 (omega (arith, few)),
          subst (λ (l : List ApOp). KeepFoundRules l (map out_op outs)) (sym pushed) rest.0,
        ),
        (
          subst (λ (r : ℤ × ℤ). HoldsRanges most_width (r ∷ [])) (sym (out_range so_far form are.0))
              (narrow_one (form_range form.constant form.terms (pattern_ranges leaves))
              (span_narrow (form_range form.constant form.terms (pattern_ranges leaves)) are.0.range)),
          subst (λ (l : List ApOp). AreNarrow l (map out_op outs)) (sym pushed) rest.1,
        ),
      )

-- ---- the whole

module _ (program : Program) (limited : IsChecked program) (reached : Walked) (sound : IsSound program reached) where
  abbrev leaves : List ApOp
  leaves = leaves_in program.args reached.looks

  abbrev outs : List Form
  outs = map (form_at reached.forms) program.results

  ranges_same : pattern_ranges leaves ≡ reached.ranges
  ranges_same = leaf_ranges program.args reached.looks ∙ sym sound.ranges

  outs_safe : (wanted : List ℕ)
      → AllByRecursion (IsSafeForm (pattern_ranges leaves)) (map (form_at reached.forms) wanted)
  outs_safe [] = tt
  outs_safe (number ∷ wanted) = (
    subst (λ (r : List (ℤ × ℤ)). IsSafeForm r (form_at reached.forms number)) (sym ranges_same)
        (sound.safe.forms number),
    outs_safe wanted,
  )

  inputs_part : KeepBoth [] (map input_op program.args)
  inputs_part =
      let safe = start_safe program limited in
      let few = limited.inputs in
      inputs_found [] program.args (recursion_from_All IsRangeOf16 program.args safe.ranges) (omega (arith, few))

  looks_part : KeepBoth (map input_op program.args) (map look_op reached.looks)
  looks_part =
      let few = few_looks program limited reached sound.safe in
      let keep = looks_found program.args [] reached.looks program.args
      (leaf_ranges program.args [] ∙ append-nil program.args) sound.looks (omega (arith, few)) in
      subst (λ (l : List ApOp). KeepBoth l (map look_op reached.looks)) (append-nil (map input_op program.args)) keep

  outs_part : KeepBoth leaves (map out_op outs)
  outs_part =
      let long = length-map program.results (form_at reached.forms) in
      let few = limited.results in
      let keep = outs_found leaves (no_outs program.args reached.looks) (leaf_ranged program.args reached.looks) [] outs
      (outs_safe program.results) (omega (arith, long, few)) in
      subst (λ (l : List ApOp). KeepBoth l (map out_op outs)) (append-nil leaves) keep

  all_parts : KeepBoth [] (found_patterns (patterns_in program reached))
  all_parts =
      both_join [] leaves (map out_op outs)
      (both_join [] (map input_op program.args) (map look_op reached.looks) inputs_part looks_part)
      outs_part

  some : 1 ≤ count_by is_out (found_patterns (patterns_in program reached))
  some =
      let many = outs_counted leaves outs (no_outs program.args reached.looks) in
      let long = length-map program.results (form_at reached.forms) in
      let one = limited.some_result in
      omega (arith, many, long, one)

  parts_found : AreFound (found_patterns (patterns_in program reached))
  parts_found = record {
    rules = all_parts.0;
    outs_last = last_outs program.args reached.looks outs;
    some_out = some;
    narrow = all_parts.1;
  }

-- the patterns at the end of the walk
pub are_found : (program : Program) → IsChecked program → (reached : Walked) → IsSound program reached
    → (reached.place ≡ length program.graph.list) → AreFound (found_patterns (patterns_in program reached))
are_found program limited reached sound place = parts_found program limited reached sound
