-- the value of each operation lies in its range
use Rattle.std.proofs.Common.{◌≡◌, ℕ, ◌<◌, Bool, List, [], ◌∷◌, ◌++◌, length, get_or, fold, All, sym, refl, ap, ◌∙◌, subst, inl, inr, arith, pos, ◌+ℤ◌, ◌≤ℤ◌}
use lib.IntN.{ℤ, negsuc}
use Prim.Native.Nat.{zero, suc}
use Rattle.std.specs.Prelude.{unsigned_abs, IsTrue, IsSomeAnd}
use Rattle.std.specs.Int.{int_min, int_max}
use Rattle.std.proofs.lemmas.Int.{ints, fold-int_min_bounds, fold-int_max_bounds}
use Rattle.std.proofs.lemmas.Bool.{cases_lt, false≢true}
use Rattle.std.proofs.lemmas.List.{get_or_at, append_assoc, append-nil, length-append}
use Rattle.std.proofs.lemmas.List.Elements.{All-head, All-tail, All-weaker, filter_map-append}
use Rattle.std.proofs.lemmas.Option.{slice_get_past}
use Rattle.forms.specs.Forms.{number_at, range_at, span_of, IsIn, AreIn}
use Rattle.forms.specs.Laws.{FormLaws}
use Rattle.tfhe_level.specs.declared.level.TfheOp.{TfheOp}
use Rattle.tfhe_level.specs.declared.level.TfheOp.TheVariants.{Input, Lin, Switch, Boot, Out}
use Rattle.tfhe_level.specs.Operations.{is_input, is_leaf, is_switch, is_big_node}
use Rattle.forms.specs.FromEarlier.{from_earlier_push, length-from_earlier}
use Rattle.forms.specs.Ranges.{range_of_entries}
use Rattle.tfhe_level.specs.Nodes.{value_of, node_values, range_of, node_ranges}
use Rattle.tfhe_level.specs.Rules.{Stands, IsTerm, KeepsRule, KeepRules}
use Rattle.tfhe_level.specs.Laws.{input_range, input_ranges}

-- ---- lists of values in ranges

AreIn_push : (ranges : List (ℤ × ℤ)) (values : List ℤ) (range : ℤ × ℤ) (value : ℤ) → AreIn ranges values → IsIn range value → AreIn (ranges ++ range ∷ []) (values ++ value ∷ [])
AreIn_push [] [] range value are is = (is, tt)
AreIn_push [] (v ∷ values) range value are is = absurd are
AreIn_push (r ∷ ranges) [] range value are is = absurd are
AreIn_push (r ∷ ranges) (v ∷ values) range value are is = (are.0, AreIn_push ranges values range value are.1 is)

-- an operation stands within the list
stands_within : (kind : TfheOp → Bool) (operations : List TfheOp) (place : ℕ) → Stands kind operations place → place < length operations
stands_within kind operations place stands =
    elim (cases_lt place (length operations)) [
      | inl within ↦ within
      | inr past ↦ absurd (subst (λ o. IsSomeAnd o (λ op. IsTrue (kind op))) (slice_get_past operations place past) stands)
    ]

-- ---- inputs

length-input_ranges : (operations : List TfheOp) → All (λ op. IsTrue (is_input op)) operations → length (input_ranges operations) ≡ length operations
length-input_ranges [] are = refl
length-input_ranges (Input lo hi ∷ operations) are = ap suc (length-input_ranges operations (All-tail (λ op. IsTrue (is_input op)) (Input lo hi) operations are))
length-input_ranges (op ∷ operations) are = absurd (false≢true (All-head (λ o. IsTrue (is_input o)) op operations are))

input_at : (earlier rest : List TfheOp) (lo hi : ℤ) → All (λ op. IsTrue (is_input op)) earlier → (length earlier < length (input_ranges (earlier ++ Input lo hi ∷ rest))) × (range_at (input_ranges (earlier ++ Input lo hi ∷ rest)) (length earlier) ≡ (lo, hi))
input_at earlier rest lo hi are =
    let parts : input_ranges (earlier ++ Input lo hi ∷ rest) ≡ input_ranges earlier ++ (lo, hi) ∷ input_ranges rest = filter_map-append input_range earlier (Input lo hi ∷ rest) in
    let count : length (input_ranges earlier) ≡ length earlier = length-input_ranges earlier are in (
      omega (arith, ap length parts, length-append (input_ranges earlier) ((lo, hi) ∷ input_ranges rest)),
      ap (λ ranges. range_at ranges (length earlier)) parts ∙ get_or_at (input_ranges earlier) (lo, hi) (input_ranges rest) (pos 0, pos 0) (length earlier) count,
    )

-- ---- entries

min_of : (entry : ℤ) (entries : List ℤ) → All (λ z. fold int_min entry entries ≤ℤ z) (entry ∷ entries)
min_of entry entries =
    let bounds = fold-int_min_bounds entry entries (fold int_min entry entries) refl in
    λ k d within. elim k as (λ n. n < length (entry ∷ entries) → fold int_min entry entries ≤ℤ get_or (entry ∷ entries) n d) [ zero ↦ λ _. bounds.0 | suc n ↦ λ w. bounds.1 n d (omega arith) ] within

max_of : (entry : ℤ) (entries : List ℤ) → All (λ z. z ≤ℤ fold int_max entry entries) (entry ∷ entries)
max_of entry entries =
    let bounds = fold-int_max_bounds entry entries (fold int_max entry entries) refl in
    λ k d within. elim k as (λ n. n < length (entry ∷ entries) → get_or (entry ∷ entries) n d ≤ℤ fold int_max entry entries) [ zero ↦ λ _. bounds.0 | suc n ↦ λ w. bounds.1 n d (omega arith) ] within

entry_in : (entries : List ℤ) (place : ℕ) → place < length entries → IsIn (range_of_entries entries) (number_at entries place)
entry_in [] place within = absurd (omega arith)
entry_in (entry ∷ entries) place within = record { least = min_of entry entries place (pos 0) within; most = max_of entry entries place (pos 0) within }

-- a value from 0 on has its entry
entry_there : (range : ℤ × ℤ) (value : ℤ) (count : ℕ) → range.0 ≡ pos 0 → pos count ≡ span_of range +ℤ pos 1 → IsIn range value → unsigned_abs value < count
entry_there range (pos v) count starts number is = omega (arith, ints, starts, number, is.least, is.most)
entry_there range (negsuc v) count starts number is = absurd (omega (arith, ints, starts, is.least))

-- ---- key switches

-- a key switch has a range from 0 on
abbrev StartsAt0 : TfheOp → ℤ × ℤ → Type 0
StartsAt0 (Switch source) range = range.0 ≡ pos 0
StartsAt0 _ range = Unit {0}

-- so has each key switch among these
abbrev AllStartAt0 : List TfheOp → List (ℤ × ℤ) → Type 0
AllStartAt0 [] ranges = Unit {0}
AllStartAt0 (op ∷ operations) [] = ⊥
AllStartAt0 (op ∷ operations) (range ∷ ranges) = StartsAt0 op range × AllStartAt0 operations ranges

start_push : (operations : List TfheOp) (ranges : List (ℤ × ℤ)) (op : TfheOp) (range : ℤ × ℤ) → length ranges ≡ length operations → AllStartAt0 operations ranges → StartsAt0 op range → AllStartAt0 (operations ++ op ∷ []) (ranges ++ range ∷ [])
start_push [] [] op range same start is = (is, tt)
start_push [] (r ∷ ranges) op range same start is = absurd (omega (arith, same))
start_push (o ∷ operations) [] op range same start is = absurd start
start_push (o ∷ operations) (r ∷ ranges) op range same start is = (start.0, start_push operations ranges op range (omega (arith, same)) start.1 is)

start_at : (operations : List TfheOp) (ranges : List (ℤ × ℤ)) (place : ℕ) → AllStartAt0 operations ranges → Stands is_switch operations place → (range_at ranges place).0 ≡ pos 0
start_at [] ranges place start stands = absurd stands
start_at (op ∷ operations) [] place start stands = absurd start
start_at (Switch source ∷ operations) (r ∷ ranges) zero start stands = start.0
start_at (op ∷ operations) (r ∷ ranges) zero start stands = absurd (false≢true stands)
start_at (op ∷ operations) (r ∷ ranges) (suc place) start stands = start_at operations ranges place start.1 stands

-- ---- one operation

pub count_ranges : (operations : List TfheOp) → length (node_ranges operations) ≡ length operations
count_ranges operations = omega (arith, length-from_earlier range_of [] operations)

pub count_values : (operations : List TfheOp) (inputs : List ℤ) → length (node_values operations inputs) ≡ length operations
count_values operations inputs = omega (arith, length-from_earlier (value_of inputs) [] operations)

-- an operation that stands among those before has its value in its range
operand_in : FormLaws → (kind : TfheOp → Bool) (inputs : List ℤ) (earlier : List TfheOp) (source : ℕ) → Stands kind earlier source → AreIn (node_ranges earlier) (node_values earlier inputs) → IsIn (range_at (node_ranges earlier) source) (number_at (node_values earlier inputs) source)
operand_in laws kind inputs earlier source stands are =
    laws.leaf (node_ranges earlier) (node_values earlier inputs) source are (omega (arith, count_ranges earlier, stands_within kind earlier source stands))

one_in : FormLaws → (inputs : List ℤ) (all earlier rest : List TfheOp) (op : TfheOp) → all ≡ earlier ++ op ∷ rest → KeepsRule all earlier op → AreIn (input_ranges all) inputs → AllStartAt0 earlier (node_ranges earlier) → AreIn (node_ranges earlier) (node_values earlier inputs) → IsIn (range_of (node_ranges earlier) op) (value_of inputs (node_values earlier inputs) op)
one_in laws inputs all earlier rest (Input lo hi) split rule given start are =
    let whole = earlier ++ Input lo hi ∷ rest in
    let there = input_at earlier rest lo hi rule.first in
    let is : IsIn (range_at (input_ranges whole) (length earlier)) (number_at inputs (length earlier)) = laws.leaf (input_ranges whole) inputs (length earlier) (subst (λ operations. AreIn (input_ranges operations) inputs) split given) there.0 in
    subst (λ n. IsIn (lo, hi) (number_at inputs n)) (sym (count_values earlier inputs)) (subst (λ range. IsIn range (number_at inputs (length earlier))) there.1 is)
one_in laws inputs all earlier rest (Lin constant terms) split rule given start are =
    laws.form constant terms (node_ranges earlier) (node_values earlier inputs) are
    (All-weaker (IsTerm earlier) (λ (t : ℕ × ℤ). t.0 < length (node_ranges earlier)) (λ t is. omega (arith, count_ranges earlier, stands_within is_leaf earlier t.0 is.leaf)) terms rule.each)
one_in laws inputs all earlier rest (Switch source) split rule given start are = operand_in laws is_big_node inputs earlier source rule.operand are
one_in laws inputs all earlier rest (Boot source entries) split rule given start are =
    let value = number_at (node_values earlier inputs) source in
    let from_0 = start_at earlier (node_ranges earlier) source start rule.operand in
    entry_in entries (unsigned_abs value) (entry_there (range_at (node_ranges earlier) source) value (length entries) from_0 rule.number (operand_in laws is_switch inputs earlier source rule.operand are))
one_in laws inputs all earlier rest (Out source lo hi) split rule given start are =
    subst (λ range. IsIn range (number_at (node_values earlier inputs) source)) (sym rule.exact) (operand_in laws is_big_node inputs earlier source rule.operand are)

own_start : (all earlier : List TfheOp) (op : TfheOp) → KeepsRule all earlier op → StartsAt0 op (range_of (node_ranges earlier) op)
own_start all earlier (Input lo hi) rule = tt
own_start all earlier (Lin constant terms) rule = tt
own_start all earlier (Switch source) rule = rule.starts
own_start all earlier (Boot source entries) rule = tt
own_start all earlier (Out source lo hi) rule = tt

-- ---- all of them

walk : FormLaws → (inputs : List ℤ) (all earlier rest : List TfheOp) → all ≡ earlier ++ rest → KeepRules all earlier rest → AreIn (input_ranges all) inputs → AllStartAt0 earlier (node_ranges earlier) → AreIn (node_ranges earlier) (node_values earlier inputs) → AreIn (node_ranges all) (node_values all inputs)
walk laws inputs all earlier [] split rules given start are =
    let same : earlier ≡ all = sym (split ∙ append-nil earlier) in
    subst (λ operations. AreIn (node_ranges operations) (node_values operations inputs)) same are
walk laws inputs all earlier (op ∷ rest) split rules given start are =
    let range = range_of (node_ranges earlier) op in
    let value = value_of inputs (node_values earlier inputs) op in
    let ranges : node_ranges earlier ++ range ∷ [] ≡ node_ranges (earlier ++ op ∷ []) = sym (from_earlier_push range_of [] earlier op) in
    let values : node_values earlier inputs ++ value ∷ [] ≡ node_values (earlier ++ op ∷ []) inputs = sym (from_earlier_push (value_of inputs) [] earlier op) in
    let more : AreIn (node_ranges earlier ++ range ∷ []) (node_values earlier inputs ++ value ∷ []) = AreIn_push (node_ranges earlier) (node_values earlier inputs) range value are (one_in laws inputs all earlier rest op split rules.0 given start are) in
    let starts : AllStartAt0 (earlier ++ op ∷ []) (node_ranges earlier ++ range ∷ []) = start_push earlier (node_ranges earlier) op range (count_ranges earlier) start (own_start all earlier op rules.0) in
    walk laws inputs all (earlier ++ op ∷ []) rest (split ∙ sym (append_assoc earlier (op ∷ []) rest)) rules.1 given
    (subst (AllStartAt0 (earlier ++ op ∷ [])) ranges starts)
    (subst (λ rs. AreIn rs (node_values (earlier ++ op ∷ []) inputs)) ranges (subst (AreIn (node_ranges earlier ++ range ∷ [])) values more))

pub values_in_ranges : FormLaws → (operations : List TfheOp) (inputs : List ℤ) → KeepRules operations [] operations → AreIn (input_ranges operations) inputs → AreIn (node_ranges operations) (node_values operations inputs)
values_in_ranges laws operations inputs rules given = walk laws inputs operations [] operations refl rules given tt tt
