-- Ranges and inputs of the operations of a circuit.
use Rattle.std.proofs.Common.{◌≡◌, ℕ, zero, suc, ◌+◌, ◌-◌, ◌^◌, ◌<◌, ◌≤◌, List, [], ◌∷◌, ◌++◌, length, take, drop, get_or, map, filter, All, refl, sym, ap, ◌∙◌, subst, arith, Some, Bool, true, false, cond, pos, ◌+ℤ◌, ◌-ℤ◌, ◌≤ℤ◌, ◌<ℤ◌}
use lib.IntN.{ℤ}
use Rattle.std.specs.Prelude.{IsTrue, unsigned_abs}
use Rattle.std.specs.List.{slice_get, zip, AllByRecursion}
use Rattle.std.proofs.lemmas.Int.{ints}
use Rattle.std.proofs.lemmas.Bool.{false≢true}
use Rattle.std.proofs.lemmas.List.{take_more, length-append}
use Rattle.std.proofs.lemmas.List.Elements.{All-head, All-tail, recursion_from_All, filter_map-append}
use Rattle.std.proofs.lemmas.Option.{slice_get_within, get_or_from_slice_get, none-some, same_Some}
use Rattle.forms.specs.Forms.{number_at, range_at, span_of, IsIn, AreIn}
use Rattle.forms.specs.Laws.{FormLaws}
use Rattle.forms.specs.FromEarlier.{from_earlier, length-from_earlier}
use Rattle.tfhe_level.specs.declared.level.TfheOp.{TfheOp}
use Rattle.tfhe_level.specs.declared.level.TfheOp.TheVariants.{Input, Lin, Switch, Boot, Out}
use Rattle.tfhe_level.specs.declared.shape.Shape.{Shape}
use Rattle.tfhe_level.specs.Operations.{is_input, is_switch, is_out}
use Rattle.tfhe_level.specs.Nodes.{nodes_of, value_of, node_values, range_of, node_ranges}
use Rattle.tfhe_level.specs.Rules.{Stands, KeepsRule, KeepRules, is_message, message_ranges, range_on, IsShape}
use Rattle.tfhe_level.specs.Laws.{input_range, input_ranges, NodeLaws}
use Rattle.circuit_run.proofs.Places.{result_at, read_first}
use Rattle.circuit_run.proofs.Operands.{rule_at, stands_below, operand_of}

-- ---- inputs

-- inputs stand first, so the place of an input is its number
pub input_there : (operations : List TfheOp) (n : ℕ) (lo hi : ℤ) → All (λ op. IsTrue (is_input op)) (take n operations) → slice_get operations n ≡ Some (Input lo hi) → n < length (input_ranges operations)
input_there [] n lo hi first at = absurd (none-some (Input lo hi) at)
input_there (Input a b ∷ operations) zero lo hi first at = omega arith
input_there (Lin constant terms ∷ operations) zero lo hi first at = absurd (cc)
input_there (Switch source ∷ operations) zero lo hi first at = absurd (cc)
input_there (Boot source entries ∷ operations) zero lo hi first at = absurd (cc)
input_there (Out source a b ∷ operations) zero lo hi first at = absurd (cc)
input_there (Input a b ∷ operations) (suc n) lo hi first at =
    let rest = input_there operations n lo hi (All-tail (λ op. IsTrue (is_input op)) (Input a b) (take n operations) first) at in
    omega (arith, rest)
input_there (op ∷ operations) (suc n) lo hi first at = absurd (false≢true (All-head (λ o. IsTrue (is_input o)) op (take n operations) first))

-- the least numbers of the inputs lie in their ranges
least_inputs : (all earlier rest : List TfheOp) → KeepRules all earlier rest → AreIn (input_ranges rest) (map (λ range. range.0) (input_ranges rest))
least_inputs all earlier [] rules = tt
least_inputs all earlier (Input lo hi ∷ rest) rules =
    (record { least = omega (arith, ints); most = rules.0.range.rising }, least_inputs all (earlier ++ Input lo hi ∷ []) rest rules.1)
least_inputs all earlier (Lin constant terms ∷ rest) rules = least_inputs all (earlier ++ Lin constant terms ∷ []) rest rules.1
least_inputs all earlier (Switch source ∷ rest) rules = least_inputs all (earlier ++ Switch source ∷ []) rest rules.1
least_inputs all earlier (Boot source entries ∷ rest) rules = least_inputs all (earlier ++ Boot source entries ∷ []) rest rules.1
least_inputs all earlier (Out source lo hi ∷ rest) rules = least_inputs all (earlier ++ Out source lo hi ∷ []) rest rules.1

-- ---- ranges

pub count_ranges : (operations : List TfheOp) → length (node_ranges operations) ≡ length operations
count_ranges operations = omega (arith, length-from_earlier range_of [] operations)

pub count_values : (operations : List TfheOp) (inputs : List ℤ) → length (node_values operations inputs) ≡ length operations
count_values operations inputs = omega (arith, length-from_earlier (value_of inputs) [] operations)

-- the range of an operand, among the first operations and among all
pub range_first : (operations : List TfheOp) (n source : ℕ) → n ≤ length operations → source < n → range_on (take n operations) source ≡ range_at (node_ranges operations) source
range_first operations n source within below = read_first range_of operations n source (pos 0, pos 0) within below

-- each value lies in its range
pub value_in : FormLaws → NodeLaws → (operations : List TfheOp) (inputs : List ℤ) (n : ℕ) → KeepRules operations [] operations → AreIn (input_ranges operations) inputs → n < length operations → IsIn (range_at (node_ranges operations) n) (number_at (node_values operations inputs) n)
value_in forms nodes operations inputs n rules given there =
    forms.leaf (node_ranges operations) (node_values operations inputs) n (nodes.values_in_ranges operations inputs rules given) (omega (arith, there, count_ranges operations))

-- so no range is empty
pub range_rises : FormLaws → NodeLaws → (operations : List TfheOp) (n : ℕ) → KeepRules operations [] operations → n < length operations → (range_at (node_ranges operations) n).0 ≤ℤ (range_at (node_ranges operations) n).1
range_rises forms nodes operations n rules there =
    let is = value_in forms nodes operations (map (λ range. range.0) (input_ranges operations)) n rules (least_inputs operations [] operations rules) there in
    omega (arith, ints, is.least, is.most)

-- that of a key switch starts at 0
starts_at_0 : (all earlier : List TfheOp) (op : TfheOp) → is_switch op ≡ true → KeepsRule all earlier op → (range_of (node_ranges earlier) op).0 ≡ pos 0
starts_at_0 all earlier (Input lo hi) is rule = absurd (false≢true is)
starts_at_0 all earlier (Lin constant terms) is rule = absurd (false≢true is)
starts_at_0 all earlier (Switch source) is rule = rule.starts
starts_at_0 all earlier (Boot source entries) is rule = absurd (false≢true is)
starts_at_0 all earlier (Out source lo hi) is rule = absurd (false≢true is)

pub switch_from_0 : (operations : List TfheOp) (n : ℕ) (op : TfheOp) → KeepRules operations [] operations → slice_get operations n ≡ Some op → is_switch op ≡ true → (range_at (node_ranges operations) n).0 ≡ pos 0
switch_from_0 operations n op rules at is =
    ap (λ range. range.0) (result_at range_of operations n op (pos 0, pos 0) at) ∙ starts_at_0 operations (take n operations) op is (rule_at operations n op rules at)

-- ---- the width

message_tail : (P : ℤ × ℤ → Type 0) (b : Bool) (x : TfheOp × (ℤ × ℤ)) (rest : List (TfheOp × (ℤ × ℤ))) → AllByRecursion P (map (λ node. node.1) (cond b (x ∷ rest) rest)) → AllByRecursion P (map (λ node. node.1) rest)
message_tail P true x rest all = all.1
message_tail P false x rest all = all

message_head : (P : ℤ × ℤ → Type 0) (b : Bool) (x : TfheOp × (ℤ × ℤ)) (rest : List (TfheOp × (ℤ × ℤ))) → b ≡ true → AllByRecursion P (map (λ node. node.1) (cond b (x ∷ rest) rest)) → P x.1
message_head P true x rest is all = all.0
message_head P false x rest is all = absurd (false≢true is)

-- what holds of the ranges of messages holds of that at a place
message_at : (P : ℤ × ℤ → Type 0) (operations : List TfheOp) (ranges : List (ℤ × ℤ)) (n : ℕ) (op : TfheOp) → length ranges ≡ length operations → AllByRecursion P (map (λ node. node.1) (filter (λ node. is_message node.0) (zip operations ranges))) → slice_get operations n ≡ Some op → is_message op ≡ true → P (range_at ranges n)
message_at P [] ranges n op same all at is = absurd (none-some op at)
message_at P (o ∷ operations) [] n op same all at is = absurd (omega (arith, same))
message_at P (o ∷ operations) (range ∷ ranges) zero op same all at is =
    message_head P (is_message o) (o, range) (filter (λ node. is_message node.0) (zip operations ranges)) (ap is_message (same_Some o op at) ∙ is) all
message_at P (o ∷ operations) (range ∷ ranges) (suc n) op same all at is =
    message_at P operations ranges n op (omega (arith, same))
    (message_tail P (is_message o) (o, range) (filter (λ node. is_message node.0) (zip operations ranges)) all) at is

-- a message's range is held by the width
pub span_held : (shape : Shape) (n : ℕ) (op : TfheOp) → IsShape shape → slice_get (nodes_of shape) n ≡ Some op → is_message op ≡ true → span_of (range_at (node_ranges (nodes_of shape)) n) <ℤ pos (2 ^ shape.width)
span_held shape n op is at kind =
    let Held : ℤ × ℤ → Type 0 = λ range. span_of range <ℤ pos (2 ^ shape.width) in
    message_at Held (nodes_of shape) (node_ranges (nodes_of shape)) n op (count_ranges (nodes_of shape))
    (recursion_from_All Held (message_ranges (nodes_of shape)) is.width.holds) at kind

switch_is_message : (op : TfheOp) → is_switch op ≡ true → is_message op ≡ true
switch_is_message op is = ap (λ b. cond b true (is_out op)) is

-- so is that of a key switch, which starts at 0
pub switch_range : FormLaws → NodeLaws → (shape : Shape) (n : ℕ) (op : TfheOp) → IsShape shape → slice_get (nodes_of shape) n ≡ Some op → is_switch op ≡ true → ((range_at (node_ranges (nodes_of shape)) n).0 ≡ pos 0) × (pos 0 ≤ℤ (range_at (node_ranges (nodes_of shape)) n).1) × ((range_at (node_ranges (nodes_of shape)) n).1 <ℤ pos (2 ^ shape.width))
switch_range forms nodes shape n op is at kind =
    let operations = nodes_of shape in
    let lo : ℤ = (range_at (node_ranges operations) n).0 in
    let hi : ℤ = (range_at (node_ranges operations) n).1 in
    let from_0 : lo ≡ pos 0 = switch_from_0 operations n op is.nodes.rules at kind in
    let rises : lo ≤ℤ hi = range_rises forms nodes operations n is.nodes.rules (slice_get_within operations n op at) in
    let held : (hi -ℤ lo) <ℤ pos (2 ^ shape.width) = span_held shape n op is at (switch_is_message op kind) in
    (from_0, omega (arith, ints, from_0, rises), omega (arith, ints, from_0, held))

-- one operation more
pub inputs_more : (operations : List TfheOp) (n : ℕ) (op : TfheOp) → slice_get operations n ≡ Some op → length (input_ranges (take (n + 1) operations)) ≡ length (input_ranges (take n operations)) + length (input_ranges (op ∷ []))
inputs_more operations n op at =
    let whole : take (n + 1) operations ≡ take n operations ++ op ∷ [] = take_more operations n op (slice_get_within operations n op at) ∙ ap (λ o. take n operations ++ o ∷ []) (get_or_from_slice_get operations n op op at) in
    ap (λ ops. length (input_ranges ops)) whole
    ∙ ap length (filter_map-append input_range (take n operations) (op ∷ []))
    ∙ length-append (input_ranges (take n operations)) (input_ranges (op ∷ []))
