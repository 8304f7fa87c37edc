-- Each operation stands for its value within its bound.
use Rattle.std.proofs.Common.{◌≡◌, ℕ, zero, suc, ◌+◌, ◌-◌, ◌*◌, ◌^◌, ◌<◌, ◌≤◌, ℤ, pos, ◌+ℤ◌, ◌-ℤ◌, ◌≤ℤ◌, ◌<ℤ◌, Bool, true, false, cond, List, [], ◌∷◌, length, take, map, filter, get_or, All, refl, sym, ap, ◌∙◌, subst, arith, Some, None, Option}
use Rattle.std.specs.Prelude.{unsigned_abs}
use Rattle.std.specs.List.{slice_get, zip, list_any, AllByRecursion}
use Rattle.std.proofs.lemmas.Int.{ints}
use Rattle.std.proofs.lemmas.Bool.{false≢true}
use Rattle.std.proofs.lemmas.Nat.{pow_pos}
use Rattle.std.proofs.lemmas.List.{get_or-take}
use Rattle.std.proofs.lemmas.List.Elements.{All-weaker, recursion_from_All}
use Rattle.std.proofs.lemmas.Option.{slice_get_within}
use Rattle.lwe_core.specs.Phase.{phase_of}
use Rattle.lwe_core.specs.Decoding.{decoded}
use Rattle.lwe_core.specs.Encrypts.{Encrypts}
use Rattle.key_switch.specs.Key.{SwitchRows}
use Rattle.blind_rotate.specs.BootKey.{BootRows}
use Rattle.fhe_params.specs.declared.params.Params.{Params}
use Rattle.fhe_params.specs.Params.{big_dimension, IsParams}
use Rattle.forms.specs.Forms.{number_at, range_at, span_of, IsIn, AreIn}
use Rattle.forms.specs.FromEarlier.{from_earlier, length-from_earlier}
use Rattle.tfhe_level.specs.declared.level.TfheOp.{TfheOp}
use Rattle.tfhe_level.specs.declared.level.TfheOp.TheVariants.{Input, Lin, Switch, Boot, Out}
use Rattle.tfhe_level.specs.declared.shape.Circuit.{Circuit}
use Rattle.tfhe_level.specs.Operations.{is_leaf, is_switch, is_boot, is_out, is_big_node}
use Rattle.tfhe_level.specs.Nodes.{nodes_of, value_of, node_values, node_ranges}
use Rattle.tfhe_level.specs.Rules.{Stands, IsTerm, KeepsRule}
use Rattle.tfhe_level.specs.Laws.{input_ranges}
use Rattle.noise_model.specs.Bounds.{bound_of, noise_bounds, noise_bound, switch_noise, boot_noise}
use Rattle.noise_model.specs.Circuits.{IsCircuit}
use Rattle.circuit_run.specs.Running.{EvalKeys, row_at, switched_by, looked_up_by, node_row, words_of, run_words}
use Rattle.circuit_run.specs.Noise.{key_under, EvalKeysFit, StandFor, AreGood, IsRight}
use Rattle.circuit_run.proofs.Places.{result_at, read_first, length-first}
use Rattle.circuit_run.proofs.Operands.{rule_at, stands_below, operand_of, leaf_is_big, big_node_is_big, boot_from_used, boot_there}
use Rattle.circuit_run.proofs.Ranges.{input_there, switch_range, value_in, span_held}
use Rattle.circuit_run.proofs.Constraints.{boot_room, out_room}
use Rattle.circuit_run.proofs.Terms.{CiphertextLaws, otherwise, lin_stands, switch_stands, boot_stands}

-- ---- inputs

stand_number : (bits : List Bool) (width bound : ℕ) (rows : List (List ℕ)) (values : List ℤ) → StandFor bits width bound rows values → length rows ≡ length values
stand_number bits width bound [] [] stand = refl
stand_number bits width bound [] (v ∷ vs) stand = absurd stand
stand_number bits width bound (r ∷ rs) [] stand = absurd stand
stand_number bits width bound (r ∷ rs) (v ∷ vs) stand = omega (arith, stand_number bits width bound rs vs stand.1)

range_number : (ranges : List (ℤ × ℤ)) (values : List ℤ) → AreIn ranges values → length ranges ≡ length values
range_number [] [] are = refl
range_number [] (v ∷ vs) are = absurd are
range_number (r ∷ rs) [] are = absurd are
range_number (r ∷ rs) (v ∷ vs) are = omega (arith, range_number rs vs are.1)

stand_at : (bits : List Bool) (width bound : ℕ) (rows : List (List ℕ)) (values : List ℤ) (n : ℕ) → StandFor bits width bound rows values → n < length rows → Encrypts bits (row_at rows n) (number_at values n) width bound
stand_at bits width bound [] values n stand lt = absurd (omega arith)
stand_at bits width bound (r ∷ rs) [] n stand lt = absurd stand
stand_at bits width bound (r ∷ rs) (v ∷ vs) zero stand lt = stand.0
stand_at bits width bound (r ∷ rs) (v ∷ vs) (suc n) stand lt = stand_at bits width bound rs vs n stand.1 (omega arith)

-- ---- keys

-- what a key switch and a bootstrap give, with keys that fit
switched_stands : CiphertextLaws → (p : Params) (big small : List Bool) (switch : Option SwitchRows) (boot : Option BootRows) (row : List ℕ) (value : ℤ) (width bound : ℕ) → IsParams p → EvalKeysFit p big small switch boot → Encrypts big row value width bound → Encrypts small (switched_by switch row) value width (bound + switch_noise p)
switched_stands laws p big small (Some switch) (Some boot) row value width bound is fit stands = switch_stands laws p big small switch boot row value width bound is fit.0 fit.1 stands
switched_stands laws p big small (Some switch) None row value width bound is fit stands = absurd fit
switched_stands laws p big small None boot row value width bound is fit stands = absurd fit

looked_up_stands : CiphertextLaws → (p : Params) (big small : List Bool) (switch : Option SwitchRows) (boot : Option BootRows) (row : List ℕ) (entries : List ℤ) (v width bound : ℕ) → IsParams p → EvalKeysFit p big small switch boot → Encrypts small row (pos v) width bound → v < 2 ^ width → bound + (1 + p.lwe.ones) * 2 ^ (62 - p.glwe.log_n) < 2 ^ (62 - width) → Encrypts big (looked_up_by boot width entries row) (number_at entries v) width (boot_noise p)
looked_up_stands laws p big small (Some switch) (Some boot) row entries v width bound is fit stands small_v room = boot_stands laws p big small switch boot row entries v width bound is fit.0 fit.1 stands small_v room
looked_up_stands laws p big small (Some switch) None row entries v width bound is fit stands small_v room = absurd fit
looked_up_stands laws p big small None boot row entries v width bound is fit stands small_v room = absurd fit

-- a value from 0 on is a natural number
natural : (value lo hi : ℤ) (limit : ℕ) → lo ≤ℤ value → value ≤ℤ hi → lo ≡ pos 0 → hi <ℤ pos limit → (value ≡ pos (unsigned_abs value)) × (unsigned_abs value < limit)
natural value lo hi limit least most from_0 held = (omega (arith, ints, least, from_0), omega (arith, ints, least, most, from_0, held))

-- ---- operations

-- the operation at a place stands for its value within its bound
abbrev StandsAt : Circuit → EvalKeys → List Bool → List Bool → List ℤ → List (List ℕ) → ℕ → TfheOp → Type 0
StandsAt c keys big small values inputs n op =
    Encrypts (key_under big small op) (row_at (run_words c keys inputs) n) (number_at (node_values (nodes_of c.shape) values) n) c.shape.width (noise_bound c.params (nodes_of c.shape) n)

-- so do those before a place
abbrev AllBefore : Circuit → EvalKeys → List Bool → List Bool → List ℤ → List (List ℕ) → ℕ → Type 0
AllBefore c keys big small values inputs n = (i : ℕ) → i < n → (op : TfheOp) → slice_get (nodes_of c.shape) i ≡ Some op → StandsAt c keys big small values inputs i op

-- what an operation gives, from what those before it gave
abbrev Gives : Circuit → EvalKeys → List Bool → List Bool → List ℤ → List (List ℕ) → ℕ → TfheOp → Type 0
Gives c keys big small values inputs n op =
    Encrypts (key_under big small op) (node_row c keys inputs (words_of c keys inputs (take n (nodes_of c.shape))) op) (value_of values (node_values (take n (nodes_of c.shape)) values) op) c.shape.width (bound_of c.params (noise_bounds c.params (take n (nodes_of c.shape))) op)

-- an operand, as the operation reads it
operand_stands : (c : Circuit) (keys : EvalKeys) (big small : List Bool) (values : List ℤ) (inputs : List (List ℕ)) (kind : TfheOp → Bool) (b : Bool) → ((op : TfheOp) → kind op ≡ true → is_switch op ≡ b) → (n source : ℕ) → n ≤ length (nodes_of c.shape) → AllBefore c keys big small values inputs n → Stands kind (take n (nodes_of c.shape)) source
    → Encrypts (cond b small big) (row_at (words_of c keys inputs (take n (nodes_of c.shape))) source) (number_at (node_values (take n (nodes_of c.shape)) values) source) c.shape.width (get_or (noise_bounds c.params (take n (nodes_of c.shape))) source 0)
operand_stands c keys big small values inputs kind b is_kind n source within before stands =
    let operations = nodes_of c.shape in
    let below = stands_below kind operations n source stands in
    let operand = operand_of kind operations source below.1 in
    otherwise (cond b small big) c.shape.width (row_at (run_words c keys inputs) source) _ (number_at (node_values operations values) source) _ (noise_bound c.params operations source) _
    (read_first (node_row c keys inputs) operations n source [] within below.0)
    (read_first (value_of values) operations n source (pos 0) within below.0)
    (read_first (bound_of c.params) operations n source 0 within below.0)
    (subst (λ k. Encrypts (cond k small big) (row_at (run_words c keys inputs) source) (number_at (node_values operations values) source) c.shape.width (noise_bound c.params operations source)) (is_kind operand.0 operand.2) (before source below.0 operand.0 operand.1))

-- the value of a key switch is a natural number that the width has room for
switch_value : CiphertextLaws → (c : Circuit) (values : List ℤ) (n source : ℕ) → IsCircuit c → AreIn (input_ranges (nodes_of c.shape)) values → n ≤ length (nodes_of c.shape) → Stands is_switch (take n (nodes_of c.shape)) source
    → (number_at (node_values (take n (nodes_of c.shape)) values) source ≡ pos (unsigned_abs (number_at (node_values (take n (nodes_of c.shape)) values) source))) × (unsigned_abs (number_at (node_values (take n (nodes_of c.shape)) values) source) < 2 ^ c.shape.width)
switch_value laws c values n source is ranges within stands =
    let operations = nodes_of c.shape in
    let below = stands_below is_switch operations n source stands in
    let operand = operand_of is_switch operations source below.1 in
    let there = slice_get_within operations source operand.0 operand.1 in
    let range = switch_range laws.forms laws.nodes c.shape source operand.0 is.shape operand.1 operand.2 in
    let inside = value_in laws.forms laws.nodes operations values source is.shape.nodes.rules ranges there in
    let whole : ℤ = number_at (node_values operations values) source in
    let first : ℤ = number_at (node_values (take n operations) values) source in
    let read : first ≡ whole = read_first (value_of values) operations n source (pos 0) within below.0 in
    let least : (range_at (node_ranges operations) source).0 ≤ℤ first = rw read inside.least in
    let most : first ≤ℤ (range_at (node_ranges operations) source).1 = rw read inside.most in
    natural first (range_at (node_ranges operations) source).0 (range_at (node_ranges operations) source).1 (2 ^ c.shape.width) least most range.0 range.2

-- the room at a bootstrap, with the bound as the bootstrap reads it
room_at_boot : CiphertextLaws → (c : Circuit) (n source : ℕ) (entries : List ℤ) → IsCircuit c → n ≤ length (nodes_of c.shape) → source < n → slice_get (nodes_of c.shape) n ≡ Some (Boot source entries)
    → get_or (noise_bounds c.params (take n (nodes_of c.shape))) source 0 + (1 + c.params.lwe.ones) * 2 ^ (62 - c.params.glwe.log_n) < 2 ^ (62 - c.shape.width)
room_at_boot laws c n source entries is within below at =
    subst (λ b. b + (1 + c.params.lwe.ones) * 2 ^ (62 - c.params.glwe.log_n) < 2 ^ (62 - c.shape.width))
    (sym (read_first (bound_of c.params) (nodes_of c.shape) n source 0 within below))
    (boot_room laws.constraints c.params c.shape n source entries is.meets at)

gives : CiphertextLaws → (c : Circuit) (keys : EvalKeys) (big small : List Bool) (values : List ℤ) (inputs : List (List ℕ)) → IsCircuit c → AreGood c keys big small values inputs → (n : ℕ) (op : TfheOp) → AllBefore c keys big small values inputs n → slice_get (nodes_of c.shape) n ≡ Some op → KeepsRule (nodes_of c.shape) (take n (nodes_of c.shape)) op → Gives c keys big small values inputs n op
gives laws c keys big small values inputs is good n (Input lo hi) before at rule =
    let operations = nodes_of c.shape in
    let within : n ≤ length operations = omega (arith, slice_get_within operations n (Input lo hi) at) in
    let there = input_there operations n lo hi rule.first at in
    let count : length inputs ≡ length (input_ranges operations) = stand_number big c.shape.width c.params.glwe.error inputs values good.fresh ∙ sym (range_number (input_ranges operations) values good.ranges) in
    let stands = stand_at big c.shape.width c.params.glwe.error inputs values n good.fresh (omega (arith, count, there)) in
    otherwise big c.shape.width (row_at inputs n) _ (number_at values n) _ c.params.glwe.error _
    (ap (row_at inputs) (length-first (node_row c keys inputs) operations n within))
    (ap (number_at values) (length-first (value_of values) operations n within))
    refl stands
gives laws c keys big small values inputs is good n (Lin constant terms) before at rule =
    let operations = nodes_of c.shape in
    let within : n ≤ length operations = omega (arith, slice_get_within operations n (Lin constant terms) at) in
    let Reads : ℕ × ℤ → Type 0 = λ t. Encrypts big (row_at (words_of c keys inputs (take n operations)) t.0) (number_at (node_values (take n operations) values) t.0) c.shape.width (get_or (noise_bounds c.params (take n operations)) t.0 0) in
    let each : All Reads terms = All-weaker (IsTerm (take n operations)) Reads (λ t term. operand_stands c keys big small values inputs is_leaf false leaf_is_big n t.0 within before term.leaf) terms rule.each in
    lin_stands laws big (big_dimension c.params) c.shape.width (words_of c keys inputs (take n operations)) (node_values (take n operations) values) (noise_bounds c.params (take n operations)) constant terms good.secret.big_length
    (recursion_from_All Reads terms each)
gives laws c keys big small values inputs is good n (Switch source) before at rule =
    let operations = nodes_of c.shape in
    let within : n ≤ length operations = omega (arith, slice_get_within operations n (Switch source) at) in
    switched_stands laws c.params big small keys.switch keys.boot _ _ c.shape.width _ is.params (good.fit (boot_from_used _ operations rule.used))
    (operand_stands c keys big small values inputs is_big_node false big_node_is_big n source within before rule.operand)
gives laws c keys big small values inputs is good n (Boot source entries) before at rule =
    let operations = nodes_of c.shape in
    let within : n ≤ length operations = omega (arith, slice_get_within operations n (Boot source entries) at) in
    let below = stands_below is_switch operations n source rule.operand in
    let value = switch_value laws c values n source is good.ranges within rule.operand in
    let read : ℤ = number_at (node_values (take n operations) values) source in
    let row : List ℕ = row_at (words_of c keys inputs (take n operations)) source in
    let bound : ℕ = get_or (noise_bounds c.params (take n operations)) source 0 in
    let operand = operand_stands c keys big small values inputs is_switch true (λ o e. e) n source within before rule.operand in
    looked_up_stands laws c.params big small keys.switch keys.boot row entries (unsigned_abs read) c.shape.width bound is.params (good.fit (boot_there operations n source entries at))
    (subst (λ v. Encrypts small row v c.shape.width bound) value.0 operand) value.1
    (room_at_boot laws c n source entries is within below.0 at)
gives laws c keys big small values inputs is good n (Out source lo hi) before at rule =
    let operations = nodes_of c.shape in
    let within : n ≤ length operations = omega (arith, slice_get_within operations n (Out source lo hi) at) in
    operand_stands c keys big small values inputs is_big_node false big_node_is_big n source within before rule.operand

one_more : CiphertextLaws → (c : Circuit) (keys : EvalKeys) (big small : List Bool) (values : List ℤ) (inputs : List (List ℕ)) → IsCircuit c → AreGood c keys big small values inputs → (n : ℕ) (op : TfheOp) → AllBefore c keys big small values inputs n → slice_get (nodes_of c.shape) n ≡ Some op → StandsAt c keys big small values inputs n op
one_more laws c keys big small values inputs is good n op before at =
    let operations = nodes_of c.shape in
    otherwise (key_under big small op) c.shape.width _ _ _ _ _ _
    (result_at (node_row c keys inputs) operations n op [] at)
    (result_at (value_of values) operations n op (pos 0) at)
    (result_at (bound_of c.params) operations n op 0 at)
    (gives laws c keys big small values inputs is good n op before at (rule_at operations n op is.shape.nodes.rules at))

all_before : CiphertextLaws → (c : Circuit) (keys : EvalKeys) (big small : List Bool) (values : List ℤ) (inputs : List (List ℕ)) → IsCircuit c → AreGood c keys big small values inputs → (n i : ℕ) → i < n → (op : TfheOp) → slice_get (nodes_of c.shape) i ≡ Some op → StandsAt c keys big small values inputs i op
all_before laws c keys big small values inputs is good zero i lt op at = absurd (omega (arith, lt))
all_before laws c keys big small values inputs is good (suc n) i lt op at =
    one_more laws c keys big small values inputs is good i op (λ j below o there. all_before laws c keys big small values inputs is good n j (omega (arith, below, lt)) o there) at

pub node_noise : CiphertextLaws → (c : Circuit) (keys : EvalKeys) (big small : List Bool) (values : List ℤ) (inputs : List (List ℕ)) (n : ℕ) (op : TfheOp) → IsCircuit c → AreGood c keys big small values inputs → slice_get (nodes_of c.shape) n ≡ Some op → Encrypts (key_under big small op) (row_at (run_words c keys inputs) n) (number_at (node_values (nodes_of c.shape) values) n) c.shape.width (noise_bound c.params (nodes_of c.shape) n)
node_noise laws c keys big small values inputs n op is good at = all_before laws c keys big small values inputs is good (suc n) n (omega arith) op at

-- ---- outputs

from_least : (lo value : ℤ) (offset : ℕ) → pos offset ≡ (value -ℤ lo) → (lo +ℤ pos offset) ≡ value
from_least lo value offset e = omega (arith, ints, e)

-- the range of an out
out_is_message : (op : TfheOp) → is_out op ≡ true → is_switch op ≡ false
out_is_message (Input lo hi) is = refl
out_is_message (Lin constant terms) is = refl
out_is_message (Switch source) is = absurd (false≢true is)
out_is_message (Boot source entries) is = refl
out_is_message (Out source lo hi) is = refl

-- an out's bound is that of its operand, less than half a step
out_below : CiphertextLaws → (c : Circuit) (n : ℕ) (op : TfheOp) → IsCircuit c → slice_get (nodes_of c.shape) n ≡ Some op → is_out op ≡ true → noise_bound c.params (nodes_of c.shape) n < 2 ^ (62 - c.shape.width)
out_below laws c n (Input lo hi) is at kind = absurd (false≢true kind)
out_below laws c n (Lin constant terms) is at kind = absurd (false≢true kind)
out_below laws c n (Switch source) is at kind = absurd (false≢true kind)
out_below laws c n (Boot source entries) is at kind = absurd (false≢true kind)
out_below laws c n (Out source lo hi) is at kind =
    let operations = nodes_of c.shape in
    let rule = rule_at operations n (Out source lo hi) is.shape.nodes.rules at in
    let below = stands_below is_big_node operations n source rule.operand in
    let within : n ≤ length operations = omega (arith, slice_get_within operations n (Out source lo hi) at) in
    subst (λ b. b < 2 ^ (62 - c.shape.width))
    (sym (result_at (bound_of c.params) operations n (Out source lo hi) 0 at ∙ read_first (bound_of c.params) operations n source 0 within below.0))
    (out_room laws.constraints c.params c.shape n source lo hi is.meets at)

-- an out is right
pub out_right : CiphertextLaws → (c : Circuit) (keys : EvalKeys) (big small : List Bool) (values : List ℤ) (inputs : List (List ℕ)) → IsCircuit c → AreGood c keys big small values inputs → (n : ℕ) (op : TfheOp) → slice_get (nodes_of c.shape) n ≡ Some op → is_out op ≡ true
    → IsRight big c.shape.width (noise_bound c.params (nodes_of c.shape) n) (range_at (node_ranges (nodes_of c.shape)) n) (row_at (run_words c keys inputs) n) (number_at (node_values (nodes_of c.shape) values) n)
out_right laws c keys big small values inputs is good n op at kind =
    let operations = nodes_of c.shape in
    let lo : ℤ = (range_at (node_ranges operations) n).0 in
    let hi : ℤ = (range_at (node_ranges operations) n).1 in
    let value : ℤ = number_at (node_values operations values) n in
    let row : List ℕ = row_at (run_words c keys inputs) n in
    let bound : ℕ = noise_bound c.params operations n in
    let not_switch = out_is_message op kind in
    let stands : Encrypts big row value c.shape.width bound = subst (λ b. Encrypts (cond b small big) row value c.shape.width bound) not_switch (node_noise laws c keys big small values inputs n op is good at) in
    let inside = value_in laws.forms laws.nodes operations values n is.shape.nodes.rules good.ranges (slice_get_within operations n op at) in
    let held : (hi -ℤ lo) <ℤ pos (2 ^ c.shape.width) = span_held c.shape n op is.shape at (ap (λ b. cond b true (is_out op)) not_switch ∙ kind) in
    let high = is.shape.width.high in
    record {
      stands = stands;
      inside = inside;
      decodes = from_least lo value _ (laws.decoding.decoded_encrypted big row c.shape.width bound lo hi value
          (record { width_high = omega (arith, high); least = inside.least; most = inside.most; room = held })
          stands (out_below laws c n op is at kind));
    }
