-- Each operation of a circuit can be computed once those before it are.
use Rattle.std.proofs.Common.{◌≡◌, ℕ, zero, suc, ◌+◌, ◌-◌, ◌*◌, ◌^◌, ◌<◌, ◌≤◌, List, [], ◌∷◌, ◌++◌, length, take, get_or, map, All, refl, sym, ap, ◌∙◌, subst, arith, Some, Bool, true, false, cond, pos, ◌+ℤ◌, ◌-ℤ◌, ◌≤ℤ◌, ◌<ℤ◌}
use lib.IntN.{ℤ}
use Rattle.std.specs.List.{slice_get}
use Rattle.std.proofs.lemmas.Int.{ints}
use Rattle.std.proofs.lemmas.Nat.{pow_below}
use Rattle.std.proofs.lemmas.List.Elements.{All-weaker}
use Rattle.std.proofs.lemmas.Option.{slice_get_within}
use Rattle.forms.specs.Forms.{range_at}
use Rattle.forms.specs.Laws.{FormLaws}
use Rattle.tfhe_level.specs.declared.level.TfheOp.{TfheOp}
use Rattle.tfhe_level.specs.declared.level.TfheOp.TheVariants.{Input, Lin, Switch, Boot, Out}
use Rattle.tfhe_level.specs.declared.shape.Circuit.{Circuit}
use Rattle.tfhe_level.specs.Operations.{is_leaf, is_switch, is_big_node}
use Rattle.tfhe_level.specs.Nodes.{nodes_of, node_ranges}
use Rattle.tfhe_level.specs.Rules.{Stands, IsTerm, IsBootNode, KeepsRule}
use Rattle.tfhe_level.specs.Laws.{NodeLaws}
use Rattle.noise_model.specs.Circuits.{IsCircuit}
use Rattle.noise_laws.specs.Laws.{ConstraintLaws}
use Rattle.circuit_run.specs.Running.{EvalKeys, row_at}
use Rattle.circuit_run.specs.Rooms.{RoomWords, IsRoomOf}
use Rattle.circuit_run.specs.Steps.{HasKeys, AreInputs, IsBigAt, IsSmallAt, IsTableFor, CanStep}
use Rattle.circuit_run.proofs.Operands.{rule_at, stands_below, operand_of, leaf_is_big, big_node_is_big, boot_from_used, boot_there}
use Rattle.circuit_run.proofs.RoomRows.{big_at, small_at}
use Rattle.circuit_run.proofs.Ranges.{input_there, range_first, switch_range}
use Rattle.circuit_run.proofs.Constraints.{boot_room, width_below}

-- the laws that it stands on
pub record RuleLaws : Type 0 where
  pub forms : FormLaws
  pub nodes : NodeLaws
  pub constraints : ConstraintLaws

-- an operand with a ciphertext under the big key is below, and has it
big_operand : (c : Circuit) (room : RoomWords) (kind : TfheOp → Bool) → ((op : TfheOp) → kind op ≡ true → is_switch op ≡ false) → (n source : ℕ) → IsRoomOf c room → Stands kind (take n (nodes_of c.shape)) source → (source < n) × IsBigAt c.params room.big source
big_operand c room kind is_big n source is stands =
    let below = stands_below kind (nodes_of c.shape) n source stands in
    let operand = operand_of kind (nodes_of c.shape) source below.1 in
    (below.0, big_at c room source operand.0 is operand.1 (is_big operand.0 operand.2))

-- as many entries as numbers from 0 to the greatest of the range
entries_count : (entries limit : ℕ) (lo hi : ℤ) → pos entries ≡ (hi -ℤ lo) +ℤ pos 1 → lo ≡ pos 0 → pos 0 ≤ℤ hi → hi <ℤ pos limit → (1 ≤ entries) × (entries ≤ limit)
entries_count entries limit lo hi number from_0 rises held = (omega (arith, ints, number, from_0, rises), omega (arith, ints, number, from_0, held))

table_for : RuleLaws → (c : Circuit) (n source : ℕ) (entries : List ℤ) → IsCircuit c → slice_get (nodes_of c.shape) n ≡ Some (Boot source entries) → IsBootNode (take n (nodes_of c.shape)) source entries → IsTableFor c.params c.shape.width entries
table_for laws c n source entries is at rule =
    let operations = nodes_of c.shape in
    let there = slice_get_within operations n (Boot source entries) at in
    let below = stands_below is_switch operations n source rule.operand in
    let operand = operand_of is_switch operations source below.1 in
    let range = switch_range laws.forms laws.nodes c.shape source operand.0 is.shape operand.1 operand.2 in
    let lo : ℤ = (range_at (node_ranges operations) source).0 in
    let hi : ℤ = (range_at (node_ranges operations) source).1 in
    let number : pos (length entries) ≡ (hi -ℤ lo) +ℤ pos 1 = subst (λ (r : ℤ × ℤ). pos (length entries) ≡ (r.1 -ℤ r.0) +ℤ pos 1) (range_first operations n source (omega (arith, there)) below.0) rule.number in
    let count = entries_count (length entries) (2 ^ c.shape.width) lo hi number range.0 range.1 range.2 in
    let less = width_below _ c.params.lwe.ones c.params.glwe.log_n c.shape.width (boot_room laws.constraints c.params c.shape n source entries is.meets at) in
    record {
      some_bits = is.shape.width.low;
      some = count.0;
      few = count.1;
      within = pow_below c.shape.width c.params.glwe.log_n less;
    }

ready : RuleLaws → (c : Circuit) (keys : EvalKeys) (inputs : List (List ℕ)) (room : RoomWords) (n : ℕ) (op : TfheOp) → IsCircuit c → IsRoomOf c room → HasKeys c keys → AreInputs c inputs → slice_get (nodes_of c.shape) n ≡ Some op → KeepsRule (nodes_of c.shape) (take n (nodes_of c.shape)) op → CanStep c keys inputs room n op
ready laws c keys inputs room n (Input lo hi) is fits has are at rule =
    let there = input_there (nodes_of c.shape) n lo hi rule.first at in
    let within : n < length inputs = omega (arith, there, are.number) in
    (record { there = within; words = are.words n [] within }, big_at c room n (Input lo hi) fits at refl)
ready laws c keys inputs room n (Lin constant terms) is fits has are at rule = (
  All-weaker (IsTerm (take n (nodes_of c.shape))) (λ (t : ℕ × ℤ). (t.0 < n) × IsBigAt c.params room.big t.0)
      (λ t term. big_operand c room is_leaf leaf_is_big n t.0 fits term.leaf) terms rule.each,
  big_at c room n (Lin constant terms) fits at refl,
)
ready laws c keys inputs room n (Switch source) is fits has are at rule = (
  (big_operand c room is_big_node big_node_is_big n source fits rule.operand).1,
  small_at c room n (Switch source) fits at refl,
  has.switch (boot_from_used _ (nodes_of c.shape) rule.used),
)
ready laws c keys inputs room n (Boot source entries) is fits has are at rule =
    let below = stands_below is_switch (nodes_of c.shape) n source rule.operand in
    let operand = operand_of is_switch (nodes_of c.shape) source below.1 in (
      small_at c room source operand.0 fits operand.1 operand.2,
      big_at c room n (Boot source entries) fits at refl,
      has.boot (boot_there (nodes_of c.shape) n source entries at),
      table_for laws c n source entries is at rule,
    )
ready laws c keys inputs room n (Out source lo hi) is fits has are at rule =
    let operand = big_operand c room is_big_node big_node_is_big n source fits rule.operand in
    (operand.0, operand.1, big_at c room n (Out source lo hi) fits at refl)

pub can_step : RuleLaws → (c : Circuit) (keys : EvalKeys) (inputs : List (List ℕ)) (room : RoomWords) (n : ℕ) (op : TfheOp) → IsCircuit c → IsRoomOf c room → HasKeys c keys → AreInputs c inputs → slice_get (nodes_of c.shape) n ≡ Some op → CanStep c keys inputs room n op
can_step laws c keys inputs room n op is fits has are at =
    ready laws c keys inputs room n op is fits has are at (rule_at (nodes_of c.shape) n op is.shape.nodes.rules at)
