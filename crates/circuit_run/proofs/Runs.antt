-- A room after one operation more holds one operation's words more.
use Rattle.std.proofs.Common.{◌≡◌, ℕ, zero, suc, ◌+◌, ◌<◌, ◌≤◌, List, [], ◌∷◌, ◌++◌, length, take, drop, set, get_or, map, replicate, All, refl, sym, ap, ◌∙◌, subst, arith, Some, Bool, true, false, cond}
use Rattle.std.specs.List.{slice_get}
use lib.IntN.{ℤ}
use Rattle.std.proofs.lemmas.List.{length-set, get_or-set_same, get_or-take, take_more, length-take-le}
use Rattle.std.proofs.lemmas.Option.{slice_get_within, get_or_from_slice_get}
use Rattle.word_ring.specs.Rows.{combined}
use Rattle.word_ring.specs.Signed.{word_of}
use Rattle.lwe_core.specs.Decoding.{encoded}
use Rattle.lwe_core.specs.Phase.{with_message}
use Rattle.forms.specs.FromEarlier.{from_earlier_push}
use Rattle.fhe_params.specs.Params.{big_dimension}
use Rattle.tfhe_level.specs.declared.level.TfheOp.{TfheOp}
use Rattle.tfhe_level.specs.declared.level.TfheOp.TheVariants.{Input, Lin, Switch, Boot, Out}
use Rattle.tfhe_level.specs.declared.shape.Circuit.{Circuit}
use Rattle.tfhe_level.specs.Operations.{is_switch, is_leaf, is_big_node}
use Rattle.tfhe_level.specs.Rules.{Stands, IsTerm, KeepsRule}
use Rattle.circuit_run.specs.Running.{EvalKeys, row_at, lin_row, switched_by, looked_up_by, node_row, words_of}
use Rattle.circuit_run.specs.Rooms.{RoomWords, held_row, held_rows}
use Rattle.circuit_run.specs.Steps.{stepped}
use Rattle.circuit_run.proofs.Places.{slice_get-take, map_agree}
use Rattle.circuit_run.proofs.Operands.{stands_below, operand_of, leaf_is_big, big_node_is_big}
use Rattle.circuit_run.proofs.RoomRows.{held_more, held_but_big, held_but_small, held_at, held_number}

-- an operand is read in the room where it is held
read_operand : (kind : TfheOp → Bool) (small_kind : Bool) → ((op : TfheOp) → kind op ≡ true → is_switch op ≡ small_kind) → (operations : List TfheOp) (big small : List (List ℕ)) (n source : ℕ) → n ≤ length big → n ≤ length small → Stands kind (take n operations) source → row_at (held_rows (take n operations) big small) source ≡ cond small_kind (row_at small source) (row_at big source)
read_operand kind small_kind is operations big small n source in_big in_small stands =
    let below = stands_below kind operations n source stands in
    let operand = operand_of kind operations source below.1 in
    held_at (take n operations) big small source operand.0 (omega (arith, below.0)) (omega (arith, below.0)) (slice_get-take operations n source below.0 ∙ operand.1)
    ∙ ap (λ b. cond b (row_at small source) (row_at big source)) (is operand.0 operand.2)

-- the terms of a weighted sum read the same in the room
lin_agrees : (operations : List TfheOp) (room : RoomWords) (n dim width : ℕ) (constant : ℤ) (terms : List (ℕ × ℤ)) → n ≤ length room.big → n ≤ length room.small → All (IsTerm (take n operations)) terms → lin_row dim width constant terms (held_rows (take n operations) room.big room.small) ≡ lin_row dim width constant terms (take n room.big)
unfolding lin_row
lin_agrees operations room n dim width constant terms in_big in_small each =
    let held : List (List ℕ) = held_rows (take n operations) room.big room.small in
    let from_held : ℕ × ℤ → List ℕ = λ t. row_at held t.0 in
    let from_room : ℕ × ℤ → List ℕ = λ t. row_at (take n room.big) t.0 in
    let same : map from_held terms ≡ map from_room terms = map_agree from_held from_room terms
    (λ k d within. let t : ℕ × ℤ = get_or terms k d in
    let leaf = (each k d within).leaf in
    let below = stands_below is_leaf operations n t.0 leaf in
    read_operand is_leaf false leaf_is_big operations room.big room.small n t.0 in_big in_small leaf
    ∙ sym (get_or-take n room.big t.0 [] below.0)) in
    ap (λ rows. with_message dim (combined (replicate (dim + 1) 0) (map (λ t. word_of t.1) terms) rows) (encoded width constant)) same

-- the words of the operation at a place, from the words in the room, are those that stand there after its step
step_row : (c : Circuit) (keys : EvalKeys) (inputs : List (List ℕ)) (operations : List TfheOp) (room : RoomWords) (n : ℕ) (op : TfheOp) → length room.big ≡ length operations → length room.small ≡ length operations → slice_get operations n ≡ Some op → KeepsRule operations (take n operations) op
    → node_row c keys inputs (held_rows (take n operations) room.big room.small) op ≡ held_row (op, (row_at (stepped c keys inputs room n op).big n, row_at (stepped c keys inputs room n op).small n))
step_row c keys inputs operations room n (Input lo hi) in_big in_small at rule =
    let there = slice_get_within operations n (Input lo hi) at in
    let few : length (take n operations) ≡ n = length-take-le n operations (omega (arith, there)) in
    let count : length (held_rows (take n operations) room.big room.small) ≡ n = held_number (take n operations) room.big room.small (omega arith) (omega arith) ∙ few in
    ap (row_at inputs) count ∙ sym (get_or-set_same room.big n (row_at inputs n) [] (omega (arith, there)))
step_row c keys inputs operations room n (Lin constant terms) in_big in_small at rule =
    let there = slice_get_within operations n (Lin constant terms) at in
    lin_agrees operations room n (big_dimension c.params) c.shape.width constant terms (omega (arith, there)) (omega (arith, there)) rule.each
    ∙ sym (get_or-set_same room.big n _ [] (omega (arith, there)))
step_row c keys inputs operations room n (Switch source) in_big in_small at rule =
    let there = slice_get_within operations n (Switch source) at in
    ap (switched_by keys.switch) (read_operand is_big_node false big_node_is_big operations room.big room.small n source (omega (arith, there)) (omega (arith, there)) rule.operand)
    ∙ sym (get_or-set_same room.small n _ [] (omega (arith, there)))
step_row c keys inputs operations room n (Boot source entries) in_big in_small at rule =
    let there = slice_get_within operations n (Boot source entries) at in
    ap (looked_up_by keys.boot c.shape.width entries) (read_operand is_switch true (λ o e. e) operations room.big room.small n source (omega (arith, there)) (omega (arith, there)) rule.operand)
    ∙ sym (get_or-set_same room.big n _ [] (omega (arith, there)))
step_row c keys inputs operations room n (Out source lo hi) in_big in_small at rule =
    let there = slice_get_within operations n (Out source lo hi) at in
    read_operand is_big_node false big_node_is_big operations room.big room.small n source (omega (arith, there)) (omega (arith, there)) rule.operand
    ∙ sym (get_or-set_same room.big n _ [] (omega (arith, there)))

-- those of earlier operations stay
step_keeps : (c : Circuit) (keys : EvalKeys) (inputs : List (List ℕ)) (operations : List TfheOp) (room : RoomWords) (n : ℕ) (op : TfheOp) → held_rows (take n operations) (stepped c keys inputs room n op).big (stepped c keys inputs room n op).small ≡ held_rows (take n operations) room.big room.small
step_keeps c keys inputs operations room n (Input lo hi) = held_but_big operations room.big room.small n _
step_keeps c keys inputs operations room n (Lin constant terms) = held_but_big operations room.big room.small n _
step_keeps c keys inputs operations room n (Switch source) = held_but_small operations room.big room.small n _
step_keeps c keys inputs operations room n (Boot source entries) = held_but_big operations room.big room.small n _
step_keeps c keys inputs operations room n (Out source lo hi) = held_but_big operations room.big room.small n _

-- and there are as many as before
step_big : (c : Circuit) (keys : EvalKeys) (inputs : List (List ℕ)) (room : RoomWords) (n : ℕ) (op : TfheOp) → length (stepped c keys inputs room n op).big ≡ length room.big
step_big c keys inputs room n (Input lo hi) = length-set room.big n _
step_big c keys inputs room n (Lin constant terms) = length-set room.big n _
step_big c keys inputs room n (Switch source) = refl
step_big c keys inputs room n (Boot source entries) = length-set room.big n _
step_big c keys inputs room n (Out source lo hi) = length-set room.big n _

step_small : (c : Circuit) (keys : EvalKeys) (inputs : List (List ℕ)) (room : RoomWords) (n : ℕ) (op : TfheOp) → length (stepped c keys inputs room n op).small ≡ length room.small
step_small c keys inputs room n (Input lo hi) = refl
step_small c keys inputs room n (Lin constant terms) = refl
step_small c keys inputs room n (Switch source) = length-set room.small n _
step_small c keys inputs room n (Boot source entries) = refl
step_small c keys inputs room n (Out source lo hi) = refl

-- one operation more
pub run_more : (c : Circuit) (keys : EvalKeys) (inputs : List (List ℕ)) (operations : List TfheOp) (room : RoomWords) (n : ℕ) (op : TfheOp) → length room.big ≡ length operations → length room.small ≡ length operations → slice_get operations n ≡ Some op → KeepsRule operations (take n operations) op
    → held_rows (take n operations) room.big room.small ≡ words_of c keys inputs (take n operations)
    → held_rows (take (n + 1) operations) (stepped c keys inputs room n op).big (stepped c keys inputs room n op).small ≡ words_of c keys inputs (take (n + 1) operations)
run_more c keys inputs operations room n op in_big in_small at rule so_far =
    let there = slice_get_within operations n op at in
    let after : RoomWords = stepped c keys inputs room n op in
    let first : List TfheOp = take n operations in
    let more : take (n + 1) operations ≡ first ++ op ∷ [] = take_more operations n op there ∙ ap (λ o. first ++ o ∷ []) (get_or_from_slice_get operations n op op at) in
    held_more operations after.big after.small n op (omega (arith, there, step_big c keys inputs room n op)) (omega (arith, there, step_small c keys inputs room n op)) at
    ∙ ap (λ rows. rows ++ held_row (op, (row_at after.big n, row_at after.small n)) ∷ []) (step_keeps c keys inputs operations room n op ∙ so_far)
    ∙ ap (λ row. words_of c keys inputs first ++ row ∷ []) (sym (step_row c keys inputs operations room n op in_big in_small at rule) ∙ ap (λ rows. node_row c keys inputs rows op) so_far)
    ∙ sym (ap (words_of c keys inputs) more ∙ from_earlier_push (node_row c keys inputs) [] first op)
