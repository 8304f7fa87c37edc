-- The ciphertexts of outs, one after the other.
use Rattle.std.proofs.Common.{◌≡◌, ℕ, zero, suc, ◌+◌, ◌<◌, Bool, true, false, cond, List, [], ◌∷◌, ◌++◌, length, take, map, filter, All, refl, sym, ap, ◌∙◌, arith, Some}
use lib.IntN.{ℤ}
use Rattle.std.specs.List.{slice_get, zip, AllByRecursion}
use Rattle.std.proofs.Math.Numerals.{add-one}
use Rattle.std.proofs.lemmas.List.Elements.{All-from_recursion}
use Rattle.std.proofs.lemmas.Option.{slice_get_within, none-some, same_Some}
use Rattle.fhe_params.specs.Params.{big_dimension}
use Rattle.tfhe_level.specs.declared.level.TfheOp.{TfheOp}
use Rattle.tfhe_level.specs.declared.level.TfheOp.TheVariants.{Input, Lin, Switch, Boot, Out}
use Rattle.tfhe_level.specs.declared.shape.Circuit.{Circuit}
use Rattle.tfhe_level.specs.Operations.{is_switch, is_out}
use Rattle.tfhe_level.specs.Nodes.{nodes_of, at_outs}
use Rattle.circuit_run.specs.Running.{row_at}
use Rattle.circuit_run.specs.Rooms.{RoomWords, big_length, IsRoomOf, words_in}
use Rattle.circuit_run.proofs.RoomRows.{row_length, big_at, big_number, small_number, held_in_room, held_number}

-- an out is no key switch
out_is_big : (op : TfheOp) → is_out op ≡ true → is_switch op ≡ false
out_is_big (Input lo hi) is = refl
out_is_big (Lin constant terms) is = refl
out_is_big (Switch source) is = absurd cc
out_is_big (Boot source entries) is = refl
out_is_big (Out source lo hi) is = refl

-- one operation in front
in_front : (b : Bool) (op : TfheOp) (row : List ℕ) (all firsts : List (TfheOp × List ℕ)) (last : List (List ℕ)) → map (λ (n : TfheOp × List ℕ). n.1) all ≡ map (λ (n : TfheOp × List ℕ). n.1) firsts ++ last
    → map (λ (n : TfheOp × List ℕ). n.1) (cond b ((op, row) ∷ all) all) ≡ map (λ (n : TfheOp × List ℕ). n.1) (cond b ((op, row) ∷ firsts) firsts) ++ last
in_front true op row all firsts last same = ap (λ rows. row ∷ rows) same
in_front false op row all firsts last same = same

outs_suc : (operations : List TfheOp) (rows : List (List ℕ)) (n : ℕ) (op : TfheOp) → n < length rows → slice_get operations n ≡ Some op
    → at_outs (take (suc n) operations) (take (suc n) rows) ≡ at_outs (take n operations) (take n rows) ++ at_outs (op ∷ []) (row_at rows n ∷ [])
outs_suc [] rows n op inside at = absurd (none-some op at)
outs_suc (o ∷ operations) [] n op inside at = absurd (omega arith)
outs_suc (o ∷ operations) (row ∷ rows) zero op inside at = ap (λ x. at_outs (x ∷ []) (row ∷ [])) (same_Some o op at)
outs_suc (o ∷ operations) (row ∷ rows) (suc n) op inside at =
    in_front (is_out o) o row (filter (λ node. is_out node.0) (zip (take (suc n) operations) (take (suc n) rows))) (filter (λ node. is_out node.0) (zip (take n operations) (take n rows))) (at_outs (op ∷ []) (row_at rows n ∷ []))
    (outs_suc operations rows n op (omega arith) at)

-- where an operation is no out, its row is not looked at
one_out : (b : Bool) (op : TfheOp) (row other : List ℕ) → (b ≡ true → row ≡ other) → map (λ (n : TfheOp × List ℕ). n.1) (cond b ((op, row) ∷ []) []) ≡ map (λ (n : TfheOp × List ℕ). n.1) (cond b ((op, other) ∷ []) [])
one_out true op row other same = ap (λ r. r ∷ []) (same refl)
one_out false op row other same = refl

big_out : (b : Bool) (row small big : List ℕ) → b ≡ false → row ≡ cond b small big → row ≡ big
big_out b row small big is same = same ∙ ap (λ c. cond c small big) is

-- the outs among the operations so far, and one operation more
pub outs_more : (c : Circuit) (room : RoomWords) (n : ℕ) (op : TfheOp) → IsRoomOf c room → slice_get (nodes_of c.shape) n ≡ Some op
    → at_outs (take (n + 1) (nodes_of c.shape)) (take (n + 1) (words_in c room)) ≡ at_outs (take n (nodes_of c.shape)) (take n (words_in c room)) ++ at_outs (op ∷ []) (row_at room.big n ∷ [])
outs_more c room n op is at =
    let there = slice_get_within (nodes_of c.shape) n op at in
    let many : length (words_in c room) ≡ length (nodes_of c.shape) = held_number (nodes_of c.shape) room.big room.small (omega (arith, big_number c room is)) (omega (arith, small_number c room is)) in
    ap (λ k. at_outs (take k (nodes_of c.shape)) (take k (words_in c room))) (add-one n)
    ∙ outs_suc (nodes_of c.shape) (words_in c room) n op (omega (arith, there, many)) at
    ∙ ap (λ rows. at_outs (take n (nodes_of c.shape)) (take n (words_in c room)) ++ rows)
    (one_out (is_out op) op (row_at (words_in c room) n) (row_at room.big n) (λ out. big_out (is_switch op) (row_at (words_in c room) n) (row_at room.small n) (row_at room.big n) (out_is_big op out) (held_in_room c room n op is at)))

-- how many words the operations of a room have
pub words_number : (c : Circuit) (room : RoomWords) → IsRoomOf c room → length (words_in c room) ≡ length (nodes_of c.shape)
words_number c room is = held_number (nodes_of c.shape) room.big room.small (omega (arith, big_number c room is)) (omega (arith, small_number c room is))

-- ---- dimensions

first_out : (P : List ℕ → Type 0) (b : Bool) (op : TfheOp) (row : List ℕ) (rest : List (TfheOp × List ℕ)) → (b ≡ true → P row) → AllByRecursion P (map (λ (n : TfheOp × List ℕ). n.1) rest) → AllByRecursion P (map (λ (n : TfheOp × List ℕ). n.1) (cond b ((op, row) ∷ rest) rest))
first_out P true op row rest here all = (here refl, all)
first_out P false op row rest here all = all

each_out : (P : List ℕ → Type 0) (operations : List TfheOp) (rows : List (List ℕ)) → ((n : ℕ) (op : TfheOp) → slice_get operations n ≡ Some op → is_out op ≡ true → P (row_at rows n)) → AllByRecursion P (at_outs operations rows)
each_out P [] rows each = tt
each_out P (op ∷ operations) [] each = tt
each_out P (op ∷ operations) (row ∷ rows) each =
    first_out P (is_out op) op row (filter (λ node. is_out node.0) (zip operations rows)) (each 0 op refl) (each_out P operations rows (λ n o at out. each (suc n) o at out))

-- each out has the big key's dimension
pub outs_long : (c : Circuit) (room : RoomWords) → IsRoomOf c room → All (λ row. length row ≡ big_dimension c.params + 1) (at_outs (nodes_of c.shape) (words_in c room))
outs_long c room is = All-from_recursion (λ row. length row ≡ big_dimension c.params + 1) (at_outs (nodes_of c.shape) (words_in c room)) (each_out (λ row. length row ≡ big_dimension c.params + 1) (nodes_of c.shape) (words_in c room) (λ n op at out.
    ap (λ row. length row) (big_out (is_switch op) (row_at (words_in c room) n) (row_at room.small n) (row_at room.big n) (out_is_big op out) (held_in_room c room n op is at)) ∙ (big_at c room n op is at (out_is_big op out)).words))

-- ---- bodies

one_at_least : (b : Bool) (dim : ℕ) → 0 < cond b 1 (dim + 1)
one_at_least true dim = omega arith
one_at_least false dim = omega arith

-- the ciphertext under the big key of each operation has a body
pub some_words : (c : Circuit) (room : RoomWords) (n : ℕ) (op : TfheOp) → IsRoomOf c room → slice_get (nodes_of c.shape) n ≡ Some op → 0 < length (row_at room.big n)
some_words c room n op is at =
    omega (arith, (row_length (nodes_of c.shape) room.big (big_length c.params) n op is.big at).1, one_at_least (is_switch op) (big_dimension c.params))
