-- The words in a room, operation by operation.
use Rattle.std.proofs.Common.{◌≡◌, ℕ, zero, suc, ◌+◌, ◌<◌, ◌≤◌, List, [], ◌∷◌, ◌++◌, length, take, drop, set, get_or, map, replicate, refl, sym, ap, ◌∙◌, subst, arith, Some, Bool, true, false, cond}
use lib.IntN.{ℤ}
use Rattle.std.specs.List.{slice_get, zip, enumerate_from}
use Rattle.std.proofs.Math.Numerals.{add-one}
use Rattle.std.proofs.lemmas.List.{length-map, length-replicate, length-set, get_or-map, get_or-take, take_more, map_push}
use Rattle.std.proofs.lemmas.List.FromFn.{length-enumerate_from}
use Rattle.std.proofs.lemmas.Option.{slice_get_within, get_or_from_slice_get, none-some, same_Some}
use Rattle.fhe_params.specs.declared.params.Params.{Params}
use Rattle.fhe_params.specs.Params.{big_dimension}
use Rattle.tfhe_level.specs.declared.level.TfheOp.{TfheOp}
use Rattle.tfhe_level.specs.declared.shape.Circuit.{Circuit}
use Rattle.tfhe_level.specs.Operations.{is_switch}
use Rattle.tfhe_level.specs.Nodes.{nodes_of}
use Rattle.circuit_run.specs.Running.{row_at, lin_row}
use Rattle.circuit_run.specs.Rooms.{RoomWords, big_length, small_length, IsRoomOf, zero_room, held_row, held_rows, words_in}
use Rattle.circuit_run.specs.Steps.{IsBigAt, IsSmallAt, with_big, with_small}

-- ---- how many words there are

-- lists that are as long as a test of the operations says, at a place
pub row_length : (operations : List TfheOp) (rows : List (List ℕ)) (long : TfheOp → ℕ) (n : ℕ) (op : TfheOp) → map (λ row. length row) rows ≡ map long operations → slice_get operations n ≡ Some op → (n < length rows) × (length (row_at rows n) ≡ long op)
row_length operations rows long n op same at =
    let of_row : List ℕ → ℕ = λ row. length row in
    let there = slice_get_within operations n op at in
    let within : n < length rows = omega (arith, ap length same, length-map rows of_row, length-map operations long) in (
      within,
      sym (get_or-map of_row rows n [] 0 within) ∙ ap (λ ns. get_or ns n 0) same ∙ get_or-map long operations n op 0 there
          ∙ ap long (get_or_from_slice_get operations n op op at),
    )

pub big_at : (c : Circuit) (room : RoomWords) (n : ℕ) (op : TfheOp) → IsRoomOf c room → slice_get (nodes_of c.shape) n ≡ Some op → is_switch op ≡ false → IsBigAt c.params room.big n
big_at c room n op is at kind =
    let row = row_length (nodes_of c.shape) room.big (big_length c.params) n op is.big at in
    record { there = row.0; words = row.1 ∙ ap (λ b. cond b 1 (big_dimension c.params + 1)) kind }

pub small_at : (c : Circuit) (room : RoomWords) (n : ℕ) (op : TfheOp) → IsRoomOf c room → slice_get (nodes_of c.shape) n ≡ Some op → is_switch op ≡ true → IsSmallAt c.params room.small n
small_at c room n op is at kind =
    let row = row_length (nodes_of c.shape) room.small (small_length c.params) n op is.small at in
    record { there = row.0; words = row.1 ∙ ap (λ b. cond b (c.params.lwe.n + 1) 1) kind }

-- how many ciphertexts of each kind there are
pub big_number : (c : Circuit) (room : RoomWords) → IsRoomOf c room → length room.big ≡ length (nodes_of c.shape)
big_number c room is =
    let of_row : List ℕ → ℕ = λ row. length row in
    omega (arith, ap length is.big, length-map room.big of_row, length-map (nodes_of c.shape) (big_length c.params))

pub small_number : (c : Circuit) (room : RoomWords) → IsRoomOf c room → length room.small ≡ length (nodes_of c.shape)
small_number c room is =
    let of_row : List ℕ → ℕ = λ row. length row in
    omega (arith, ap length is.small, length-map room.small of_row, length-map (nodes_of c.shape) (small_length c.params))

-- a row of the same length in the place of another leaves the lengths
pub lengths_kept : (rows : List (List ℕ)) (n : ℕ) (row : List ℕ) → length row ≡ length (row_at rows n) → map (λ r. length r) (set rows n row) ≡ map (λ r. length r) rows
lengths_kept [] n row same = refl
lengths_kept (r ∷ rows) zero row same = ap (λ len. len ∷ map (λ r. length r) rows) same
lengths_kept (r ∷ rows) (suc n) row same = ap (λ lens. length r ∷ lens) (lengths_kept rows n row same)

-- ---- the words of operations

-- one operation more
held_suc : (operations : List TfheOp) (big small : List (List ℕ)) (n : ℕ) (op : TfheOp) → n < length big → n < length small → slice_get operations n ≡ Some op → held_rows (take (suc n) operations) big small ≡ held_rows (take n operations) big small ++ held_row (op, (row_at big n, row_at small n)) ∷ []
held_suc [] big small n op in_big in_small at = absurd (none-some op at)
held_suc (o ∷ operations) [] small n op in_big in_small at = absurd (omega arith)
held_suc (o ∷ operations) (b ∷ big) [] n op in_big in_small at = absurd (omega arith)
held_suc (o ∷ operations) (b ∷ big) (s ∷ small) zero op in_big in_small at = ap (λ x. held_row (x, (b, s)) ∷ []) (same_Some o op at)
held_suc (o ∷ operations) (b ∷ big) (s ∷ small) (suc n) op in_big in_small at =
    ap (λ rows. held_row (o, (b, s)) ∷ rows) (held_suc operations big small n op (omega arith) (omega arith) at)

pub held_more : (operations : List TfheOp) (big small : List (List ℕ)) (n : ℕ) (op : TfheOp) → n < length big → n < length small → slice_get operations n ≡ Some op → held_rows (take (n + 1) operations) big small ≡ held_rows (take n operations) big small ++ held_row (op, (row_at big n, row_at small n)) ∷ []
held_more operations big small n op in_big in_small at =
    ap (λ k. held_rows (take k operations) big small) (add-one n) ∙ held_suc operations big small n op in_big in_small at

-- those before a place do not hang on it
pub held_but_big : (operations : List TfheOp) (big small : List (List ℕ)) (n : ℕ) (row : List ℕ) → held_rows (take n operations) (set big n row) small ≡ held_rows (take n operations) big small
held_but_big operations big small zero row = refl
held_but_big [] big small (suc n) row = refl
held_but_big (o ∷ operations) [] small (suc n) row = refl
held_but_big (o ∷ operations) (b ∷ big) [] (suc n) row = refl
held_but_big (o ∷ operations) (b ∷ big) (s ∷ small) (suc n) row = ap (λ rows. held_row (o, (b, s)) ∷ rows) (held_but_big operations big small n row)

pub held_but_small : (operations : List TfheOp) (big small : List (List ℕ)) (n : ℕ) (row : List ℕ) → held_rows (take n operations) big (set small n row) ≡ held_rows (take n operations) big small
held_but_small operations big small zero row = refl
held_but_small [] big small (suc n) row = refl
held_but_small (o ∷ operations) [] small (suc n) row = refl
held_but_small (o ∷ operations) (b ∷ big) [] (suc n) row = refl
held_but_small (o ∷ operations) (b ∷ big) (s ∷ small) (suc n) row = ap (λ rows. held_row (o, (b, s)) ∷ rows) (held_but_small operations big small n row)

-- the words of the operation at a place
pub held_at : (operations : List TfheOp) (big small : List (List ℕ)) (n : ℕ) (op : TfheOp) → n < length big → n < length small → slice_get operations n ≡ Some op → row_at (held_rows operations big small) n ≡ held_row (op, (row_at big n, row_at small n))
held_at [] big small n op in_big in_small at = absurd (none-some op at)
held_at (o ∷ operations) [] small n op in_big in_small at = absurd (omega arith)
held_at (o ∷ operations) (b ∷ big) [] n op in_big in_small at = absurd (omega arith)
held_at (o ∷ operations) (b ∷ big) (s ∷ small) zero op in_big in_small at = ap (λ x. held_row (x, (b, s))) (same_Some o op at)
held_at (o ∷ operations) (b ∷ big) (s ∷ small) (suc n) op in_big in_small at = held_at operations big small n op (omega arith) (omega arith) at

-- how many there are
pub held_number : (operations : List TfheOp) (big small : List (List ℕ)) → length operations ≤ length big → length operations ≤ length small → length (held_rows operations big small) ≡ length operations
held_number [] big small in_big in_small = refl
held_number (o ∷ operations) [] small in_big in_small = absurd (omega arith)
held_number (o ∷ operations) (b ∷ big) [] in_big in_small = absurd (omega arith)
held_number (o ∷ operations) (b ∷ big) (s ∷ small) in_big in_small = ap suc (held_number operations big small (omega arith) (omega arith))

-- in the room of a circuit
pub held_in_room : (c : Circuit) (room : RoomWords) (n : ℕ) (op : TfheOp) → IsRoomOf c room → slice_get (nodes_of c.shape) n ≡ Some op → row_at (words_in c room) n ≡ cond (is_switch op) (row_at room.small n) (row_at room.big n)
held_in_room c room n op is at =
    let there = slice_get_within (nodes_of c.shape) n op at in
    held_at (nodes_of c.shape) room.big room.small n op (omega (arith, there, big_number c room is)) (omega (arith, there, small_number c room is)) at

-- ---- rooms that are made or written

-- rows whose number of words is told have so many
zero_lengths : (long : TfheOp → ℕ) (operations : List TfheOp) → map (λ (row : List ℕ). length row) (map (λ op. replicate {A = ℕ} (long op) 0) operations) ≡ map long operations
zero_lengths long [] = refl
zero_lengths long (op ∷ operations) =
    let zeros : TfheOp → List ℕ = λ o. replicate (long o) 0 in
    let of_row : List ℕ → ℕ = λ row. length row in
    ap (λ n. n ∷ map of_row (map zeros operations)) (length-replicate {A = ℕ} (long op) 0)
    ∙ ap (λ ns. long op ∷ ns) (zero_lengths long operations)

pub zero_is_room : (c : Circuit) → IsRoomOf c (zero_room c)
zero_is_room c = record {
  big = zero_lengths (big_length c.params) (nodes_of c.shape);
  small = zero_lengths (small_length c.params) (nodes_of c.shape);
  shape = refl;
}

-- one room more
pub rooms_more : (long : TfheOp → ℕ) (operations : List TfheOp) (n : ℕ) (op : TfheOp) (rows : List (List ℕ)) (row : List ℕ) → rows ≡ map (λ o. replicate (long o) 0) (take n operations) → slice_get operations n ≡ Some op → row ≡ replicate (long op) 0 → rows ++ row ∷ [] ≡ map (λ o. replicate (long o) 0) (take (n + 1) operations)
rooms_more long operations n op rows row so_far at is =
    let zeros : TfheOp → List ℕ = λ o. replicate (long o) 0 in
    let whole : take (n + 1) operations ≡ take n operations ++ op ∷ [] = take_more operations n op (slice_get_within operations n op at) ∙ ap (λ o. take n operations ++ o ∷ []) (get_or_from_slice_get operations n op op at) in
    ap (λ rs. rs ++ row ∷ []) so_far ∙ ap (λ r. map zeros (take n operations) ++ r ∷ []) is
    ∙ sym (ap (map zeros) whole ∙ map_push zeros (take n operations) op)

-- a row at the front of what is behind a place
pub set_in_rest : (rows : List (List ℕ)) (n : ℕ) (row : List ℕ) → n < length rows → take n rows ++ set (drop n rows) 0 row ≡ set rows n row
set_in_rest [] n row there = absurd (omega arith)
set_in_rest (r ∷ rows) zero row there = refl
set_in_rest (r ∷ rows) (suc n) row there = ap (λ rs. r ∷ rs) (set_in_rest rows n row (omega arith))

-- a row before a place
pub read_before : (rows : List (List ℕ)) (n i : ℕ) → i < n → row_at (take n rows) i ≡ row_at rows i
read_before rows n i below = get_or-take n rows i [] below

-- a weighted sum has as many words as a ciphertext of its dimension
pub length-lin_row : (dim width : ℕ) (constant : ℤ) (terms : List (ℕ × ℤ)) (rows : List (List ℕ)) → length (lin_row dim width constant terms rows) ≡ dim + 1
unfolding lin_row
length-lin_row dim width constant terms rows =
    length-set _ _ _ ∙ (length-map (enumerate_from 0 (replicate (dim + 1) 0)) _ ∙ length-enumerate_from 0 (replicate (dim + 1) 0) ∙ length-replicate (dim + 1) 0)

-- a room in which a ciphertext is another of the same length
pub big_kept : (after before : RoomWords) (n : ℕ) (row : List ℕ) → after ≡ with_big before n row → length row ≡ length (row_at before.big n) → map (λ r. length r) after.big ≡ map (λ r. length r) before.big
big_kept after before n row is same = ap (λ (r : RoomWords). map (λ w. length w) r.big) is ∙ lengths_kept before.big n row same

pub small_kept : (after before : RoomWords) (n : ℕ) (row : List ℕ) → after ≡ with_small before n row → length row ≡ length (row_at before.small n) → map (λ r. length r) after.small ≡ map (λ r. length r) before.small
small_kept after before n row is same = ap (λ (r : RoomWords). map (λ w. length w) r.small) is ∙ lengths_kept before.small n row same
