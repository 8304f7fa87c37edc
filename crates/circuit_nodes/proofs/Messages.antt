-- The ranges that a width must hold, one after the other.
use Rattle.std.proofs.Common.{◌≡◌, ℕ, zero, suc, ◌+◌, ◌<◌, ◌≤◌, Bool, true, false, cond, ◌&&◌, ◌||◌, List, [], ◌∷◌, length, drop, map, filter, ℤ, pos, arith, sym, ap, refl, ◌∙◌}
use Rattle.std.specs.Prelude.{not}
use Rattle.std.specs.List.{list_all, slice_index_or, zip}
use Rattle.std.proofs.lemmas.List.{drop_all}
use Rattle.forms.specs.FromEarlier.{length-from_earlier}
use Rattle.tfhe_level.specs.declared.level.TfheOp.{TfheOp}
use Rattle.tfhe_level.specs.Nodes.{node_ranges, range_of}
use Rattle.tfhe_level.specs.Rules.{is_message, message_ranges, range_on}
use Rattle.circuit_nodes.specs.Tests.{stands, holds_range}
use Rattle.circuit_nodes.specs.Nodes.{is_held_at}

-- the ranges of the key switches and outs among these operations
abbrev pub messages_in : List TfheOp → List (ℤ × ℤ) → List (ℤ × ℤ)
messages_in ops ranges = map (λ node. node.1) (filter (λ node. is_message node.0) (zip ops ranges))

one_message : (message : Bool) (width : ℕ) (op : TfheOp) (range : ℤ × ℤ) (others : List (TfheOp × (ℤ × ℤ)))
    → list_all (holds_range width) (map (λ node. node.1) (cond message ((op, range) ∷ others) others)) ≡ ((not message || holds_range width range) && list_all (holds_range width) (map (λ node. node.1) others))
one_message true width op range others = refl
one_message false width op range others = refl

message_at : (width i : ℕ) (ops : List TfheOp) (ranges : List (ℤ × ℤ)) → length ranges ≡ length ops → i < length ops
    → list_all (holds_range width) (messages_in (drop i ops) (drop i ranges)) ≡ ((not (stands is_message ops i) || holds_range width (slice_index_or ranges i (pos 0, pos 0))) && list_all (holds_range width) (messages_in (drop (suc i) ops) (drop (suc i) ranges)))
message_at width i [] ranges same lt = absurd (omega (arith, lt))
message_at width i (op ∷ ops) [] same lt = absurd (omega (arith, same))
message_at width zero (op ∷ ops) (range ∷ ranges) same lt = one_message (is_message op) width op range (filter (λ node. is_message node.0) (zip ops ranges))
message_at width (suc i) (op ∷ ops) (range ∷ ranges) same lt = message_at width i ops ranges (omega (arith, same)) (omega (arith, lt))

many_ranges : (ops : List TfheOp) → length (node_ranges ops) ≡ length ops
many_ranges ops = omega (arith, length-from_earlier range_of [] ops)

held_at : (width i : ℕ) (ops : List TfheOp) → i < length ops
    → list_all (holds_range width) (messages_in (drop i ops) (drop i (node_ranges ops))) ≡ (is_held_at ops width i && list_all (holds_range width) (messages_in (drop (i + 1) ops) (drop (i + 1) (node_ranges ops))))
held_at width i ops lt =
    let next : suc i ≡ i + 1 = omega arith in
    message_at width i ops (node_ranges ops) (many_ranges ops) lt ∙ ap (λ k. is_held_at ops width i && list_all (holds_range width) (messages_in (drop k ops) (drop k (node_ranges ops)))) next

-- the range at a place is held
pub held_here : (width i : ℕ) (ops : List TfheOp) (all : Bool) → i < length ops → all ≡ list_all (holds_range width) (messages_in (drop i ops) (drop i (node_ranges ops))) → is_held_at ops width i ≡ true
    → all ≡ list_all (holds_range width) (messages_in (drop (i + 1) ops) (drop (i + 1) (node_ranges ops)))
held_here width i ops all lt so_far held = so_far ∙ held_at width i ops lt ∙ ap (λ b. b && list_all (holds_range width) (messages_in (drop (i + 1) ops) (drop (i + 1) (node_ranges ops)))) held

-- it is not
pub not_held_here : (width i : ℕ) (ops : List TfheOp) (all : Bool) → i < length ops → all ≡ list_all (holds_range width) (messages_in (drop i ops) (drop i (node_ranges ops))) → is_held_at ops width i ≡ false → false ≡ all
not_held_here width i ops all lt so_far held = sym (so_far ∙ held_at width i ops lt ∙ ap (λ b. b && list_all (holds_range width) (messages_in (drop (i + 1) ops) (drop (i + 1) (node_ranges ops)))) held)

-- all are held
pub held_all : (width i : ℕ) (ops : List TfheOp) (all : Bool) → length ops ≤ i → all ≡ list_all (holds_range width) (messages_in (drop i ops) (drop i (node_ranges ops))) → true ≡ all
held_all width i ops all ge so_far = sym (so_far ∙ ap (λ os. list_all (holds_range width) (messages_in os (drop i (node_ranges ops)))) (drop_all i ops ge))
