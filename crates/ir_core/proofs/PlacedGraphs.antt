-- graphs in which the number of an operation is its place
use Rattle.std.proofs.Common.{◌≡◌, ℕ, zero, suc, ◌+◌, ◌<◌, List, [], ◌∷◌, ◌++◌, length, get_or, All, sym, refl, ap, ◌∙◌, inl, inr, Some, arith, eq-eqb}
use Rattle.std.specs.List.{enumerate_from, slice_get}
use Rattle.std.proofs.lemmas.Bool.Decides.{eqb_tells}
use Rattle.std.proofs.lemmas.List.{length-map, length_push, map_push}
use Rattle.std.proofs.lemmas.List.Elements.{Contains-get_or}
use Rattle.std.proofs.lemmas.List.FromFn.{get_or-enumerate_from}
use Rattle.std.proofs.lemmas.Option.{slice_get_within, get_or_from_slice_get}
use Rattle.ir_core.specs.Graph.{Operations, IsGraph, Holds, StandsBefore, place_of, pushed}
use Rattle.ir_core.specs.Placed.{operations_of, IsPlaced}
use Rattle.ir_core.proofs.Places.{holds_from_place, number_at_place}

-- numbers counted from n: the place of one
place_of-enumerate_from : {Op : Type 0} (ops : List Op) (n place number : ℕ) → place < length ops → n + place ≡ number → place_of (enumerate_from n ops) number ≡ place
place_of-enumerate_from [] n place number within at = absurd (omega arith)
place_of-enumerate_from (op ∷ ops) n zero number within at = rw (eq-eqb n number (omega arith)) refl
place_of-enumerate_from (op ∷ ops) n (suc place) number within at =
    elim (eqb_tells n number) [
      | inl same ↦ absurd (omega (arith, same.1))
      | inr other ↦ rw other.0 (omega (arith, place_of-enumerate_from ops (n + 1) place number (omega arith) (omega arith)))
    ]

-- one more at the end takes the next number
enumerate_from_push : {Op : Type 0} (ops : List Op) (op : Op) (n number : ℕ) → n + length ops ≡ number → enumerate_from n (ops ++ op ∷ []) ≡ enumerate_from n ops ++ (number, op) ∷ []
enumerate_from_push [] op n number at = let same : n ≡ number = omega arith in rw same refl
enumerate_from_push (first ∷ ops) op n number at = ap (λ rest. (n, first) ∷ rest) (enumerate_from_push ops op (n + 1) number (omega arith))

pub placed_one_more : {Op : Type 0} (graph : Operations Op) (op : Op) → IsPlaced graph → IsPlaced (pushed graph op)
placed_one_more {Op} graph op is =
    let count : 0 + length (operations_of graph) ≡ graph.made = omega (arith, length-map graph.list (λ (entry : ℕ × Op). entry.1), is.next) in
    record {
      numbers = ap (λ list. list ++ (graph.made, op) ∷ []) is.numbers ∙ sym (ap (enumerate_from 0) (map_push (λ entry. entry.1) graph.list (graph.made, op)) ∙ enumerate_from_push (operations_of graph) op 0 graph.made count);
      next = omega (arith, length_push graph.list (graph.made, op), is.next);
    }

pub placed_place : {Op : Type 0} (graph : Operations Op) (number : ℕ) → IsPlaced graph → number < length graph.list → place_of graph.list number ≡ number
placed_place {Op} graph number is within =
    let count : number < length (operations_of graph) = omega (arith, length-map graph.list (λ (entry : ℕ × Op). entry.1)) in
    ap (λ list. place_of list number) is.numbers ∙ place_of-enumerate_from (operations_of graph) 0 number number count (omega arith)

pub placed_there : {Op : Type 0} (graph : Operations Op) (number : ℕ) → IsPlaced graph → number < length graph.list → Holds graph.list number
placed_there graph number is within = holds_from_place graph.list number (omega (arith, placed_place graph number is within))

-- the entry at a place has it as its number
entry_at : {Op : Type 0} (graph : Operations Op) (number : ℕ) (d : ℕ × Op) → IsPlaced graph → number < length graph.list → get_or graph.list number d ≡ (number, get_or (operations_of graph) number d.1)
entry_at {Op} graph number d is within =
    let count : number < length (operations_of graph) = omega (arith, length-map graph.list (λ (entry : ℕ × Op). entry.1)) in
    let same : 0 + number ≡ number = omega arith in
    ap (λ list. get_or list number d) is.numbers ∙ get_or-enumerate_from 0 (operations_of graph) number d count ∙ ap (λ n. (n, get_or (operations_of graph) number d.1)) same

-- a number with a place is that place
number_is_place : {Op : Type 0} (graph : Operations Op) (number : ℕ) (op : Op) → IsPlaced graph → place_of graph.list number < length graph.list → place_of graph.list number ≡ number
number_is_place graph number op is within =
    sym (ap (λ entry. entry.0) (entry_at graph (place_of graph.list number) (number, op) is within)) ∙ number_at_place graph.list number (number, op) within

pub placed_earlier : {Op : Type 0} (operands : Op → List ℕ) (graph : Operations Op) (number : ℕ) (op : Op) → IsGraph operands graph → IsPlaced graph → slice_get (operations_of graph) number ≡ Some op → All (λ operand. operand < number) (operands op)
placed_earlier {Op} operands graph number op keeps is at k d within =
    let inside : number < length graph.list = omega (arith, slice_get_within (operations_of graph) number op at, length-map graph.list (λ (entry : ℕ × Op). entry.1)) in
    let there : get_or graph.list number (number, op) ≡ (number, op) = entry_at graph number (number, op) is inside ∙ ap (λ o. (number, o)) (get_or_from_slice_get (operations_of graph) number op op at) in
    let before : StandsBefore graph.list (get_or (operands op) k d) number = keeps.earlier number (get_or (operands op) k d) op (number, inside, there) (Contains-get_or (operands op) k d within) in
    let below : place_of graph.list (get_or (operands op) k d) < number = omega (arith, before, placed_place graph number is inside) in
    omega (arith, below, number_is_place graph (get_or (operands op) k d) op is (omega arith))
