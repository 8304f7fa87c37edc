-- What a graph means: a list of operations, each with its number, and the count of numbers given.
use Rattle.std.specs.Prelude.{◌≡◌, ℕ, ◌+◌, ◌<◌, ◌≤◌, ◌^◌, ◌==◌, nat_eq, if◌then◌else◌, List, [], ◌∷◌, ◌++◌, length, map, filter, All, AllPairs, Contains, ◌⊎◌}
use Rattle.std.specs.List.{insert, remove, flat_map, enumerate_from, IsDistinct}

-- operations in their order, each with its number, and how many numbers were given
pub record Operations (Op : Type 0) : Type 0 where
  pub list : List (ℕ × Op)
  pub made : ℕ

-- the numbers of the operations, in their order
abbrev pub numbers_of : {Op : Type 0} → List (ℕ × Op) → List ℕ
numbers_of list = map (λ entry. entry.0) list

-- an operation with that number is there
abbrev pub Holds : {Op : Type 0} → List (ℕ × Op) → ℕ → Type 0
Holds list value = Contains (numbers_of list) value

-- how many operations stand before the one with that number
abbrev pub place_of : {Op : Type 0} → List (ℕ × Op) → ℕ → ℕ
place_of [] value = 0
place_of (entry ∷ rest) value = if entry.0 == value then 0 else place_of rest value + 1

-- one number stands before another
abbrev pub StandsBefore : {Op : Type 0} → List (ℕ × Op) → ℕ → ℕ → Type 0
StandsBefore list earlier later = place_of list earlier < place_of list later

-- what every graph keeps, given what the operands of an operation are
pub record IsGraph {Op : Type 0} (operands : Op → List ℕ) (graph : Operations Op) : Type 0 where
  -- each operand of an operation is the number of an earlier one
  pub earlier : (user value : ℕ) (op : Op) → Contains graph.list (user, op) → Contains (operands op) value
      → StandsBefore graph.list value user
  -- no number stands twice
  pub distinct : IsDistinct nat_eq (numbers_of graph.list)
  -- each number there was given
  pub given : All (λ number. number < graph.made) (numbers_of graph.list)
  -- no more operations are there than numbers were given
  pub fits : length graph.list ≤ graph.made
  -- a number fits 32 bits
  pub narrow : graph.made < 2 ^ 32
  -- the place of an operand fits 32 bits
  pub few : All (λ entry. length (operands entry.1) < 2 ^ 32) graph.list

-- the graph of no operations
abbrev pub no_operations : {Op : Type 0} → Operations Op
no_operations = record { list = []; made = 0 }

-- the graph with an operation more at its end, under the next number
abbrev pub pushed : {Op : Type 0} → Operations Op → Op → Operations Op
pushed graph op = record { list = graph.list ++ (graph.made, op) ∷ []; made = graph.made + 1 }

-- the graph with an operation more just before the one with that number
abbrev pub inserted_before : {Op : Type 0} → Operations Op → ℕ → Op → Operations Op
inserted_before graph later op = record {
  list = insert graph.list (place_of graph.list later) (graph.made, op);
  made = graph.made + 1;
}

-- the graph without the operation of that number
abbrev pub erased : {Op : Type 0} → Operations Op → ℕ → Operations Op
erased graph value = record { list = remove graph.list (place_of graph.list value); made = graph.made }

-- a value, where one is put for another
abbrev pub renamed : ℕ → ℕ → ℕ → ℕ
renamed from to value = if value == from then to else value

-- an operation with one value put for another in each operand
abbrev pub renamed_in : {Op : Type 0} → (Op → List ℕ) → (Op → List ℕ → Op) → ℕ → ℕ → Op → Op
renamed_in operands with_operands from to op = with_operands op (map (renamed from to) (operands op))

-- operations with one value put for another in each operand of each
abbrev pub renamed_list : {Op : Type 0} → (Op → List ℕ) → (Op → List ℕ → Op) → ℕ → ℕ → List (ℕ × Op) → List (ℕ × Op)
renamed_list operands with_operands from to list =
    map (λ entry. (entry.0, renamed_in operands with_operands from to entry.1)) list

-- the graph with one value put for another in each operand of each operation
abbrev pub uses_replaced : {Op : Type 0} → (Op → List ℕ) → (Op → List ℕ → Op) → Operations Op → ℕ → ℕ → Operations Op
uses_replaced operands with_operands graph from to = record {
  list = renamed_list operands with_operands from to graph.list;
  made = graph.made;
}

-- the uses of a value among operands whose places are counted from `place`: the user, and the operand's place
abbrev pub uses_from : ℕ → ℕ → List ℕ → ℕ → List (ℕ × ℕ)
uses_from place user operands value =
    map (λ held. (user, held.0)) (filter (λ held. held.1 == value) (enumerate_from place operands))

-- the uses of a value, operation after operation: each user with each place among its operands that holds the value
abbrev pub uses_of : {Op : Type 0} → (Op → List ℕ) → List (ℕ × Op) → ℕ → List (ℕ × ℕ)
uses_of operands list value = flat_map (λ entry. uses_from 0 entry.0 (operands entry.1) value) list

-- one use comes before another: by the user's number, and then by the operand's place
abbrev pub ComesBefore : ℕ × ℕ → ℕ × ℕ → Type 0
ComesBefore first last = (first.0 < last.0) ⊎ ((first.0 ≡ last.0) × (first.1 < last.1))

-- uses are sorted, each once
abbrev pub AreSorted : List (ℕ × ℕ) → Type 0
AreSorted uses = AllPairs ComesBefore uses
