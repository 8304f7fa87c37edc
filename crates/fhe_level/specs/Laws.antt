-- What holds of the values of operations, and of the programs that keep the checks.
use Rattle.std.specs.Prelude.{◌≡◌, ℕ, ◌<◌, ◌≤◌, ℤ, List, length, take, Some, None}
use Rattle.std.specs.List.{slice_get}
use Rattle.ir_core.specs.Graph.{place_of}
use Rattle.fhe_level.specs.declared.level.FheOp.{FheOp}
use Rattle.fhe_text.specs.declared.source.Source.{Source}
use Rattle.fhe_text.specs.Spellable.{IsSpellable}
use Rattle.fhe_level.specs.declared.program.Program.{Program}
use Rattle.fhe_level.specs.Limits.{limit_fault}
use Rattle.fhe_level.specs.Programs.{value_at, value_of, operation_values, IsTyped}
use Rattle.fhe_level.specs.Checked.{IsChecked}

-- values hang on the operations before, wherever these stand
pub record ValueLaws : Type 0 where
  -- the value of an operation comes from those of the operations before its place,
  pub here : (inputs : List ℤ) (operations : List (ℕ × FheOp)) (wanted : ℕ) (op : FheOp)
      → slice_get operations (place_of operations wanted) ≡ Some (wanted, op)
      → value_at (operation_values operations inputs) wanted
      ≡ value_of inputs (operation_values (take (place_of operations wanted) operations) inputs) op
  -- which have there the values that they have among all;
  pub before : (inputs : List ℤ) (operations : List (ℕ × FheOp)) (place wanted : ℕ)
      → place_of operations wanted < place → place ≤ length operations
      → value_at (operation_values (take place operations) inputs) wanted
      ≡ value_at (operation_values operations inputs) wanted
  -- there are as many values as operations
  pub count : (inputs : List ℤ) (operations : List (ℕ × FheOp)) (place : ℕ) → place ≤ length operations
      → length (operation_values (take place operations) inputs) ≡ place

-- what the checks let through
pub record CheckLaws : Type 0 where
  -- the program of a source that has a text and is within the limits is as its types ask, and within the limits
  pub checked : (source : Source) (program : Program) → IsSpellable source → limit_fault source ≡ None
      → IsTyped source program → IsChecked program
