-- Programs that keep the checks of types and are within the limits.
use Rattle.std.specs.Prelude.{ℕ, ◌≤◌, Bool, false, length, count_by}
use Rattle.ir_core.specs.Graph.{IsGraph}
use Rattle.ir_core.specs.Placed.{IsPlaced}
use Rattle.forms.specs.Limits.{most_inputs, most_outs}
use Rattle.fhe_level.specs.declared.level.FheOp.{FheOp}
use Rattle.fhe_level.specs.declared.level.FheOp.TheVariants.{Apply}
use Rattle.fhe_level.specs.declared.program.Program.{Program}
use Rattle.fhe_level.specs.Limits.{is_table_name, most_look_ups}
use Rattle.fhe_level.specs.Operations.{operands_of}
use Rattle.fhe_level.specs.Clearing.{IsFhe}

-- a look-up
abbrev pub looks_up : ℕ × FheOp → Bool
looks_up (number, Apply name operands ty) = is_table_name name
looks_up _ = false

-- a program as its types ask, whose numbers are places and whose operands come first, within the limits of arguments,
-- results and look-ups
pub record IsChecked (program : Program) : Type 0 where
  pub fhe : IsFhe program
  pub placed : IsPlaced program.graph
  -- each operand stands before its user
  pub graph : IsGraph operands_of program.graph
  pub inputs : length program.args ≤ most_inputs
  pub some_result : 1 ≤ length program.results
  pub results : length program.results ≤ most_outs
  pub look_ups : count_by looks_up program.graph.list ≤ most_look_ups
