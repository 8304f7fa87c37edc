-- What holds of the patterns of a program.
use Rattle.std.specs.Prelude.{◌≡◌, List, Ok, ℤ}
use Rattle.forms.specs.Forms.{AreIn}
use Rattle.ap_level.specs.declared.level.ApOp.{ApOp}
use Rattle.ap_level.specs.Patterns.{argument_ranges}
use Rattle.ap_level.specs.Patterns as on_patterns
use Rattle.ap_level.specs.Rules.{ArePatterns}
use Rattle.fhe_level.specs.declared.program.Program.{Program}
use Rattle.fhe_level.specs.Programs.{clear_values}
use Rattle.fhe_level.specs.Clearing.{IsClear}
use Rattle.fhe_level.specs.Checked.{IsChecked}
use Rattle.pattern_pass.specs.Formed.{formed}

-- the patterns of a program that keeps the checks of types
pub record FormedLaws : Type 0 where
  -- keep the rules of patterns,
  pub rules : (program : Program) (operations : List ApOp) → IsChecked program → formed program ≡ Ok operations
      → ArePatterns operations
  -- have its arguments,
  pub arguments : (program : Program) (operations : List ApOp) → IsChecked program → formed program ≡ Ok operations
      → argument_ranges operations ≡ program.args
  -- and compute what it computes, for all arguments in their ranges
  pub values : (program : Program) (operations : List ApOp) (inputs : List ℤ) → IsChecked program
      → formed program ≡ Ok operations → AreIn program.args inputs
      → on_patterns.clear_values operations inputs ≡ clear_values program inputs
  -- so the program can be computed: the number of each operation lies in its type
  pub clear : (program : Program) (operations : List ApOp) (inputs : List ℤ) → IsChecked program
      → formed program ≡ Ok operations → AreIn program.args inputs → IsClear program inputs
