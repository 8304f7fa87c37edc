-- What holds of the circuit of patterns.
use Rattle.std.specs.Prelude.{◌≡◌, ℕ, List, ℤ}
use Rattle.ap_level.specs.declared.level.ApOp.{ApOp}
use Rattle.ap_level.specs.Patterns.{argument_ranges}
use Rattle.ap_level.specs.Patterns as patterns_values
use Rattle.ap_level.specs.Rules.{ArePatterns}
use Rattle.ap_level.specs.Rules as patterns_rules
use Rattle.forms.specs.Ranges.{IsLeastWidth}
use Rattle.tfhe_level.specs.Rules.{message_ranges, AreNodes}
use Rattle.tfhe_level.specs.Nodes.{clear_values}
use Rattle.tfhe_level.specs.Laws.{input_ranges}
use Rattle.place_pass.specs.Placing.{placed_nodes}

-- the circuit of patterns that keep their rules
pub record PlaceLaws : Type 0 where
  -- computes what they compute, whatever the inputs are,
  pub values : (operations : List ApOp) (inputs : List ℤ) → ArePatterns operations
      → clear_values (placed_nodes operations) inputs ≡ patterns_values.clear_values operations inputs
  -- has their arguments as its inputs,
  pub inputs : (operations : List ApOp) → ArePatterns operations
      → input_ranges (placed_nodes operations) ≡ argument_ranges operations
  -- its nodes keep the rules of circuits,
  pub nodes : (operations : List ApOp) → ArePatterns operations → AreNodes (placed_nodes operations)
  -- and its least width is that of the patterns
  pub width : (operations : List ApOp) (width : ℕ) → ArePatterns operations
      → IsLeastWidth (patterns_rules.message_ranges operations) width
      → IsLeastWidth (message_ranges (placed_nodes operations)) width
