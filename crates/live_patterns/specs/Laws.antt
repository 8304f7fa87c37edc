-- What holds of live patterns.
use Rattle.std.specs.Prelude.{◌≡◌, List, ℤ}
use Rattle.ap_level.specs.declared.level.ApOp.{ApOp}
use Rattle.ap_level.specs.Patterns.{clear_values, argument_ranges}
use Rattle.ap_level.specs.Rules.{ArePatterns}
use Rattle.live_patterns.specs.Found.{AreFound}
use Rattle.live_patterns.specs.Live.{live_patterns}

-- the live ones of patterns that were found
pub record LiveLaws : Type 0 where
  -- give the same results, whatever the inputs are,
  pub values : (operations : List ApOp) (inputs : List ℤ) → AreFound operations
      → clear_values (live_patterns operations) inputs ≡ clear_values operations inputs
  -- have the same arguments,
  pub inputs : (operations : List ApOp) → AreFound operations
      → argument_ranges (live_patterns operations) ≡ argument_ranges operations
  -- and keep the rules of patterns: each look-up has a user
  pub rules : (operations : List ApOp) → AreFound operations → ArePatterns (live_patterns operations)
