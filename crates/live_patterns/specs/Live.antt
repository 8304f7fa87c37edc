-- The patterns that results hang on.
use Rattle.std.specs.Prelude.{ℕ, ◌+◌, Bool, true, List, [], ◌∷◌, map, if◌then◌else◌}
use Rattle.std.specs.List.{list_any}
use Rattle.ir_core.specs.Graph.{place_of}
use Rattle.ap_level.specs.declared.level.ApOp.{ApOp}
use Rattle.ap_level.specs.declared.level.ApOp.TheVariants.{Look}
use Rattle.ap_level.specs.Operations.{operands_of, with_operands}
use Rattle.ap_level.specs.Rules.{is_user_of}

-- ---- which ones stay

-- one of these operations, each of which has its number beside it, has a term on this number
abbrev pub is_used : ℕ → List (ℕ × ApOp) → Bool
is_used number operations = list_any (λ entry. is_user_of number entry.1) operations

-- a look-up is live where a live one or a result behind it has a term on it; arguments and results always stay
abbrev pub is_live : ℕ → ApOp → List (ℕ × ApOp) → Bool
is_live number (Look constant terms entries) later = is_used number later
is_live number _ later = true

-- an operation in front of those that stay, unless it is dropped
abbrev pub with_live : ℕ → ApOp → List (ℕ × ApOp) → List (ℕ × ApOp)
with_live number op later = if is_live number op later then (number, op) ∷ later else later

-- the ones of these operations that stay, in front of those that stay behind them: each with its number, which is
-- counted from this one on
abbrev pub kept_before : ℕ → List ApOp → List (ℕ × ApOp) → List (ℕ × ApOp)
kept_before number [] later = later
kept_before number (op ∷ operations) later = with_live number op (kept_before (number + 1) operations later)

-- the operations that stay, each with its number
abbrev pub kept_of : List ApOp → List (ℕ × ApOp)
kept_of operations = kept_before 0 operations []

-- ---- their new numbers

-- an operation whose operands are numbered anew
abbrev pub renumbered : (ℕ → ℕ) → ApOp → ApOp
renumbered numbering op = with_operands op (map numbering (operands_of op))

-- the operations that stay, each operand under its place among them
abbrev pub in_places : List (ℕ × ApOp) → List (ℕ × ApOp) → List ApOp
in_places all kept = map (λ entry. renumbered (place_of all) entry.1) kept

-- the live ones of these patterns, with the arguments and the results, numbered in their order
abbrev pub live_patterns : List ApOp → List ApOp
live_patterns operations = in_places (kept_of operations) (kept_of operations)
