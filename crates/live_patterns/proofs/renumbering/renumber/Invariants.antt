use Rattle.std.proofs.Common.{◌≡◌, ◌++◌, take, drop, map}
use Rattle.std.specs.List.{slice_index}
use Rattle.ap_level.specs.Operations.{operands_of, with_operands}
use Rattle.live_patterns.proofs.renumbering.renumber.Given as goal

-- the operands so far are places, and the others are as they were
abbrev pub invariant-loop-at : goal.invariant-loop-at
invariant-loop-at l =
    l.op ≡ with_operands l.fn.op (map (slice_index l.places) (take l.at (operands_of l.fn.op)) ++ drop l.at (operands_of l.fn.op))
