use Rattle.std.proofs.Common.{length}
use Rattle.std.specs.Prelude.{reverse}
use Rattle.ir_core.specs.Placed.{IsPlaced}
use Rattle.ap_level.specs.Patterns.{patterns_of}
use Rattle.live_patterns.specs.Found.{found_patterns}
use Rattle.live_patterns.specs.Live.{kept_of}
use Rattle.live_patterns.proofs.Steps.{IsUnderway}
use Rattle.live_patterns.proofs.renumbering.kept.Given as goal

-- those that are kept and not taken yet are left to be numbered anew
abbrev pub invariant-loop-number : goal.invariant-loop-number
invariant-loop-number l = record {
  graph : IsPlaced l.renumbering.program.graph;
  underway : IsUnderway (kept_of (found_patterns l.fn.patterns)) (reverse l.kept.items) (patterns_of l.renumbering.program)
      l.renumbering.places.items l.renumbering.ranges.items l.renumbering.program.width;
}

abbrev pub decreases-loop-number : goal.decreases-loop-number
decreases-loop-number l = length l.kept.items
