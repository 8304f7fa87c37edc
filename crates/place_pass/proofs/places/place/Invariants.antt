use Rattle.std.proofs.Common.{◌≡◌, drop}
use Rattle.ir_core.specs.Placed.{IsPlaced}
use Rattle.ap_level.specs.Patterns.{patterns_of}
use Rattle.place_pass.specs.Placing.{place_ops, nothing_placed}
use Rattle.place_pass.specs.Placements.{placement_of, CanFinish}
use Rattle.place_pass.proofs.Walk.{Goes}
use Rattle.place_pass.proofs.places.place.Given as goal

-- the rest may be put, and leads to the whole
abbrev pub invariant-loop-number : goal.invariant-loop-number
invariant-loop-number l = record {
  graph : IsPlaced l.places.shape.graph;
  width : l.places.shape.width ≡ l.ap.width;
  goes : Goes CanFinish (placement_of l.places) (drop l.number (patterns_of l.ap));
  rest : place_ops (placement_of l.places) (drop l.number (patterns_of l.ap)) ≡ place_ops nothing_placed (patterns_of l.ap);
}
