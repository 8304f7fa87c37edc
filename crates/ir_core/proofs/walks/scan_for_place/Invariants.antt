use Rattle.std.proofs.Common.{◌≡◌, ◌+◌, drop}
use Rattle.ir_core.specs.Graph.{place_of}
use Rattle.ir_core.proofs.walks.scan_for_place.Given as goal

-- the value stands at none of the places so far
abbrev pub invariant-loop-place : goal.invariant-loop-place
invariant-loop-place g l = place_of l.entries l.value ≡ l.place + place_of (drop l.place l.entries) l.value
