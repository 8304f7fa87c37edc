use Rattle.std.proofs.Common.{◌≡◌, ◌≤◌, length, take}
use Rattle.circuit_lines.specs.Many.{StandsAt}
use Rattle.circuit_nodes.specs.Walk.{walk_from}
use Rattle.circuit_file.specs.Walks.{line_at, lines_at}
use Rattle.circuit_file.proofs.walks.walk_over.Given as goal

-- the walk over the lines so far
abbrev pub invariant-loop-index : goal.invariant-loop-index
invariant-loop-index l = record {
  stands : StandsAt (line_at l.part) (length l.bytes) l.line l.bytes l.index l.rest;
  walk : l.walk ≡ walk_from l.initial.walk (take l.index (lines_at l.part l.line l.bytes).0);
  count : l.count ≡ l.index;
  many : length (take l.index (lines_at l.part l.line l.bytes).0) ≡ l.index;
  left : length l.rest ≤ length l.bytes;
}
