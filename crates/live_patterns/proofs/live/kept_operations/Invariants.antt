use Rattle.std.proofs.Common.{◌≡◌, ◌≤◌, length}
use Rattle.std.specs.Prelude.{reverse}
use Rattle.live_patterns.specs.Live.{kept_before, kept_of}
use Rattle.live_patterns.specs.Renumbering.{AreMarks, HaveEarlier}
use Rattle.live_patterns.proofs.live.kept_operations.Given as goal

-- what stays of the rest, in front of what stays so far, is the whole
abbrev pub invariant-loop-op : goal.invariant-loop-op
invariant-loop-op l = record {
  whole : kept_before 0 l.operations.items (reverse l.kept.items) ≡ kept_of l.fn.operations.items;
  marks : AreMarks l.used.items (reverse l.kept.items);
  count : length l.operations.items ≤ length l.used.items;
  few : length l.operations.items ≤ length l.fn.operations.items;
  earlier : HaveEarlier 0 l.operations.items;
}

abbrev pub decreases-loop-op : goal.decreases-loop-op
decreases-loop-op l = length l.operations.items
