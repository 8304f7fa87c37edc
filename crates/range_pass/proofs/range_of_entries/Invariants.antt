use Rattle.std.proofs.Common.{◌≡◌, take, get_or, pos}
use Rattle.std.specs.Prelude.{fold}
use Rattle.std.specs.Int.{int_min, int_max}
use Rattle.range_pass.proofs.range_of_entries.Given as goal

-- the ends of the entries so far
abbrev pub invariant-loop-entry : goal.invariant-loop-entry
invariant-loop-entry l = record {
  least : l.least ≡ fold int_min (get_or l.entries 0 (pos 0)) (take l.entry-index l.others);
  greatest : l.greatest ≡ fold int_max (get_or l.entries 0 (pos 0)) (take l.entry-index l.others);
}
