use Rattle.std.proofs.Common.{◌≡◌, length, take}
use Rattle.word_ring.specs.Rows.{combined, rows_at}
use Rattle.word_ring.proofs.combination.combine.Given as goal

-- the terms so far are added, and the shape is kept
abbrev pub invariant-loop-weight : goal.invariant-loop-weight
invariant-loop-weight g l = record {
  shape : g.T.Lin.shape l.into ≡ g.T.Lin.shape l.initial.into;
  words : g.T.Lin.words l.into ≡ combined (g.T.Lin.words l.initial.into) (take (length l.yielded) l.weights) (take (length l.yielded) (rows_at g.T.Lin.words l.values l.places));
}
