use Rattle.word_ring.proofs.RowRing.{row_ring}
use Rattle.word_ring.proofs.RowTotals.{row_sizes, row_totals, weighted}
use Rattle.word_ring.proofs.laws.laws.Goals as goal

pub returns-clause-row_ring : goal.returns-clause-row_ring
returns-clause-row_ring _ = row_ring

pub returns-clause-row_sizes : goal.returns-clause-row_sizes
returns-clause-row_sizes _ = row_sizes

pub returns-clause-row_totals : goal.returns-clause-row_totals
returns-clause-row_totals _ = row_totals

pub returns-clause-combined : goal.returns-clause-combined
returns-clause-combined _ = weighted
