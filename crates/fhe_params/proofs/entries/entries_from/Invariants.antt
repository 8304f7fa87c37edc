use Rattle.std.proofs.Common.{◌≡◌, map}
use Rattle.toml.specs.View.{view}
use Rattle.fhe_params.specs.TableReading.{entries_from}
use Rattle.fhe_params.proofs.EntryWalk.{after_front, rest_from}
use Rattle.fhe_params.proofs.entries.entries_from.Given as goal

abbrev pub invariant-loop-at : goal.invariant-loop-at
invariant-loop-at g l = after_front l.entries.items (rest_from g.E.Entry.entry_of l.list l.at l.values) ≡ entries_from g.E.Entry.entry_of l.list 0 (map view l.values)
