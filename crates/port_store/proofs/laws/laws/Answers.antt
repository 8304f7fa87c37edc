use Rattle.port_store.proofs.Told.{get-insert-same, get-insert-other, insert-same}
use Rattle.port_store.proofs.laws.laws.Goals as goal

pub returns : goal.returns
returns c = record { put_is_there = get-insert-same; others_stay = get-insert-other; put_again = insert-same }
