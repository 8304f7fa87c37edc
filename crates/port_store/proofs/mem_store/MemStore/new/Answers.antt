use Rattle.port_store.proofs.KeptLemmas.{files_of-empty}
use Rattle.port_store.proofs.mem_store.MemStore.new.Goals as goal

pub returns : goal.returns
returns c = rw (files_of-empty c.new.result c.new.ensures.empty, c.new-2.ensures.items)
