use Rattle.std.proofs.Common.{arith}
use Rattle.port_store.proofs.KeptLemmas.{extended-nothing, MayBeAppended-nothing}
use Rattle.port_store.proofs.mem_store.MemStoreStore.append.Goals as goal

pub returns-in_default-clause-after : goal.returns-in_default-clause-after
returns-in_default-clause-after c = grind (arith, extended-nothing c.args.self.now.files c.args.name.now)

pub returns-in_default-clause-err : goal.returns-in_default-clause-err
returns-in_default-clause-err c = let m = MayBeAppended-nothing c.args.self.now.files c.args.name.now c.args.bytes.now in grind (arith, m)

pub returns-in_err-add-clause-after : goal.returns-in_err-add-clause-after
returns-in_err-add-clause-after c = grind (arith, extended-nothing c.args.self.now.files c.args.name.now)

pub returns-in_err-add-clause-err : goal.returns-in_err-add-clause-err
returns-in_err-add-clause-err c = let m = MayBeAppended-nothing c.args.self.now.files c.args.name.now c.args.bytes.now in grind (arith, m)
