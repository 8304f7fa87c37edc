use Rattle.std.proofs.Common.{length, ◌-◌, ◌≡◌, ◌≤◌, take}
use Rattle.port_store.specs.Files.{Told, IsWritten}
use Rattle.port_store.proofs.whole.write_whole.Given as goal

-- the file holds the bytes that were written so far, and no count has changed
abbrev pub invariant-loop-written : goal.invariant-loop-written
invariant-loop-written g l =
    let store = g.S.Store in
    record {
      room : l.written ≤ length l.bytes;
      told : Told (IsWritten l.name (take l.written l.bytes)) (store.files l.fn.store) (store.files l.store);
      reads : store.read_faults l.store ≡ store.read_faults l.fn.store;
      writes : store.write_faults l.store ≡ store.write_faults l.fn.store;
      account : store.shown l.store ≡ store.shown l.fn.store;
    }

abbrev pub decreases-loop-written : goal.decreases-loop-written
decreases-loop-written g l = length l.bytes - l.written
