use Rattle.std.proofs.Common.{length, ◌-◌, ◌≡◌, ◌≤◌, take, List, ◌∷◌, Some}
use Rattle.port_store.specs.Files.{OfFile}
use Rattle.port_store.specs.Shown.{Shown, sized}
use Rattle.port_store.proofs.Accounts.{shown_so_far}
use Rattle.port_store.proofs.whole.fill.Given as goal

-- the front of the buffer is the front of the file, and what the account says of it, and nothing else has changed
abbrev pub invariant-loop-filled : goal.invariant-loop-filled
invariant-loop-filled g l =
    let store = g.S.Store in
    record {
      room : l.filled ≤ length l.buffer;
      content : OfFile (store.files l.fn.store) l.name (λ bytes. take l.filled l.buffer ≡ take l.filled bytes);
      account : (account : List Shown) → store.shown l.fn.store ≡ Some (sized l.name (length l.buffer) ∷ account) → store.shown l.store ≡ Some (shown_so_far l.name (length l.buffer) (take l.filled l.buffer) ∷ account);
      files : store.files l.store ≡ store.files l.fn.store;
      reads : store.read_faults l.store ≡ store.read_faults l.fn.store;
      writes : store.write_faults l.store ≡ store.write_faults l.fn.store;
    }

abbrev pub decreases-loop-filled : goal.decreases-loop-filled
decreases-loop-filled g l = length l.initial.buffer - l.filled
