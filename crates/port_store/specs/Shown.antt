-- What a store has shown of its files.
use Rattle.std.specs.Prelude.{◌≡◌, ℕ, ◌==◌, ◌&&◌, if◌then◌else◌, List, [], ◌∷◌, ◌++◌, length, take, Option, Some, Result, Ok, Err}
use Rattle.std.specs.Str.{bytes_eq}
use Rattle.port_store.specs.Files.{Bytes}
use Rattle.port_store.specs.declared.fault.PortFault.{PortFault}

-- what was shown of a file since its size was asked: its name, its first bytes, and how many it has
pub record Shown : Type 0 where
  pub name : Bytes
  pub bytes : Bytes
  pub size : ℕ

-- of a file whose size alone was shown
abbrev pub sized : Bytes → ℕ → Shown
sized name size = record { name = name; bytes = []; size = size }

-- of a file that was shown to its end
abbrev pub whole : Bytes → Bytes → Shown
whole name bytes = record { name = name; bytes = bytes; size = length bytes }

-- how a call changes an account, where one is kept; the newest stands first
abbrev pub Accounts : (List Shown → List Shown) → Option (List Shown) → Option (List Shown) → Type 0
Accounts step before after = (account : List Shown) → before ≡ Some account → after ≡ Some (step account)

-- the account after a call of `size`
abbrev pub after_size : Bytes → Result ℕ PortFault → List Shown → List Shown
after_size name (Ok size) account = sized name size ∷ account
after_size name (Err fault) account = account

-- the next bytes of a file; where none came, it ends there
abbrev pub continued : Shown → Bytes → Shown
continued shown [] = whole shown.name shown.bytes
continued shown (byte ∷ bytes) = record shown { bytes = shown.bytes ++ byte ∷ bytes }

-- the account after bytes came from a place on: they are kept where they go on from those shown last
abbrev pub after_piece : Bytes → ℕ → Bytes → List Shown → List Shown
after_piece name at piece [] = []
after_piece name at piece (shown ∷ account) =
    (if bytes_eq shown.name name && length shown.bytes == at then continued shown piece else shown) ∷ account

-- the account after a call of `read_at`, which says nothing where the buffer had no room
abbrev pub after_read_at : Bytes → ℕ → Bytes → Result ℕ PortFault → List Shown → List Shown
after_read_at name at buffer (Err fault) account = account
after_read_at name at buffer (Ok count) account =
    if length buffer == 0 then account else after_piece name at (take count buffer) account
