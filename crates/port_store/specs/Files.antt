-- What a store and a sink hold, where they tell it, and what one call makes of it.
use Rattle.std.specs.Prelude.{◌≡◌, ℕ, ◌-◌, ◌≤◌, ◌<◌, List, [], ◌++◌, length, take, drop, Option, Some, None, MatchOption, IsSome, IsNone, ◌⊎◌}
use Rattle.std.specs.Ordering.{nat_cmp}
use Rattle.std.specs.Cmp.Lexicographic.{slice_cmp}
use Rattle.std.specs.FinMap.{FinMap, get, insert}

-- the bytes of a file, or of a name
abbrev pub Bytes : Type 0
Bytes = List ℕ

-- the files of a store: a finite map from names to bytes
abbrev pub Files : Type 0
Files = FinMap (slice_cmp nat_cmp) Bytes

-- how a call changes what is told: one that tells goes on telling, and one that tells nothing goes on so
abbrev pub Told : {A : Type 0} → (A → A → Type 0) → Option A → Option A → Type 0
Told step None None = Unit {0}
Told step None (Some after) = ⊥
Told step (Some before) None = ⊥
Told step (Some before) (Some after) = step before after

-- the name is not known to be missing: the store tells nothing, or it tells a file of that name
abbrev pub MayHold : Option Files → Bytes → Type 0
MayHold None name = Unit {0}
MayHold (Some files) name = IsSome (get files name)

-- the store tells its files, and none has the name
abbrev pub IsMissing : Option Files → Bytes → Type 0
IsMissing None name = ⊥
IsMissing (Some files) name = IsNone (get files name)

-- the fact holds of the bytes of the file, which is there, where the store tells its files
abbrev pub OfFile : Option Files → Bytes → (Bytes → Type 0) → Type 0
OfFile None name P = Unit {0}
OfFile (Some files) name P = MatchOption (get files name) ⊥ P

-- count bytes were copied from the place in a file to the front of the buffer: at least one where one is left and the
-- buffer has room, and none at the end or past it
pub record Copies (bytes : Bytes) (at : ℕ) (buffer : Bytes) (count : ℕ) : Type 0 where
  pub copied : take count buffer ≡ take count (drop at bytes)
  pub inside : count ≤ length bytes - at
  pub some : at < length bytes → 0 < length buffer → 0 < count

-- the file is there and empty
abbrev pub IsCreated : Bytes → Files → Files → Type 0
IsCreated name before after = after ≡ insert before name []

-- the old state, or an empty file
abbrev pub MayBeCreated : Bytes → Files → Files → Type 0
MayBeCreated name before after = (after ≡ before) ⊎ IsCreated name before after

-- the file, which is there, has the piece at its end
abbrev pub IsAppended : Bytes → Bytes → Files → Files → Type 0
IsAppended name piece before after =
    MatchOption (get before name) ⊥ (λ bytes. after ≡ insert before name (bytes ++ piece))

-- the file has the beginning of the piece at its end; one that is missing stays so
abbrev pub MayBeAppended : Bytes → Bytes → Files → Files → Type 0
MayBeAppended name piece before after = MatchOption (get before name) (after ≡ before)
    (λ bytes. (kept : ℕ) × (after ≡ insert before name (bytes ++ take kept piece)))

-- the file holds these bytes and no others
abbrev pub IsWritten : Bytes → Bytes → Files → Files → Type 0
IsWritten name bytes before after = after ≡ insert before name bytes

-- the old state, or a file that holds the beginning of these bytes
abbrev pub MayBeWritten : Bytes → Bytes → Files → Files → Type 0
MayBeWritten name bytes before after = (after ≡ before) ⊎ ((kept : ℕ) × (after ≡ insert before name (take kept bytes)))

-- the sink has taken the piece
abbrev pub IsPut : Bytes → Bytes → Bytes → Type 0
IsPut piece before after = after ≡ before ++ piece

-- the sink has taken the beginning of the piece
abbrev pub MayBePut : Bytes → Bytes → Bytes → Type 0
MayBePut piece before after = (kept : ℕ) × (after ≡ before ++ take kept piece)
