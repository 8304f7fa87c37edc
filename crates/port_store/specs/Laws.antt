-- What holds of the files of a store: a file that is put under a name is there, and nothing else changes.
use Rattle.std.specs.Prelude.{◌≡◌, false, Some}
use Rattle.std.specs.Str.{bytes_eq}
use Rattle.std.specs.FinMap.{get, insert}
use Rattle.port_store.specs.Files.{Bytes, Files}

pub record FilesLaws : Type 0 where
  -- the file that was put is there
  pub put_is_there : (files : Files) (name bytes : Bytes) → get (insert files name bytes) name ≡ Some bytes
  -- files of other names stay
  pub others_stay : (files : Files) (name bytes other : Bytes) → bytes_eq other name ≡ false
      → get (insert files name bytes) other ≡ get files other
  -- to put a file that is there is to change nothing
  pub put_again : (files : Files) (name bytes : Bytes) → get files name ≡ Some bytes → insert files name bytes ≡ files
