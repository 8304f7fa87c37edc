-- How a store in memory keeps its files.
use Rattle.std.specs.Prelude.{ℕ, map}
use Rattle.std.specs.Global.{Global}
use Rattle.std.specs.String.{string_bytes}
use Rattle.std.specs.declared.vec.Vec.{Vec}
use Rattle.std.specs.declared.string.String.{String}
use Rattle.std.specs.BTreeMap.{BTreeMap}
use Rattle.std.specs.FinMap.{from_entries}
use Rattle.port_store.specs.Files.{Files}

-- the files that a map from names to bytes stands for
unfoldable pub files_of : BTreeMap (String Global) (Vec ℕ Global) → Files
files_of kept = from_entries (map (λ entry. (string_bytes entry.0, entry.1.items)) kept.entries)
