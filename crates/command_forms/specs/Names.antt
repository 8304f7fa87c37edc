-- The names of files on a command line.
use Rattle.std.specs.Prelude.{Bool, true, not, ◌&&◌, List, [], ◌∷◌, codes}
use Rattle.std.specs.List.{list_any}
use Rattle.std.specs.Str.{bytes_eq}
use Rattle.port_store.specs.Files.{Bytes}

-- no name stands twice
abbrev pub are_distinct : List Bytes → Bool
are_distinct [] = true
are_distinct (name ∷ names) = not (list_any (bytes_eq name) names) && are_distinct names

-- the word that stands for no evaluation keys
abbrev pub is_no_eval : Bytes → Bool
is_no_eval word = bytes_eq word (codes "-")
