-- The names of the files of a command.
use Rattle.std.proofs.Common.{◌≡◌, true, false, not, [], ◌∷◌}
use Rattle.std.specs.List.{list_any}
use Rattle.std.specs.Str.{bytes_eq}
use Rattle.std.proofs.lemmas.Bool.{and_parts}
use Rattle.port_store.specs.Files.{Bytes}
use Rattle.command_forms.specs.Names.{are_distinct}
use Rattle.command_forms.specs.StepLemmas.{distinct_parts, or_parts, not_parts}
use Rattle.program_commands.specs.Words.{CompileWords, compile_files}

-- the files that are read have distinct names
pub read_apart : (words : CompileWords) → are_distinct (compile_files words) ≡ true → are_distinct (words.program ∷ words.table ∷ []) ≡ true
read_apart words apart = (distinct_parts (words.program ∷ words.table ∷ []) (words.cert ∷ words.circuit ∷ []) apart).0

two_apart : (a b : Bytes) → are_distinct (a ∷ b ∷ []) ≡ true → bytes_eq a b ≡ false
two_apart a b e = (or_parts (bytes_eq a b) false (not_parts _ (and_parts (not (list_any (bytes_eq a) (b ∷ []))) (are_distinct (b ∷ [])) e).0)).0

-- so have those that are written
pub written_apart : (words : CompileWords) → are_distinct (compile_files words) ≡ true → bytes_eq words.cert words.circuit ≡ false
written_apart words apart =
    two_apart words.cert words.circuit (distinct_parts (words.program ∷ words.table ∷ []) (words.cert ∷ words.circuit ∷ []) apart).1
