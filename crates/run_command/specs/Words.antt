-- The words of `run`.
use Rattle.std.specs.Prelude.{List, [], ◌∷◌, ◌++◌}
use Rattle.port_store.specs.Files.{Bytes}
use Rattle.command_files.specs.Files.{eval_files}
use Rattle.run_command.specs.declared.command.RunNames.{RunNames}

-- those of `run CIRCUIT EVAL CIPHER OUTPUT`
pub record RunWords : Type 0 where
  pub circuit : Bytes
  pub eval : Bytes
  pub cipher : Bytes
  pub output : Bytes

-- what names stand for
abbrev pub run_view : RunNames → RunWords
run_view names =
    record { circuit = names.circuit.now; eval = names.eval.now; cipher = names.cipher.now; output = names.output.now }

-- the files that are read, in order; the word `-` for EVAL is no file
abbrev pub read_files : RunWords → List Bytes
read_files words = words.circuit ∷ (eval_files words.eval ++ words.cipher ∷ [])

-- all files that `run` names
abbrev pub run_files : RunWords → List Bytes
run_files words = read_files words ++ words.output ∷ []
