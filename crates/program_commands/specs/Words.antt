-- The words of the commands on programs.
use Rattle.std.specs.Prelude.{List, [], ◌∷◌}
use Rattle.port_store.specs.Files.{Bytes}
use Rattle.program_commands.specs.declared.clear.ClearNames.{ClearNames}
use Rattle.program_commands.specs.declared.compile.CompileNames.{CompileNames}

-- those of `clear PROGRAM VALUES`
pub record ClearWords : Type 0 where
  pub program : Bytes
  pub values : Bytes

-- what names stand for
abbrev pub clear_view : ClearNames → ClearWords
clear_view names = record { program = names.program.now; values = names.values.now }

-- all files that `clear` names, in the order in which they are read
abbrev pub clear_files : ClearWords → List Bytes
clear_files words = words.program ∷ words.values ∷ []

-- those of `compile PROGRAM TABLE CIRCUIT CERT`, and of `check`
pub record CompileWords : Type 0 where
  pub program : Bytes
  pub table : Bytes
  pub circuit : Bytes
  pub cert : Bytes

-- what names stand for
abbrev pub compile_view : CompileNames → CompileWords
compile_view names = record {
  program = names.program.now;
  table = names.table.now;
  circuit = names.circuit.now;
  cert = names.cert.now;
}

-- all files that `compile` and `check` name, in the order in which they are read and written
abbrev pub compile_files : CompileWords → List Bytes
compile_files words = words.program ∷ words.table ∷ words.cert ∷ words.circuit ∷ []
