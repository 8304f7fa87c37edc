-- `compile`: the certificate and the circuit of a program and a table.
use Rattle.std.specs.Prelude.{List, [], ◌∷◌, Option, Some, None, Result}
use Rattle.refusals.specs.Reading.{◌>>=◌}
use Rattle.port_store.specs.Files.{Bytes, Files}
use Rattle.tfhe_level.specs.declared.shape.Circuit.{Circuit}
use Rattle.compile_pipe.specs.Back.{CompiledTexts}
use Rattle.command_forms.specs.declared.fault.Fault.{Fault}
use Rattle.command_forms.specs.declared.status.Status.{Status}
use Rattle.command_forms.specs.declared.status.Status.TheVariants as status
use Rattle.command_forms.specs.Outcome.{FileWrite, Outcome, file_write, outcome_from, wrote_all}
use Rattle.program_commands.specs.Words.{CompileWords}
use Rattle.program_commands.specs.Programs.{front_from, compiled_from}

-- the certificate and the circuit that the files give
unfoldable pub compiled : CompileWords → Files → Result CompiledTexts Fault
compiled words files = do
  front ← front_from words.program files
  compiled_from front.shape words.table files

-- the answer: whether there is a choice
abbrev pub answer_with : Option (Circuit × Bytes) → Status
answer_with None = status.NoChoice
answer_with (Some circuit) = status.Ok

-- the file of the circuit, where there is one
abbrev pub circuit_writes : Bytes → Option (Circuit × Bytes) → List FileWrite
circuit_writes name None = []
circuit_writes name (Some circuit) = file_write name circuit.1 ∷ []

-- the certificate was written, and then the circuit, where there is one
abbrev pub wrote_compiled : CompileWords → CompiledTexts → Outcome
wrote_compiled words found =
    wrote_all (answer_with found.circuit) (file_write words.cert found.cert ∷ circuit_writes words.circuit found.circuit)

-- reads PROGRAM and TABLE, and writes CERT and, where there is a choice, CIRCUIT
abbrev pub compile_outcome : CompileWords → Files → Outcome
compile_outcome words files = outcome_from (wrote_compiled words) (compiled words files)
