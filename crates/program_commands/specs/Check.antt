-- `check`: whether a circuit and a certificate are those of a program and a table.
use Rattle.std.specs.Prelude.{ℕ, [], Option, Some, None, Result, Ok, Err, if◌then◌else◌}
use Rattle.refusals.specs.Reading.{◌>>=◌}
use Rattle.port_store.specs.Files.{Bytes, Files}
use Rattle.tfhe_level.specs.declared.shape.Circuit.{Circuit}
use Rattle.circuit_file.specs.Limits.{circuit_limit}
use Rattle.cost_cert.specs.Check.{is_same, line_apart}
use Rattle.cost_cert.specs.Limits.{cert_limit}
use Rattle.command_forms.specs.declared.fault.CertFile.{CertFile}
use Rattle.command_forms.specs.declared.fault.CertFile.TheVariants as certified
use Rattle.command_forms.specs.declared.fault.Fault.{Fault}
use Rattle.command_forms.specs.declared.fault.Fault.TheVariants as fault
use Rattle.command_forms.specs.declared.status.Status.TheVariants as status
use Rattle.command_forms.specs.Outcome.{Outcome, outcome_from, reading, wrote_all}
use Rattle.program_commands.specs.Words.{CompileWords}
use Rattle.program_commands.specs.Compile.{compiled}

-- bytes are the one text of a file
abbrev pub agreeing : CertFile → Bytes → Bytes → Result (Unit {0}) Fault
agreeing file text bytes =
    if is_same text bytes then Ok tt else Err (fault.Certificate file (line_apart text bytes))

-- a file holds it
unfoldable pub agreeing_file : CertFile → Bytes → ℕ → Bytes → Files → Result (Unit {0}) Fault
agreeing_file file text most name files = do
  bytes ← reading files name most
  agreeing file text bytes

-- the text of the circuit, where there is one
abbrev pub chosen_text : Option (Circuit × Bytes) → Result Bytes Fault
chosen_text None = Err fault.NoChoice
chosen_text (Some circuit) = Ok circuit.1

-- CERT and CIRCUIT hold what the other files give
unfoldable pub checked : CompileWords → Files → Result (Unit {0}) Fault
checked words files = do
  found ← compiled words files
  cert ← agreeing_file certified.Cert found.cert cert_limit words.cert files
  text ← chosen_text found.circuit
  agreeing_file certified.Circuit text circuit_limit words.circuit files

-- nothing was written or put
abbrev pub agreed : Unit {0} → Outcome
agreed same = wrote_all status.Ok []

-- reads PROGRAM, TABLE, CERT and, where there is a choice, CIRCUIT
abbrev pub check_outcome : CompileWords → Files → Outcome
check_outcome words files = outcome_from agreed (checked words files)
