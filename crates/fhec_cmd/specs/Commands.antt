-- What the words do: one case a command.
use Rattle.std.specs.Prelude.{List}
use Rattle.port_store.specs.Files.{Bytes, Files}
use Rattle.command_forms.specs.declared.status.Status.TheVariants as status
use Rattle.command_forms.specs.Outcome.{Outcome, refusing}
use Rattle.key_commands.specs.Keygen.{keygen_outcome}
use Rattle.key_commands.specs.Encrypt.{encrypt_outcome}
use Rattle.key_commands.specs.Decrypt.{decrypt_outcome}
use Rattle.run_command.specs.Run.{run_outcome}
use Rattle.program_commands.specs.Compile.{compile_outcome}
use Rattle.program_commands.specs.Check.{check_outcome}
use Rattle.program_commands.specs.Clear.{clear_outcome}
use Rattle.fhec_cmd.specs.CommandLine.{Request, faulty, compile, check, clear, keygen, encrypt, run, decrypt, request_of}

-- what a command line does over the files
abbrev pub outcome_of_request : Request → Files → Outcome
outcome_of_request faulty files = refusing status.Usage
outcome_of_request (compile words) files = compile_outcome words files
outcome_of_request (check words) files = check_outcome words files
outcome_of_request (clear words) files = clear_outcome words files
outcome_of_request (keygen words) files = keygen_outcome words files
outcome_of_request (encrypt words) files = encrypt_outcome words files
outcome_of_request (run words) files = run_outcome words files
outcome_of_request (decrypt words) files = decrypt_outcome words files

-- what the words do over the files
abbrev pub outcome_of : List Bytes → Files → Outcome
outcome_of words files = outcome_of_request (request_of words) files
