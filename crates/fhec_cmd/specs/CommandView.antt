-- What the command line's types stand for.
use Rattle.key_commands.specs.Words.{keygen_view, encrypt_view, decrypt_view}
use Rattle.run_command.specs.Words.{run_view}
use Rattle.program_commands.specs.Words.{compile_view, clear_view}
use Rattle.fhec_cmd.specs.declared.words.Request.{Request as Line}
use Rattle.fhec_cmd.specs.declared.words.Request.TheVariants as line
use Rattle.fhec_cmd.specs.CommandLine.{Request, faulty, compile, check, clear, keygen, encrypt, run, decrypt}

-- the request of a command line
abbrev pub request_view : Line → Request
request_view line.Faulty = faulty
request_view (line.Compile names) = compile (compile_view names)
request_view (line.Check names) = check (compile_view names)
request_view (line.Clear names) = clear (clear_view names)
request_view (line.Keygen names) = keygen (keygen_view names)
request_view (line.Encrypt names) = encrypt (encrypt_view names)
request_view (line.Run names) = run (run_view names)
request_view (line.Decrypt names) = decrypt (decrypt_view names)
