-- The five commands in a row, from the text of a program: what `decrypt` puts are the values of the program. Nothing
-- is supposed of keys or errors where `keygen` and `encrypt` draw them; else the keys fit, and inputs keep their bound.
use Rattle.std.specs.Prelude.{◌≡◌, true, List, ◌∷◌, Bool, Ok, ℤ}
use Rattle.std.specs.FinMap.{get}
use Rattle.port_store.specs.Files.{Bytes, Files}
use Rattle.fhe_level.specs.Programs.{clear_values}
use Rattle.tfhe_level.specs.declared.shape.Circuit.{Circuit}
use Rattle.circuit_digest.specs.ParamsDigest.{params_digest}
use Rattle.cipher_files.specs.SecretFile.{secret_file}
use Rattle.circuit_run.specs.Noise.{AreGood}
use Rattle.compile_pipe.specs.declared.parts.Front.{Front}
use Rattle.compile_pipe.specs.Back.{circuit_with}
use Rattle.value_files.specs.Values.{values_text}
use Rattle.command_forms.specs.Names.{are_distinct}
use Rattle.command_forms.specs.Outcome.{putting}
use Rattle.command_files.specs.Files.{fits_eval, values_from}
use Rattle.key_commands.specs.Decrypt.{decrypted_text, decrypt_outcome}
use Rattle.key_commands.specs.Headline.{KeygenIsRight, EncryptIsRight}
use Rattle.run_command.specs.Words.{RunWords}
use Rattle.run_command.specs.Run.{output_file}
use Rattle.run_command.specs.Headline.{RunIsRight}
use Rattle.program_commands.specs.Words.{CompileWords, ClearWords}
use Rattle.program_commands.specs.Programs.{front_from}
use Rattle.program_commands.specs.Clear.{clear_outcome}
use Rattle.program_commands.specs.Headline.{IsCompiled}
use Rattle.command_flow.specs.Flow.{FlowWords, flow_files, keygen_words, encrypt_words, run_words, decrypt_words}
use Rattle.command_flow.specs.Flow.{FlowBegins}
use Rattle.command_flow.specs.Calls.{FlowPuts}

-- ---- words

-- the names of the files of a program and of a table, of the certificate, and of what follows
pub record ProgramWords : Type 0 where
  pub program : Bytes
  pub table : Bytes
  pub cert : Bytes
  pub flow : FlowWords

-- the words of the two commands on programs
abbrev pub compile_words : ProgramWords → CompileWords
compile_words words =
    record { program = words.program; table = words.table; circuit = words.flow.circuit; cert = words.cert }

abbrev pub clear_words : ProgramWords → ClearWords
clear_words words = record { program = words.program; values = words.flow.values }

-- all files
abbrev pub program_files : ProgramWords → List Bytes
program_files words = words.program ∷ words.table ∷ words.cert ∷ flow_files words.flow

-- ---- the flow

-- at first the files are distinct, and PROGRAM and VALUES are read as this program and these values, one in the range
-- of each of its arguments
pub record ProgramBegins (words : ProgramWords) (front : Front) (numbers : List ℤ) (start : Files) : Type 0 where
  pub distinct : are_distinct (program_files words) ≡ true
  pub program_read : front_from words.program start ≡ Ok front
  pub numbers_read : values_from front.program.args words.flow.values start ≡ Ok numbers

-- the circuit that was made
abbrev pub made_circuit : {words : CompileWords} {before after : Files} → IsCompiled words before after → Circuit
made_circuit made = circuit_with made.front.shape made.table made.choice

pub record ProgramLaws : Type 0 where
  -- after `compile` the flow of keys, inputs, run and decryption begins, with the circuit that was made and the values
  pub begins : (words : ProgramWords) (front : Front) (numbers : List ℤ) (start compiled : Files)
      → ProgramBegins words front numbers start → (made : IsCompiled (compile_words words) start compiled)
      → FlowBegins words.flow (made_circuit made) numbers compiled
  -- what is defined for `clear` at first is to put the values of the program, a line each
  pub clear_puts : (words : ProgramWords) (front : Front) (numbers : List ℤ) (start : Files)
      → ProgramBegins words front numbers start
      → clear_outcome (clear_words words) start ≡ putting (values_text (clear_values front.program numbers))
  -- and so it is for `decrypt` after all four commands, whatever the table and the seeds
  pub decrypt_puts : (words : ProgramWords) (front : Front) (numbers : List ℤ)
      (start compiled keyed filled computed : Files) → ProgramBegins words front numbers start
      → IsCompiled (compile_words words) start compiled → KeygenIsRight (keygen_words words.flow) compiled keyed
      → EncryptIsRight (encrypt_words words.flow) keyed filled → RunIsRight (run_words words.flow) filled computed
      → decrypt_outcome (decrypt_words words.flow) computed
      ≡ putting (values_text (clear_values front.program numbers))
  -- so do any four calls after it that keep their clauses: over a store that tells its files, where no count of faults
  -- rises and EVAL is as the circuit needs it, each answers Ok or Memory, and the last puts these values
  pub calls_put : (words : ProgramWords) (front : Front) (numbers : List ℤ) (start compiled : Files)
      → ProgramBegins words front numbers start → (made : IsCompiled (compile_words words) start compiled)
      → fits_eval (made_circuit made) words.flow.eval ≡ true
      → FlowPuts words.flow compiled (values_text (clear_values front.program numbers))
  -- whatever the keys and the inputs: what a run of the circuit that `compile` wrote gives is decrypted to the values
  -- of the program, where the keys fit and the inputs stand for values in range within the error of fresh ciphertexts
  pub run_computes : (compile : CompileWords) (run : RunWords) (start compiled before after : Files)
      (made : IsCompiled compile start compiled) (ran : RunIsRight run before after)
      → get before run.circuit ≡ get compiled compile.circuit → (big small : List Bool) (values : List ℤ)
      → AreGood ran.circuit ran.keys big small values ran.inputs.ciphertexts
      → decrypted_text (secret_file (params_digest ran.circuit.params) small big)
      (output_file ran.circuit ran.keys ran.inputs.ciphertexts)
      ≡ Ok (values_text (clear_values made.front.program values))
