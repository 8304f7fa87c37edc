-- The headline: what `run` writes decrypts to the values of the circuit on whole numbers, what `compile` writes
-- computes the program at the least cost, and `keygen` and `encrypt` write the keys and the inputs of their seeds.
use Rattle.std.specs.Prelude.{◌≡◌, Bool, List, Some, Ok, ℤ}
use Rattle.port_store.specs.Files.{Files}
use Rattle.tfhe_level.specs.Nodes.{nodes_of, clear_values}
use Rattle.circuit_digest.specs.ParamsDigest.{params_digest}
use Rattle.cipher_files.specs.SecretFile.{secret_file}
use Rattle.value_files.specs.Values.{values_text}
use Rattle.circuit_run.specs.Noise.{AreGood}
use Rattle.command_forms.specs.declared.status.Status.{Status}
use Rattle.command_forms.specs.declared.status.Status.TheVariants as status
use Rattle.command_forms.specs.Outside.{Outside}
use Rattle.key_commands.specs.Decrypt.{decrypted_text}
use Rattle.key_commands.specs.Headline.{KeygenIsRight, EncryptIsRight}
use Rattle.run_command.specs.Words.{RunWords}
use Rattle.run_command.specs.Run.{output_file}
use Rattle.run_command.specs.Headline.{RunIsRight}
use Rattle.program_commands.specs.Headline.{IsCompiled}
use Rattle.fhec_cmd.specs.CommandLine.{Request, faulty, compile, check, clear, keygen, encrypt, run, decrypt}

-- what a run wrote is decrypted, by every secret key that its keys fit, to the values of the circuit, where its inputs
-- stand for values in their ranges within the error of fresh ciphertexts
abbrev pub IsDecrypted : {words : RunWords} {before after : Files} → RunIsRight words before after → Type 0
IsDecrypted ran =
    (big small : List Bool) (values : List ℤ) → AreGood ran.circuit ran.keys big small values ran.inputs.ciphertexts
    → decrypted_text (secret_file (params_digest ran.circuit.params) small big)
    (output_file ran.circuit ran.keys ran.inputs.ciphertexts)
    ≡ Ok (values_text (clear_values (nodes_of ran.circuit.shape) values))

-- what the answer Ok of a command promises beside its outcome, over a store that tells its files
abbrev pub Promise : Request → Files → Files → Type 0
Promise (run words) before after = (ran : RunIsRight words before after) × IsDecrypted ran
Promise (compile words) before after = IsCompiled words before after
Promise (check words) before after = Unit {0}
Promise (clear words) before after = Unit {0}
Promise (keygen words) before after = KeygenIsRight words before after
Promise (encrypt words) before after = EncryptIsRight words before after
Promise (decrypt words) before after = Unit {0}
Promise faulty before after = Unit {0}

-- the headline: what the answer Ok promises, over the outside before and after
abbrev pub Headline : Request → Status → Outside → Outside → Type 0
Headline request answer before after =
    answer ≡ status.Ok → (files now : Files) → before.store.files ≡ Some files → after.store.files ≡ Some now
    → Promise request files now
