-- `decrypt`: the values that ciphertexts stand for under a secret key.
use Rattle.std.specs.Prelude.{ℕ, ◌+◌, Bool, List, [], ◌∷◌, Result, Ok, ℤ, pos, ◌+ℤ◌, ◌-ℤ◌, int_le}
use Rattle.refusals.specs.Reading.{◌>>=◌, unless}
use Rattle.port_store.specs.Files.{Bytes, Files}
use Rattle.lwe_core.specs.Phase.{phase_of}
use Rattle.lwe_core.specs.Decoding.{decoded}
use Rattle.sealed_files.specs.declared.kinds.FileKind.TheVariants as kind
use Rattle.cipher_files.specs.SecretFile.{SecretFile}
use Rattle.cipher_files.specs.CipherFile.{CipherFile, cipher_head, key_fits}
use Rattle.value_files.specs.declared.fault.ValueFault.{ValueFault}
use Rattle.value_files.specs.declared.fault.ValueKind.TheVariants.{Decoded}
use Rattle.value_files.specs.Values.{value_fault, values_text}
use Rattle.command_forms.specs.declared.fault.Fault.{Fault}
use Rattle.command_forms.specs.declared.fault.Fault.TheVariants as fault
use Rattle.command_forms.specs.Outcome.{Outcome, as_fault, outcome_from, putting}
use Rattle.command_files.specs.Files.{secret_from, cipher_from}
use Rattle.key_commands.specs.Words.{DecryptWords}

-- the value of a ciphertext with a range of values: the least one and the decoded offset, which lies in the range
unfoldable pub value_at : ℕ → ℕ → List Bool → ℤ × ℤ → List ℕ → Result ℤ ValueFault
value_at line width big range words = do
  let offset = pos (decoded (phase_of big words) width range.0)
  within ← unless (int_le offset (range.1 -ℤ range.0)) (value_fault line Decoded)
  Ok (range.0 +ℤ offset)

-- those of all ciphertexts, where this is the number of the first
unfoldable pub values_at : ℕ → ℕ → List Bool → List (ℤ × ℤ) → List (List ℕ) → Result (List ℤ) ValueFault
values_at line width big [] rows = Ok []
values_at line width big (range ∷ ranges) [] = Ok []
values_at line width big (range ∷ ranges) (words ∷ rows) = do
  value ← value_at line width big range words
  values ← values_at (line + 1) width big ranges rows
  Ok (value ∷ values)

-- the values of a file of ciphertexts under secret keys that fit it, a line each
unfoldable pub decrypted_text : SecretFile → CipherFile → Result Bytes Fault
decrypted_text secret file = do
  fits ← as_fault (λ f. fault.File kind.Cipher f) (key_fits secret.digest secret.big (cipher_head file))
  values ← as_fault fault.Value (values_at 1 file.width secret.big file.ranges file.ciphertexts)
  Ok (values_text values)

-- those of the files
unfoldable pub decrypted : DecryptWords → Files → Result Bytes Fault
decrypted words files = do
  secret ← secret_from words.secret files
  file ← cipher_from words.output files
  decrypted_text secret file

-- reads SECRET and OUTPUT, and puts the values of OUTPUT, a line each
abbrev pub decrypt_outcome : DecryptWords → Files → Outcome
decrypt_outcome words files = outcome_from putting (decrypted words files)
