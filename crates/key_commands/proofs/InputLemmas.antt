-- The inputs of a circuit, and their places in their stream.
use Rattle.std.proofs.Common.{Bool, ◌≡◌, ℕ, ◌+◌, ◌*◌, ◌%◌, ◌^◌, ◌≤◌, List, [], ◌∷◌, length, All, true, Result, Ok, refl, ◌∙◌, subst, arith, ℤ}
use Rattle.std.proofs.Math.Nat.{mul-le-mul, mod-eq_of_lt}
use Rattle.refusals.specs.Reading.{◌>>=◌}
use Rattle.refusals.specs.Steps.{value_of_step}
use Rattle.forms.specs.Forms.{AreIn}
use Rattle.fhe_params.specs.declared.params.Params.{Params}
use Rattle.fhe_params.specs.Params.{big_dimension}
use Rattle.tfhe_level.specs.Laws.{input_ranges}
use Rattle.sealed_files.specs.Laws.{MatchLaws}
use Rattle.sealed_files.specs.Matching.{same_digest, same_word}
use Rattle.cipher_files.specs.SecretFile.{SecretFile, secret_fits}
use Rattle.port_store.specs.Files.{Bytes, Files}
use Rattle.tfhe_level.specs.declared.shape.Circuit.{Circuit}
use Rattle.tfhe_level.specs.Nodes.{nodes_of}
use Rattle.noise_model.specs.Circuits.{IsCircuit}
use Rattle.circuit_heads.specs.Heads.{input_head}
use Rattle.circuit_heads.specs.Laws.{HeadLaws}
use Rattle.cipher_files.specs.CipherFile.{file_of, cipher_bytes, HasCipherLimits}
use Rattle.sealed_files.specs.declared.kinds.FileKind.TheVariants as kind
use Rattle.circuit_digest.specs.ParamsDigest.{params_digest}
use Rattle.command_forms.specs.declared.fault.Fault.{Fault}
use Rattle.command_forms.specs.declared.fault.Fault.TheVariants as fault
use Rattle.command_forms.specs.Outcome.{as_fault}
use Rattle.command_forms.specs.DoneLemmas.{as_fault_ok}
use Rattle.command_files.specs.Files.{secret_from, values_from}
use Rattle.key_commands.specs.Encrypt.{input_file, fitting_secret}
use Rattle.command_forms.specs.Names.{are_distinct}
use Rattle.command_forms.specs.StepLemmas.{distinct_parts}
use Rattle.key_commands.specs.Words.{EncryptWords, encrypt_files}

-- ---- places

-- they do not wrap
pub place_small : (i n : ℕ) → i ≤ 64 → n ≤ 24576 → (i * (n + 1)) % 2 ^ 67 ≡ i * (n + 1)
place_small i n few small =
    let words : n + 1 ≤ 24577 = omega (arith, small) in
    let most : i * (n + 1) ≤ 64 * 24577 = mul-le-mul few words in
    mod-eq_of_lt (omega (arith, most))

-- ---- numbers

-- values in ranges are as many
pub as_many : (ranges : List (ℤ × ℤ)) (values : List ℤ) → AreIn ranges values → length values ≡ length ranges
as_many [] [] within = refl
as_many [] (value ∷ values) within = absurd within
as_many (range ∷ ranges) [] within = absurd within
as_many (range ∷ ranges) (value ∷ values) within = omega (arith, as_many ranges values within.1)

-- ---- keys

-- secret keys that fit a circuit have its big dimension
pub fitting_secret_long : MatchLaws → (digest : List ℕ) (params : Params) (file : SecretFile) → secret_fits digest params file ≡ Ok tt → big_dimension params ≡ length file.big
unfolding secret_fits
fitting_secret_long laws digest params file fits =
    let first = value_of_step (same_digest digest file.digest) (λ _. same_word params.lwe.n (length file.small) >>= λ _. same_word (big_dimension params) (length file.big)) tt fits in
    let second = value_of_step (same_word params.lwe.n (length file.small)) (λ _. same_word (big_dimension params) (length file.big)) tt first.2 in
    laws.words (big_dimension params) (length file.big) second.2

-- keys that fit the circuit fit its parameters
pub fits_alone : (circuit : Circuit) (secret : SecretFile) → fitting_secret circuit secret ≡ Ok secret → secret_fits (params_digest circuit.params) circuit.params secret ≡ Ok tt
fits_alone circuit secret e =
    let step = value_of_step (as_fault (λ f. fault.File kind.Secret f) (secret_fits (params_digest circuit.params) circuit.params secret)) (λ fits. Ok secret) secret e in
    as_fault_ok (λ f. fault.File kind.Secret f) (secret_fits (params_digest circuit.params) circuit.params secret) tt step.1

-- ---- names

-- the files that are read are distinct
pub read_apart : (words : EncryptWords) → are_distinct (encrypt_files words) ≡ true → are_distinct (words.circuit ∷ words.secret ∷ words.values ∷ []) ≡ true
read_apart words apart = (distinct_parts (words.circuit ∷ words.secret ∷ words.values ∷ []) (words.cipher ∷ []) apart).0

-- ---- what is read after what

-- the bytes of the values under a secret key
abbrev pub bytes_of : EncryptWords → Circuit → SecretFile → List ℤ → Result Bytes Fault
bytes_of words circuit secret values = Ok (cipher_bytes (input_file circuit words.seed secret.big values))

-- behind the keys that fit
abbrev pub after_fitting : EncryptWords → Circuit → Files → SecretFile → Result Bytes Fault
after_fitting words circuit files secret = values_from (input_ranges (nodes_of circuit.shape)) words.values files >>= bytes_of words circuit secret

-- behind the keys
abbrev pub after_secret : EncryptWords → Circuit → Files → SecretFile → Result Bytes Fault
after_secret words circuit files secret = fitting_secret circuit secret >>= after_fitting words circuit files

-- behind the circuit
abbrev pub after_circuit : EncryptWords → Files → Circuit → Result Bytes Fault
after_circuit words files circuit = secret_from words.secret files >>= after_secret words circuit files

-- ---- the limits of the file

-- the inputs of a circuit keep the limits of a file
pub limits_kept : HeadLaws → (circuit : Circuit) (big : List Bool) (values : List ℤ) (rows : List (List ℕ)) → IsCircuit circuit → length big ≡ big_dimension circuit.params → AreIn (input_ranges (nodes_of circuit.shape)) values
    → length rows ≡ length values → All (λ words. length words ≡ length big + 1) rows → HasCipherLimits (file_of (input_head circuit) rows)
limits_kept laws circuit big values rows is long within count lengths =
    let head = laws.input_limits circuit is in
    record {
      dim = head.dim;
      width = head.width;
      number = head.number;
      ranges = head.ranges;
      count = count ∙ as_many (input_ranges (nodes_of circuit.shape)) values within;
      lengths = subst (λ (d : ℕ). All (λ words. length words ≡ d + 1) rows) long lengths;
    }
