-- The headlines of `keygen` and `encrypt`: what is read from the files that they write.
use Rattle.std.proofs.Common.{◌≡◌, ℕ, ◌≤◌, Bool, true, false, cond, List, [], ◌∷◌, ◌++◌, length, Some, None, Ok, refl, sym, ap, subst, ◌∙◌}
use lib.IntN.{ℤ}
use Rattle.std.specs.FinMap.{get, insert}
use Rattle.std.specs.Str.{bytes_eq}
use Rattle.refusals.specs.Reading.{◌>>=◌, unless}
use Rattle.refusals.specs.Steps.{value_of_step}
use Rattle.port_store.specs.Files.{Bytes, Files}
use Rattle.port_store.specs.Laws.{FilesLaws}
use Rattle.tfhe_level.specs.declared.shape.Circuit.{Circuit}
use Rattle.sealed_files.specs.declared.kinds.FileKind.TheVariants as kind
use Rattle.circuit_digest.specs.ParamsDigest.{params_digest}
use Rattle.cipher_files.specs.SecretFile.{SecretFile, secret_bytes, secret_fits}
use Rattle.cipher_files.specs.CipherFile.{cipher_bytes}
use Rattle.cipher_files.specs.EvalFile.{eval_bytes}
use Rattle.cipher_files.specs.Laws.{SecretFileLaws, CipherFileLaws, EvalFileLaws}
use Rattle.command_forms.specs.declared.fault.Fault.{Fault}
use Rattle.command_forms.specs.declared.fault.Fault.TheVariants as fault
use Rattle.command_forms.specs.declared.status.Status.{Status}
use Rattle.command_forms.specs.Names.{are_distinct}
use Rattle.command_forms.specs.Outcome.{FileWrite, as_fault, file_write, written, wrote}
use Rattle.command_forms.specs.Outside.{Outside, MayLeave}
use Rattle.command_forms.specs.StepLemmas.{distinct_parts, not_parts, or_parts}
use Rattle.std.proofs.lemmas.Bool.{and_parts}
use Rattle.command_forms.specs.DoneLemmas.{ok_is, as_fault_ok, done_over, told_both, wrote_one}
use Rattle.command_files.specs.Files.{has_boot, fits_eval, eval_files, circuit_from, secret_from, values_from}
use Rattle.key_commands.specs.Words.{KeygenWords, keygen_files, EncryptWords}
use Rattle.key_commands.specs.Keygen.{KeyFiles, secret_of_seed, eval_keys_of_seed, key_files_of, eval_writes, generated, wrote_keys, keygen_outcome}
use Rattle.key_commands.specs.Encrypt.{input_file, encrypted, encrypt_outcome}
use Rattle.key_commands.specs.Found.{AreKeyFiles, GaveKeys, GaveInputs}
use Rattle.key_commands.specs.Headline.{KeygenIsRight, KeygenHeadline, EncryptIsRight, EncryptHeadline}
use Rattle.key_commands.specs.ReadLemmas.{secret_spelled, cipher_spelled, eval_spelled, eval_named, secret_there, eval_there}
use Rattle.key_commands.proofs.KeyFacts.{few_words, after_circuit}

-- ---- keygen

-- the laws that its headline stands on
pub record KeyServing : Type 0 where
  pub files : FilesLaws
  pub secrets : SecretFileLaws
  pub evals : EvalFileLaws

-- where EVAL names a file, SECRET names another
apart_if : (none : Bool) (circuit secret eval : Bytes) → are_distinct (circuit ∷ secret ∷ cond none [] (eval ∷ [])) ≡ true → none ≡ false → bytes_eq secret eval ≡ false
apart_if true circuit secret eval apart e = absurd cc
apart_if false circuit secret eval apart e =
    let two = (distinct_parts (circuit ∷ []) (secret ∷ eval ∷ []) apart).1 in
    (or_parts (bytes_eq secret eval) false (not_parts _ (and_parts _ _ two).0)).0

-- the keys of the circuit that was read are those that were written
keys_are : (words : KeygenWords) (files : Files) (keys : KeyFiles) → (g : GaveKeys words files) → generated words files ≡ Ok keys → key_files_of g.circuit words.seed ≡ keys
unfolding generated
keys_are words files keys g e =
    let gives : generated words files ≡ Ok (key_files_of g.circuit words.seed) = rw (g.circuit_read, g.needs) refl in
    ok_is {F = Fault} (key_files_of g.circuit words.seed) keys (sym gives ∙ e)

keygen_right : KeyServing → (words : KeygenWords) (before after : Files) → are_distinct (keygen_files words) ≡ true → (g : GaveKeys words before) → after ≡ written (wrote_keys words (key_files_of g.circuit words.seed)).writes before → KeygenIsRight words before after
keygen_right laws words before after apart g put =
    let digest = params_digest g.circuit.params in
    let secret = secret_of_seed g.circuit words.seed in
    let keys = eval_keys_of_seed g.circuit words.seed in
    let s = secret_bytes secret in
    let e = eval_bytes digest g.circuit.params keys in
    let has = has_boot g.circuit in
    let is_secret = g.are_files.secret in
    let other : has ≡ true → bytes_eq words.secret words.eval ≡ false = λ boot. apart_if _ words.circuit words.secret words.eval apart (eval_named g.circuit words.eval g.needs boot) in
    record {
      circuit = g.circuit;
      rules = g.rules;
      circuit_read = g.circuit_read;
      needs = g.needs;
      stored = put;
      secret_back = secret_spelled after words.secret s secret (ap (λ files. get files words.secret) put ∙ secret_there laws.files has words.secret words.eval s e before other)
          (laws.secrets.size secret is_secret) (laws.secrets.spelled secret is_secret);
      eval_back = λ boot.
          let is_eval = g.are_files.eval boot in
          eval_spelled digest g.circuit.params after words.eval e keys (ap (λ files. get files words.eval) put ∙ eval_there laws.files has words.secret words.eval s e before boot)
          (laws.evals.size digest g.circuit.params keys is_secret.digest_length is_eval (few_words g.circuit g.rules boot))
          (laws.evals.spelled digest g.circuit.params keys (record { long = is_secret.digest_length; bytes = is_secret.digest }) is_eval);
    }

-- the headline follows from what the command may leave
pub keygen_headline : KeyServing → (words : KeygenWords) (answer : Status) (earlier later : Outside) → are_distinct (keygen_files words) ≡ true → MayLeave (keygen_outcome words) answer earlier later → ((files : Files) → earlier.store.files ≡ Some files → GaveKeys words files)
    → KeygenHeadline words answer earlier later
keygen_headline laws words answer earlier later apart may gave = λ ok files now told later_told.
    let d = done_over (wrote_keys words) (generated words) answer earlier later files may ok told in
    let g = gave files told in
    let put : now ≡ written (wrote_keys words d.value).writes files = told_both (λ held held_now. held_now ≡ written (wrote_keys words d.value).writes held) earlier.store.files later.store.files files now told later_told d.done.files in
    keygen_right laws words files now apart g (subst (λ (keys : KeyFiles). now ≡ written (wrote_keys words keys).writes files) (sym (keys_are words files d.value g d.gave)) put)

-- ---- encrypt

-- the laws that its headline stands on
pub record InputServing : Type 0 where
  pub files : FilesLaws
  pub ciphertexts : CipherFileLaws

-- the inputs of what was read are those that were written
inputs_are : (words : EncryptWords) (files : Files) (bytes : Bytes) → (g : GaveInputs words files) → encrypted words files ≡ Ok bytes → cipher_bytes (input_file g.circuit words.seed g.keys.big g.numbers) ≡ bytes
unfolding encrypted
inputs_are words files bytes g e =
    let gives : encrypted words files ≡ Ok (cipher_bytes (input_file g.circuit words.seed g.keys.big g.numbers)) = rw (g.circuit_read, g.keys_read, g.fitting, g.numbers_read) refl in
    ok_is {F = Fault} (cipher_bytes (input_file g.circuit words.seed g.keys.big g.numbers)) bytes (sym gives ∙ e)

encrypt_right : InputServing → (words : EncryptWords) (before after : Files) → (g : GaveInputs words before) → after ≡ insert before words.cipher (cipher_bytes (input_file g.circuit words.seed g.keys.big g.numbers)) → EncryptIsRight words before after
encrypt_right laws words before after g put =
    let file = input_file g.circuit words.seed g.keys.big g.numbers in
    record {
      circuit = g.circuit;
      rules = g.rules;
      circuit_read = g.circuit_read;
      keys = g.keys;
      keys_read = g.keys_read;
      fitting = g.fitting;
      numbers = g.numbers;
      numbers_read = g.numbers_read;
      within = g.within;
      stored = put;
      cipher_back = cipher_spelled after words.cipher (cipher_bytes file) file (ap (λ files. get files words.cipher) put ∙ laws.files.put_is_there before words.cipher (cipher_bytes file))
          (laws.ciphertexts.size file g.is_file) (laws.ciphertexts.spelled file g.is_file);
    }

pub encrypt_headline : InputServing → (words : EncryptWords) (answer : Status) (earlier later : Outside) → MayLeave (encrypt_outcome words) answer earlier later → ((files : Files) → earlier.store.files ≡ Some files → GaveInputs words files)
    → EncryptHeadline words answer earlier later
encrypt_headline laws words answer earlier later may gave = λ ok files now told later_told.
    let d = done_over (wrote words.cipher) (encrypted words) answer earlier later files may ok told in
    let g = gave files told in
    let put : now ≡ insert files words.cipher d.value = wrote_one words.cipher d.value answer earlier later files now d.done told later_told in
    encrypt_right laws words files now g (subst (λ (bytes : Bytes). now ≡ insert files words.cipher bytes) (sym (inputs_are words files d.value g d.gave)) put)
