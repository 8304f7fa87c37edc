-- Which file holds what after which command, and what follows for the values.
use Rattle.std.proofs.Common.{◌≡◌, ℕ, Bool, true, false, not, cond, List, [], ◌∷◌, ◌++◌, length, Some, Result, Ok, refl, sym, ap, subst, ◌∙◌}
use lib.IntN.{ℤ}
use Rattle.std.specs.FinMap.{get}
use Rattle.word_ring.specs.Signed.{word_of}
use Rattle.std.specs.Str.{bytes_eq}
use Rattle.std.specs.List.{list_any}
use Rattle.std.proofs.lemmas.Bool.{le-ltb, and_parts, false≢true}
use Rattle.refusals.specs.Reading.{◌>>=◌}
use Rattle.refusals.specs.Steps.{value_of_step}
use Rattle.port_store.specs.Files.{Bytes, Files}
use Rattle.port_store.specs.Laws.{FilesLaws}
use Rattle.fhe_params.specs.Params.{IsParams, big_dimension}
use Rattle.forms.specs.Forms.{AreIn}
use Rattle.tfhe_level.specs.declared.shape.Circuit.{Circuit}
use Rattle.tfhe_level.specs.Nodes.{nodes_of, clear_values}
use Rattle.tfhe_level.specs.Laws.{input_ranges}
use Rattle.noise_model.specs.Circuits.{IsCircuit}
use Rattle.seed_stream.specs.Draws.{stream_key}
use Rattle.key_gen.specs.Seeds.{input_label}
use Rattle.sealed_files.specs.Laws.{MatchLaws}
use Rattle.circuit_file.specs.Limits.{circuit_limit}
use Rattle.circuit_file.specs.Text.{circuit_text}
use Rattle.circuit_file.specs.Laws.{CircuitTextLaws}
use Rattle.circuit_digest.specs.ParamsDigest.{params_digest}
use Rattle.circuit_heads.specs.Heads.{input_head}
use Rattle.cipher_files.specs.SecretFile.{SecretFile, secret_bytes, secret_fits}
use Rattle.cipher_files.specs.CipherFile.{CipherFile, cipher_bytes, same_range, same_ranges, head_fits}
use Rattle.cipher_files.specs.EvalFile.{EvalRows, eval_bytes}
use Rattle.cipher_files.specs.declared.head.CipherHead.{CipherHead}
use Rattle.value_files.specs.Values.{values_limit, values_of, values_text}
use Rattle.value_files.specs.Laws.{ValueLaws}
use Rattle.circuit_run.specs.Running.{EvalKeys}
use Rattle.circuit_run.specs.Noise.{AreOfParams, EvalKeysFit, AreGood}
use Rattle.command_forms.specs.declared.fault.Fault.{Fault}
use Rattle.command_forms.specs.declared.fault.Fault.TheVariants as fault
use Rattle.command_forms.specs.declared.status.Status.TheVariants as status
use Rattle.command_forms.specs.Names.{are_distinct, is_no_eval}
use Rattle.command_forms.specs.Outcome.{outcome_from, putting, reading}
use Rattle.command_forms.specs.StepLemmas.{or_parts, not_parts}
use Rattle.command_forms.specs.DoneLemmas.{ok_is, as_fault_ok}
use Rattle.command_files.specs.Files.{has_boot, fits_eval, eval_files, circuit_from, eval_from, secret_from, cipher_from, values_from, values_in}
use Rattle.key_commands.specs.Keygen.{secret_of_seed, eval_keys_of_seed, generated, keygen_outcome}
use Rattle.key_commands.specs.Encrypt.{input_file, encrypted, encrypt_outcome}
use Rattle.key_commands.specs.Decrypt.{decrypted}
use Rattle.key_commands.specs.Headline.{KeygenIsRight, EncryptIsRight}
use Rattle.key_commands.specs.ReadLemmas.{circuit_stays, secret_stays, eval_stays, values_stay, eval_named, beside_keys}
use Rattle.run_command.specs.Run.{some_keys, no_keys, keys_from, inputs_from, output_file, run_output, run_outcome}
use Rattle.run_command.specs.Headline.{RunIsRight}
use Rattle.key_flow.specs.Laws.{run_keys, inputs_of, KeyCommandLaws}
use Rattle.command_flow.specs.Flow.{FlowWords, keygen_words, encrypt_words, run_words, decrypt_words, flow_files, FlowBegins, FlowLaws}

-- the laws that the flow stands on
pub record Serving : Type 0 where
  pub files : FilesLaws
  pub texts : CircuitTextLaws
  pub matching : MatchLaws
  pub values : ValueLaws
  pub commands : KeyCommandLaws

-- ---- names

-- a name is none of those behind it, which are distinct
first_apart : (x : Bytes) (xs : List Bytes) → are_distinct (x ∷ xs) ≡ true → (list_any (bytes_eq x) xs ≡ false) × (are_distinct xs ≡ true)
first_apart x xs e = let p = and_parts (not (list_any (bytes_eq x) xs)) (are_distinct xs) e in (not_parts _ p.0, p.1)

-- it is not the first of them, nor one of the others
next_apart : (x y : Bytes) (ys : List Bytes) → list_any (bytes_eq x) (y ∷ ys) ≡ false → (bytes_eq x y ≡ false) × (list_any (bytes_eq x) ys ≡ false)
next_apart x y ys e = or_parts (bytes_eq x y) (list_any (bytes_eq x) ys) e

-- EVAL, where it is a file
eval_apart : (none : Bool) (x e : Bytes) (ys : List Bytes) → list_any (bytes_eq x) (cond none [] (e ∷ []) ++ ys) ≡ false → (none ≡ false → bytes_eq x e ≡ false) × (list_any (bytes_eq x) ys ≡ false)
eval_apart true x e ys apart = (λ some. absurd (false≢true (sym some)), apart)
eval_apart false x e ys apart = let p = next_apart x e ys apart in (λ some. p.0, p.1)

after_eval : (none : Bool) (e i o : Bytes) → are_distinct (cond none [] (e ∷ []) ++ i ∷ o ∷ []) ≡ true → none ≡ false → bytes_eq e i ≡ false
after_eval true e i o apart some = absurd (false≢true (sym some))
after_eval false e i o apart some = (next_apart e i (o ∷ []) (first_apart e (i ∷ o ∷ []) apart).0).0

record Apart (words : FlowWords) : Type 0 where
  circuit_secret : bytes_eq words.circuit words.secret ≡ false
  circuit_eval : is_no_eval words.eval ≡ false → bytes_eq words.circuit words.eval ≡ false
  circuit_cipher : bytes_eq words.circuit words.cipher ≡ false
  values_secret : bytes_eq words.values words.secret ≡ false
  values_eval : is_no_eval words.eval ≡ false → bytes_eq words.values words.eval ≡ false
  secret_cipher : bytes_eq words.secret words.cipher ≡ false
  secret_output : bytes_eq words.secret words.output ≡ false
  eval_cipher : is_no_eval words.eval ≡ false → bytes_eq words.eval words.cipher ≡ false

names_apart : (words : FlowWords) → are_distinct (flow_files words) ≡ true → Apart words
names_apart words distinct =
    let none = is_no_eval words.eval in
    let last : List Bytes = words.cipher ∷ words.output ∷ [] in
    let rest : List Bytes = eval_files words.eval ++ last in
    let c = first_apart words.circuit (words.values ∷ words.secret ∷ rest) distinct in
    let v = first_apart words.values (words.secret ∷ rest) c.1 in
    let s = first_apart words.secret rest v.1 in
    let c1 = next_apart words.circuit words.values (words.secret ∷ rest) c.0 in
    let c2 = next_apart words.circuit words.secret rest c1.1 in
    let c3 = eval_apart none words.circuit words.eval last c2.1 in
    let v1 = next_apart words.values words.secret rest v.0 in
    let v2 = eval_apart none words.values words.eval last v1.1 in
    let s1 = eval_apart none words.secret words.eval last s.0 in
    let s2 = next_apart words.secret words.cipher (words.output ∷ []) s1.1 in
    record {
      circuit_secret = c2.0;
      circuit_eval = c3.0;
      circuit_cipher = (next_apart words.circuit words.cipher (words.output ∷ []) c3.1).0;
      values_secret = v1.0;
      values_eval = v2.0;
      secret_cipher = s2.0;
      secret_output = (next_apart words.secret words.output [] s2.1).0;
      eval_cipher = after_eval none words.eval words.cipher words.output s.1;
    }

-- ---- one value

-- what is read twice of the same is one
one_read : {A : Type 0} (read : Result A Fault) (x y : A) → read ≡ Ok x → read ≡ Ok y → x ≡ y
one_read read x y e f = ok_is {F = Fault} x y (sym e ∙ f)

-- the circuit of a text that is there is read
text_read : CircuitTextLaws → (name : Bytes) (files : Files) (c : Circuit) → IsCircuit c → get files name ≡ Some (circuit_text c) → circuit_from name files ≡ Ok c
unfolding circuit_from
text_read laws name files c rules held = rw (held, le-ltb circuit_limit (length (circuit_text c)) (laws.size c rules), laws.spelled c rules) refl

-- the values of a file lie in their ranges
within_ranges : ValueLaws → (ranges : List (ℤ × ℤ)) (name : Bytes) (files : Files) (numbers : List ℤ) → values_from ranges name files ≡ Ok numbers → AreIn ranges numbers
unfolding values_from
within_ranges laws ranges name files numbers e =
    let step = value_of_step (reading files name values_limit) (values_in ranges) numbers e in
    laws.within step.0 ranges numbers (as_fault_ok fault.Value (values_of step.0 ranges) numbers step.2)

-- ---- after keygen

-- what is there for `encrypt`
record Keyed (words : FlowWords) (c : Circuit) (numbers : List ℤ) (keyed : Files) : Type 0 where
  rules : IsCircuit c
  needs : fits_eval c words.eval ≡ true
  circuit_read : circuit_from words.circuit keyed ≡ Ok c
  numbers_read : values_from (input_ranges (nodes_of c.shape)) words.values keyed ≡ Ok numbers
  secret_read : secret_from words.secret keyed ≡ Ok (secret_of_seed c words.key_seed)
  eval_read : has_boot c ≡ true → eval_from (params_digest c.params) c.params words.eval keyed ≡ Ok (eval_keys_of_seed c words.key_seed)

-- a file beside the keys stays
beside : FilesLaws → (words : FlowWords) (start keyed : Files) (k : KeygenIsRight (keygen_words words) start keyed) (other : Bytes) → bytes_eq other words.secret ≡ false → (is_no_eval words.eval ≡ false → bytes_eq other words.eval ≡ false) → get keyed other ≡ get start other
beside laws words start keyed k other one two =
    ap (λ (files : Files). get files other) k.stored
    ∙ beside_keys laws (has_boot k.circuit) words.secret words.eval (secret_bytes (secret_of_seed k.circuit words.key_seed)) (eval_bytes (params_digest k.circuit.params) k.circuit.params (eval_keys_of_seed k.circuit words.key_seed)) other start one
    (λ boot. two (eval_named k.circuit words.eval k.needs boot))

keyed_is : Serving → (words : FlowWords) (c : Circuit) (numbers : List ℤ) (start keyed : Files) → FlowBegins words c numbers start → KeygenIsRight (keygen_words words) start keyed → Keyed words c numbers keyed
keyed_is laws words c numbers start keyed b k =
    let apart = names_apart words b.distinct in
    let same : k.circuit ≡ c = one_read (circuit_from words.circuit start) k.circuit c k.circuit_read b.circuit_read in
    record {
      rules = subst (λ (c : Circuit). IsCircuit c) same k.rules;
      needs = subst (λ (c : Circuit). fits_eval c words.eval ≡ true) same k.needs;
      circuit_read = circuit_stays words.circuit start keyed (beside laws.files words start keyed k words.circuit apart.circuit_secret apart.circuit_eval) ∙ b.circuit_read;
      numbers_read = values_stay (input_ranges (nodes_of c.shape)) words.values start keyed (beside laws.files words start keyed k words.values apart.values_secret apart.values_eval) ∙ b.numbers_read;
      secret_read = subst (λ (c : Circuit). secret_from words.secret keyed ≡ Ok (secret_of_seed c words.key_seed)) same k.secret_back;
      eval_read = subst (λ (c : Circuit). has_boot c ≡ true → eval_from (params_digest c.params) c.params words.eval keyed ≡ Ok (eval_keys_of_seed c words.key_seed)) same k.eval_back;
    }

-- ---- after encrypt

-- what is there for `run`
record Filled (words : FlowWords) (c : Circuit) (numbers : List ℤ) (filled : Files) : Type 0 where
  rules : IsCircuit c
  needs : fits_eval c words.eval ≡ true
  within : AreIn (input_ranges (nodes_of c.shape)) numbers
  circuit_read : circuit_from words.circuit filled ≡ Ok c
  secret_read : secret_from words.secret filled ≡ Ok (secret_of_seed c words.key_seed)
  keys_read : keys_from c words.eval filled ≡ Ok (run_keys c words.key_seed)
  cipher_read : cipher_from words.cipher filled ≡ Ok (input_file c words.input_seed (secret_of_seed c words.key_seed).big numbers)

-- where it is told whether there is a bootstrap, and whether EVAL is the word `-`
keys_if : (has none : Bool) (read : Result EvalRows Fault) (rows : EvalRows) → cond has (not none) none ≡ true → (has ≡ true → read ≡ Ok rows)
    → ◌≡◌ {A = Result EvalKeys Fault} (cond none (Ok no_keys) (read >>= λ rows. Ok (some_keys rows))) (Ok (cond has (some_keys rows) no_keys))
keys_if true true read rows needs given = absurd (false≢true needs)
keys_if true false read rows needs given = rw (given refl) refl
keys_if false true read rows needs given = refl
keys_if false false read rows needs given = absurd (false≢true needs)

-- the keys of a run are those of the seed
keys_are : (c : Circuit) (eval seed : Bytes) (files : Files) → fits_eval c eval ≡ true → (has_boot c ≡ true → eval_from (params_digest c.params) c.params eval files ≡ Ok (eval_keys_of_seed c seed)) → keys_from c eval files ≡ Ok (run_keys c seed)
unfolding keys_from
keys_are c eval seed files needs read = keys_if (has_boot c) (is_no_eval eval) (eval_from (params_digest c.params) c.params eval files) (eval_keys_of_seed c seed) needs read

filled_over : Serving → (words : FlowWords) (c : Circuit) (numbers : List ℤ) (keyed filled : Files) → Apart words → Keyed words c numbers keyed → (e : EncryptIsRight (encrypt_words words) keyed filled) → e.circuit ≡ c → Filled words c numbers filled
filled_over laws words c numbers keyed filled apart k e same =
    let secret : e.keys ≡ secret_of_seed c words.key_seed = one_read (secret_from words.secret keyed) e.keys (secret_of_seed c words.key_seed) e.keys_read k.secret_read in
    let read : values_from (input_ranges (nodes_of c.shape)) words.values keyed ≡ Ok e.numbers = subst (λ (c : Circuit). values_from (input_ranges (nodes_of c.shape)) words.values keyed ≡ Ok e.numbers) same e.numbers_read in
    let list : e.numbers ≡ numbers = one_read (values_from (input_ranges (nodes_of c.shape)) words.values keyed) e.numbers numbers read k.numbers_read in
    let stays : (name : Bytes) → bytes_eq name words.cipher ≡ false → get filled name ≡ get keyed name = λ name apart. ap (λ (files : Files). get files name) e.stored ∙ laws.files.others_stay keyed words.cipher (cipher_bytes (input_file e.circuit words.input_seed e.keys.big e.numbers)) name apart in
    let one : cipher_from words.cipher filled ≡ Ok (input_file c words.input_seed e.keys.big e.numbers) = subst (λ (c : Circuit). cipher_from words.cipher filled ≡ Ok (input_file c words.input_seed e.keys.big e.numbers)) same e.cipher_back in
    let two : cipher_from words.cipher filled ≡ Ok (input_file c words.input_seed (secret_of_seed c words.key_seed).big e.numbers) = subst (λ (s : SecretFile). cipher_from words.cipher filled ≡ Ok (input_file c words.input_seed s.big e.numbers)) secret one in
    let within : AreIn (input_ranges (nodes_of c.shape)) e.numbers = subst (λ (c : Circuit). AreIn (input_ranges (nodes_of c.shape)) e.numbers) same e.within in
    record {
      rules = k.rules;
      needs = k.needs;
      within = subst (λ (list : List ℤ). AreIn (input_ranges (nodes_of c.shape)) list) list within;
      circuit_read = circuit_stays words.circuit keyed filled (stays words.circuit apart.circuit_cipher) ∙ k.circuit_read;
      secret_read = secret_stays words.secret keyed filled (stays words.secret apart.secret_cipher) ∙ k.secret_read;
      keys_read = keys_are c words.eval words.key_seed filled k.needs
          (λ boot. eval_stays (params_digest c.params) c.params words.eval keyed filled (stays words.eval (apart.eval_cipher (eval_named c words.eval k.needs boot))) ∙ k.eval_read boot);
      cipher_read = subst (λ (list : List ℤ). cipher_from words.cipher filled ≡ Ok (input_file c words.input_seed (secret_of_seed c words.key_seed).big list)) list two;
    }

filled_is : Serving → (words : FlowWords) (c : Circuit) (numbers : List ℤ) (keyed filled : Files) → are_distinct (flow_files words) ≡ true → Keyed words c numbers keyed → EncryptIsRight (encrypt_words words) keyed filled → Filled words c numbers filled
filled_is laws words c numbers keyed filled distinct k e =
    filled_over laws words c numbers keyed filled (names_apart words distinct) k e (one_read (circuit_from words.circuit keyed) e.circuit c e.circuit_read k.circuit_read)

-- ---- after run

-- what is there for `decrypt`
record Computed (words : FlowWords) (c : Circuit) (numbers : List ℤ) (computed : Files) : Type 0 where
  secret_read : secret_from words.secret computed ≡ Ok (secret_of_seed c words.key_seed)
  output_read : cipher_from words.output computed ≡ Ok (output_file c (run_keys c words.key_seed) (inputs_of c (secret_of_seed c words.key_seed).big words.input_seed numbers))

computed_is : Serving → (words : FlowWords) (c : Circuit) (numbers : List ℤ) (filled computed : Files) → are_distinct (flow_files words) ≡ true → Filled words c numbers filled → RunIsRight (run_words words) filled computed → Computed words c numbers computed
computed_is laws words c numbers filled computed distinct f r =
    let apart = names_apart words distinct in
    let same : r.circuit ≡ c = one_read (circuit_from words.circuit filled) r.circuit c (text_read laws.texts words.circuit filled r.circuit r.rules r.text) f.circuit_read in
    let read : keys_from c words.eval filled ≡ Ok r.keys = subst (λ (c : Circuit). keys_from c words.eval filled ≡ Ok r.keys) same r.evaluation in
    let keys : r.keys ≡ run_keys c words.key_seed = one_read (keys_from c words.eval filled) r.keys (run_keys c words.key_seed) read f.keys_read in
    let file : CipherFile = input_file c words.input_seed (secret_of_seed c words.key_seed).big numbers in
    let inputs : r.inputs ≡ file = one_read (cipher_from words.cipher filled) r.inputs file r.cipher f.cipher_read in
    let one : cipher_from words.output computed ≡ Ok (output_file c r.keys r.inputs.ciphertexts) = subst (λ (c : Circuit). cipher_from words.output computed ≡ Ok (output_file c r.keys r.inputs.ciphertexts)) same r.read_back in
    let two : cipher_from words.output computed ≡ Ok (output_file c (run_keys c words.key_seed) r.inputs.ciphertexts) = subst (λ (keys : EvalKeys). cipher_from words.output computed ≡ Ok (output_file c keys r.inputs.ciphertexts)) keys one in
    record {
      secret_read = secret_stays words.secret filled computed (ap (λ (files : Files). get files words.secret) r.stored ∙ laws.files.others_stay filled words.output (cipher_bytes (output_file r.circuit r.keys r.inputs.ciphertexts)) words.secret apart.secret_output) ∙ f.secret_read;
      output_read = subst (λ (file : CipherFile). cipher_from words.output computed ≡ Ok (output_file c (run_keys c words.key_seed) file.ciphertexts)) inputs two;
    }

-- ---- values

-- the keys of a seed are of the parameters
of_params : KeyCommandLaws → (c : Circuit) (seed : List ℕ) → AreOfParams c.params (eval_keys_of_seed c seed).switch (eval_keys_of_seed c seed).boot
of_params laws c seed =
    let long = laws.dimensions c seed in
    record { big_dim = long.big_length; small_dim = long.small_length; base = refl; level = refl; shape = refl }

-- where the circuit has a bootstrap, they are there and fit
run_keys_fit : KeyCommandLaws → (c : Circuit) (seed : List ℕ) → IsParams c.params → has_boot c ≡ true
    → EvalKeysFit c.params (secret_of_seed c seed).big (secret_of_seed c seed).small (run_keys c seed).switch (run_keys c seed).boot
run_keys_fit laws c seed is boot =
    subst (λ (b : Bool). EvalKeysFit c.params (secret_of_seed c seed).big (secret_of_seed c seed).small (cond b (some_keys (eval_keys_of_seed c seed)) no_keys).switch (cond b (some_keys (eval_keys_of_seed c seed)) no_keys).boot)
    (sym boot) (of_params laws c seed, laws.keys_fit c seed is)

-- so the inputs of the flow are such as a run wants
flow_good : KeyCommandLaws → (c : Circuit) (seed other : List ℕ) (numbers : List ℤ) → IsCircuit c → AreIn (input_ranges (nodes_of c.shape)) numbers
    → AreGood c (run_keys c seed) (secret_of_seed c seed).big (secret_of_seed c seed).small numbers (inputs_of c (secret_of_seed c seed).big other numbers)
flow_good laws c seed other numbers rules within = record {
  secret = laws.dimensions c seed;
  fit = λ boot. run_keys_fit laws c seed rules.params boot;
  ranges = within;
  fresh = laws.fresh (stream_key other input_label) (secret_of_seed c seed).big c.shape.width c.params.glwe.error numbers;
}

values_found : Serving → (words : FlowWords) (c : Circuit) (numbers : List ℤ) (computed : Files) → IsCircuit c → AreIn (input_ranges (nodes_of c.shape)) numbers → Computed words c numbers computed
    → decrypted (decrypt_words words) computed ≡ Ok (values_text (clear_values (nodes_of c.shape) numbers))
unfolding decrypted
values_found laws words c numbers computed rules within found =
    let seed = words.key_seed in
    let big = (secret_of_seed c seed).big in
    let small = (secret_of_seed c seed).small in
    let inputs = inputs_of c big words.input_seed numbers in
    rw (found.secret_read, found.output_read) (laws.commands.printed c (run_keys c seed) big small numbers inputs rules (flow_good laws.commands c seed words.input_seed numbers rules within))

values_come : Serving → (words : FlowWords) (c : Circuit) (numbers : List ℤ) (start keyed filled computed : Files) → FlowBegins words c numbers start → KeygenIsRight (keygen_words words) start keyed → EncryptIsRight (encrypt_words words) keyed filled → RunIsRight (run_words words) filled computed
    → decrypted (decrypt_words words) computed ≡ Ok (values_text (clear_values (nodes_of c.shape) numbers))
values_come laws words c numbers start keyed filled computed b k e r =
    let f = filled_is laws words c numbers keyed filled b.distinct (keyed_is laws words c numbers start keyed b k) e in
    values_found laws words c numbers computed f.rules f.within (computed_is laws words c numbers filled computed b.distinct f r)

-- ---- answers

keygen_answers : (words : FlowWords) (c : Circuit) (numbers : List ℤ) (start : Files) → FlowBegins words c numbers start → fits_eval c words.eval ≡ true → (keygen_outcome (keygen_words words) start).answer ≡ status.Ok
unfolding generated
keygen_answers words c numbers start b needs = rw (b.circuit_read, needs) refl

-- the secret keys of a seed fit the circuit
secret_fits_it : Serving → (c : Circuit) (seed : List ℕ) → secret_fits (params_digest c.params) c.params (secret_of_seed c seed) ≡ Ok tt
unfolding secret_fits
secret_fits_it laws c seed =
    let long = laws.commands.dimensions c seed in
    rw (laws.matching.same_digests (params_digest c.params), long.small_length, laws.matching.same_words c.params.lwe.n, long.big_length, laws.matching.same_words (big_dimension c.params)) refl

encrypt_over : Serving → (words : FlowWords) (c : Circuit) (numbers : List ℤ) (keyed : Files) → Keyed words c numbers keyed → (encrypt_outcome (encrypt_words words) keyed).answer ≡ status.Ok
unfolding encrypted
encrypt_over laws words c numbers keyed k = rw (k.circuit_read, k.secret_read, secret_fits_it laws c words.key_seed, k.numbers_read) refl

range_is : MatchLaws → (range : ℤ × ℤ) → same_range range range ≡ Ok tt
unfolding same_range
range_is laws range = rw (laws.same_words (word_of range.0), laws.same_words (word_of range.1)) refl

ranges_are : MatchLaws → (ranges : List (ℤ × ℤ)) → same_ranges ranges ranges ≡ Ok tt
unfolding same_ranges
ranges_are laws [] = refl
ranges_are laws (range ∷ ranges) = rw (range_is laws range, ranges_are laws ranges) refl

-- a head fits itself
head_is : MatchLaws → (head : CipherHead) → head_fits head head ≡ Ok tt
unfolding head_fits
head_is laws head = rw (laws.same_digests head.digest, laws.same_words head.dim, laws.same_words head.width, laws.same_words (length head.ranges), ranges_are laws head.ranges) refl

inputs_found : Serving → (words : FlowWords) (c : Circuit) (numbers : List ℤ) (filled : Files) → Filled words c numbers filled → inputs_from c words.cipher filled ≡ Ok (inputs_of c (secret_of_seed c words.key_seed).big words.input_seed numbers)
unfolding inputs_from
inputs_found laws words c numbers filled f = rw (f.cipher_read, head_is laws.matching (input_head c)) refl

run_over : Serving → (words : FlowWords) (c : Circuit) (numbers : List ℤ) (filled : Files) → Filled words c numbers filled → (run_outcome (run_words words) filled).answer ≡ status.Ok
unfolding run_output
run_over laws words c numbers filled f = rw (f.circuit_read, f.needs, f.keys_read, inputs_found laws words c numbers filled f) refl

-- ---- all of it

pub flow : Serving → FlowLaws
flow laws = record {
  values_within = λ words c numbers start b. within_ranges laws.values (input_ranges (nodes_of c.shape)) words.values start numbers b.numbers_read;
  keygen_answers = keygen_answers;
  encrypt_answers = λ words c numbers start keyed b k. encrypt_over laws words c numbers keyed (keyed_is laws words c numbers start keyed b k);
  run_answers = λ words c numbers start keyed filled b k e. run_over laws words c numbers filled (filled_is laws words c numbers keyed filled b.distinct (keyed_is laws words c numbers start keyed b k) e);
  values_come = values_come laws;
  decrypt_puts = λ words c numbers start keyed filled computed b k e r. ap (outcome_from putting) (values_come laws words c numbers start keyed filled computed b k e r);
}
