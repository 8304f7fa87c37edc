-- What a run reads after what, and what follows where it gave an output.
use Rattle.std.proofs.Common.{◌≡◌, ℕ, Bool, true, false, cond, List, [], ◌∷◌, ◌++◌, ◌≤◌, length, ltb, Option, Some, None, Result, Ok, Err, refl, sym, ap, subst, ◌∙◌, append_assoc}
use lib.IntN.{ℤ}
use Rattle.std.specs.FinMap.{get, insert}
use Rattle.std.proofs.lemmas.Bool.{le-ltb}
use Rattle.refusals.specs.Reading.{◌>>=◌, unless}
use Rattle.refusals.specs.Steps.{value_of_step}
use Rattle.port_store.specs.Files.{Bytes, Files}
use Rattle.port_store.specs.Laws.{FilesLaws}
use Rattle.tfhe_level.specs.declared.shape.Circuit.{Circuit}
use Rattle.tfhe_level.specs.Nodes.{nodes_of, node_ranges, at_outs, clear_values}
use Rattle.noise_model.specs.Bounds.{noise_bounds}
use Rattle.noise_model.specs.Circuits.{IsCircuit}
use Rattle.circuit_file.specs.Limits.{circuit_limit}
use Rattle.circuit_file.specs.Circuit.{circuit_of}
use Rattle.circuit_file.specs.Text.{circuit_text}
use Rattle.circuit_file.specs.Laws.{CircuitTextLaws}
use Rattle.circuit_digest.specs.ParamsDigest.{params_digest}
use Rattle.circuit_heads.specs.Heads.{out_ranges, input_head}
use Rattle.circuit_heads.specs.Laws.{HeadLaws}
use Rattle.sealed_files.specs.Limits.{file_limit}
use Rattle.sealed_files.specs.declared.kinds.FileKind.TheVariants as kind
use Rattle.cipher_files.specs.CipherFile.{CipherFile, cipher_head, cipher_bytes, cipher_of, head_fits}
use Rattle.cipher_files.specs.Laws.{CipherFileLaws}
use Rattle.circuit_run.specs.Running.{EvalKeys, output_words}
use Rattle.circuit_run.specs.Noise.{AreGood, AreRight}
use Rattle.circuit_run.specs.Laws.{NoiseLaws}
use Rattle.command_forms.specs.declared.fault.Fault.{Fault}
use Rattle.command_forms.specs.declared.fault.Fault.TheVariants as fault
use Rattle.command_forms.specs.declared.status.Status.{Status}
use Rattle.command_forms.specs.Names.{is_no_eval, are_distinct}
use Rattle.command_forms.specs.Outcome.{Outcome, as_fault, bounded, reading, wrote}
use Rattle.command_forms.specs.declared.fault.StepRefusal.{StepRefusal}
use Rattle.command_forms.specs.Outside.{StoreAt, Outside, MayLeave}
use Rattle.command_forms.specs.Steps.{ReadsAs}
use Rattle.command_forms.specs.StepLemmas.{distinct_parts}
use Rattle.command_forms.specs.DoneLemmas.{ok_is, as_fault_ok, read_held, done_over, wrote_one}
use Rattle.command_files.specs.Files.{fits_eval, eval_files, circuit_from, eval_from, cipher_from}
use Rattle.run_command.specs.Words.{RunWords, read_files, run_files}
use Rattle.run_command.specs.Run.{some_keys, no_keys, keys_from, fitting_inputs, inputs_from, output_file, run_output, run_outcome}
use Rattle.run_command.specs.Found.{GaveOutput}
use Rattle.run_command.specs.Headline.{AreRightOutputs, RunIsRight, RunHeadline}

-- ---- what is read after what

-- behind the inputs
abbrev pub bytes_of : Circuit → EvalKeys → List (List ℕ) → Result Bytes Fault
bytes_of circuit keys inputs = Ok (cipher_bytes (output_file circuit keys inputs))

-- behind the keys
abbrev pub after_keys : RunWords → Circuit → Files → EvalKeys → Result Bytes Fault
after_keys words circuit files keys = inputs_from circuit words.cipher files >>= bytes_of circuit keys

-- behind the circuit
abbrev pub after_circuit : RunWords → Files → Circuit → Result Bytes Fault
after_circuit words files circuit = unless (fits_eval circuit words.eval) fault.Usage >>= λ fits. (keys_from circuit words.eval files >>= after_keys words circuit files)

-- the evaluation keys, where it is told whether EVAL is the word `-`
abbrev keys_if : Bool → Circuit → Bytes → Files → Result EvalKeys Fault
keys_if none circuit eval files = cond none (Ok no_keys) (eval_from (params_digest circuit.params) circuit.params eval files >>= λ rows. Ok (some_keys rows))

pub keys_told : {X : Type 0} (eval : Bytes) (none : Bool) → is_no_eval eval ≡ none → (before after : StoreAt) (view : X → EvalKeys) (result : Result X StepRefusal) (circuit : Circuit)
    → ReadsAs (cond none [] (eval ∷ [])) before after view result (λ files. keys_if none circuit eval files) → ReadsAs (eval_files eval) before after view result (keys_from circuit eval)
unfolding keys_from
keys_told eval none is before after view result circuit step =
    subst (λ (b : Bool). ReadsAs (cond b [] (eval ∷ [])) before after view result (λ files. keys_if b circuit eval files)) (sym is) step

-- behind a file of ciphertexts
abbrev pub after_file : Circuit → CipherFile → Result (List (List ℕ)) Fault
after_file circuit file = fitting_inputs circuit file >>= λ inputs. Ok inputs.ciphertexts

-- the files that are read have distinct names
pub read_apart : (words : RunWords) → are_distinct (run_files words) ≡ true → are_distinct (read_files words) ≡ true
read_apart words apart = (distinct_parts (read_files words) (words.output ∷ []) apart).0

-- the one file of EVAL has
eval_apart_if : (b : Bool) (eval : Bytes) → are_distinct (cond b [] (eval ∷ [])) ≡ true
eval_apart_if true eval = refl
eval_apart_if false eval = refl

pub eval_apart : (eval : Bytes) → are_distinct (eval_files eval) ≡ true
eval_apart eval = eval_apart_if (is_no_eval eval) eval

-- ---- what was read

-- the circuit stands in its file as its one text
pub text_held : CircuitTextLaws → (name : Bytes) (files : Files) (circuit : Circuit) → circuit_from name files ≡ Ok circuit → get files name ≡ Some (circuit_text circuit)
unfolding circuit_from
text_held laws name files circuit e =
    let text = value_of_step (reading files name circuit_limit) (λ t. as_fault fault.Circuit (circuit_of t)) circuit e in
    read_held files name circuit_limit text.0 text.1 ∙ ap (λ t. Some t) (laws.read text.0 circuit (as_fault_ok fault.Circuit (circuit_of text.0) circuit text.2)).1

-- the file of the inputs, which fits the circuit
pub record InputsFound (circuit : Circuit) (name : Bytes) (files : Files) (inputs : List (List ℕ)) : Type 0 where
  pub file : CipherFile
  pub is_read : cipher_from name files ≡ Ok file
  pub fitting : head_fits (input_head circuit) (cipher_head file) ≡ Ok tt
  pub rows : file.ciphertexts ≡ inputs

unit_is : (u : Unit {0}) → u ≡ tt
unit_is u = refl

pub inputs_found : (circuit : Circuit) (name : Bytes) (files : Files) (inputs : List (List ℕ)) → inputs_from circuit name files ≡ Ok inputs → InputsFound circuit name files inputs
unfolding inputs_from
inputs_found circuit name files inputs e =
    let file = value_of_step (cipher_from name files) (after_file circuit) inputs e in
    let same = value_of_step (fitting_inputs circuit file.0) (λ found. Ok found.ciphertexts) inputs file.2 in
    let fits = value_of_step (as_fault (λ f. fault.File kind.Cipher f) (head_fits (input_head circuit) (cipher_head file.0))) (λ x. Ok file.0) same.0 same.1 in
    record {
      file = file.0;
      is_read = file.1;
      fitting = as_fault_ok (λ f. fault.File kind.Cipher f) (head_fits (input_head circuit) (cipher_head file.0)) tt fits.1;
      rows = ap (λ (found : CipherFile). found.ciphertexts) (ok_is {F = Fault} file.0 same.0 fits.2) ∙ ok_is {F = Fault} same.0.ciphertexts inputs same.2;
    }

-- ---- a run that answered Ok

-- a file that is there is read, where it keeps its limit
read_there : (most : ℕ) (bytes : Bytes) (held : Option Bytes) → held ≡ Some bytes → length bytes ≤ most → bounded most held ≡ Ok bytes
read_there most bytes held is within = rw (is, le-ltb most (length bytes) within) refl

-- ciphertexts that a file spells are read from it
pub reads_spelled : (files : Files) (name bytes : Bytes) (file : CipherFile) → get files name ≡ Some bytes → length bytes ≤ file_limit → cipher_of bytes ≡ Ok file → cipher_from name files ≡ Ok file
unfolding cipher_from
reads_spelled files name bytes file held within spelled = rw (read_there file_limit bytes (get files name) held within, spelled) refl

-- the laws that the headline stands on
pub record RunServing : Type 0 where
  pub files : FilesLaws
  pub texts : CircuitTextLaws
  pub ciphertexts : CipherFileLaws
  pub heads : HeadLaws
  pub noise : NoiseLaws

outputs_right : RunServing → (circuit : Circuit) (keys : EvalKeys) (inputs : List (List ℕ)) → IsCircuit circuit → AreRightOutputs circuit keys inputs
outputs_right laws circuit keys inputs rules big small values good =
    subst (λ (ranges : List (ℤ × ℤ)). AreRight big circuit.shape.width ranges (at_outs (nodes_of circuit.shape) (noise_bounds circuit.params (nodes_of circuit.shape))) (output_words circuit keys inputs) (clear_values (nodes_of circuit.shape) values))
    (sym (laws.heads.outs (nodes_of circuit.shape))) (laws.noise.outputs_right circuit keys big small values inputs rules good)

right : RunServing → (words : RunWords) (before after : Files) (output : Bytes) → GaveOutput words before output → after ≡ insert before words.output output → RunIsRight words before after
right laws words before after output g put =
    let i = inputs_found g.circuit words.cipher before g.inputs g.inputs_read in
    let same = sym i.rows in
    let file : CipherFile = output_file g.circuit g.keys g.inputs in
    let held : get after words.output ≡ Some (cipher_bytes file) = ap (λ files. get files words.output) put ∙ laws.files.put_is_there before words.output output ∙ ap (λ z. Some z) g.spelled in
    let short : length (cipher_bytes file) ≤ file_limit = subst (λ (bytes : Bytes). length bytes ≤ file_limit) g.spelled g.within in
    record {
      circuit = g.circuit;
      keys = g.keys;
      inputs = i.file;
      rules = g.rules;
      text = text_held laws.texts words.circuit before g.circuit g.circuit_read;
      needs = g.needs;
      evaluation = g.keys_read;
      cipher = i.is_read;
      fitting = i.fitting;
      stored = subst (λ (rows : List (List ℕ)). after ≡ insert before words.output (cipher_bytes (output_file g.circuit g.keys rows))) same (put ∙ ap (insert before words.output) g.spelled);
      written = subst (λ (rows : List (List ℕ)). get after words.output ≡ Some (cipher_bytes (output_file g.circuit g.keys rows))) same held;
      read_back = subst (λ (rows : List (List ℕ)). cipher_from words.output after ≡ Ok (output_file g.circuit g.keys rows)) same
          (reads_spelled after words.output (cipher_bytes file) file held short (laws.ciphertexts.spelled file g.is_file));
      right = outputs_right laws g.circuit g.keys i.file.ciphertexts g.rules;
    }

-- the headline follows from what a run may leave
pub headline : RunServing → (words : RunWords) (answer : Status) (earlier later : Outside) → MayLeave (run_outcome words) answer earlier later → ((files : Files) (bytes : Bytes) → earlier.store.files ≡ Some files → run_output words files ≡ Ok bytes → GaveOutput words files bytes)
    → RunHeadline words answer earlier later
headline laws words answer earlier later may gave = λ ok files now told later_told.
    let d = done_over (wrote words.output) (run_output words) answer earlier later files may ok told in
    right laws words files now d.value (gave files d.value told d.gave) (wrote_one words.output d.value answer earlier later files now d.done told later_told)
