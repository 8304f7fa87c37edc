-- Which file holds what after `compile`, and what follows for the values.
use Rattle.std.proofs.Common.{◌≡◌, Bool, true, false, not, List, [], ◌∷◌, ◌++◌, length, Option, Some, Ok, refl, sym, ap, subst, ◌∙◌}
use lib.IntN.{ℤ}
use Rattle.std.specs.FinMap.{get, insert}
use Rattle.std.specs.Str.{bytes_eq}
use Rattle.std.specs.List.{list_any}
use Rattle.std.proofs.lemmas.Bool.{le-ltb, and_parts, false≢true}
use Rattle.std.proofs.lemmas.Slice.Eq.{bytes_eq-Decides}
use Rattle.refusals.specs.Steps.{value_of_step}
use Rattle.port_store.specs.Files.{Bytes, Files}
use Rattle.port_store.specs.Laws.{FilesLaws}
use Rattle.forms.specs.Forms.{AreIn}
use Rattle.fhe_level.specs.Programs.{clear_values}
use Rattle.tfhe_level.specs.declared.shape.Circuit.{Circuit}
use Rattle.tfhe_level.specs.Nodes.{nodes_of}
use Rattle.tfhe_level.specs.Nodes as on_nodes
use Rattle.tfhe_level.specs.Laws.{input_ranges}
use Rattle.noise_model.specs.Circuits.{IsCircuit}
use Rattle.circuit_file.specs.Limits.{circuit_limit}
use Rattle.circuit_file.specs.Circuit.{circuit_of}
use Rattle.circuit_file.specs.Text.{circuit_text}
use Rattle.circuit_file.specs.Laws.{CircuitTextLaws}
use Rattle.circuit_digest.specs.ParamsDigest.{params_digest}
use Rattle.cipher_files.specs.SecretFile.{secret_file}
use Rattle.circuit_run.specs.Noise.{AreGood}
use Rattle.compile_pipe.specs.declared.fault.FrontFault.{FrontFault}
use Rattle.compile_pipe.specs.declared.parts.Front.{Front}
use Rattle.compile_pipe.specs.Front.{front_of}
use Rattle.cost_cert.specs.Certificate.{certificate_text}
use Rattle.value_files.specs.Values.{values_text}
use Rattle.command_forms.specs.Names.{are_distinct}
use Rattle.command_forms.specs.Outcome.{reading, outcome_from, putting}
use Rattle.command_forms.specs.StepLemmas.{or_parts, not_parts}
use Rattle.command_forms.specs.DoneLemmas.{ok_is, some_is, as_fault_ok, read_held}
use Rattle.command_files.specs.Files.{eval_files, fits_eval, circuit_from, values_from}
use Rattle.key_commands.specs.Decrypt.{decrypted_text, decrypt_outcome}
use Rattle.key_commands.specs.Headline.{KeygenIsRight, EncryptIsRight}
use Rattle.key_commands.specs.ReadLemmas.{values_stay}
use Rattle.run_command.specs.Words.{RunWords}
use Rattle.run_command.specs.Run.{output_file}
use Rattle.run_command.specs.Headline.{RunIsRight}
use Rattle.key_flow.specs.Laws.{KeyCommandLaws}
use Rattle.program_commands.specs.Words.{CompileWords}
use Rattle.program_commands.specs.Programs.{program_limit, front_fault_of, front_in, front_from}
use Rattle.program_commands.specs.Clear.{cleared}
use Rattle.program_commands.specs.Headline.{IsCompiled}
use Rattle.command_flow.specs.Flow.{flow_files, keygen_words, encrypt_words, run_words, decrypt_words, FlowBegins, FlowLaws}
use Rattle.command_flow.specs.Calls.{FlowPuts, FlowHeadline}
use Rattle.program_flow.specs.Programs.{ProgramWords, compile_words, clear_words, program_files, ProgramBegins, made_circuit, ProgramLaws}

-- the laws that the flow stands on
pub record Serving : Type 0 where
  pub files : FilesLaws
  pub texts : CircuitTextLaws
  pub commands : KeyCommandLaws
  pub flow : FlowLaws
  pub calls : FlowHeadline

-- ---- names

-- a name that is not another is not the other way round
other_way : (a b : Bytes) → bytes_eq a b ≡ false → bytes_eq b a ≡ false
other_way a b apart = elim (bytes_eq b a) as (λ (t : Bool). bytes_eq b a ≡ t → t ≡ false) [
  | true ↦ λ e. absurd (false≢true (sym apart ∙ (bytes_eq-Decides a b).1 (sym ((bytes_eq-Decides b a).0 e))))
  | false ↦ λ e. refl
] refl

record Apart (words : ProgramWords) : Type 0 where
  flow : are_distinct (flow_files words.flow) ≡ true
  values_cert : bytes_eq words.flow.values words.cert ≡ false
  values_circuit : bytes_eq words.flow.values words.flow.circuit ≡ false

-- a name is none of those behind it, which are distinct
first_apart : (x : Bytes) (xs : List Bytes) → are_distinct (x ∷ xs) ≡ true → (list_any (bytes_eq x) xs ≡ false) × (are_distinct xs ≡ true)
first_apart x xs e = let p = and_parts (not (list_any (bytes_eq x) xs)) (are_distinct xs) e in (not_parts _ p.0, p.1)

-- it is not the first of them, nor one of the others
next_apart : (x y : Bytes) (ys : List Bytes) → list_any (bytes_eq x) (y ∷ ys) ≡ false → (bytes_eq x y ≡ false) × (list_any (bytes_eq x) ys ≡ false)
next_apart x y ys e = or_parts (bytes_eq x y) (list_any (bytes_eq x) ys) e

after_two : (cert circuit values : Bytes) (rest : List Bytes) → are_distinct (cert ∷ circuit ∷ values ∷ rest) ≡ true
    → (bytes_eq values cert ≡ false) × (bytes_eq values circuit ≡ false) × (are_distinct (circuit ∷ values ∷ rest) ≡ true)
after_two cert circuit values rest distinct =
    let first = first_apart cert (circuit ∷ values ∷ rest) distinct in
    let second = first_apart circuit (values ∷ rest) first.1 in
    let one = next_apart cert circuit (values ∷ rest) first.0 in
    (other_way cert values (next_apart cert values rest one.1).0, other_way circuit values (next_apart circuit values rest second.0).0, first.1)

names_apart : (words : ProgramWords) → are_distinct (program_files words) ≡ true → Apart words
names_apart words distinct =
    let one = first_apart words.program (words.table ∷ words.cert ∷ flow_files words.flow) distinct in
    let two = first_apart words.table (words.cert ∷ flow_files words.flow) one.1 in
    let three = after_two words.cert words.flow.circuit words.flow.values (words.flow.secret ∷ (eval_files words.flow.eval ++ words.flow.cipher ∷ words.flow.output ∷ [])) two.1 in
    record { flow = three.2; values_cert = three.0; values_circuit = three.1 }

-- ---- one program

same_text : (a b : Bytes) → ◌≡◌ {A = Option Bytes} (Some a) (Some b) → a ≡ b
same_text a b e = some_is a b e

same_front : (text other : Bytes) (front made : Front) → text ≡ other → front_of text ≡ Ok front → front_of other ≡ Ok made → made ≡ front
same_front text other front made is read read_made =
    ok_is {F = FrontFault} made front (sym read_made ∙ ap front_of (sym is) ∙ read)

-- the program of a file is the one that `compile` read
one_front : (name : Bytes) (start : Files) (front : Front) (text : Bytes) (made : Front) → front_from name start ≡ Ok front
    → get start name ≡ Some text → front_of text ≡ Ok made → made ≡ front
unfolding front_from
one_front name start front text made read held read_made =
    let step = value_of_step (reading start name program_limit) front_in front read in
    same_front step.0 text front made (some_is step.0 text (sym (read_held start name program_limit step.0 step.1) ∙ held))
    (as_fault_ok front_fault_of (front_of step.0) front step.2) read_made

-- ---- after compile

-- the circuit of a text that is there is read
text_read : CircuitTextLaws → (name : Bytes) (files : Files) (c : Circuit) → IsCircuit c → get files name ≡ Some (circuit_text c) → circuit_from name files ≡ Ok c
unfolding circuit_from
text_read laws name files c rules held = rw (held, le-ltb circuit_limit (length (circuit_text c)) (laws.size c rules), laws.spelled c rules) refl

-- VALUES stays
values_held : FilesLaws → (words : ProgramWords) (start compiled : Files) → Apart words → (made : IsCompiled (compile_words words) start compiled)
    → get compiled words.flow.values ≡ get start words.flow.values
values_held laws words start compiled apart made =
    ap (λ (files : Files). get files words.flow.values) made.stored
    ∙ laws.others_stay (insert start words.cert (certificate_text made.table made.front.shape)) words.flow.circuit (circuit_text (made_circuit made)) words.flow.values apart.values_circuit
    ∙ laws.others_stay start words.cert (certificate_text made.table made.front.shape) words.flow.values apart.values_cert

-- and is read as one value in the range of each input
inputs_read : (front made : Front) (ranges : List (ℤ × ℤ)) (name : Bytes) (numbers : List ℤ) (files : Files) → made ≡ front → ranges ≡ made.program.args
    → values_from front.program.args name files ≡ Ok numbers → values_from ranges name files ≡ Ok numbers
inputs_read front made ranges name numbers files same inputs read =
    ap (λ (r : List (ℤ × ℤ)). values_from r name files) (inputs ∙ ap (λ (f : Front). f.program.args) same) ∙ read

flow_begins : Serving → (words : ProgramWords) (front : Front) (numbers : List ℤ) (start compiled : Files)
    → ProgramBegins words front numbers start → (made : IsCompiled (compile_words words) start compiled)
    → FlowBegins words.flow (made_circuit made) numbers compiled
flow_begins laws words front numbers start compiled begins made =
    let apart = names_apart words begins.distinct in
    let same : made.front ≡ front = one_front words.program start front made.text made.front begins.program_read made.program made.front_read in
    let ranges : List (ℤ × ℤ) = input_ranges (nodes_of made.front.shape) in
    record {
      distinct = apart.flow;
      circuit_read = text_read laws.texts words.flow.circuit compiled (made_circuit made) made.rules made.circuit;
      numbers_read = values_stay ranges words.flow.values start compiled (values_held laws.files words start compiled apart made)
          ∙ inputs_read front made.front ranges words.flow.values numbers start same made.computes.inputs begins.numbers_read;
    }

-- ---- clear

clear_found : (words : ProgramWords) (front : Front) (numbers : List ℤ) (start : Files) → ProgramBegins words front numbers start
    → cleared (clear_words words) start ≡ Ok (values_text (clear_values front.program numbers))
unfolding cleared
clear_found words front numbers start begins = rw (begins.program_read, begins.numbers_read) refl

-- ---- after all of them

circuit_values : (front made : Front) (numbers : List ℤ) (ranges : List (ℤ × ℤ)) → made ≡ front → ranges ≡ made.program.args → AreIn ranges numbers
    → ((inputs : List ℤ) → AreIn made.program.args inputs → on_nodes.clear_values (nodes_of made.shape) inputs ≡ clear_values made.program inputs)
    → on_nodes.clear_values (nodes_of made.shape) numbers ≡ clear_values front.program numbers
circuit_values front made numbers ranges same inputs within computes =
    computes numbers (subst (λ (r : List (ℤ × ℤ)). AreIn r numbers) inputs within) ∙ ap (λ (f : Front). clear_values f.program numbers) same

decrypt_puts : Serving → (words : ProgramWords) (front : Front) (numbers : List ℤ) (start compiled keyed filled computed : Files)
    → ProgramBegins words front numbers start → IsCompiled (compile_words words) start compiled → KeygenIsRight (keygen_words words.flow) compiled keyed
    → EncryptIsRight (encrypt_words words.flow) keyed filled → RunIsRight (run_words words.flow) filled computed
    → decrypt_outcome (decrypt_words words.flow) computed ≡ putting (values_text (clear_values front.program numbers))
decrypt_puts laws words front numbers start compiled keyed filled computed begins made k e r =
    let b = flow_begins laws words front numbers start compiled begins made in
    let same : made.front ≡ front = one_front words.program start front made.text made.front begins.program_read made.program made.front_read in
    laws.flow.decrypt_puts words.flow (made_circuit made) numbers compiled keyed filled computed b k e r
    ∙ ap (λ (values : List ℤ). putting (values_text values)) (circuit_values front made.front numbers (input_ranges (nodes_of made.front.shape)) same made.computes.inputs
    (laws.flow.values_within words.flow (made_circuit made) numbers compiled b) made.computes.values)

calls_put : Serving → (words : ProgramWords) (front : Front) (numbers : List ℤ) (start compiled : Files)
    → ProgramBegins words front numbers start → (made : IsCompiled (compile_words words) start compiled) → fits_eval (made_circuit made) words.flow.eval ≡ true
    → FlowPuts words.flow compiled (values_text (clear_values front.program numbers))
calls_put laws words front numbers start compiled begins made needs =
    let b = flow_begins laws words front numbers start compiled begins made in
    let same : made.front ≡ front = one_front words.program start front made.text made.front begins.program_read made.program made.front_read in
    subst (λ (values : List ℤ). FlowPuts words.flow compiled (values_text values)) (circuit_values front made.front numbers (input_ranges (nodes_of made.front.shape)) same made.computes.inputs
    (laws.flow.values_within words.flow (made_circuit made) numbers compiled b) made.computes.values)
    (laws.calls words.flow (made_circuit made) numbers compiled b needs)

-- ---- any keys

same_circuit : CircuitTextLaws → (c d : Circuit) → IsCircuit c → IsCircuit d → circuit_text c ≡ circuit_text d → c ≡ d
same_circuit laws c d first second same = ok_is {F = _} c d (sym (laws.spelled c first) ∙ ap circuit_of same ∙ laws.spelled d second)

run_values : Serving → (front : Front) (c d : Circuit) (numbers : List ℤ) → c ≡ d → d.shape ≡ front.shape → AreIn (input_ranges (nodes_of c.shape)) numbers
    → input_ranges (nodes_of front.shape) ≡ front.program.args
    → ((inputs : List ℤ) → AreIn front.program.args inputs → on_nodes.clear_values (nodes_of front.shape) inputs ≡ clear_values front.program inputs)
    → on_nodes.clear_values (nodes_of c.shape) numbers ≡ clear_values front.program numbers
run_values laws front c d numbers same shape within inputs computes =
    let is : c.shape ≡ front.shape = ap (λ (c : Circuit). c.shape) same ∙ shape in
    ap (λ s. on_nodes.clear_values (nodes_of s) numbers) is
    ∙ computes numbers (subst (λ (r : List (ℤ × ℤ)). AreIn r numbers) (ap (λ s. input_ranges (nodes_of s)) is ∙ inputs) within)

run_computes : Serving → (compile : CompileWords) (run : RunWords) (start compiled before after : Files)
    (made : IsCompiled compile start compiled) (ran : RunIsRight run before after) → get before run.circuit ≡ get compiled compile.circuit
    → (big small : List Bool) (values : List ℤ) → AreGood ran.circuit ran.keys big small values ran.inputs.ciphertexts
    → decrypted_text (secret_file (params_digest ran.circuit.params) small big) (output_file ran.circuit ran.keys ran.inputs.ciphertexts)
    ≡ Ok (values_text (clear_values made.front.program values))
run_computes laws compile run start compiled before after made ran held big small values good =
    let text : circuit_text ran.circuit ≡ circuit_text (made_circuit made) = some_is _ _ (sym ran.text ∙ held ∙ made.circuit) in
    let same : ran.circuit ≡ made_circuit made = same_circuit laws.texts ran.circuit (made_circuit made) ran.rules made.rules text in
    laws.commands.printed ran.circuit ran.keys big small values ran.inputs.ciphertexts ran.rules good
    ∙ ap (λ (found : List ℤ). Ok (values_text found)) (run_values laws made.front ran.circuit (made_circuit made) values same refl good.ranges made.computes.inputs made.computes.values)

-- ---- all of it

pub flow : Serving → ProgramLaws
flow laws = record {
  begins = flow_begins laws;
  clear_puts = λ words front numbers start begins. ap (outcome_from putting) (clear_found words front numbers start begins);
  decrypt_puts = decrypt_puts laws;
  calls_put = calls_put laws;
  run_computes = run_computes laws;
}
