-- What follows where a command gave a certificate and a circuit.
use Rattle.std.specs.FinMap.{get, insert}
use Rattle.std.specs.Str.{bytes_eq}
use Rattle.std.specs.Option.{option_map}
use Rattle.std.specs.Prelude.{IfOk, ◌≤◌, length, nat_lt}
use Rattle.port_store.specs.Laws.{FilesLaws}
use Rattle.fhe_params.specs.declared.table.Choice.{Choice}
use Rattle.fhe_params.specs.Table.{IsTable}
use Rattle.fhe_params.specs.Laws.{TableLaws}
use Rattle.tfhe_level.specs.declared.shape.Circuit.{Circuit}
use Rattle.noise_model.specs.Circuits.{IsCircuit}
use Rattle.param_search.specs.Search.{least_choice}
use Rattle.param_search.specs.Laws.{SearchLaws}
use Rattle.cost_cert.specs.Certificate.{certificate_text}
use Rattle.circuit_file.specs.Text.{circuit_text}
use Rattle.compile_pipe.specs.Back.{circuit_with, with_text}
use Rattle.compile_pipe.specs.Laws.{CompileLaws}
use Rattle.command_forms.specs.declared.status.Status.{Status}
use Rattle.command_forms.specs.declared.status.Status.TheVariants as status
use Rattle.command_forms.specs.Outcome.{written}
use Rattle.command_forms.specs.Outside.{Outside, MayLeave}
use Rattle.command_forms.specs.DoneLemmas.{read_held, done_over, told_both}
use Rattle.program_commands.specs.Compile.{compiled, answer_with, wrote_compiled, compile_outcome}
use Rattle.program_commands.specs.Headline.{Computes, IsCompiled, CompileHeadline}
use Rattle.std.proofs.Common.{◌≡◌, ℕ, Bool, true, false, cond, Option, Some, None, Result, Ok, Err, refl, sym, ap, subst, ◌∙◌}
use Rattle.std.proofs.lemmas.Bool.{ltb-false}
use Rattle.refusals.specs.Steps.{value_of_step}
use Rattle.port_store.specs.Files.{Bytes, Files}
use Rattle.fhe_params.specs.declared.table.Table.{Table}
use Rattle.fhe_params.specs.TableReading.{table_of}
use Rattle.tfhe_level.specs.Rules.{IsShape}
use Rattle.compile_pipe.specs.declared.parts.Front.{Front}
use Rattle.compile_pipe.specs.Front.{front_of}
use Rattle.compile_pipe.specs.Back.{CompiledTexts, back_of}
use Rattle.compile_pipe.specs.Back as pipe
use Rattle.command_forms.specs.declared.fault.Fault.{Fault}
use Rattle.command_forms.specs.declared.fault.Fault.TheVariants as fault
use Rattle.command_forms.specs.Outcome.{bounded, reading}
use Rattle.command_forms.specs.DoneLemmas.{ok_is, as_fault_ok}
use Rattle.program_commands.specs.Words.{CompileWords}
use Rattle.program_commands.specs.Programs.{program_limit, table_limit, front_fault_of, front_in, front_from, compiled_in, compiled_from}
use Rattle.program_commands.specs.Found.{GaveCompiled}

same_value : {A F : Type 0} (x y : A) → ◌≡◌ {A = Result A F} (Ok x) (Ok y) → x ≡ y
same_value x y e = cc

table_found : (front : Front) (bytes : Bytes) (found : CompiledTexts) → back_of front.shape bytes ≡ Ok found
    → (table : Table) × (table_of bytes ≡ Ok table) × (found ≡ pipe.compiled table front.shape)
unfolding back_of
table_found front bytes found e =
    let read = value_of_step (table_of bytes) (λ (table : Table). Ok (pipe.compiled table front.shape)) found e in
    (read.0, read.1, sym (same_value (pipe.compiled read.0 front.shape) found read.2))

-- what the files gave
pub gave_compiled : (words : CompileWords) (files : Files) (front : Front) (found : CompiledTexts) → IsShape front.shape
    → front_from words.program files ≡ Ok front → compiled_from front.shape words.table files ≡ Ok found → GaveCompiled words files found
unfolding front_from compiled_from
gave_compiled words files front found shape fronted compiled =
    let program = value_of_step (reading files words.program program_limit) front_in front fronted in
    let table = value_of_step (reading files words.table table_limit) (compiled_in front.shape) found compiled in
    let parts = table_found front table.0 found (as_fault_ok fault.Table (back_of front.shape table.0) found table.2) in
    record {
      text = program.0;
      text_read = program.1;
      front = front;
      front_read = as_fault_ok front_fault_of (front_of program.0) front program.2;
      shape = shape;
      table_text = table.0;
      table_text_read = table.1;
      table = parts.0;
      table_read = parts.1;
      is = parts.2;
    }

-- ---- limits

short_if : (over : Bool) (f : Fault) (held bytes : Bytes) → cond over (Err f) (Ok held) ≡ Ok bytes → (over ≡ false) × (held ≡ bytes)
short_if true f held bytes e = absurd cc
short_if false f held bytes e = (refl, ok_is {F = Fault} held bytes e)

-- what was read is within its limit
read_short : (most : ℕ) (found : Option Bytes) (bytes : Bytes) → bounded most found ≡ Ok bytes → length bytes ≤ most
read_short most None bytes e = absurd cc
read_short most (Some held) bytes e =
    let p = short_if (nat_lt most (length held)) _ held bytes e in
    subst (λ (b : Bytes). length b ≤ most) p.1 (ltb-false most (length held) p.0)

-- ---- what was written

-- two files were written, one after the other
both_held : FilesLaws → (before after : Files) (cert cert_bytes circuit circuit_bytes : Bytes) → bytes_eq cert circuit ≡ false
    → after ≡ insert (insert before cert cert_bytes) circuit circuit_bytes
    → (get after cert ≡ Some cert_bytes) × (get after circuit ≡ Some circuit_bytes)
both_held laws before after cert cert_bytes circuit circuit_bytes apart is = (
  ap (λ (files : Files). get files cert) is ∙ laws.others_stay (insert before cert cert_bytes) circuit circuit_bytes cert apart
      ∙ laws.put_is_there before cert cert_bytes,
  ap (λ (files : Files). get files circuit) is ∙ laws.put_is_there (insert before cert cert_bytes) circuit circuit_bytes,
)

-- the laws that the headline stands on
pub record CompileServing : Type 0 where
  pub files : FilesLaws
  pub tables : TableLaws
  pub search : SearchLaws
  pub programs : CompileLaws

of_ok : {A F : Type 0} (P : A → Type 0) (found : Result A F) (x : A) → found ≡ Ok x → IfOk found P → P x
of_ok P (Ok y) x e held = let same : y ≡ x = cc in subst P same held
of_ok P (Err f) x e held = absurd cc

-- a choice that was found makes a circuit
is_circuit : CompileServing → (front : Front) (table_text : Bytes) (table : Table) (choice : Choice) → IsShape front.shape
    → table_of table_text ≡ Ok table → least_choice table front.shape ≡ Some choice → IsCircuit (circuit_with front.shape table choice)
is_circuit laws front table_text table choice shape read least =
    let is_table : IsTable table = of_ok IsTable (table_of table_text) table read (laws.tables.read table_text) in
    laws.programs.circuit table front.shape choice is_table shape least

computes : CompileServing → (text : Bytes) (front : Front) → front_of text ≡ Ok front → Computes front
computes laws text front read = record {
  inputs = laws.programs.inputs text front read;
  values = λ inputs within. laws.programs.values text front inputs read within;
}

-- the files are right
right : CompileServing → (words : CompileWords) (before after : Files) (found : CompiledTexts) (g : GaveCompiled words before found)
    → (chosen : Option Choice) → least_choice g.table g.front.shape ≡ chosen → bytes_eq words.cert words.circuit ≡ false
    → answer_with (option_map with_text (option_map (circuit_with g.front.shape g.table) chosen)) ≡ status.Ok
    → after ≡ written (wrote_compiled words (record {
      cert = certificate_text g.table g.front.shape;
      circuit = option_map with_text (option_map (circuit_with g.front.shape g.table) chosen);
    })).writes before
    → IsCompiled words before after
right laws words before after found g None is apart ok put = absurd cc
right laws words before after found g (Some choice) is apart ok put =
    let circuit : Circuit = circuit_with g.front.shape g.table choice in
    let held = both_held laws.files before after words.cert (certificate_text g.table g.front.shape) words.circuit (circuit_text circuit) apart put in
    record {
      text = g.text;
      program = read_held before words.program program_limit g.text g.text_read;
      short = read_short program_limit (get before words.program) g.text g.text_read;
      front = g.front;
      front_read = g.front_read;
      table_text = g.table_text;
      table_file = read_held before words.table table_limit g.table_text g.table_text_read;
      table_short = read_short table_limit (get before words.table) g.table_text g.table_text_read;
      table = g.table;
      table_read = g.table_read;
      choice = choice;
      least = is;
      cert = held.0;
      circuit = held.1;
      stored = put;
      rules = is_circuit laws g.front g.table_text g.table choice g.shape g.table_read is;
      computes = computes laws g.text g.front g.front_read;
      cheapest = λ other among meets. laws.search.least g.table g.front.shape choice other is among meets;
    }

-- the headline follows from what `compile` may leave
pub headline : CompileServing → (words : CompileWords) (answer : Status) (earlier later : Outside) → bytes_eq words.cert words.circuit ≡ false
    → MayLeave (compile_outcome words) answer earlier later
    → ((files : Files) (found : CompiledTexts) → earlier.store.files ≡ Some files → compiled words files ≡ Ok found → GaveCompiled words files found)
    → CompileHeadline words answer earlier later
headline laws words answer earlier later apart may gave = λ ok files now told later_told.
    let d = done_over (wrote_compiled words) (compiled words) answer earlier later files may ok told in
    let g = gave files d.value told d.gave in
    let put : now ≡ written (wrote_compiled words d.value).writes files =
    told_both (λ held held_now. held_now ≡ written (wrote_compiled words d.value).writes held) earlier.store.files later.store.files files now told later_told d.done.files in
    right laws words files now d.value g (least_choice g.table g.front.shape) refl apart
    (sym (ap (λ (found : CompiledTexts). answer_with found.circuit) g.is) ∙ sym d.done.answered ∙ ok)
    (put ∙ ap (λ (found : CompiledTexts). written (wrote_compiled words found).writes files) g.is)
