-- The circuit of a program text computes what the program computes.
use Rattle.std.proofs.Common.{◌≡◌, ℕ, ◌+◌, List, [], ◌∷◌, map, refl, sym, ap, ◌∙◌, subst, Option, Some, None, Result, Ok, Err}
use Rattle.std.specs.Prelude.{ℤ}
use Rattle.std.specs.List.{enumerate_from}
use Rattle.refusals.specs.Reading.{◌>>=◌}
use Rattle.refusals.specs.Steps.{value_of_step}
use Rattle.forms.specs.Forms.{AreIn}
use Rattle.ap_level.specs.declared.level.ApOp.{ApOp}
use Rattle.fhe_text.specs.declared.source.Source.{Source}
use Rattle.fhe_text.specs.Reading as texts
use Rattle.fhe_text.specs.Laws.{TextLaws, PrintLaws}
use Rattle.fhe_level.specs.declared.fault.LimitFault.{LimitFault}
use Rattle.fhe_level.specs.declared.program.Program.{Program}
use Rattle.fhe_level.specs.Limits.{limit_fault}
use Rattle.fhe_level.specs.Programs.{checked_program, clear_values}
use Rattle.fhe_level.specs.Checked.{IsChecked}
use Rattle.fhe_level.specs.Laws.{CheckLaws}
use Rattle.pattern_pass.specs.Formed.{formed}
use Rattle.pattern_pass.specs.Laws.{FormedLaws}
use Rattle.tfhe_level.specs.declared.level.TfheOp.{TfheOp}
use Rattle.tfhe_level.specs.Nodes.{nodes_of}
use Rattle.tfhe_level.specs.Nodes as on_nodes
use Rattle.tfhe_level.specs.Laws.{input_ranges}
use Rattle.place_pass.specs.Placing.{placed_nodes}
use Rattle.place_pass.specs.Laws.{PlaceLaws}
use Rattle.compile_pipe.specs.declared.fault.FrontFault.{FrontFault}
use Rattle.compile_pipe.specs.declared.parts.Front.{Front}
use Rattle.fhe_params.specs.Laws.{TableLaws}
use Rattle.param_search.specs.Laws.{SearchLaws}
use Rattle.compile_pipe.proofs.Choosing.{chosen_is_circuit}
use Rattle.compile_pipe.specs.Shapes.{shape_of}
use Rattle.compile_pipe.specs.Front.{as_front, no_limit, text_in, check_counts, typed_in, program_in, patterns_in, placed_front, front_of}
use Rattle.compile_pipe.specs.Laws.{CanClear, CompileLaws}

ok_is : {A F : Type 0} (x y : A) → ◌≡◌ {A = Result A F} (Ok x) (Ok y) → x ≡ y
ok_is x y e = cc

-- a value that was given as one of a program was given
as_front_ok : {A F : Type 0} (of : F → FrontFault) (read : Result A F) (x : A) → as_front of read ≡ Ok x → read ≡ Ok x
as_front_ok of (Ok y) x e = ap (λ z. Ok z) (ok_is {F = FrontFault} y x e)
as_front_ok of (Err f) x e = absurd cc

no_limit_ok : (found : Option LimitFault) (x : Unit {0}) → no_limit found ≡ Ok x → found ≡ None
no_limit_ok None x e = refl
no_limit_ok (Some f) x e = absurd cc

-- the nodes of the circuit of nodes
seconds : (number : ℕ) (nodes : List TfheOp) → map (λ (entry : ℕ × TfheOp). entry.1) (enumerate_from number nodes) ≡ nodes
seconds number [] = refl
seconds number (node ∷ nodes) = ap (λ l. node ∷ l) (seconds (number + 1) nodes)

nodes_same : (nodes : List TfheOp) → nodes_of (shape_of nodes) ≡ nodes
nodes_same nodes = seconds 0 nodes

-- what a text that has a circuit went through
pub record IsFronted (bytes : List ℕ) (front : Front) : Type 0 where
  pub source : Source
  pub source_read : texts.program_of bytes ≡ Ok source
  pub within : limit_fault source ≡ None
  pub typed : checked_program source ≡ Ok front.program
  pub patterns : List ApOp
  pub formed_as : formed front.program ≡ Ok patterns
  pub is : front ≡ placed_front front.program patterns

fronted_from : (bytes : List ℕ) (front : Front) (source : Source) (program : Program) (patterns : List ApOp) → texts.program_of bytes ≡ Ok source
    → limit_fault source ≡ None → checked_program source ≡ Ok program → formed program ≡ Ok patterns → placed_front program patterns ≡ front
    → IsFronted bytes front
fronted_from bytes front source program patterns read within typed formed_as is =
    subst (IsFronted bytes) is (record {
      source = source;
      source_read = read;
      within = within;
      typed = typed;
      patterns = patterns;
      formed_as = formed_as;
      is = refl;
    })

pub fronted : (bytes : List ℕ) (front : Front) → front_of bytes ≡ Ok front → IsFronted bytes front
unfolding front_of program_in
fronted bytes front e =
    let first = value_of_step (program_in bytes) (λ (program : Program). patterns_in program >>= λ (patterns : List ApOp). Ok (placed_front program patterns)) front e in
    let program = first.0 in
    let second = value_of_step (patterns_in program) (λ (patterns : List ApOp). Ok (placed_front program patterns)) front first.2 in
    let read = value_of_step (text_in bytes) (λ (source : Source). check_counts source >>= λ (x : Unit {0}). typed_in source) program first.1 in
    let source = read.0 in
    let counted = value_of_step (check_counts source) (λ (x : Unit {0}). typed_in source) program read.2 in
    fronted_from bytes front source program second.0
    (as_front_ok _ (texts.program_of bytes) source read.1)
    (no_limit_ok (limit_fault source) counted.0 counted.1)
    (as_front_ok _ (checked_program source) program counted.2)
    (as_front_ok _ (formed program) second.0 second.1)
    (ok_is {F = FrontFault} (placed_front program second.0) front second.2)

module _ (formings : FormedLaws) (placing : PlaceLaws) (checks : CheckLaws) (reading : TextLaws) (printing : PrintLaws) (tables : TableLaws)
    (search : SearchLaws) where
  pub is_checked : (bytes : List ℕ) (front : Front) → IsFronted bytes front → IsChecked front.program
  is_checked bytes front f =
      checks.checked f.source front.program (printing.rules bytes f.source (reading.read bytes f.source f.source_read)) f.within f.typed

  nodes_are : (bytes : List ℕ) (front : Front) (f : IsFronted bytes front) → nodes_of front.shape ≡ placed_nodes f.patterns
  nodes_are bytes front f = ap (λ (x : Front). nodes_of x.shape) f.is ∙ nodes_same (placed_nodes f.patterns)

  can_clear : (bytes : List ℕ) (front : Front) → front_of bytes ≡ Ok front → CanClear front.program
  can_clear bytes front e inputs within =
      let f = fronted bytes front e in
      formings.clear front.program f.patterns inputs (is_checked bytes front f) f.formed_as within

  same_inputs : (bytes : List ℕ) (front : Front) → front_of bytes ≡ Ok front → input_ranges (nodes_of front.shape) ≡ front.program.args
  same_inputs bytes front e =
      let f = fronted bytes front e in
      let checked = is_checked bytes front f in
      ap input_ranges (nodes_are bytes front f) ∙ placing.inputs f.patterns (formings.rules front.program f.patterns checked f.formed_as)
      ∙ formings.arguments front.program f.patterns checked f.formed_as

  same_values : (bytes : List ℕ) (front : Front) (inputs : List ℤ) → front_of bytes ≡ Ok front → AreIn front.program.args inputs
      → on_nodes.clear_values (nodes_of front.shape) inputs ≡ clear_values front.program inputs
  same_values bytes front inputs e within =
      let f = fronted bytes front e in
      let checked = is_checked bytes front f in
      ap (λ (nodes : List TfheOp). on_nodes.clear_values nodes inputs) (nodes_are bytes front f)
      ∙ placing.values f.patterns inputs (formings.rules front.program f.patterns checked f.formed_as)
      ∙ formings.values front.program f.patterns inputs checked f.formed_as within

  pub compile_laws : CompileLaws
  compile_laws = record {
    inputs = same_inputs;
    values = same_values;
    circuit = chosen_is_circuit tables search;
    clear = can_clear;
  }
