-- What is read from a text keeps the rules of circuits and is spelled so.
use Rattle.std.proofs.Common.{◌≡◌, ℕ, ◌+◌, ◌<◌, ◌≤◌, Bool, true, false, ltb, List, [], ◌∷◌, ◌++◌, length, map, Option, Ok, Err, ℤ, ap, sym, refl, ◌∙◌, subst, arith, ◌&&◌}
use Rattle.std.specs.Prelude.{Some, None, Result, IfOk, IsTrue, unsigned_abs, codes}
use Rattle.std.specs.List.{enumerate_from, AllByRecursion}
use Rattle.std.proofs.lemmas.Bool.{and_parts, ltb-true}
use Rattle.std.proofs.lemmas.List.FromFn.{length-enumerate_from}
use Rattle.std.proofs.lemmas.List.Elements.{recursion_from_All}
use Rattle.refusals.specs.declared.refusal.Refusal.{Refusal}
use Rattle.refusals.specs.Reading.{◌>>=◌, unless, Gives}
use Rattle.circuit_file.specs.declared.fault.CircuitFault.{CircuitFault}
use Rattle.refusals.specs.Steps.{one_value, no_value, value_of_step, test_held}
use Rattle.ir_core.specs.Placed.{IsPlaced}
use Rattle.fhe_params.specs.declared.params.Params.{Params}
use Rattle.fhe_params.specs.Laws.{LimitLaws}
use Rattle.tfhe_level.specs.declared.level.TfheOp.{TfheOp}
use Rattle.tfhe_level.specs.declared.shape.Circuit.{Circuit}
use Rattle.tfhe_level.specs.Nodes.{nodes_of}
use Rattle.tfhe_level.specs.Rules.{AreNodes, IsShape, message_ranges}
use Rattle.noise_model.specs.declared.constraints.Broken.{Broken}
use Rattle.noise_model.specs.Constraints.{first_broken_of}
use Rattle.noise_model.specs.Laws.{ConstraintLaws}
use Rattle.circuit_lines.specs.Numbers.{Read as ReadLine}
use Rattle.circuit_lines.specs.Lines.{Lines, AreLines, IsNodeLine, IsOutLine, line_feed, head_text}
use Rattle.circuit_lines.specs.Reading.{lines_of}
use Rattle.circuit_lines.specs.Laws.{LineLaws as TextLaws}
use Rattle.circuit_nodes.specs.Tests.{is_least_width}
use Rattle.circuit_nodes.specs.Lines.{op_of, are_natural, broken_line}
use Rattle.circuit_nodes.specs.Laws.{LineLaws, WidthLaws}
use Rattle.circuit_file.specs.declared.fault.CircuitKind.TheVariants.{Node, Width}
use Rattle.circuit_file.specs.Faults.{Read, fault_at, as_spelling}
use Rattle.circuit_file.specs.Params.{is_natural, params_of}
use Rattle.circuit_file.specs.Circuit.{first_node, no_broken_line, operations_of, is_width, no_constraint, graph_of, made, circuit_of}
use Rattle.noise_model.specs.Circuits.{IsCircuit}
use Rattle.circuit_file.specs.Laws.{CircuitTextLaws}
use Rattle.circuit_file.specs.Text.{head_of, op_lines, ops_text, circuit_text}
use Rattle.circuit_file.proofs.Walked.{graph_lists}
use Rattle.circuit_file.proofs.ParamsBack.{params_kept, head_back}
use Rattle.circuit_file.proofs.LinesBack.{lines_back, text_back, outs_last, some_out}

-- the laws of the crates below
pub record Below : Type 0 where
  pub limits : LimitLaws
  pub texts : TextLaws
  pub lines : LineLaws
  pub widths : WidthLaws
  pub constraints : ConstraintLaws

spelled_lines : (read : ReadLine Lines) (lines : Lines) → as_spelling read ≡ Ok lines → read ≡ Ok lines
spelled_lines (Ok l) lines e = ap (λ x. Ok x) (one_value l (Ok lines) e)
spelled_lines (Err fault) lines e = absurd (no_value _ (Ok lines) e)

no_line : (place : Option ℕ) (u : Unit {0}) → no_broken_line place ≡ Ok u → place ≡ None
no_line None u e = refl
no_line (Some place) u e = absurd (no_value _ (Ok u) e)

none_broken : (ops : List TfheOp) (broken : Option Broken) (u : Unit {0}) → no_constraint ops broken ≡ Ok u → broken ≡ None
none_broken ops None u e = refl
none_broken ops (Some b) u e = absurd (no_value _ (Ok u) e)

pub graph_placed : (ops : List TfheOp) → IsPlaced (graph_of ops)
graph_placed ops = record { numbers = ap (λ os. enumerate_from 0 os) (sym (graph_lists ops)); next = sym (length-enumerate_from 0 ops) }

-- the operations that are read
record AreOperations (lines : Lines) (ops : List TfheOp) : Type 0 where
  none : broken_line (lines.nodes ++ lines.outs) ≡ None
  some : 1 ≤ length lines.outs
  same : map op_of (lines.nodes ++ lines.outs) ≡ ops

operations_read : (lines : Lines) (ops : List TfheOp) → operations_of lines ≡ Ok ops → AreOperations lines ops
unfolding operations_of
operations_read lines ops e =
    let all = lines.nodes ++ lines.outs in
    let fault = fault_at (first_node + length lines.nodes) Node in
    let kept = value_of_step (no_broken_line (broken_line all)) (λ kept. unless (ltb 0 (length lines.outs)) fault >>= λ some. Ok (map op_of all)) ops e in
    let some = test_held (ltb 0 (length lines.outs)) fault (λ some. Ok (map op_of all)) ops kept.2 in
    record {
      none = no_line (broken_line all) kept.0 kept.1;
      some = omega (arith, ltb-true 0 (length lines.outs) some.0);
      same = one_value (map op_of all) (Ok ops) some.1;
    }

nodes_read : (B : Below) (lines : Lines) → AreLines lines → (ops : List TfheOp) → AreOperations lines ops → AreNodes ops
nodes_read B lines are ops is =
    let all = lines.nodes ++ lines.outs in
    let nodes = recursion_from_All IsNodeLine lines.nodes are.nodes in
    let outs = recursion_from_All IsOutLine lines.outs are.outs in
    subst AreNodes is.same (record {
      rules = B.lines.rules all is.none;
      outs_last = outs_last lines.nodes lines.outs nodes outs;
      some_out = some_out lines.nodes lines.outs outs is.some;
    })

-- what is read in all
record IsRead (bytes : List ℕ) (circuit : Circuit) : Type 0 where
  lines : Lines
  spelled : lines_of bytes ≡ Ok lines
  params : Params
  head : params_of lines.head ≡ Ok params
  ops : List TfheOp
  operations : operations_of lines ≡ Ok ops
  width : is_width ops lines.head.width ≡ true
  met : first_broken_of params (made ops (unsigned_abs lines.head.width) params).shape ≡ None
  same : made ops (unsigned_abs lines.head.width) params ≡ circuit

is_read : (bytes : List ℕ) (circuit : Circuit) → circuit_of bytes ≡ Ok circuit → IsRead bytes circuit
unfolding circuit_of
is_read bytes circuit e =
    let lines = value_of_step (as_spelling (lines_of bytes)) (λ lines. params_of lines.head >>= λ params. (operations_of lines >>= λ operations. (unless (is_width operations lines.head.width) (fault_at 2 Width) >>= λ width. (no_constraint operations (first_broken_of params (made operations (unsigned_abs lines.head.width) params).shape) >>= λ met. Ok (made operations (unsigned_abs lines.head.width) params))))) circuit e in
    let width = lines.0.head.width in
    let params = value_of_step (params_of lines.0.head) (λ params. operations_of lines.0 >>= λ operations. (unless (is_width operations width) (fault_at 2 Width) >>= λ least. (no_constraint operations (first_broken_of params (made operations (unsigned_abs width) params).shape) >>= λ met. Ok (made operations (unsigned_abs width) params)))) circuit lines.2 in
    let ops = value_of_step (operations_of lines.0) (λ operations. unless (is_width operations width) (fault_at 2 Width) >>= λ least. (no_constraint operations (first_broken_of params.0 (made operations (unsigned_abs width) params.0).shape) >>= λ met. Ok (made operations (unsigned_abs width) params.0))) circuit params.2 in
    let c = made ops.0 (unsigned_abs width) params.0 in
    let least = test_held (is_width ops.0 width) (fault_at 2 Width) (λ least. no_constraint ops.0 (first_broken_of params.0 c.shape) >>= λ met. Ok c) circuit ops.2 in
    let met = value_of_step (no_constraint ops.0 (first_broken_of params.0 c.shape)) (λ met. Ok c) circuit least.1 in
    record {
      lines = lines.0;
      spelled = spelled_lines (lines_of bytes) lines.0 lines.1;
      params = params.0;
      head = params.1;
      ops = ops.0;
      operations = ops.1;
      width = least.0;
      met = none_broken ops.0 (first_broken_of params.0 c.shape) met.0 met.1;
      same = one_value c (Ok circuit) met.2;
    }

pub read_rules : (B : Below) (bytes : List ℕ) (circuit : Circuit) → circuit_of bytes ≡ Ok circuit → IsCircuit circuit
read_rules B bytes circuit e =
    let r = is_read bytes circuit e in
    let text = B.texts.read bytes r.lines r.spelled in
    let ops = nodes_read B r.lines text.0 r.ops (operations_read r.lines r.ops r.operations) in
    let c = made r.ops (unsigned_abs r.lines.head.width) r.params in
    let least = (and_parts (is_natural r.lines.head.width) (is_least_width (message_ranges r.ops) (unsigned_abs r.lines.head.width)) r.width).1 in
    subst IsCircuit r.same (record {
      params = params_kept B.limits r.lines.head r.params r.head;
      shape = record {
        placed = graph_placed r.ops;
        nodes = subst AreNodes (sym (graph_lists r.ops)) ops;
        width = (B.widths.test (message_ranges (nodes_of c.shape)) c.shape.width).0 (subst (λ os. IsTrue (is_least_width (message_ranges os) c.shape.width)) (sym (graph_lists r.ops)) least);
      };
      meets = (B.constraints.none r.params c.shape).0 (rw r.met refl);
    })

pub read_text : (B : Below) (bytes : List ℕ) (circuit : Circuit) → circuit_of bytes ≡ Ok circuit → bytes ≡ circuit_text circuit
unfolding circuit_text
read_text B bytes circuit e =
    let r = is_read bytes circuit e in
    let text = B.texts.read bytes r.lines r.spelled in
    let is = operations_read r.lines r.ops r.operations in
    let all = r.lines.nodes ++ r.lines.outs in
    let width = r.lines.head.width in
    let natural = (and_parts (is_natural width) (is_least_width (message_ranges r.ops) (unsigned_abs width)) r.width).0 in
    let head = head_back B.limits r.lines.head r.params r.head natural in
    let back = lines_back 0 all (B.lines.numbers all is.none) (recursion_from_All (λ line. IsTrue (are_natural line)) all (B.lines.natural all is.none)) in
    let lines = ap (λ os. op_lines 0 os) (graph_lists r.ops ∙ sym is.same) ∙ back in
    text.1 ∙ sym (text_back r.lines (nodes_of (made r.ops (unsigned_abs width) r.params).shape) lines) ∙ ap (λ h. head_text h ++ (ops_text 0 (nodes_of (made r.ops (unsigned_abs width) r.params).shape) ++ (codes "end" ++ line_feed))) (sym head) ∙ ap (λ c. head_text (head_of c.shape.width c.params) ++ (ops_text 0 (nodes_of c.shape) ++ (codes "end" ++ line_feed))) r.same

-- what is given keeps the rules
pub given_rules : (T : CircuitTextLaws) (bytes : List ℕ) (answer : Result Circuit (Refusal CircuitFault)) → Gives (λ c. c) answer (circuit_of bytes) → IfOk answer IsCircuit
given_rules T bytes (Ok c) gives = (T.read bytes c gives).0
given_rules T bytes (Err refusal) gives = tt
