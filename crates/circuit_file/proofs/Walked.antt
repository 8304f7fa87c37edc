-- The walk from part to part is the walk over the lines of the text, and the steps of the reader give its circuit.
use Rattle.std.proofs.Common.{◌≡◌, ℕ, ◌+◌, Bool, true, false, ltb, List, [], ◌∷◌, ◌++◌, length, map, Option, ℤ, Ok, Err, sym, ap, refl, ◌∙◌, subst}
use Rattle.std.specs.Prelude.{Some, None, Result, unsigned_abs}
use Rattle.std.specs.List.{enumerate_from}
use Rattle.refusals.specs.declared.refusal.Refusal.{Refusal}
use Rattle.refusals.specs.Reading.{◌>>=◌, unless, Gives}
use Rattle.ir_core.specs.Placed.{operations_of as graph_operations}
use Rattle.circuit_lines.specs.declared.head.Head.{Head}
use Rattle.circuit_lines.specs.declared.line.Line.{Line}
use Rattle.circuit_lines.specs.Numbers.{Read as ReadLine}
use Rattle.circuit_lines.specs.Lines.{Lines}
use Rattle.circuit_lines.specs.Many.{many}
use Rattle.circuit_lines.specs.Reading.{head_at, node_line_at, out_line_at, end_at, nodes_at, outs_at, lines_of}
use Rattle.fhe_params.specs.declared.params.Params.{Params}
use Rattle.tfhe_level.specs.declared.level.TfheOp.{TfheOp}
use Rattle.tfhe_level.specs.declared.shape.Shape.{Shape}
use Rattle.tfhe_level.specs.declared.shape.Circuit.{Circuit}
use Rattle.tfhe_level.specs.Nodes.{nodes_of}
use Rattle.noise_model.specs.Constraints.{first_broken_of}
use Rattle.circuit_nodes.specs.Lines.{op_of, broken_line}
use Rattle.circuit_nodes.specs.Walk.{Walk, start, walk_from, broken_place}
use Rattle.circuit_nodes.specs.Laws.{LineLaws}
use Rattle.circuit_file.specs.declared.fault.CircuitFault.{CircuitFault}
use Rattle.circuit_file.specs.declared.fault.CircuitKind.TheVariants.{Node, Width}
use Rattle.circuit_file.specs.declared.walks.Part.TheVariants.{Nodes, Outs}
use Rattle.circuit_file.specs.declared.walks.WalkedLines.{WalkedLines}
use Rattle.circuit_file.specs.Faults.{Read, fault_at, as_spelling}
use Rattle.circuit_file.specs.Params.{params_of}
use Rattle.circuit_file.specs.Circuit.{first_node, no_broken_line, operations_of, is_width, no_constraint, graph_of, made, circuit_of}
use Rattle.circuit_file.specs.Walks.{walked, walked_lines, walked_text}
use Rattle.circuit_file.specs.Steps.{kept_nodes, shape_of, shape_after, met_by, circuit_with, circuit_by_walk}
use Rattle.circuit_file.proofs.WalkLemmas.{walk_append}

-- ---- the walk

abbrev node_lines : List ℕ → List Line × List ℕ
node_lines bytes = many node_line_at (length bytes) 7 bytes

abbrev out_lines : ℕ → List ℕ → List Line × List ℕ
out_lines line bytes = many out_line_at (length bytes) line bytes

abbrev of_parts : Head → Walk → ℕ → ℕ → WalkedLines
of_parts head walk nodes outs = record { head = head; walk = walk; nodes = nodes; outs = outs }

abbrev lines_after : Head × List ℕ → ReadLine Lines
lines_after head =
    let nodes : List Line × List ℕ = node_lines head.1 in
    let outs : List Line × List ℕ = out_lines (7 + length nodes.0) nodes.1 in
    end_at (7 + length nodes.0 + length outs.0) outs.1 >>= λ _. Ok (record { head = head.0; nodes = nodes.0; outs = outs.0 })

abbrev walk_after : Head × List ℕ → Read WalkedLines
walk_after head =
    let nodes : Walk × ℕ × List ℕ = walked Nodes start 7 head.1 in
    let outs : Walk × ℕ × List ℕ = walked Outs nodes.0 (7 + nodes.1) nodes.2 in
    as_spelling (end_at (7 + nodes.1 + outs.1) outs.2) >>= λ _. Ok (of_parts head.0 outs.0 nodes.1 outs.1)

by_end : (end : ReadLine (Unit {0})) (lines : Lines) (w : WalkedLines) → w ≡ walked_lines lines
    → (as_spelling end >>= λ _. Ok w) ≡ (as_spelling (end >>= λ _. Ok lines) >>= λ l. Ok (walked_lines l))
by_end (Ok u) lines w same = rw same refl
by_end (Err fault) lines w same = refl

after_head : (head : Head × List ℕ) → walk_after head ≡ (as_spelling (lines_after head) >>= λ lines. Ok (walked_lines lines))
after_head head =
    let nodes : List Line × List ℕ = node_lines head.1 in
    let outs : List Line × List ℕ = out_lines (7 + length nodes.0) nodes.1 in
    by_end (end_at (7 + length nodes.0 + length outs.0) outs.1) (record { head = head.0; nodes = nodes.0; outs = outs.0 }) (of_parts head.0 (walk_from (walk_from start nodes.0) outs.0) (length nodes.0) (length outs.0))
    (ap (λ w. of_parts head.0 w (length nodes.0) (length outs.0)) (sym (walk_append start nodes.0 outs.0)))

by_head : (head : ReadLine (Head × List ℕ)) → (as_spelling head >>= walk_after) ≡ (as_spelling (head >>= lines_after) >>= λ lines. Ok (walked_lines lines))
by_head (Ok head) = after_head head
by_head (Err fault) = refl

pub text_walked : (bytes : List ℕ) → walked_text bytes ≡ (as_spelling (lines_of bytes) >>= λ lines. Ok (walked_lines lines))
unfolding walked_text lines_of nodes_at outs_at
text_walked bytes = by_head (head_at bytes)

-- ---- the steps behind it

pub same_next : {A B F : Type 0} (read : Result A F) (f g : A → Result B F) → ((x : A) → f x ≡ g x) → (read >>= f) ≡ (read >>= g)
same_next (Ok x) f g same = same x
same_next (Err fault) f g same = refl

-- the operations of a graph whose numbers are places
numbered : (n : ℕ) (ops : List TfheOp) → map (λ (e : ℕ × TfheOp). e.1) (enumerate_from n ops) ≡ ops
numbered n [] = refl
numbered n (op ∷ ops) = ap (λ os. op ∷ os) (numbered (n + 1) ops)

pub graph_lists : (ops : List TfheOp) → graph_operations (graph_of ops) ≡ ops
graph_lists ops = numbered 0 ops

kept_by : (L : LineLaws) (lines : Lines) (place : Option ℕ) → broken_line (lines.nodes ++ lines.outs) ≡ place
    → (no_broken_line place >>= λ kept. unless (ltb 0 (length lines.outs)) (fault_at (first_node + length lines.nodes) Node) >>= λ some. Ok (walk_from start (lines.nodes ++ lines.outs)).operations)
    ≡ (no_broken_line place >>= λ kept. unless (ltb 0 (length lines.outs)) (fault_at (first_node + length lines.nodes) Node) >>= λ some. Ok (map op_of (lines.nodes ++ lines.outs)))
kept_by L lines None e = rw (L.operations (lines.nodes ++ lines.outs) e) refl
kept_by L lines (Some place) e = refl

pub kept_same : (L : LineLaws) (lines : Lines) → kept_nodes (walked_lines lines) ≡ operations_of lines
unfolding kept_nodes operations_of
kept_same L lines = rw (L.found (lines.nodes ++ lines.outs)) (kept_by L lines (broken_line (lines.nodes ++ lines.outs)) refl)

abbrev shape_made : List TfheOp → ℕ → Shape
shape_made ops width = record { graph = graph_of ops; width = width }

abbrev met_after : Params → Shape → List TfheOp → Read Circuit
met_after params shape ops = no_constraint ops (first_broken_of params shape) >>= λ met. Ok (record { shape = shape; params = params })

shape_by : (fits : Bool) (params : Params) (ops : List TfheOp) (width : ℕ) → ((unless fits (fault_at 2 Width) >>= λ least. Ok (shape_made ops width)) >>= λ shape. met_after params shape (nodes_of shape))
    ≡ (unless fits (fault_at 2 Width) >>= λ least. met_after params (shape_made ops width) ops)
shape_by true params ops width = ap (λ os. met_after params (shape_made ops width) os) (graph_lists ops)
shape_by false params ops width = refl

abbrev after_walk : WalkedLines → Read Circuit
after_walk lines = params_of lines.head >>= λ params. (shape_after lines >>= λ shape. met_after params shape (nodes_of shape))

abbrev after_lines : Lines → Read Circuit
after_lines lines = params_of lines.head >>= λ params. (operations_of lines >>= λ operations. (unless (is_width operations lines.head.width) (fault_at 2 Width) >>= λ width. met_after params (shape_made operations (unsigned_abs lines.head.width)) operations))

shape_kept : (kept : Read (List TfheOp)) (params : Params) (width : ℤ) → ((kept >>= λ ops. unless (is_width ops width) (fault_at 2 Width) >>= λ least. Ok (shape_made ops (unsigned_abs width))) >>= λ shape. met_after params shape (nodes_of shape))
    ≡ (kept >>= λ ops. unless (is_width ops width) (fault_at 2 Width) >>= λ least. met_after params (shape_made ops (unsigned_abs width)) ops)
shape_kept (Ok ops) params width = shape_by (is_width ops width) params ops (unsigned_abs width)
shape_kept (Err fault) params width = refl

steps_same : (L : LineLaws) (lines : Lines) → after_walk (walked_lines lines) ≡ after_lines lines
unfolding shape_after shape_of
steps_same L lines =
    same_next (params_of lines.head) _ _ (λ params.
    ap (λ (kept : Read (List TfheOp)). (kept >>= λ ops. unless (is_width ops lines.head.width) (fault_at 2 Width) >>= λ least. Ok (shape_made ops (unsigned_abs lines.head.width))) >>= λ shape. met_after params shape (nodes_of shape)) (kept_same L lines)
    ∙ shape_kept (operations_of lines) params lines.head.width)

by_lines : (L : LineLaws) (read : Read Lines) → ((read >>= λ lines. Ok (walked_lines lines)) >>= after_walk) ≡ (read >>= after_lines)
by_lines L (Ok lines) = steps_same L lines
by_lines L (Err fault) = refl

pub text_is_circuit : (L : LineLaws) (bytes : List ℕ) → circuit_by_walk bytes ≡ circuit_of bytes
unfolding circuit_by_walk circuit_of circuit_with met_by
text_is_circuit L bytes = rw (text_walked bytes) (by_lines L (as_spelling (lines_of bytes)))

-- what the steps give is what the text is
pub given_circuit : (L : LineLaws) (bytes : List ℕ) (answer : Result Circuit (Refusal CircuitFault)) → Gives (λ c. c) answer (circuit_by_walk bytes) → Gives (λ c. c) answer (circuit_of bytes)
given_circuit L bytes answer gives = subst (Gives (λ c. c) answer) (text_is_circuit L bytes) gives
