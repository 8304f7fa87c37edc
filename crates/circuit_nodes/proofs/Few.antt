-- The walk keeps no more operations than a circuit has at most.
use Rattle.std.proofs.Common.{◌≡◌, ◌≤◌, Bool, true, false, cond, ◌&&◌, List, [], ◌∷◌, ◌++◌, length, arith, refl, subst}
use Rattle.std.specs.Prelude.{IsTrue, not}
use Rattle.std.proofs.lemmas.Bool.{and_parts}
use Rattle.circuit_lines.specs.declared.line.Line.{Line}
use Rattle.tfhe_level.specs.declared.level.TfheOp.{TfheOp}
use Rattle.circuit_nodes.specs.Tests.{keeps_alone}
use Rattle.circuit_nodes.specs.Lines.{op_of, is_numbered, are_natural, keeps_line}
use Rattle.circuit_nodes.specs.Nodes.{kinds_of, AreFew}
use Rattle.circuit_nodes.specs.Walk.{Walk, start, step, walk_from, most_operations}
use Rattle.circuit_nodes.proofs.Counting.{few_operations}
use Rattle.circuit_nodes.proofs.Pushing.{kinds_push, few_push}

few_more : (ops : List TfheOp) (op : TfheOp) (test : Bool) → (test ≡ true → IsTrue (keeps_alone ops op)) → AreFew (kinds_of ops) → AreFew (kinds_of (cond test (ops ++ op ∷ []) ops))
few_more ops op true kept few = subst AreFew (kinds_push ops op) (few_push ops op few (kept refl))
few_more ops op false kept few = few

alone_kept : (broken : Bool) (earlier : List TfheOp) (line : Line) → (not broken && keeps_line earlier line) ≡ true → IsTrue (keeps_alone earlier (op_of line))
alone_kept broken earlier line e =
    let kept = (and_parts (not broken) (keeps_line earlier line) e).1 in
    let rule = (and_parts (is_numbered (length earlier) line) (are_natural line && keeps_alone earlier (op_of line)) kept).1 in
    (and_parts (are_natural line) (keeps_alone earlier (op_of line)) rule).1

walk_few : (w : Walk) (lines : List Line) → AreFew (kinds_of w.operations) → AreFew (kinds_of (walk_from w lines).operations)
walk_few w [] few = few
walk_few w (line ∷ lines) few = walk_few (step w line) lines (few_more w.operations (op_of line) (not w.broken && keeps_line w.operations line) (alone_kept w.broken w.operations line) few)

none_few : AreFew (kinds_of [])
none_few = record { inputs = omega arith; lins = omega arith; switches = omega arith; boots = omega arith; outs = omega arith }

pub few_kept : (lines : List Line) → length (walk_from start lines).operations ≤ most_operations
few_kept lines = few_operations (walk_from start lines).operations (kinds_of (walk_from start lines).operations) refl (walk_few start lines none_few)
