use Rattle.std.proofs.Common.{◌≡◌, ◌++◌, ◌+◌, length, take, sym, ap, ◌∙◌}
use Rattle.std.specs.String.{string_bytes}
use Rattle.tfhe_level.specs.Nodes.{nodes_of}
use Rattle.circuit_lines.specs.Lines.{line_text}
use Rattle.circuit_file.specs.Text.{line_of_op, ops_text}
use Rattle.circuit_file.proofs.TextLemmas.{text_none, text_more}
use Rattle.circuit_file.proofs.printing.put_ops.Goals as goal

pub loop-number-init : goal.loop-number-init
loop-number-init c = text_none (string_bytes c.args.text.now)

pub loop-number-preserved : goal.loop-number-preserved
loop-number-preserved c =
    c.in_ok-put_op.ensures
    ∙ text_more (nodes_of c.args.shape.now) c.loop-number.number c.node.result.now (string_bytes c.loop-number.text) (string_bytes c.args.text.now) c.node.ensures.node c.loop-number.invariant
