use Rattle.std.proofs.Common.{◌∙◌, arith}
use Rattle.std.specs.String.{string_bytes}
use Rattle.tfhe_level.specs.Nodes.{nodes_of}
use Rattle.cost_cert.proofs.NodeLines.{nodes_none, nodes_more, nodes_whole}
use Rattle.cost_cert.proofs.certificate.put_nodes.Goals as goal

pub loop-number-init : goal.loop-number-init
loop-number-init c = nodes_none c.args.room.now (string_bytes c.args.text.now)

pub loop-number-preserved : goal.loop-number-preserved
loop-number-preserved c =
    c.in_ok-put_node.ensures
    ∙ nodes_more c.args.room.now (nodes_of c.args.shape.now) c.loop-number.number c.node.result.now (string_bytes c.loop-number.text) (string_bytes c.args.text.now) c.node.ensures.node c.loop-number.invariant

pub returns : goal.returns
returns c = nodes_whole c.args.room.now (nodes_of c.args.shape.now) c.loop-number.number (string_bytes c.loop-number.text) (string_bytes c.args.text.now) c.loop-number.invariant (omega (arith, c.loop-number-test.false, c.node_count-number-end.ensures))
