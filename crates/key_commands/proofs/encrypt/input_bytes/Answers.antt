use Rattle.std.proofs.Common.{length, ap, arith, ◌∙◌}
use Rattle.std.proofs.lemmas.List.FromFn.{length-map-range_with_len}
use Rattle.tfhe_level.specs.Nodes.{nodes_of}
use Rattle.tfhe_level.specs.Laws.{input_ranges}
use Rattle.key_commands.proofs.InputLemmas.{as_many, limits_kept}
use Rattle.key_commands.proofs.encrypt.input_bytes.Goals as goal

pub draw_inputs-requires-clause-dim : goal.draw_inputs-requires-clause-dim
draw_inputs-requires-clause-dim c = omega (arith, c.requires.long, (c.laws.ensures.input_limits c.args.circuit.now c.requires.circuit).dim.most)

pub draw_inputs-requires-clause-few : goal.draw_inputs-requires-clause-few
draw_inputs-requires-clause-few c =
    let ranges = input_ranges (nodes_of c.args.circuit.now.shape) in
    omega (arith, (c.laws.ensures.input_limits c.args.circuit.now c.requires.circuit).number.most, as_many ranges c.args.values.now c.requires.within)

pub print_cipher-requires : goal.print_cipher-requires
print_cipher-requires c =
    rw (c.requires.head, c.deref.ensures.value) (limits_kept c.laws.ensures c.args.circuit.now c.args.big.now c.args.values.now c.in_ok-list.list.items c.requires.circuit c.requires.long c.requires.within (ap length c.in_ok-list.ensures.words ∙ length-map-range_with_len _ 0 (length c.args.values.now)) c.in_ok-list.ensures.long)
