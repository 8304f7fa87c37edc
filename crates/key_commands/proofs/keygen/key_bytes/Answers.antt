use Rattle.std.proofs.Common.{sym, ◌∙◌}
use Rattle.key_commands.proofs.KeyFacts.{few_words, drawn_dimensions, drawn_limits}
use Rattle.key_commands.proofs.keygen.key_bytes.Goals as goal

pub print_secret-requires : goal.print_secret-requires
print_secret-requires c =
    let params = c.args.circuit.now.params in
    let drawn = c.in_ok-drawn.drawn in
    drawn_limits params c.in_ok-digest.digest drawn.big drawn.small c.requires.params (c.laws.ensures.input_limits c.args.circuit.now c.requires).dim (drawn_dimensions params _ _ drawn.big drawn.small c.in_ok-drawn.ensures.big c.in_ok-drawn.ensures.small)

pub eval_bytes_of-requires-clause-dimensions : goal.eval_bytes_of-requires-clause-dimensions
eval_bytes_of-requires-clause-dimensions c =
    let drawn = c.in_ok-drawn.drawn in
    drawn_dimensions c.args.circuit.now.params _ _ drawn.big drawn.small c.in_ok-drawn.ensures.big c.in_ok-drawn.ensures.small

pub eval_bytes_of-requires-clause-words : goal.eval_bytes_of-requires-clause-words
eval_bytes_of-requires-clause-words c = few_words c.args.circuit.now c.requires (sym c.has_boot.ensures ∙ c.if-has_boot.true)
