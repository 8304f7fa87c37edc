use Rattle.run_command.specs.Run.{keys_view}
use Rattle.run_command.proofs.OutputLemmas.{output_limits}
use Rattle.run_command.proofs.command.output_bytes.Goals as goal

pub print_cipher-requires : goal.print_cipher-requires
print_cipher-requires c =
    rw (c.in_ok-head.ensures, c.deref.ensures.value) (output_limits c.laws.ensures c.args.circuit.now (keys_view c.args.keys.now) c.args.inputs.now c.in_ok-list.list.items c.requires.circuit c.in_ok-list.ensures.words c.in_ok-list.ensures.long)
