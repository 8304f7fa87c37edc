use Rattle.seed_stream.specs.Draws.{stream_key}
use Rattle.key_gen.specs.Seeds.{boot_label}
use Rattle.key_commands.proofs.KeyFacts.{boot_of_params}
use Rattle.key_commands.proofs.keygen.eval_bytes_of.Goals as goal

pub print_eval-requires-clause-boot : goal.print_eval-requires-clause-boot
print_eval-requires-clause-boot c = boot_of_params c.args.params.now (stream_key c.args.seed.now boot_label) c.args.secret.now.big c.args.secret.now.small c.in_ok-boot.boot c.in_ok-boot.ensures c.requires.dimensions.small_length c.known-2.ensures
