use Rattle.std.proofs.Common.{sym}
use Rattle.cipher_files.specs.SecretFile.{secret_file}
use Rattle.key_commands.proofs.InputLemmas.{fitting_secret_long}
use Rattle.key_commands.proofs.encrypt.check_secret.Goals as goal

pub returns-in-Ok-clause-long : goal.returns-in-Ok-clause-long
returns-in-Ok-clause-long c = sym (fitting_secret_long c.laws.ensures.matching c.in_ok-wanted.wanted c.args.circuit.now.params (secret_file c.args.digest.now c.args.secret.now.small c.args.secret.now.big) c.in-Ok.ensures)
