use Rattle.std.proofs.Common.{arith}
use Rattle.cipher_files.specs.SecretFile.{secret_file}
use Rattle.cipher_files.proofs.Pieces.{all_bytes}
use Rattle.cipher_files.proofs.SecretTexts.{secret_valid}
use Rattle.cipher_files.proofs.secret.read_secret.Goals as goal

pub returns-clause-valid : goal.returns-clause-valid
returns-clause-valid c = secret_valid (λ read. secret_file read.0 read.1.small read.1.big) c.laws.ensures.secrets.read c.args.bytes.now c.checked_secret.result (all_bytes c.args.bytes.now (λ i. omega (arith, c.type_inv.bytes i))) c.checked_secret.ensures
