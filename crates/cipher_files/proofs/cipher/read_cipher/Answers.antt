use Rattle.std.proofs.Common.{arith}
use Rattle.cipher_files.specs.CipherFile.{file_of}
use Rattle.cipher_files.proofs.Pieces.{all_bytes}
use Rattle.cipher_files.proofs.CipherTexts.{cipher_valid}
use Rattle.cipher_files.proofs.cipher.read_cipher.Goals as goal

pub returns-clause-valid : goal.returns-clause-valid
returns-clause-valid c = cipher_valid (λ read. file_of read.0 read.1.items) c.laws.ensures.ciphers.read c.args.bytes.now c.checked_cipher.result (all_bytes c.args.bytes.now (λ i. omega (arith, c.type_inv.bytes i))) c.checked_cipher.ensures
