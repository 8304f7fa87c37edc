use Rattle.sealed_files.specs.declared.kinds.FileKind.TheVariants.{Cipher}
use Rattle.sealed_files.specs.FrameReading.{frame_in}
use Rattle.cipher_files.proofs.cipher.checked_cipher.Goals as goal

pub cipher_in-requires-clause-dim : goal.cipher_in-requires-clause-dim
cipher_in-requires-clause-dim c = (c.laws.ensures.reading.header Cipher c.args.bytes.now (frame_in Cipher c.args.bytes.now) c.in_ok-check_file.ensures).0.most

pub cipher_in-requires-clause-width : goal.cipher_in-requires-clause-width
cipher_in-requires-clause-width c = (c.laws.ensures.reading.header Cipher c.args.bytes.now (frame_in Cipher c.args.bytes.now) c.in_ok-check_file.ensures).1.0.most

pub cipher_in-requires-clause-number : goal.cipher_in-requires-clause-number
cipher_in-requires-clause-number c = (c.laws.ensures.reading.header Cipher c.args.bytes.now (frame_in Cipher c.args.bytes.now) c.in_ok-check_file.ensures).1.1.0.most
