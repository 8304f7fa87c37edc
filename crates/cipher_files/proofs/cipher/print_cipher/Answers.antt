use Rattle.cipher_files.specs.CipherFile.{CipherFile, file_of, IsCipherFile}
use Rattle.cipher_files.proofs.cipher.print_cipher.Goals as goal

pub returns-clause-valid : goal.returns-clause-valid
returns-clause-valid c = record { limits = c.requires; digest_length = c.known_digest.ensures.long; digest = c.known_digest.ensures.bytes; words = c.in_ok-out.ensures.words }

pub returns-clause-size : goal.returns-clause-size
returns-clause-size c =
    let file : CipherFile = file_of c.args.head.now c.args.list.now in
    let is : IsCipherFile file = record { limits = c.requires; digest_length = c.known_digest.ensures.long; digest = c.known_digest.ensures.bytes; words = c.in_ok-out.ensures.words } in
    rw c.in_ok-out.ensures.spelled (c.laws.ensures.ciphers.size file is)
