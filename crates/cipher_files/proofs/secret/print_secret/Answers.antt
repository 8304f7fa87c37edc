use Rattle.cipher_files.specs.SecretFile.{SecretFile, secret_file, IsSecretFile}
use Rattle.cipher_files.proofs.secret.print_secret.Goals as goal

pub returns-clause-valid : goal.returns-clause-valid
returns-clause-valid c = record { limits = c.requires; digest_length = c.known_digest.ensures.long; digest = c.known_digest.ensures.bytes }

pub returns-clause-size : goal.returns-clause-size
returns-clause-size c =
    let file : SecretFile = secret_file c.args.digest.now c.args.secret.now.small c.args.secret.now.big in
    let is : IsSecretFile file = record { limits = c.requires; digest_length = c.known_digest.ensures.long; digest = c.known_digest.ensures.bytes } in
    rw c.in_ok-out.ensures (c.laws.ensures.secrets.size file is)
