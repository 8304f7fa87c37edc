use Rattle.cipher_files.proofs.Pieces.{SealedLaws}
use Rattle.cipher_files.proofs.SecretTexts.{secret_taken, secret_again, secret_short}
use Rattle.cipher_files.proofs.CipherTexts.{cipher_taken, cipher_again, cipher_short}
use Rattle.cipher_files.proofs.EvalTexts.{eval_taken}
use Rattle.cipher_files.proofs.EvalAgain.{eval_again, eval_short}
use Rattle.cipher_files.proofs.laws.laws.Goals as goal

pub returns-clause-secrets : goal.returns-clause-secrets
returns-clause-secrets c =
    let sealed : SealedLaws = record { frames = c.laws.ensures.frames; reading = c.laws.ensures.reading } in
    record { read = secret_taken sealed; spelled = secret_again sealed; size = secret_short sealed }

pub returns-clause-ciphers : goal.returns-clause-ciphers
returns-clause-ciphers c =
    let sealed : SealedLaws = record { frames = c.laws.ensures.frames; reading = c.laws.ensures.reading } in
    record { read = cipher_taken sealed c.laws-2.ensures.signed; spelled = cipher_again sealed c.laws-2.ensures.signed; size = cipher_short sealed }

pub returns-clause-evals : goal.returns-clause-evals
returns-clause-evals c =
    let sealed : SealedLaws = record { frames = c.laws.ensures.frames; reading = c.laws.ensures.reading } in
    record { read = eval_taken sealed c.laws.ensures.matching; spelled = eval_again sealed c.laws.ensures.matching; size = eval_short sealed }
