-- What keys that fit a file say.
use Rattle.std.proofs.Common.{◌≡◌, ℕ, Bool, List, length, Ok}
use Rattle.refusals.specs.Steps.{value_of_step}
use Rattle.sealed_files.specs.Laws.{MatchLaws}
use Rattle.sealed_files.specs.Matching.{same_digest, same_word}
use Rattle.cipher_files.specs.declared.head.CipherHead.{CipherHead}
use Rattle.cipher_files.specs.CipherFile.{key_fits}

-- a big key that fits ciphertexts has their dimension
pub fitting_long : MatchLaws → (digest : List ℕ) (big : List Bool) (head : CipherHead) → key_fits digest big head ≡ Ok tt → length big ≡ head.dim
unfolding key_fits
fitting_long laws digest big head fits =
    let step = value_of_step (same_digest digest head.digest) (λ _. same_word (length big) head.dim) tt fits in
    laws.words (length big) head.dim step.2
