-- What is compared is equal, or a mismatch.
use Rattle.std.proofs.Common.{◌≡◌, ℕ, ◌==◌, Bool, true, false, List, Ok, bytes_eq, refl}
use Rattle.std.proofs.lemmas.Bool.{eqb-true, eq-eqb}
use Rattle.std.proofs.lemmas.Slice.Eq.{bytes_eq-Decides}
use Rattle.refusals.specs.Reading.{unless}
use Rattle.refusals.specs.Steps.{no_value}
use Rattle.sealed_files.specs.declared.fault.FileFault.{FileFault}
use Rattle.sealed_files.specs.declared.fault.FileFault.TheVariants.{Mismatch}
use Rattle.sealed_files.specs.Matching.{padded, same_digest, same_word}

-- a test alone that held
held : (test : Bool) (fault : FileFault) → unless test fault ≡ Ok tt → test ≡ true
held true fault given = refl
held false fault given = absurd (no_value fault (Ok tt) given)

pub digests_are : (left right : List ℕ) → same_digest left right ≡ Ok tt → left ≡ right
unfolding same_digest
digests_are left right given = (bytes_eq-Decides left right).0 (held (bytes_eq left right) (Mismatch left right) given)

pub digest_is : (digest : List ℕ) → same_digest digest digest ≡ Ok tt
unfolding same_digest
digest_is digest = rw ((bytes_eq-Decides digest digest).1 refl) refl

pub words_are : (left right : ℕ) → same_word left right ≡ Ok tt → left ≡ right
unfolding same_word
words_are left right given = eqb-true left right (held (left == right) (Mismatch (padded left) (padded right)) given)

pub word_is : (word : ℕ) → same_word word word ≡ Ok tt
unfolding same_word
word_is word = rw (eq-eqb word word refl) refl
