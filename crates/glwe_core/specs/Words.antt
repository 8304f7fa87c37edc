-- The words of a ciphertext, part after part.
use Rattle.std.specs.Prelude.{◌≡◌, ℕ, List, [], ◌∷◌, ◌++◌, All, length, refl}
use Rattle.std.specs.List.{concat}
use Rattle.std.proofs.Common.{arith}
use Rattle.std.proofs.lemmas.List.{length-append}
use Rattle.std.proofs.lemmas.List.Elements.{All-append, All-head, All-tail}
use Rattle.word_ring.specs.Words.{IsWord}
use Rattle.glwe_core.specs.Glwe.{lengths_of}

-- they are words where those of each part are
pub all_words : (parts : List (List ℕ)) → All (All IsWord) parts → All IsWord (concat parts)
all_words [] are = λ k d lt. absurd (omega arith)
all_words (part ∷ parts) are =
    All-append IsWord part (concat parts) (All-head (All IsWord) part parts are) (all_words parts (All-tail (All IsWord) part parts are))

-- as many where the parts are as long
pub same_words : (xs ys : List (List ℕ)) → lengths_of xs ≡ lengths_of ys → length (concat xs) ≡ length (concat ys)
same_words [] [] e = refl
same_words [] (y ∷ ys) e = absurd cc
same_words (x ∷ xs) [] e = absurd cc
same_words (x ∷ xs) (y ∷ ys) e =
    let first : length x ≡ length y = cc in
    let rest : lengths_of xs ≡ lengths_of ys = cc in
    omega (arith, length-append x (concat xs), length-append y (concat ys), same_words xs ys rest, first)
