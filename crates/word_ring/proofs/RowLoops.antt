-- What a loop over a row has written, as one row.
use Rattle.std.proofs.Common.{◌≡◌, ℕ, ◌<◌, ◌^◌, List, length, get_or, Fits, w64, arith, sym, subst, ◌∙◌}
use Rattle.std.proofs.lemmas.List.{ext_get_or, get_or_default}
use Rattle.std.specs.List.{All}
use Rattle.word_ring.specs.Words.{IsWord}
use Rattle.word_ring.specs.Rows.{zip_words}
use Rattle.word_ring.proofs.RowLaws.{length-zip_words, get_or-zip_words}

-- an operation with another row at every place
pub is_zip_words : (f : ℕ → ℕ → ℕ) (new old other : List ℕ) → length new ≡ length old → length old ≡ length other → ((k : ℕ) → k < length old → get_or new k 0 ≡ f (get_or old k 0) (get_or other k 0)) → new ≡ zip_words f old other
is_zip_words f new old other kept long each =
    let whole = length-zip_words f old other in
    ext_get_or 0 new (zip_words f old other) (omega arith)
    (λ k h. let inside : k < length old = omega arith in
    each k inside ∙ sym (get_or-zip_words f old other k 0 inside (omega arith)))

-- what a slice of words is
pub words_of_slice : (xs : List ℕ) → ((i : ℕ) → Fits w64 (get_or xs i 0)) → All IsWord xs
words_of_slice xs fits k d h =
    let small : get_or xs k 0 < 2 ^ 64 = omega (arith, fits k) in
    subst (λ w. w < 2 ^ 64) (get_or_default xs k 0 d h) small
