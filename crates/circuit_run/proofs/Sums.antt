-- A weighted sum, term by term, and ciphertexts that are copied.
use Rattle.std.proofs.Common.{◌≡◌, ℕ, ◌+◌, ◌^◌, ◌<◌, List, [], ◌∷◌, ◌++◌, length, replicate, map, take, get_or, All, refl, sym, ap, ◌∙◌, subst, arith, ℤ}
use Rattle.std.proofs.lemmas.List.{take_more, map_push, length-map, length-replicate, get_or-replicate, get_or_default}
use Rattle.word_ring.specs.Words.{IsWord}
use Rattle.word_ring.specs.Rows.{row_sum, sum_with_scaled, combined, RowLaws}
use Rattle.word_ring.specs.RowLaws.{RowRingLaws, CombinedLaws}
use Rattle.word_ring.specs.Signed.{word_of}
use Rattle.circuit_run.specs.Running.{row_at, weighted_row}

zeros_are_words : (n : ℕ) → All IsWord (replicate n 0)
zeros_are_words n = λ k d lt. subst (λ word. word < 2 ^ 64) (sym (get_or-replicate n k 0 d (omega (arith, length-replicate {A = ℕ} n 0)))) (omega arith)

-- no terms
pub weighted_none : RowLaws → (len : ℕ) (earlier : List (List ℕ)) → replicate len 0 ≡ weighted_row len [] earlier
weighted_none laws len earlier = sym (laws.combined_none (replicate len 0) (zeros_are_words len))

-- one more is added to a row of words
one_term : RowLaws → CombinedLaws → (len : ℕ) (weights : List ℕ) (rows : List (List ℕ)) (weight : ℕ) (row : List ℕ) → length weights ≡ length rows → length row ≡ len → sum_with_scaled (combined (replicate len 0) weights rows) weight row ≡ combined (replicate len 0) (weights ++ weight ∷ []) (rows ++ row ∷ [])
one_term laws more len weights rows weight row same long =
    let so_far : List ℕ = combined (replicate len 0) weights rows in
    let length_so_far : length so_far ≡ len = laws.combined_length (replicate len 0) weights rows ∙ length-replicate len 0 in
    sym (more.combined_append (replicate len 0) weights (weight ∷ []) rows (row ∷ []) same
    ∙ laws.combined_first so_far [] [] weight row (long ∙ sym length_so_far)
    ∙ ap (λ r. sum_with_scaled r weight row) (laws.combined_none so_far (more.combined_words (replicate len 0) weights rows)))

pub weighted_more : RowLaws → CombinedLaws → (len : ℕ) (terms : List (ℕ × ℤ)) (earlier : List (List ℕ)) (i : ℕ) (t : ℕ × ℤ) → i < length terms → t ≡ get_or terms i t → length (row_at earlier t.0) ≡ len → sum_with_scaled (weighted_row len (take i terms) earlier) (word_of t.1) (row_at earlier t.0) ≡ weighted_row len (take (i + 1) terms) earlier
weighted_more laws more len terms earlier i t within read long =
    let weight_of : ℕ × ℤ → ℕ = λ u. word_of u.1 in
    let row_of : ℕ × ℤ → List ℕ = λ u. row_at earlier u.0 in
    let first : List (ℕ × ℤ) = take i terms in
    let whole : take (i + 1) terms ≡ first ++ t ∷ [] = take_more terms i t within ∙ ap (λ u. first ++ u ∷ []) (sym read) in
    one_term laws more len (map weight_of first) (map row_of first) (weight_of t) (row_of t) (length-map first weight_of ∙ sym (length-map first row_of)) long
    ∙ sym (ap (λ us. weighted_row len us earlier) whole
    ∙ ap (λ ws. combined (replicate len 0) ws (map row_of (first ++ t ∷ []))) (map_push weight_of first t)
    ∙ ap (λ rs. combined (replicate len 0) (map weight_of first ++ weight_of t ∷ []) rs) (map_push row_of first t))

-- a row of words added to 0 is a copy
pub copied : RowRingLaws → (old row : List ℕ) → All IsWord row → length row ≡ length old → row_sum (replicate (length old) 0) row ≡ row
copied laws old row words same =
    laws.sum_commutative (replicate (length old) 0) row ∙ ap (λ n. row_sum row (replicate n 0)) (sym same) ∙ laws.sum_zero row words

-- the same, of the term at a place
pub weighted_next : RowLaws → CombinedLaws → (len : ℕ) (terms : List (ℕ × ℤ)) (earlier : List (List ℕ)) (i : ℕ) (d : ℕ × ℤ) (row : List ℕ) → i < length terms → row ≡ weighted_row len (take i terms) earlier → length (row_at earlier (get_or terms i d).0) ≡ len → sum_with_scaled row (word_of (get_or terms i d).1) (row_at earlier (get_or terms i d).0) ≡ weighted_row len (take (i + 1) terms) earlier
weighted_next laws more len terms earlier i d row within so_far long =
    let t : ℕ × ℤ = get_or terms i d in
    ap (λ r. sum_with_scaled r (word_of t.1) (row_at earlier t.0)) so_far
    ∙ weighted_more laws more len terms earlier i t within (get_or_default terms i d t within) long
