-- Phases of weighted sums.
use Rattle.std.proofs.Common.{◌≡◌, ℕ, ◌+◌, ◌*◌, ◌%◌, ◌^◌, Bool, List, [], ◌∷◌, length, map, arith, ap, sym, ◌∙◌, refl}
use Rattle.std.specs.List.{zip, sum_by, enumerate_from, AllByRecursion}
use Rattle.std.proofs.lemmas.List.{length-replicate}
use Rattle.std.proofs.lemmas.List.Elements.{recursion_from_All}
use Rattle.std.proofs.lemmas.List.Sums.{sum_by-cons}
use Rattle.word_ring.specs.Words.{word_sum, word_product}
use Rattle.word_ring.specs.Rows.{scaled_row, combined, weighted_sum, sum_of_rows, RowLaws}
use Rattle.lwe_core.specs.Phase.{FitsKey, phase_of}
use Rattle.lwe_core.specs.Laws.{PhaseLaws}
use Rattle.lwe_core.proofs.PhaseLinear.{phase-sum, phase-difference, phase-multiple, phase-sum_with_multiple}
use Rattle.lwe_core.proofs.PhaseBodies.{phase-zeros, phase-sealed, phase-trivial}

-- ---- a weighted sum without a term is the row, reduced

without_places : (f : ℕ × ℕ → ℕ) (g : ℕ → ℕ) (n : ℕ) (xs : List ℕ) → ((i x : ℕ) → f (i, x) ≡ g x) → map f (enumerate_from n xs) ≡ map g xs
without_places f g n [] same = refl
without_places f g n (x ∷ xs) same = ap (λ w. w ∷ map f (enumerate_from (n + 1) xs)) (same n x) ∙ ap (λ ws. g x ∷ ws) (without_places f g (n + 1) xs same)

once : (s x : ℕ) → s ≡ 0 → (x + s) % 2 ^ 64 ≡ word_product 1 x
once s x e = omega arith

no_term : (into weights : List ℕ) (rows : List (List ℕ)) → zip weights rows ≡ [] → combined into weights rows ≡ scaled_row 1 into
no_term into weights rows none =
    without_places (λ p. (p.1 + weighted_sum weights rows p.0) % 2 ^ 64) (word_product 1) 0 into
    (λ i x. once (weighted_sum weights rows i) x (ap (sum_by _) none))

no_terms : (bits : List Bool) (into weights : List ℕ) (rows : List (List ℕ)) → FitsKey bits into → zip weights rows ≡ [] → phase_of bits (combined into weights rows) ≡ (phase_of bits into + 0) % 2 ^ 64
no_terms bits into weights rows fits none = ap (phase_of bits) (no_term into weights rows none) ∙ phase-multiple bits 1 into fits ∙ omega arith

-- ---- one term more

one_more : (into first rest : ℕ) (whole : ℕ) → whole ≡ first + rest → word_sum ((into + rest) % 2 ^ 64) first ≡ (into + whole) % 2 ^ 64
one_more into first rest whole e = omega arith

pub phase-combined : RowLaws → (bits : List Bool) (into weights : List ℕ) (rows : List (List ℕ)) → FitsKey bits into → AllByRecursion (FitsKey bits) rows → phase_of bits (combined into weights rows) ≡ (phase_of bits into + sum_by (λ p. p.0 * phase_of bits p.1) (zip weights rows)) % 2 ^ 64
phase-combined laws bits into [] rows fits are = no_terms bits into [] rows fits refl
phase-combined laws bits into (w ∷ ws) [] fits are = no_terms bits into (w ∷ ws) [] fits refl
phase-combined laws bits into (w ∷ ws) (row ∷ rows) fits are =
    let term : ℕ × List ℕ → ℕ = λ p. p.0 * phase_of bits p.1 in
    let rest : List ℕ = combined into ws rows in
    ap (phase_of bits) (laws.combined_first into ws rows w row (are.0 ∙ sym fits))
    ∙ phase-sum_with_multiple laws bits w rest row (laws.combined_length into ws rows ∙ fits) are.0
    ∙ ap (λ n. word_sum n (w * phase_of bits row)) (phase-combined laws bits into ws rows fits are.1)
    ∙ one_more (phase_of bits into) (w * phase_of bits row) (sum_by term (zip ws rows)) _ (sum_by-cons term (w, row) (zip ws rows))

-- ---- sums of many rows

length-sum_of_rows : RowLaws → (len : ℕ) (rows : List (List ℕ)) → AllByRecursion (λ row. length row ≡ len) rows → length (sum_of_rows len rows) ≡ len
length-sum_of_rows laws len [] are = length-replicate {A = ℕ} len 0
length-sum_of_rows laws len (row ∷ rows) are =
    let first : length row ≡ len = are.0 in
    omega (arith, laws.zip_length word_sum row (sum_of_rows len rows), length-sum_of_rows laws len rows are.1, first)

one_row : (first rest whole : ℕ) → whole ≡ first + rest → word_sum first (rest % 2 ^ 64) ≡ whole % 2 ^ 64
one_row first rest whole e = omega (arith, e)

phase-sum_of_rows : RowLaws → (bits : List Bool) (rows : List (List ℕ)) → AllByRecursion (FitsKey bits) rows → phase_of bits (sum_of_rows (length bits + 1) rows) ≡ sum_by (phase_of bits) rows % 2 ^ 64
phase-sum_of_rows laws bits [] are = phase-zeros bits
phase-sum_of_rows laws bits (row ∷ rows) are =
    let rest : List ℕ = sum_of_rows (length bits + 1) rows in
    phase-sum laws bits row rest are.0 (length-sum_of_rows laws (length bits + 1) rows are.1)
    ∙ ap (word_sum (phase_of bits row)) (phase-sum_of_rows laws bits rows are.1)
    ∙ one_row (phase_of bits row) (sum_by (phase_of bits) rows) _ (sum_by-cons (phase_of bits) row rows)

pub laws : RowLaws → PhaseLaws
laws rows = record {
  phase_word = λ bits xs. omega arith;
  phase_sum = phase-sum rows;
  phase_difference = phase-difference rows;
  phase_multiple = phase-multiple;
  phase_sum_with_multiple = phase-sum_with_multiple rows;
  phase_combined = λ bits into weights rs fits are. phase-combined rows bits into weights rs fits (recursion_from_All (FitsKey bits) rs are);
  phase_sum_of_rows = λ bits rs are. phase-sum_of_rows rows bits rs (recursion_from_All (FitsKey bits) rs are);
  phase_sealed = phase-sealed;
  phase_trivial = phase-trivial;
}
