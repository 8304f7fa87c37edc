-- Phases, a bit of the key at a time.
use Rattle.std.proofs.Common.{◌≡◌, ℕ, ◌+◌, ◌<◌, ◌≤◌, Bool, false, cond, List, length, get_or, take, arith, ap, ◌∙◌}
use Rattle.std.specs.List.{zip, sum_by}
use Rattle.std.proofs.lemmas.List.{take_all}
use Rattle.std.proofs.lemmas.List.Sums.{sum_by_more}
use Rattle.std.proofs.lemmas.Slice.Zip.{length-zip, get_or-zip}
use Rattle.word_ring.specs.Words.{word_difference}
use Rattle.lwe_core.specs.Phase.{masked_sum}

-- the sum over the first k mask words
abbrev pub first_masked : ℕ → List Bool → List ℕ → ℕ
first_masked k bits words = sum_by (λ p. cond p.0 p.1 0) (take k (zip bits words))

-- one mask word more
pub first_masked-more : (k : ℕ) (bits : List Bool) (words : List ℕ) → k < length bits → k < length words → first_masked (k + 1) bits words ≡ first_masked k bits words + cond (get_or bits k false) (get_or words k 0) 0
first_masked-more k bits words p q =
    let in_zip : k < length (zip bits words) = omega (arith, length-zip bits words) in
    sum_by_more (λ p. cond p.0 p.1 0) (zip bits words) k (false, 0) in_zip
    ∙ ap (λ (t : Bool × ℕ). first_masked k bits words + cond t.0 t.1 0) (get_or-zip bits words k (false, 0) p q)

-- all of them
pub first_masked-all : (k : ℕ) (bits : List Bool) (words : List ℕ) → length bits ≤ k → first_masked k bits words ≡ masked_sum bits words
first_masked-all k bits words all =
    ap (λ pairs. sum_by (λ p. cond p.0 p.1 0) pairs) (take_all k (zip bits words) (omega (arith, length-zip bits words)))

-- one mask word less in the phase
pub phase_step : (body k : ℕ) (bits : List Bool) (words : List ℕ) (phase : ℕ) → k < length bits → k < length words → phase ≡ word_difference body (first_masked k bits words) → word_difference phase (cond (get_or bits k false) (get_or words k 0) 0) ≡ word_difference body (first_masked (k + 1) bits words)
phase_step body k bits words phase p q is = omega (arith, first_masked-more k bits words p q, is)
