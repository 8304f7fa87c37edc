-- The ones of a key, and the size of a phase.
use Rattle.std.proofs.Common.{◌≡◌, ℕ, ◌+◌, ◌*◌, ◌≤◌, Bool, true, false, cond, List, [], ◌∷◌, length, get_or, All, ⊎_elim, arith, refl}
use Rattle.std.specs.List.{sum_by, AllByRecursion}
use Rattle.std.proofs.lemmas.Bool.{cases_lt}
use Rattle.std.proofs.lemmas.List.{get_or_past}
use Rattle.std.proofs.lemmas.List.Elements.{recursion_from_All}
use Rattle.std.proofs.lemmas.List.Sums.{sum_by-cons, sum_by-append, sum_by-set, sum_by_more, sum_by-take-le, count_by-le-length}
use Rattle.word_ring.specs.Words.{size, SizeLaws}
use Rattle.lwe_core.specs.Secret.{bit_word, bit_words, ones_of}
use Rattle.lwe_core.specs.Phase.{masked_sum, phase_of}
use Rattle.lwe_core.specs.Laws.{OnesLaws, PhaseSizeLaws}
use Rattle.lwe_core.proofs.PhaseLinear.{masked-cons}

-- the first bit, and the rest
ones-cons : (b : Bool) (bits : List Bool) → ones_of (b ∷ bits) ≡ bit_word b + ones_of bits
ones-cons b bits = sum_by-cons (λ bit. cond bit 1 0) b bits

bit-size : (b : Bool) → size (bit_word b) ≡ bit_word b
bit-size true = refl
bit-size false = refl

ones-size : (bits : List Bool) → sum_by size (bit_words bits) ≡ ones_of bits
ones-size [] = refl
ones-size (b ∷ bits) = omega (arith, sum_by-cons size (bit_word b) (bit_words bits), ones-cons b bits, bit-size b, ones-size bits)

pub ones : OnesLaws
ones = record {
  ones_most = count_by-le-length (λ bit. bit);
  ones_append = sum_by-append (λ bit. cond bit 1 0);
  ones_set = λ bits place bit inside. sum_by-set (λ bit. cond bit 1 0) bits place bit false inside;
  ones_more = λ bits i inside. sum_by_more (λ bit. cond bit 1 0) bits i false inside;
  ones_first = sum_by-take-le (λ bit. cond bit 1 0);
  ones_size = ones-size;
}

-- ---- sizes

sum_size : SizeLaws → (a b : ℕ) → size (a + b) ≤ size a + size b
sum_size sizes a b = omega (arith, sizes.size_sum a b)

together : (a b n bound : ℕ) → a ≤ bound → b ≤ n * bound → a + b ≤ (1 + n) * bound
together a b n bound p q = omega arith

first_size : SizeLaws → (m o w rest n bound : ℕ) → m ≡ w + rest → o ≡ 1 + n → size w ≤ bound → size rest ≤ n * bound → size m ≤ o * bound
first_size sizes m o w rest n bound m_is o_is small others =
    let parts = together (size w) (size rest) n bound small others in
    rw (m_is, o_is) (omega (arith, sum_size sizes w rest, parts))

masked-size : SizeLaws → (bound : ℕ) (bits : List Bool) (words : List ℕ) → AllByRecursion (λ w. size w ≤ bound) words → size (masked_sum bits words) ≤ ones_of bits * bound
masked-size sizes bound [] words are = omega arith
masked-size sizes bound (b ∷ bits) [] are = omega arith
masked-size sizes bound (true ∷ bits) (w ∷ words) are =
    first_size sizes _ _ w (masked_sum bits words) (ones_of bits) bound (masked-cons true bits w words) (ones-cons true bits) are.0 (masked-size sizes bound bits words are.1)
masked-size sizes bound (false ∷ bits) (w ∷ words) are =
    let rest : size (masked_sum bits words) ≤ ones_of bits * bound = masked-size sizes bound bits words are.1 in
    omega (arith, masked-cons false bits w words, ones-cons false bits, rest)

-- a word at any place, also past the end
word-size : (bound : ℕ) (words : List ℕ) (i : ℕ) → All (λ w. size w ≤ bound) words → size (get_or words i 0) ≤ bound
word-size bound words i are =
    ⊎_elim (λ inside. are i 0 inside) (λ past. let none = get_or_past words i 0 past in rw none (omega arith)) (cases_lt i (length words))

phase-size : SizeLaws → (bound : ℕ) (bits : List Bool) (words : List ℕ) → All (λ w. size w ≤ bound) words → size (phase_of bits words) ≤ (1 + ones_of bits) * bound
phase-size sizes bound bits words are =
    let body : ℕ = get_or words (length bits) 0 in
    let mask : ℕ = masked_sum bits words in
    let parts = together (size body) (size mask) (ones_of bits) bound (word-size bound words (length bits) are) (masked-size sizes bound bits words (recursion_from_All (λ w. size w ≤ bound) words are)) in
    omega (arith, sizes.size_difference body mask, parts)

pub sizes : SizeLaws → PhaseSizeLaws
sizes laws = record {
  masked_size = λ bound bits words are. masked-size laws bound bits words (recursion_from_All (λ w. size w ≤ bound) words are);
  phase_size = phase-size laws;
}
