-- Terms that are put on other leaves.
use Rattle.std.specs.Prelude.{◌≡◌, ℕ, ◌<◌, List, [], ◌∷◌, length, map, ℤ, refl}
use Rattle.std.proofs.Common.{zero, suc, set, get_or, ap, sym, arith}

-- the leaves of terms, in order
abbrev pub leaves_of : List (ℕ × ℤ) → List ℕ
leaves_of terms = map (λ t. t.0) terms

-- the terms on these leaves, one for one, with the weights as they are
abbrev pub terms_on : List (ℕ × ℤ) → List ℕ → List (ℕ × ℤ)
terms_on [] leaves = []
terms_on (t ∷ terms) [] = t ∷ terms
terms_on (t ∷ terms) (leaf ∷ leaves) = (leaf, t.1) ∷ terms_on terms leaves

-- ---- what holds of them

-- the leaves that are put are those that are read
pub terms_on-read : (terms : List (ℕ × ℤ)) (leaves : List ℕ) → length leaves ≡ length (leaves_of terms)
    → leaves_of (terms_on terms leaves) ≡ leaves
terms_on-read [] [] same = refl
terms_on-read [] (leaf ∷ leaves) same = absurd (omega arith)
terms_on-read (t ∷ terms) [] same = absurd (omega arith)
terms_on-read (t ∷ terms) (leaf ∷ leaves) same = ap (λ rest. leaf ∷ rest) (terms_on-read terms leaves (omega arith))

-- to put the leaves that are there changes nothing
pub terms_on-own : (terms : List (ℕ × ℤ)) → terms_on terms (leaves_of terms) ≡ terms
terms_on-own [] = refl
terms_on-own (t ∷ terms) = ap (λ rest. t ∷ rest) (terms_on-own terms)

-- the terms on their own leaves but for one
pub terms_on-set : (terms : List (ℕ × ℤ)) (at leaf : ℕ) (d : ℕ × ℤ) → at < length terms
    → set terms at (leaf, (get_or terms at d).1) ≡ terms_on terms (set (leaves_of terms) at leaf)
terms_on-set [] at leaf d within = absurd (omega arith)
terms_on-set (t ∷ terms) zero leaf d within = ap (λ rest. (leaf, t.1) ∷ rest) (sym (terms_on-own terms))
terms_on-set (t ∷ terms) (suc at) leaf d within = ap (λ rest. t ∷ rest) (terms_on-set terms at leaf d (omega arith))

-- leaves that are put leave nothing of those put before
pub terms_on-terms_on : (terms : List (ℕ × ℤ)) (first last : List ℕ) → length first ≡ length (leaves_of terms)
    → length last ≡ length (leaves_of terms) → terms_on (terms_on terms first) last ≡ terms_on terms last
terms_on-terms_on [] first last same_first same_last = refl
terms_on-terms_on (t ∷ terms) [] last same_first same_last = absurd (omega arith)
terms_on-terms_on (t ∷ terms) (f ∷ first) [] same_first same_last = absurd (omega arith)
terms_on-terms_on (t ∷ terms) (f ∷ first) (l ∷ last) same_first same_last =
    ap (λ rest. (l, t.1) ∷ rest) (terms_on-terms_on terms first last (omega arith) (omega arith))
