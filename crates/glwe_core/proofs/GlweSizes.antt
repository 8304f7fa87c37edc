-- The size of a phase.
use Rattle.std.proofs.Common.{◌≡◌, ℕ, ◌+◌, ◌*◌, ◌<◌, ◌≤◌, Bool, List, [], ◌∷◌, ◌++◌, length, get_or, map, replicate, All, sum, arith, ap, sym, subst, ◌∙◌, refl}
use Rattle.std.specs.List.{AllByRecursion}
use Rattle.std.proofs.lemmas.List.Elements.{recursion_from_All, All-replicate, All-weaker}
use Rattle.std.proofs.lemmas.List.Sums.{sum-map}
use Rattle.word_ring.specs.Words.{size}
use Rattle.word_ring.specs.Rows.{row_difference, RowWithin}
use Rattle.word_ring.specs.RowLaws.{RowSizeLaws}
use Rattle.lwe_core.specs.Secret.{bit_words, ones_of}
use Rattle.lwe_core.specs.Laws.{OnesLaws}
use Rattle.negacyclic.specs.Product.{negacyclic_product}
use Rattle.negacyclic.specs.Laws.{ProductSizeLaws}
use Rattle.glwe_core.specs.Glwe.{FitsGlweKey, flat_key_of, body_of, glwe_phase}
use Rattle.glwe_core.specs.Laws.{GlweSizeLaws}
use Rattle.glwe_core.proofs.GlwePhases.{Fits, fits, length-bits, sum_at, phase_is}

-- the laws of sizes
pub record Sizes : Type 0 where
  pub rows : RowSizeLaws
  pub ones : OnesLaws
  pub products : ProductSizeLaws

-- the bits as words add up to the ones
bits-sum : (bits : List Bool) → sum (bit_words bits) ≡ ones_of bits
bits-sum bits = sum-map _ bits

within_same : (a b : ℕ) (xs : List ℕ) → a ≡ b → RowWithin a xs → RowWithin b xs
within_same a b xs e is = subst (λ n. RowWithin n xs) e is

more_ones : (a b o bound : ℕ) → o ≡ a + b → a * bound + b * bound ≡ o * bound
more_ones a b o bound e = rw e (omega arith)

sum_at-within : Sizes → (n bound : ℕ) (key : List (List Bool)) (xs : List (List ℕ)) → Fits n key xs → AllByRecursion (RowWithin bound) xs → RowWithin (ones_of (flat_key_of key) * bound) (sum_at n key xs)
sum_at-within sizes n bound [] xs is are = All-replicate (λ w. size w ≤ 0 * bound) n 0 (omega arith)
sum_at-within sizes n bound (b ∷ key) [] is are = absurd is
sum_at-within sizes n bound (b ∷ key) (x ∷ xs) is are =
    let s : List ℕ = bit_words b in
    let product : RowWithin (ones_of b * bound) (negacyclic_product x s) =
    within_same (sum s * bound) (ones_of b * bound) (negacyclic_product x s) (ap (λ o. o * bound) (bits-sum b)) (sizes.products.product_with_bits bound x s (is.1 ∙ sym (length-bits n b is.0)) are.0) in
    within_same _ (ones_of (b ++ flat_key_of key) * bound) _ (more_ones (ones_of b) (ones_of (flat_key_of key)) _ bound (sizes.ones.ones_append b (flat_key_of key)))
    (sizes.rows.sum_within (ones_of b * bound) (ones_of (flat_key_of key) * bound) (negacyclic_product x s) (sum_at n key xs) product (sum_at-within sizes n bound key xs is.2 are.1))

body-within : (n bound : ℕ) (key : List (List Bool)) (xs : List (List ℕ)) → Fits n key xs → AllByRecursion (RowWithin bound) xs → RowWithin bound (body_of key xs)
body-within n bound [] [] is are = absurd is
body-within n bound [] (x ∷ xs) is are = are.0
body-within n bound (b ∷ key) [] is are = absurd is
body-within n bound (b ∷ key) (x ∷ xs) is are = body-within n bound key xs is.2 are.1

once_more : (o bound : ℕ) → bound + o * bound ≡ (1 + o) * bound
once_more o bound = omega arith

phase-within : Sizes → (n bound : ℕ) (key : List (List Bool)) (xs : List (List ℕ)) → Fits n key xs → AllByRecursion (RowWithin bound) xs → RowWithin ((1 + ones_of (flat_key_of key)) * bound) (glwe_phase key xs)
phase-within sizes n bound key xs is are =
    let o : ℕ = ones_of (flat_key_of key) in
    let parts : RowWithin (bound + o * bound) (row_difference (body_of key xs) (sum_at n key xs)) =
    sizes.rows.difference_within bound (o * bound) (body_of key xs) (sum_at n key xs) (body-within n bound key xs is are) (sum_at-within sizes n bound key xs is are) in
    subst (RowWithin ((1 + o) * bound)) (sym (phase_is n key xs is)) (within_same _ ((1 + o) * bound) _ (once_more o bound) parts)

pub laws : Sizes → GlweSizeLaws
laws sizes = record {
  phase_size = λ n bound key xs is are. phase-within sizes n bound key xs (fits n key xs is) (recursion_from_All (RowWithin bound) xs are);
}
