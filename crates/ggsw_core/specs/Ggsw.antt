-- GGSW ciphertexts: the lists of their rows, each a GLWE ciphertext (Chillotti et al. 2020, where they are TRGSW).
use Rattle.std.specs.Prelude.{◌≡◌, ℕ, ◌+◌, ◌-◌, ◌*◌, ◌<◌, ◌≤◌, List, [], All, length, map, replicate, slice_set}
use Rattle.std.specs.List.{flat_map, range_with_len, slice_index_or}
use Rattle.word_ring.specs.Rows.{row_sum, row_difference, sum_of_rows, zip_rows}
use Rattle.negacyclic.specs.Product.{negacyclic_product}
use Rattle.gadget_decomp.specs.Decomposition.{IsGadget, digit_polynomial}
use Rattle.glwe_core.specs.Glwe.{lengths_of, degree_of, HasShape}

-- how words are taken to digits, and the rows: those of the first part, from place 1 to the last, then the next part's
pub record GgswRows : Type 0 where
  pub base : ℕ
  pub level : ℕ
  pub rows : List (List (List ℕ))

-- how many coefficients each part of a row has
abbrev pub row_lengths : GgswRows → List ℕ
row_lengths g = lengths_of (slice_index_or g.rows 0 [])

-- where the row of part j at place t stands
abbrev pub row_place : GgswRows → ℕ → ℕ → ℕ
row_place g j t = j * g.level + (t - 1)

-- that row; place 1 is the highest
abbrev pub row_of : GgswRows → ℕ → ℕ → List (List ℕ)
row_of g j t = slice_index_or g.rows (row_place g j t) []

-- a row for each place of each part, all of them of one shape
pub record IsGgsw (g : GgswRows) : Type 0 where
  pub gadget : IsGadget g.base g.level
  pub number : length g.rows ≡ length (row_lengths g) * g.level
  pub shape : HasShape (slice_index_or g.rows 0 [])
  pub shapes : All (λ row. lengths_of row ≡ row_lengths g) g.rows

-- the one whose rows are 0, of so many parts of n words each
abbrev pub zero_ggsw : ℕ → ℕ → ℕ → ℕ → GgswRows
zero_ggsw parts n base level = record {
  base = base;
  level = level;
  rows = replicate (parts * level) (replicate parts (replicate n 0));
}

-- the one with another row of part j at place t
abbrev pub with_row : GgswRows → ℕ → ℕ → List (List ℕ) → GgswRows
with_row g j t row = record g { rows = slice_set g.rows (row_place g j t) row }

-- the sum of ciphertexts of so many parts of n words each, part by part
abbrev pub sum_of_glwes : ℕ → ℕ → List (List (List ℕ)) → List (List ℕ)
sum_of_glwes parts n terms = map (λ i. sum_of_rows n (map (λ c. slice_index_or c i []) terms)) (range_with_len 0 parts)

-- a ciphertext and all of these, added part by part
abbrev pub plus_all : List (List ℕ) → List (List (List ℕ)) → List (List ℕ)
plus_all into terms = zip_rows row_sum into (sum_of_glwes (length into) (degree_of into) terms)

-- digit t of the coefficients of part j, times the row of that part and place
abbrev pub row_product : GgswRows → List (List ℕ) → ℕ → ℕ → List (List ℕ)
row_product g c j t =
    map (negacyclic_product (digit_polynomial g.base g.level t (slice_index_or c j []))) (row_of g j t)

-- these, for the places of one part
abbrev pub part_products : GgswRows → List (List ℕ) → ℕ → List (List (List ℕ))
part_products g c j = map (row_product g c j) (range_with_len 1 g.level)

-- and for those of all parts
abbrev pub all_products : GgswRows → List (List ℕ) → List (List (List ℕ))
all_products g c = flat_map (part_products g c) (range_with_len 0 (length c))

-- the external product: their sum over all parts and places
unfoldable pub external_product : GgswRows → List (List ℕ) → List (List ℕ)
external_product g c = sum_of_glwes (length c) (degree_of c) (all_products g c)

-- CMux: acc plus the external product with what `other` has more
abbrev pub cmux_of : GgswRows → List (List ℕ) → List (List ℕ) → List (List ℕ)
cmux_of g acc other = zip_rows row_sum acc (external_product g (zip_rows row_difference other acc))

-- there is a row of part j at place t
pub record HasRow (g : GgswRows) (j t : ℕ) : Type 0 where
  pub part : j < length (row_lengths g)
  pub first : 1 ≤ t
  pub last : t ≤ g.level

-- what an exchanged row leaves
pub record ExchangeLaws : Type 0 where
  -- rows of the same shape
  pub lengths_stay : (g : GgswRows) (j t : ℕ) (row : List (List ℕ)) → IsGgsw g → HasRow g j t
      → lengths_of row ≡ row_lengths g → row_lengths (with_row g j t row) ≡ row_lengths g
  -- of a GGSW ciphertext
  pub stays_ggsw : (g : GgswRows) (j t : ℕ) (row : List (List ℕ)) → IsGgsw g → HasRow g j t
      → lengths_of row ≡ row_lengths g → IsGgsw (with_row g j t row)
  -- the row in its place
  pub row_set : (g : GgswRows) (j t : ℕ) (row : List (List ℕ)) → IsGgsw g → HasRow g j t
      → row_of (with_row g j t row) j t ≡ row
  -- and every other row where it stood
  pub others_stay : (g : GgswRows) (j t i u : ℕ) (row : List (List ℕ)) → HasRow g j t → HasRow g i u
      → (j ≡ i → t ≡ u → ⊥) → row_of (with_row g j t row) i u ≡ row_of g i u
