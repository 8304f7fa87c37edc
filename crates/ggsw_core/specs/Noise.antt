-- What the rows of a GGSW ciphertext stand for, and the noise of products with them.
use Rattle.std.specs.Prelude.{◌≡◌, ℕ, ◌+◌, ◌-◌, ◌*◌, ◌^◌, ◌≤◌, Bool, List, [], ◌∷◌, ◌++◌, All, length, map, if◌then◌else◌}
use Rattle.std.specs.List.{slice_index_or}
use Rattle.word_ring.specs.Words.{word_negation}
use Rattle.word_ring.specs.Rows.{row_difference, scaled_row, RowWithin}
use Rattle.lwe_core.specs.Secret.{bit_word, bit_words, ones_of}
use Rattle.negacyclic.specs.Product.{monomial}
use Rattle.gadget_decomp.specs.Decomposition.{IsGadget, place_weight}
use Rattle.glwe_core.specs.Glwe.{FitsGlweKey, flat_key_of, glwe_phase}
use Rattle.ggsw_core.specs.Ggsw.{GgswRows, row_of, external_product, cmux_of}

-- what each part counts in a phase: a mask polynomial minus that of the key, and the body 1
abbrev pub part_factors : ℕ → List (List Bool) → List (List ℕ)
part_factors n key = map (λ bits. map word_negation (bit_words bits)) key ++ monomial n 0 ∷ []

-- the message of the row of part j at place t: the bit times the place's weight times what the part counts
abbrev pub row_message : ℕ → List (List Bool) → Bool → ℕ → ℕ → ℕ → List ℕ
row_message n key bit base j t =
    scaled_row (bit_word bit) (scaled_row (place_weight base t) (slice_index_or (part_factors n key) j []))

-- the rows fit a bit: the phase of each, of n coefficients, is its message plus an error of at most `bound` in size
pub record GgswFits (n bound : ℕ) (key : List (List Bool)) (bit : Bool) (g : GgswRows) : Type 0 where
  pub gadget : IsGadget g.base g.level
  pub number : length g.rows ≡ (length key + 1) * g.level
  pub shapes : All (FitsGlweKey n key) g.rows
  pub errors : (j t : ℕ) → j ≤ length key → 1 ≤ t → t ≤ g.level
      → RowWithin bound (row_difference (glwe_phase key (row_of g j t)) (row_message n key bit g.base j t))

-- what the rows' errors add to a phase: a product for each of k + 1 parts and each place
abbrev pub rows_noise : ℕ → ℕ → ℕ → ℕ → ℕ → ℕ
rows_noise parts level n base bound = parts * level * n * 2 ^ (base - 1) * bound

-- what rounding to digits adds under a key with so many ones
abbrev pub digits_noise : ℕ → ℕ → ℕ → ℕ
digits_noise ones base level = (1 + ones) * 2 ^ (63 - base * level)

-- what a product with a GGSW of a bit adds to a phase: the rows' errors, and for the bit 1 that of rounding
abbrev pub product_noise : ℕ → ℕ → ℕ → List (List Bool) → Bool → GgswRows → ℕ
product_noise n ones bound key bit g =
    rows_noise (length key + 1) g.level n g.base bound + bit_word bit * digits_noise ones g.base g.level

-- the phase of `product` is the bit times that of c, but for the noise, for every key and bit that the rows fit
abbrev pub MultipliesPhase : GgswRows → List (List ℕ) → List (List ℕ) → Type 0
MultipliesPhase g c product =
    (n ones bound : ℕ) (key : List (List Bool)) (bit : Bool)
    → GgswFits n bound key bit g → ones_of (flat_key_of key) ≤ ones → FitsGlweKey n key c
    → RowWithin (product_noise n ones bound key bit g)
    (row_difference (glwe_phase key product) (scaled_row (bit_word bit) (glwe_phase key c)))

-- the phase of `selected` is that of `other` where the bit is 1, else that of acc, but for the noise
abbrev pub SelectsPhase : GgswRows → List (List ℕ) → List (List ℕ) → List (List ℕ) → Type 0
SelectsPhase g acc other selected =
    (n ones bound : ℕ) (key : List (List Bool)) (bit : Bool)
    → GgswFits n bound key bit g → ones_of (flat_key_of key) ≤ ones
    → FitsGlweKey n key acc → FitsGlweKey n key other
    → RowWithin (product_noise n ones bound key bit g)
    (row_difference (glwe_phase key selected) (glwe_phase key (if bit then other else acc)))

-- the shapes of products with GGSW ciphertexts
pub record GgswShapeLaws : Type 0 where
  -- an external product fits the key that the ciphertext fits
  pub external_fits : (n bound : ℕ) (key : List (List Bool)) (bit : Bool) (g : GgswRows) (c : List (List ℕ))
      → GgswFits n bound key bit g → FitsGlweKey n key c → FitsGlweKey n key (external_product g c)
  -- and so does CMux
  pub cmux_fits : (n bound : ℕ) (key : List (List Bool)) (bit : Bool) (g : GgswRows) (acc other : List (List ℕ))
      → GgswFits n bound key bit g → FitsGlweKey n key acc → FitsGlweKey n key other
      → FitsGlweKey n key (cmux_of g acc other)

-- the noise of products with GGSW ciphertexts
pub record GgswNoiseLaws : Type 0 where
  -- an external product multiplies the phase with the bit
  pub external_noise : (g : GgswRows) (c : List (List ℕ)) → MultipliesPhase g c (external_product g c)
  -- and CMux selects by it
  pub cmux_noise : (g : GgswRows) (acc other : List (List ℕ)) → SelectsPhase g acc other (cmux_of g acc other)
