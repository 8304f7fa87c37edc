-- What an exchanged row leaves of a boot key.
use Rattle.std.proofs.Common.{◌≡◌, ◌≢◌, ℕ, ◌+◌, ◌^◌, List, [], length, arith, ap, sym, ◌∙◌, subst, ⊎_elim, get_or-set_same, get_or-set_other}
use Rattle.std.proofs.lemmas.List.{length-replicate}
use Rattle.std.proofs.lemmas.List.Elements.{All-set}
use Rattle.std.proofs.lemmas.Bool.{cases_eq}
use Rattle.glwe_core.specs.Glwe.{lengths_of}
use Rattle.ggsw_core.specs.Ggsw.{GgswRows, IsGgsw, HasRow, row_lengths, row_of, with_row, ExchangeLaws as GgswExchangeLaws}
use Rattle.blind_rotate.specs.BootKey.{BootRows, IsBootKey, HasBootRow, shape_lengths, ggsw_at, boot_row, with_boot_row}
use Rattle.blind_rotate.specs.Laws.{ExchangeLaws}

-- the one that stands where a key has none
abbrev pub no_ggsw : GgswRows
no_ggsw = record { base = 0; level = 0; rows = [] }

-- a row of the key is one of its GGSW ciphertext
pub has_row : (key : BootRows) (i j t : ℕ) → IsBootKey key → HasBootRow key i j t → HasRow (ggsw_at key.ggsws i) j t
has_row key i j t is has =
    let lengths : row_lengths (ggsw_at key.ggsws i) ≡ shape_lengths key.shape = is.lengths i no_ggsw has.bit in
    record {
      part = omega (arith, ap length lengths ∙ length-replicate (key.shape.k + 1) (2 ^ key.shape.log_n), has.part);
      first = has.first;
      last = omega (arith, is.levels i no_ggsw has.bit, has.last);
    }

pub stays_key : GgswExchangeLaws → (key : BootRows) (i j t : ℕ) (row : List (List ℕ)) → IsBootKey key → HasBootRow key i j t → lengths_of row ≡ shape_lengths key.shape → IsBootKey (with_boot_row key i j t row)
stays_key laws key i j t row is has same =
    let g : GgswRows = ggsw_at key.ggsws i in
    let in_g : HasRow g j t = has_row key i j t is has in
    let lengths : row_lengths g ≡ shape_lengths key.shape = is.lengths i no_ggsw has.bit in
    let fits : lengths_of row ≡ row_lengths g = same ∙ sym lengths in
    let is_ggsw : IsGgsw g = is.ciphertexts i no_ggsw has.bit in
    record {
      ciphertexts = All-set IsGgsw key.ggsws i (with_row g j t row) (laws.stays_ggsw g j t row is_ggsw in_g fits) is.ciphertexts;
      lengths = All-set (λ g. row_lengths g ≡ shape_lengths key.shape) key.ggsws i (with_row g j t row) (laws.lengths_stay g j t row is_ggsw in_g fits ∙ lengths) is.lengths;
      bases = All-set (λ g. g.base ≡ key.base) key.ggsws i (with_row g j t row) (is.bases i no_ggsw has.bit) is.bases;
      levels = All-set (λ g. g.level ≡ key.level) key.ggsws i (with_row g j t row) (is.levels i no_ggsw has.bit) is.levels;
    }

row_set : GgswExchangeLaws → (key : BootRows) (i j t : ℕ) (row : List (List ℕ)) → IsBootKey key → HasBootRow key i j t → boot_row (with_boot_row key i j t row) i j t ≡ row
row_set laws key i j t row is has =
    let g : GgswRows = ggsw_at key.ggsws i in
    ap (λ g. row_of g j t) (get_or-set_same key.ggsws i (with_row g j t row) no_ggsw has.bit)
    ∙ laws.row_set g j t row (is.ciphertexts i no_ggsw has.bit) (has_row key i j t is has)

others_stay : GgswExchangeLaws → (key : BootRows) (i j t a b c : ℕ) (row : List (List ℕ)) → IsBootKey key → HasBootRow key i j t → HasBootRow key a b c → (i ≡ a → j ≡ b → t ≡ c → ⊥) → boot_row (with_boot_row key i j t row) a b c ≡ boot_row key a b c
others_stay laws key i j t a b c row is has other apart =
    let g : GgswRows = ggsw_at key.ggsws i in
    ⊎_elim
    (λ (same : i ≡ a).
    let moved : boot_row (with_boot_row key i j t row) i b c ≡ boot_row key i b c =
    ap (λ g. row_of g b c) (get_or-set_same key.ggsws i (with_row g j t row) no_ggsw has.bit)
    ∙ laws.others_stay g j t b c row (has_row key i j t is has) (subst (λ k. HasRow (ggsw_at key.ggsws k) b c) (sym same) (has_row key a b c is other)) (apart same) in
    subst (λ k. boot_row (with_boot_row key i j t row) k b c ≡ boot_row key k b c) same moved)
    (λ (differ : i ≢ a).
    ap (λ g. row_of g b c) (get_or-set_other key.ggsws i a (with_row g j t row) no_ggsw (λ e. differ (sym e))))
    (cases_eq i a)

pub exchanges : GgswExchangeLaws → ExchangeLaws
exchanges laws = record { stays_key = stays_key laws; row_set = row_set laws; others_stay = others_stay laws }
