-- The keys and the ciphertexts of a seed: each word is the draw at its place in the stream of its label.
use Rattle.std.specs.Prelude.{ℕ, ℤ, ◌+◌, ◌*◌, ◌/◌, ◌%◌, ◌^◌, ◌≤◌, ◌==◌, Bool, false, List, [], ◌∷◌, ◌++◌, length, map, replicate, codes}
use Rattle.std.specs.List.{range_with_len, list_any, slice_index_or}
use Rattle.word_ring.specs.Words.{word_sum}
use Rattle.word_ring.specs.Signed.{word_of}
use Rattle.word_ring.specs.Rows.{row_sum}
use Rattle.seed_stream.specs.Draws.{stream_key, draw, error_of}
use Rattle.lwe_core.specs.Phase.{sealed}
use Rattle.gadget_decomp.specs.Decomposition.{IsGadget}
use Rattle.key_switch.specs.Key.{SwitchRows, switch_rows, message_of}
use Rattle.glwe_core.specs.Glwe.{sealed_glwe}
use Rattle.ggsw_core.specs.Ggsw.{GgswRows}
use Rattle.ggsw_core.specs.Noise.{row_message}
use Rattle.blind_rotate.specs.BootKey.{BootRows, boot_rows}
use Rattle.blind_rotate.specs.Fits.{KeyNumbers, key_polynomials}
use Rattle.fhe_params.specs.declared.params.Params.{Params}

-- ---- labels

-- of the bits of the big secret key
abbrev pub big_label : List ℕ
big_label = codes "fhec big"

-- of the bits of the small secret key
abbrev pub small_label : List ℕ
small_label = codes "fhec small"

-- of the rows of the switch key
abbrev pub switch_label : List ℕ
switch_label = codes "fhec switch"

-- of the rows of the boot key
abbrev pub boot_label : List ℕ
boot_label = codes "fhec boot"

-- of the input ciphertexts
abbrev pub input_label : List ℕ
input_label = codes "fhec input"

-- ---- secret keys

-- n draws of a stream, from the one at a place on
abbrev pub draws_at : List ℕ → ℕ → ℕ → List ℕ
draws_at key place n = map (draw key) (range_with_len place n)

-- the bits of a secret key of that dimension: each of the first `ones` draws sets the bit at its remainder to 1, and
-- all others are 0; a place that is drawn twice counts once
abbrev pub drawn_bits : List ℕ → ℕ → ℕ → List Bool
drawn_bits key dim ones =
    map (λ place. list_any (λ drawn. drawn % dim == place) (draws_at key 0 ones)) (range_with_len 0 dim)

-- ---- ciphertexts

-- the ciphertext of a message under a secret key whose words begin at a place of a stream: the mask, and then the error
abbrev pub drawn_row : List ℕ → ℕ → List Bool → ℕ → ℕ → List ℕ
drawn_row key place bits message bound =
    let error = error_of (draw key (place + length bits)) bound in
    sealed bits (draws_at key place (length bits) ++ 0 ∷ []) (word_sum message (word_of error))

-- row r of the switch key: that of bit r / level of the big key, and of place r % level + 1
abbrev pub drawn_switch_row : List ℕ → ℕ → ℕ → ℕ → List Bool → List Bool → ℕ → List ℕ
drawn_switch_row key base level bound big small r =
    drawn_row key (r * (length small + 1)) small (message_of base big (r / level) (r % level + 1)) bound

-- the switch key of a stream: its rows, one after another
abbrev pub drawn_switch_key : List ℕ → ℕ → ℕ → ℕ → List Bool → List Bool → SwitchRows
drawn_switch_key key base level bound big small =
    switch_rows (length big) (length small) base level
    (map (drawn_switch_row key base level bound big small) (range_with_len 0 (length big * level)))

-- ---- boot keys

-- the numbers of the parameters that keys hang on
abbrev pub key_numbers : Params → KeyNumbers
key_numbers params = record {
  k = params.glwe.k;
  log_n = params.glwe.log_n;
  big_ones = params.glwe.ones;
  big_error = params.glwe.error;
  small_dim = params.lwe.n;
  small_ones = params.lwe.ones;
  small_error = params.lwe.error;
  boot_base = params.boot.base;
  boot_level = params.boot.level;
  switch_base = params.switch.base;
  switch_level = params.switch.level;
}

-- k mask polynomials of n words each, one after another from a place of a stream on
abbrev pub masks_at : List ℕ → ℕ → ℕ → ℕ → List (List ℕ)
masks_at key place k n = map (λ j. draws_at key (place + j * n) n) (range_with_len 0 k)

-- n errors, from a place on
abbrev pub errors_at : List ℕ → ℕ → ℕ → ℕ → List ℤ
errors_at key place n bound = map (λ i. error_of (draw key i) bound) (range_with_len place n)

-- the GLWE ciphertext of a message under a key of polynomials of n bits whose words begin at a place of a stream: the
-- mask by polynomial, and then the n errors
abbrev pub drawn_glwe_row : List ℕ → ℕ → ℕ → List (List Bool) → List ℕ → ℕ → List (List ℕ)
drawn_glwe_row key place n polys message bound =
    let errors = errors_at key (place + length polys * n) n bound in
    sealed_glwe polys (masks_at key place (length polys) n ++ replicate n 0 ∷ []) (row_sum message (map word_of errors))

-- how many rows the boot key has for each bit of the small key
abbrev pub rows_of_bit : KeyNumbers → ℕ
rows_of_bit p = (p.k + 1) * p.boot_level

-- row r of the boot key: the rows go by the bits of the small key, by the parts from 0 to k, and by the places from 1
abbrev pub drawn_boot_row : List ℕ → KeyNumbers → List Bool → List Bool → ℕ → List (List ℕ)
drawn_boot_row key p big small r =
    let n = 2 ^ p.log_n in
    let polys = key_polynomials p.k n big in
    let bit = slice_index_or small (r / rows_of_bit p) false in
    let message = row_message n polys bit p.boot_base (r / p.boot_level % (p.k + 1)) (r % p.boot_level + 1) in
    drawn_glwe_row key (r * ((p.k + 1) * n)) n polys message p.big_error

-- the GGSW ciphertext of these numbers whose rows are f at the numbers from that of its first row on
abbrev pub ggsw_of_rows : KeyNumbers → (ℕ → List (List ℕ)) → ℕ → GgswRows
ggsw_of_rows p f i = record {
  base = p.boot_base;
  level = p.boot_level;
  rows = map f (range_with_len (i * rows_of_bit p) (rows_of_bit p));
}

-- the boot key of a stream: for each bit of the small key its rows, one after another
abbrev pub drawn_boot_key : List ℕ → KeyNumbers → List Bool → List Bool → BootRows
drawn_boot_key key p big small =
    boot_rows p.k p.log_n p.boot_base p.boot_level
    (map (ggsw_of_rows p (drawn_boot_row key p big small)) (range_with_len 0 (length small)))

-- ---- all keys of a seed

-- the big secret key
abbrev pub big_key_of_seed : KeyNumbers → List ℕ → List Bool
big_key_of_seed p seed = drawn_bits (stream_key seed big_label) (p.k * 2 ^ p.log_n) p.big_ones

-- the small one
abbrev pub small_key_of_seed : KeyNumbers → List ℕ → List Bool
small_key_of_seed p seed = drawn_bits (stream_key seed small_label) p.small_dim p.small_ones

-- the switch key, from the big one to the small one
abbrev pub switch_key_of_seed : KeyNumbers → List ℕ → SwitchRows
switch_key_of_seed p seed =
    drawn_switch_key (stream_key seed switch_label) p.switch_base p.switch_level p.small_error
    (big_key_of_seed p seed) (small_key_of_seed p seed)

-- the boot key, of the bits of the small one under the big one
abbrev pub boot_key_of_seed : KeyNumbers → List ℕ → BootRows
boot_key_of_seed p seed =
    drawn_boot_key (stream_key seed boot_label) p (big_key_of_seed p seed) (small_key_of_seed p seed)

-- numbers for which keys can be drawn: each secret key has a bit, and both kinds of rows a digit
pub record CanBeDrawn (p : KeyNumbers) : Type 0 where
  pub some_big : 1 ≤ p.k * 2 ^ p.log_n
  pub some_small : 1 ≤ p.small_dim
  pub boot : IsGadget p.boot_base p.boot_level
  pub switch : IsGadget p.switch_base p.switch_level
