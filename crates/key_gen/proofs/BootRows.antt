-- A row of a boot key is drawn as the definition says.
use Rattle.std.proofs.Common.{◌≡◌, ℕ, ◌+◌, ◌*◌, ◌%◌, ◌^◌, ◌<◌, ◌≤◌, Bool, false, List, [], ◌∷◌, length, replicate, get_or, refl, sym, ap, arith, ◌∙◌}
use Prim.Native.Nat.{zero, suc}
use Rattle.std.proofs.lemmas.List.{length-replicate}
use Rattle.std.proofs.Math.Nat.{mod-eq_of_lt, pow-le-pow_right}
use Rattle.word_ring.specs.Words.{word_product}
use Rattle.word_ring.specs.Rows.{scaled_row}
use Rattle.word_ring.specs.RowLaws.{RowRingLaws}
use Rattle.lwe_core.specs.Secret.{bit_word}
use Rattle.seed_stream.specs.Draws.{KeyStream, stream_at, DrawLaws}
use Rattle.gadget_decomp.specs.Decomposition.{place_weight}
use Rattle.ggsw_core.specs.Noise.{part_factors, row_message}
use Rattle.glwe_core.specs.Glwe.{lengths_of}
use Rattle.blind_rotate.specs.Fits.{KeyNumbers, key_polynomials}
use Rattle.key_gen.specs.Seeds.{drawn_glwe_row, drawn_boot_row}
use Rattle.key_gen.proofs.BootPlaces.{bit_of, part_of, place_at}
use Rattle.key_gen.proofs.Streams.{row_turned, stream_turned}

-- how long the parts of zeros are
pub zeros_shape : (parts n : ℕ) → lengths_of (replicate parts (replicate n 0)) ≡ replicate parts n
zeros_shape zero n = refl
zeros_shape (suc parts) n =
    let zeros : List ℕ = replicate n 0 in
    ap (λ (m : ℕ). m ∷ lengths_of (replicate parts zeros)) (length-replicate n 0) ∙ ap (λ (ls : List ℕ). n ∷ ls) (zeros_shape parts n)

-- a word of a bit, which is one already
weight_is : (base t factor : ℕ) (bit : Bool) → factor < 2 ^ 64 → factor ≡ bit_word bit * place_weight base t → factor ≡ word_product (bit_word bit) (place_weight base t)
weight_is base t factor bit small is = sym (mod-eq_of_lt small) ∙ ap (λ (w : ℕ). w % 2 ^ 64) is

-- the message of row r
abbrev pub row_factors : KeyNumbers → List Bool → ℕ → List ℕ
row_factors p big r = get_or (part_factors (2 ^ p.log_n) (key_polynomials p.k (2 ^ p.log_n) big)) (part_of p.k p.boot_level r) []

message_is : RowRingLaws → (p : KeyNumbers) (big small : List Bool) (r factor : ℕ) (message : List ℕ) → factor < 2 ^ 64
    → factor ≡ bit_word (get_or small (bit_of p.k p.boot_level r) false) * place_weight p.boot_base (place_at p.boot_level r)
    → message ≡ scaled_row factor (row_factors p big r)
    → message ≡ row_message (2 ^ p.log_n) (key_polynomials p.k (2 ^ p.log_n) big) (get_or small (bit_of p.k p.boot_level r) false) p.boot_base (part_of p.k p.boot_level r) (place_at p.boot_level r)
message_is laws p big small r factor message word is drawn =
    let bit : Bool = get_or small (bit_of p.k p.boot_level r) false in
    let weight : ℕ = place_weight p.boot_base (place_at p.boot_level r) in
    drawn ∙ ap (λ (f : ℕ). scaled_row f (row_factors p big r)) (weight_is p.boot_base (place_at p.boot_level r) factor bit word is) ∙ sym (laws.scaled_scaled (bit_word bit) weight (row_factors p big r))

-- what stands of row r before it is drawn: the stream, the key and the message
pub record IsNext (key : List ℕ) (p : KeyNumbers) (big small : List Bool) (r factor : ℕ) (stream : KeyStream) (polys : List (List Bool)) (message : List ℕ) : Type 0 where
  pub at : stream ≡ stream_at key (r * ((p.k + 1) * 2 ^ p.log_n))
  pub polynomials : polys ≡ key_polynomials p.k (2 ^ p.log_n) big
  pub number : length polys ≡ p.k
  pub word : factor < 2 ^ 64
  pub weight : factor ≡ bit_word (get_or small (bit_of p.k p.boot_level r) false) * place_weight p.boot_base (place_at p.boot_level r)
  pub drawn : message ≡ scaled_row factor (row_factors p big r)
  pub degree : length message ≡ 2 ^ p.log_n

pub row_drawn : DrawLaws → RowRingLaws → (key : List ℕ) (p : KeyNumbers) (big small : List Bool) (r factor : ℕ) (stream : KeyStream) (polys : List (List Bool)) (message : List ℕ)
    → IsNext key p big small r factor stream polys message → drawn_glwe_row stream.key stream.place (length message) polys message p.big_error ≡ drawn_boot_row key p big small r
row_drawn laws ring key p big small r factor stream polys message next =
    let n : ℕ = 2 ^ p.log_n in
    let start : ℕ = r * ((p.k + 1) * n) in
    let error : ℕ = p.big_error in
    let degree : drawn_glwe_row stream.key stream.place (length message) polys message error ≡ drawn_glwe_row stream.key stream.place n polys message error =
    ap (λ (m : ℕ). drawn_glwe_row stream.key stream.place m polys message error) next.degree in
    let place : drawn_glwe_row stream.key stream.place n polys message error ≡ drawn_glwe_row key (start % 2 ^ 67) n polys message error =
    ap (λ (s : KeyStream). drawn_glwe_row s.key s.place n polys message error) next.at in
    let turned : drawn_glwe_row key (start % 2 ^ 67) n polys message error ≡ drawn_glwe_row key start n polys message error =
    row_turned laws key start n polys message error in
    let key_is : drawn_glwe_row key start n polys message error ≡ drawn_glwe_row key start n (key_polynomials p.k n big) message error =
    ap (λ (ps : List (List Bool)). drawn_glwe_row key start n ps message error) next.polynomials in
    let message_row : drawn_glwe_row key start n (key_polynomials p.k n big) message error ≡ drawn_boot_row key p big small r =
    ap (λ (m : List ℕ). drawn_glwe_row key start n (key_polynomials p.k n big) m error) (message_is ring p big small r factor message next.word next.weight next.drawn) in
    degree ∙ place ∙ turned ∙ key_is ∙ message_row

-- and where the stream stands after it
pub stream_after : (key : List ℕ) (p : KeyNumbers) (big small : List Bool) (r factor : ℕ) (stream : KeyStream) (polys : List (List Bool)) (message : List ℕ)
    → IsNext key p big small r factor stream polys message → stream_at stream.key (stream.place + (length polys + 1) * length message) ≡ stream_at key ((r + 1) * ((p.k + 1) * 2 ^ p.log_n))
stream_after key p big small r factor stream polys message next =
    let n : ℕ = 2 ^ p.log_n in
    let start : ℕ = r * ((p.k + 1) * n) in
    let words : (length polys + 1) * length message ≡ (p.k + 1) * n = ap (λ (k : ℕ). (k + 1) * length message) next.number ∙ ap (λ (m : ℕ). (p.k + 1) * m) next.degree in
    let more : start + (p.k + 1) * n ≡ (r + 1) * ((p.k + 1) * n) = omega arith in
    ap (λ (m : ℕ). stream_at stream.key (stream.place + m)) words ∙ ap (λ (s : KeyStream). stream_at s.key (s.place + (p.k + 1) * n)) next.at
    ∙ stream_turned key start ((p.k + 1) * n) ∙ ap (stream_at key) more

-- the shifted 1 that is the number of errors
pub shifted_one : (log_n : ℕ) → log_n ≤ 13 → 1 * 2 ^ log_n % 2 ^ 64 ≡ 2 ^ log_n
shifted_one log_n few =
    let most : 2 ^ log_n ≤ 2 ^ 13 = pow-le-pow_right {n = 2} (omega arith) {i = log_n} {j = 13} few in
    let same : 1 * 2 ^ log_n ≡ 2 ^ log_n = omega arith in
    ap (λ (m : ℕ). m % 2 ^ 64) same ∙ mod-eq_of_lt (omega (arith, most))
