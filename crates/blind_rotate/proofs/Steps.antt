-- The steps of a blind rotation, one more at a time, and the lengths of the accumulator's parts.
use Rattle.std.proofs.Common.{◌≡◌, ℕ, zero, suc, ◌+◌, ◌-◌, ◌*◌, ◌%◌, ◌^◌, ◌<◌, ◌≤◌, Bool, false, List, [], ◌∷◌, length, get_or, take, replicate, arith, ap, sym, refl, ◌∙◌, zero-mul}
use Rattle.std.specs.List.{zip, fold}
use Rattle.std.proofs.lemmas.List.{take_all, length-map, get_or-map, length-replicate, get_or-replicate, length-append}
use Rattle.std.proofs.lemmas.List.Sums.{fold_more}
use Rattle.std.proofs.lemmas.List.Elements.{All-from_get_or, All-replicate}
use Rattle.std.proofs.lemmas.Slice.Zip.{length-zip, get_or-zip}
use Rattle.negacyclic.specs.Product.{rotation}
use Rattle.negacyclic.specs.Laws.{RotationLaws}
use Rattle.word_ring.specs.Rows.{AllOfLength}
use Rattle.glwe_core.specs.Glwe.{lengths_of, degree_of, FitsGlweKey, flat_key_of, extracted}
use Rattle.glwe_core.specs.Laws.{ExtractionLaws}
use Rattle.ggsw_core.specs.Ggsw.{GgswRows, row_lengths, zero_ggsw}
use Rattle.blind_rotate.specs.BootKey.{GlweShape, BootRows, glwe_shape}
use Rattle.blind_rotate.specs.Bootstrap.{accumulator_step, blind_rotation, first_accumulator, bootstrapped}

-- the first pairs of two lists
pub zip_take : {A B : Type 0} (i : ℕ) (xs : List A) (ys : List B) → zip (take i xs) ys ≡ take i (zip xs ys)
zip_take zero xs ys = refl
zip_take (suc i) [] ys = refl
zip_take (suc i) (x ∷ xs) [] = refl
zip_take (suc i) (x ∷ xs) (y ∷ ys) = ap (λ ps. (x, y) ∷ ps) (zip_take i xs ys)

-- one more step
pub rotated_more : (log_n : ℕ) (start : List (List ℕ)) (ggsws : List GgswRows) (words : List ℕ) (i : ℕ) (none : GgswRows) → i < length ggsws → i < length words → blind_rotation log_n start (take (i + 1) ggsws) words ≡ accumulator_step log_n (blind_rotation log_n start (take i ggsws) words) (get_or ggsws i none) (get_or words i 0)
rotated_more log_n start ggsws words i none in_ggsws in_words =
    let f : List (List ℕ) → GgswRows × ℕ → List (List ℕ) = λ acc q. accumulator_step log_n acc q.0 q.1 in
    ap (fold f start) (zip_take (i + 1) ggsws words)
    ∙ fold_more f start (zip ggsws words) i (none, 0) (omega (arith, length-zip ggsws words))
    ∙ ap (f (fold f start (take i (zip ggsws words)))) (get_or-zip ggsws words i (none, 0) in_ggsws in_words)
    ∙ ap (λ qs. accumulator_step log_n (fold f start qs) (get_or ggsws i none) (get_or words i 0)) (sym (zip_take i ggsws words))

-- all steps
pub rotated_all : (log_n : ℕ) (start : List (List ℕ)) (ggsws : List GgswRows) (words : List ℕ) (i : ℕ) → length ggsws ≤ i → blind_rotation log_n start (take i ggsws) words ≡ blind_rotation log_n start ggsws words
rotated_all log_n start ggsws words i all = ap (λ gs. blind_rotation log_n start gs words) (take_all i ggsws all)

-- the first part's length is the first of the lengths
pub degree_is : (c : List (List ℕ)) → 0 < length c → degree_of c ≡ get_or (lengths_of c) 0 0
degree_is c some = sym (get_or-map length c 0 [] 0 some)

-- so it is the same where all lengths are
pub same_degree : (c d : List (List ℕ)) → lengths_of c ≡ lengths_of d → 0 < length d → degree_of c ≡ degree_of d
same_degree c d same some =
    let more : 0 < length c = omega (arith, length-map c length, length-map d length, ap length same) in
    degree_is c more ∙ ap (λ ls. get_or ls 0 0) same ∙ sym (degree_is d some)

-- k masks and a body of n words each are k + 1 parts
pub parts_of : (c : List (List ℕ)) (parts n : ℕ) → lengths_of c ≡ replicate parts n → length c ≡ parts
parts_of c parts n same = sym (length-map c length) ∙ ap length same ∙ length-replicate parts n

-- the first of them has n words
pub degree_of_shape : (c : List (List ℕ)) (parts n : ℕ) → lengths_of c ≡ replicate parts n → 0 < parts → degree_of c ≡ n
degree_of_shape c parts n same some =
    degree_is c (omega (arith, parts_of c parts n same)) ∙ ap (λ ls. get_or ls 0 0) same ∙ get_or-replicate parts 0 n 0 some

-- zeros of a shape have its lengths
pub zero_lengths : (parts n : ℕ) → lengths_of (replicate parts (replicate n 0)) ≡ replicate parts n
zero_lengths zero n = refl
zero_lengths (suc parts) n = ap (λ k. k ∷ lengths_of (replicate parts (replicate n 0))) (length-replicate n 0) ∙ ap (λ ks. n ∷ ks) (zero_lengths parts n)

-- a rotation sees the exponent modulo 2N
pub first_rotation : RotationLaws → (test : List ℕ) (log_n by : ℕ) → length test ≡ 2 ^ log_n → rotation (by % (2 * 2 ^ log_n)) test ≡ rotation by test
first_rotation rotations test log_n by long = ap (λ n. rotation (by % (2 * n)) test) (sym long) ∙ rotations.rotation_residue by test

-- the parts of a ciphertext of a shape have n words
pub parts_long : (c : List (List ℕ)) (parts n : ℕ) → lengths_of c ≡ replicate parts n → AllOfLength n c
parts_long c parts n same =
    All-from_get_or (λ row. length row ≡ n) c []
    (λ i h.
    sym (get_or-map length c i [] 0 h)
    ∙ ap (λ ls. get_or ls i 0) same
    ∙ get_or-replicate parts i n 0 (omega (arith, parts_of c parts n same)))

-- k polynomials of n bits have k*n bits
flat_length : (k n : ℕ) → length (flat_key_of (replicate k (replicate n false))) ≡ k * n
flat_length zero n = sym (zero-mul n)
flat_length (suc k) n =
    let more : suc k * n ≡ n + k * n = omega arith in
    length-append (replicate n false) (flat_key_of (replicate k (replicate n false)))
    ∙ ap (λ m. m + length (flat_key_of (replicate k (replicate n false)))) (length-replicate n false)
    ∙ ap (λ m. n + m) (flat_length k n)
    ∙ sym more

-- what is extracted has a mask word for each coefficient of the masks
pub extracted_length : ExtractionLaws → (c : List (List ℕ)) (k n : ℕ) → lengths_of c ≡ replicate (k + 1) n → length (extracted c) ≡ k * n + 1
extracted_length laws c k n same =
    let key : List (List Bool) = replicate k (replicate n false) in
    let key_long : length key ≡ k = length-replicate k (replicate n false) in
    let fits : FitsGlweKey n key c = record {
      number = parts_of c (k + 1) n same ∙ ap (λ m. m + 1) (sym key_long);
      lengths = parts_long c (k + 1) n same;
      bits = All-replicate (λ bits. length bits ≡ n) k (replicate n false) (length-replicate n false);
    } in
    laws.extracted_fits n key c fits ∙ ap (λ m. m + 1) (flat_length k n)

-- what the parts of a bootstrap compute is its definition
pub whole_bootstrap :
    (key : BootRows) (k log_n body : ℕ) (before first last : List (List ℕ)) (ggsws : List GgswRows) (test words read out : List ℕ)
    → key.shape ≡ glwe_shape k log_n → lengths_of before ≡ replicate (k + 1) (2 ^ log_n) → body ≡ get_or words (length key.ggsws) 0
    → ggsws ≡ key.ggsws → read ≡ words → first ≡ first_accumulator (glwe_shape (length before - 1) log_n) test body
    → last ≡ blind_rotation log_n first ggsws read → out ≡ extracted last → out ≡ bootstrapped key test words
unfolding bootstrapped
whole_bootstrap key k log_n body before first last ggsws test words read out shape lengths body_is ggsws_are read_is first_is last_is out_is =
    let parts : length before ≡ k + 1 = parts_of before (k + 1) (2 ^ log_n) lengths in
    let masks : length before - 1 ≡ k = omega arith in
    let start : first ≡ first_accumulator key.shape test (get_or words (length key.ggsws) 0) =
    first_is
    ∙ ap (λ m. first_accumulator (glwe_shape m log_n) test body) masks
    ∙ ap (λ s. first_accumulator s test body) (sym shape)
    ∙ ap (first_accumulator key.shape test) body_is in
    out_is
    ∙ ap extracted
    (last_is
    ∙ ap (λ s. blind_rotation log_n s ggsws read) start
    ∙ ap (λ gs. blind_rotation log_n (first_accumulator key.shape test (get_or words (length key.ggsws) 0)) gs read) ggsws_are
    ∙ ap (blind_rotation log_n (first_accumulator key.shape test (get_or words (length key.ggsws) 0)) key.ggsws) read_is
    ∙ ap (λ l. blind_rotation l (first_accumulator key.shape test (get_or words (length key.ggsws) 0)) key.ggsws words) (sym (ap (λ (s : GlweShape). s.log_n) shape)))

-- zeros of a GGSW ciphertext have the lengths of its parts
pub zero_row_lengths : (k n base level : ℕ) → 1 ≤ level → row_lengths (zero_ggsw (k + 1) n base level) ≡ replicate (k + 1) n
zero_row_lengths k n base level some =
    let rows : (k + 1) * level ≡ k * level + level = omega arith in
    ap lengths_of (get_or-replicate ((k + 1) * level) 0 (replicate (k + 1) (replicate n 0)) [] (omega arith)) ∙ zero_lengths (k + 1) n
