-- Evaluation keys are read from their files, and their files from them.
use Rattle.std.proofs.Common.{◌≡◌, ℕ, suc, ◌+◌, ◌*◌, ◌^◌, ◌<◌, ◌≤◌, List, [], ◌∷◌, ◌++◌, length, get_or, replicate, All, Result, Ok, Err, refl, sym, ap, subst, ◌∙◌, mul-le-mul, arith}
use Rattle.std.specs.Prelude.{IfOk}
use Rattle.std.specs.List.{flat_map, range_with_len}
use Rattle.std.proofs.Math.Nat.{pow-le-pow_right}
use Rattle.std.proofs.lemmas.List.{length-map, length-replicate, get_or-map, get_or-replicate, same_lists}
use Rattle.std.proofs.lemmas.List.Elements.{All-map}
use Rattle.std.proofs.lemmas.List.FromFn.{get_or-range_with_len, length-range_with_len, length-map-range_with_len, get_or-map-range_with_len}
use Rattle.refusals.specs.declared.refusal.Refusal.{Refusal}
use Rattle.refusals.specs.Reading.{◌>>=◌, Gives}
use Rattle.refusals.specs.Steps.{one_value, value_of_step}
use Rattle.word_ring.specs.Words.{IsWord}
use Rattle.word_ring.specs.Rows.{AllOfLength}
use Rattle.gadget_decomp.specs.Decomposition.{IsGadget}
use Rattle.glwe_core.specs.Glwe.{lengths_of, degree_of, HasShape}
use Rattle.ggsw_core.specs.Ggsw.{GgswRows, IsGgsw, row_lengths}
use Rattle.blind_rotate.specs.BootKey.{glwe_shape, shape_lengths}
use Rattle.fhe_params.specs.declared.params.Gadget.{Gadget}
use Rattle.fhe_params.specs.declared.params.Params.{Params}
use Rattle.fhe_params.specs.Params.{IsParams, coefficients, big_dimension}
use Rattle.fhe_params.specs.Params as params
use Rattle.fhe_params.specs.Cost.{switch_key_words, boot_key_words, key_words_of}
use Rattle.sealed_files.specs.declared.fault.FileFault.{FileFault}
use Rattle.sealed_files.specs.declared.kinds.FileKind.TheVariants.{Eval}
use Rattle.sealed_files.specs.Kinds.{switch_words, boot_words, word_count, file_size}
use Rattle.sealed_files.specs.Frame.{Frame, frame_bytes}
use Rattle.sealed_files.specs.FrameReading.{Read, word_at, words_at, header_words, digest_in, frame_of}
use Rattle.sealed_files.specs.Matching.{same_digest, same_word}
use Rattle.sealed_files.specs.Laws.{MatchLaws}
use Rattle.cipher_files.specs.EvalFile.{EvalRows, eval_rows, glwe_words, ggsw_words, eval_header, eval_frame, eval_bytes, IsSwitchOf, IsBootOf, AreBootWords, IsEvalFile, eval_fits, switch_place, boot_place, switch_in, glwe_at, row_words, boot_row_at, boot_row_in, rows_of_bit, ggsw_of_rows, boot_in, eval_of}
use Rattle.cipher_files.proofs.Pieces.{SealedLaws, AreWords, are_words, words_append, length-words_at, flat_at, held_digest}
use Rattle.cipher_files.proofs.CipherTexts.{rows_words, rows_fit, rows_long}
use Rattle.cipher_files.proofs.Places.{coefficients_few}

some_is : {A : Type 0} (x y : A) → ◌≡◌ {A = Read A} (Ok x) (Ok y) → x ≡ y
some_is {A = A} x y e = let read : Read A = Ok y in one_value x read e

-- ---- the header

-- what a file of the parameters says
pub record Fits (digest : List ℕ) (p : Params) (bytes : List ℕ) : Type 0 where
  pub same : digest ≡ digest_in bytes
  pub k : p.glwe.k ≡ word_at bytes 0
  pub log_n : p.glwe.log_n ≡ word_at bytes 1
  pub n : p.lwe.n ≡ word_at bytes 2
  pub boot : p.boot.level ≡ word_at bytes 3
  pub switch : p.switch.level ≡ word_at bytes 4

pub fits_taken : MatchLaws → (digest : List ℕ) (p : Params) (bytes : List ℕ) → eval_fits digest p bytes ≡ Ok tt → Fits digest p bytes
unfolding eval_fits
fits_taken matches digest p bytes read =
    let last : Unit {0} → Read (Unit {0}) = λ _. same_word p.switch.level (word_at bytes 4) in
    let boot : Unit {0} → Read (Unit {0}) = λ _. same_word p.boot.level (word_at bytes 3) >>= last in
    let n : Unit {0} → Read (Unit {0}) = λ _. same_word p.lwe.n (word_at bytes 2) >>= boot in
    let log_n : Unit {0} → Read (Unit {0}) = λ _. same_word p.glwe.log_n (word_at bytes 1) >>= n in
    let k : Unit {0} → Read (Unit {0}) = λ _. same_word p.glwe.k (word_at bytes 0) >>= log_n in
    let a = value_of_step (same_digest digest (digest_in bytes)) k tt read in
    let b = value_of_step (same_word p.glwe.k (word_at bytes 0)) log_n tt a.2 in
    let c = value_of_step (same_word p.glwe.log_n (word_at bytes 1)) n tt b.2 in
    let d = value_of_step (same_word p.lwe.n (word_at bytes 2)) boot tt c.2 in
    let e = value_of_step (same_word p.boot.level (word_at bytes 3)) last tt d.2 in
    record {
      same = matches.digests digest (digest_in bytes) a.1;
      k = matches.words p.glwe.k (word_at bytes 0) b.1;
      log_n = matches.words p.glwe.log_n (word_at bytes 1) c.1;
      n = matches.words p.lwe.n (word_at bytes 2) d.1;
      boot = matches.words p.boot.level (word_at bytes 3) e.1;
      switch = matches.words p.switch.level (word_at bytes 4) e.2;
    }

pub fits_again : MatchLaws → (digest : List ℕ) (p : Params) (bytes : List ℕ) → Fits digest p bytes → eval_fits digest p bytes ≡ Ok tt
unfolding eval_fits
fits_again matches digest p bytes fits =
    rw (← fits.same, ← fits.k, ← fits.log_n, ← fits.n, ← fits.boot, ← fits.switch, matches.same_digests digest, matches.same_words p.glwe.k, matches.same_words p.glwe.log_n, matches.same_words p.lwe.n, matches.same_words p.boot.level) (matches.same_words p.switch.level)

-- how many words there are
pub count_is : (digest : List ℕ) (p : Params) (bytes : List ℕ) → Fits digest p bytes → word_count Eval (header_words Eval bytes) ≡ 5 + key_words_of p
count_is digest p bytes fits =
    let count : ℕ → ℕ → ℕ → ℕ → ℕ → ℕ = λ k log_n n level_b level_s. 5 + (switch_words k log_n n level_s + boot_words k log_n n level_b) in
    let w : ℕ → ℕ = word_at bytes in
    ap (λ (x : ℕ). count x (w 1) (w 2) (w 3) (w 4)) (sym fits.k) ∙ ap (λ (x : ℕ). count p.glwe.k x (w 2) (w 3) (w 4)) (sym fits.log_n) ∙ ap (λ (x : ℕ). count p.glwe.k p.glwe.log_n x (w 3) (w 4)) (sym fits.n)
    ∙ ap (λ (x : ℕ). count p.glwe.k p.glwe.log_n p.lwe.n x (w 4)) (sym fits.boot) ∙ ap (λ (x : ℕ). count p.glwe.k p.glwe.log_n p.lwe.n p.boot.level x) (sym fits.switch)

-- and how many bytes
pub whole_is : SealedLaws → MatchLaws → (digest : List ℕ) (p : Params) (bytes : List ℕ) (frame : Frame) → frame_of Eval bytes ≡ Ok frame → eval_fits digest p bytes ≡ Ok tt → length bytes ≡ file_size (5 + key_words_of p)
whole_is laws matches digest p bytes frame read fits =
    laws.reading.long Eval bytes frame read ∙ ap (λ (n : ℕ). file_size n) (count_is digest p bytes (fits_taken matches digest p bytes fits))

header_is : (digest : List ℕ) (p : Params) (bytes : List ℕ) → Fits digest p bytes → words_at bytes 0 5 ≡ eval_header p
header_is digest p bytes fits =
    let w : ℕ → ℕ = word_at bytes in
    ap (λ (x : ℕ). x ∷ w 1 ∷ w 2 ∷ w 3 ∷ w 4 ∷ []) (sym fits.k) ∙ ap (λ (x : ℕ). p.glwe.k ∷ x ∷ w 2 ∷ w 3 ∷ w 4 ∷ []) (sym fits.log_n) ∙ ap (λ (x : ℕ). p.glwe.k ∷ p.glwe.log_n ∷ x ∷ w 3 ∷ w 4 ∷ []) (sym fits.n)
    ∙ ap (λ (x : ℕ). p.glwe.k ∷ p.glwe.log_n ∷ p.lwe.n ∷ x ∷ w 4 ∷ []) (sym fits.boot) ∙ ap (λ (x : ℕ). p.glwe.k ∷ p.glwe.log_n ∷ p.lwe.n ∷ p.boot.level ∷ x ∷ []) (sym fits.switch)

-- ---- the words of a boot key

-- those of the rows of a bit
ggsw_is : (p : Params) (bytes : List ℕ) (i : ℕ) → ggsw_words (ggsw_of_rows p (boot_row_in p bytes) i) ≡ words_at bytes (boot_place p + i * (rows_of_bit p * row_words p)) (rows_of_bit p * row_words p)
ggsw_is p bytes i =
    let at : boot_place p + i * rows_of_bit p * row_words p ≡ boot_place p + i * (rows_of_bit p * row_words p) = omega arith in
    flat_at (boot_row_in p bytes) glwe_words bytes (boot_place p) (row_words p) (rows_of_bit p) (i * rows_of_bit p) (λ r. rows_words bytes (boot_row_at p r) (coefficients p.glwe) (p.glwe.k + 1))
    ∙ ap (λ (q : ℕ). words_at bytes q (rows_of_bit p * row_words p)) at

pub boot_count : (p : Params) → p.lwe.n * (rows_of_bit p * row_words p) ≡ boot_key_words p
boot_count p = omega arith

boot_is : (p : Params) (bytes : List ℕ) → flat_map ggsw_words (boot_in p bytes).ggsws ≡ words_at bytes (boot_place p) (boot_key_words p)
boot_is p bytes =
    let size : ℕ = rows_of_bit p * row_words p in
    let at : boot_place p + 0 * size ≡ boot_place p = omega arith in
    flat_at (ggsw_of_rows p (boot_row_in p bytes)) ggsw_words bytes (boot_place p) size p.lwe.n 0 (ggsw_is p bytes) ∙ ap (λ (q : ℕ). words_at bytes q (p.lwe.n * size)) at ∙ ap (words_at bytes (boot_place p)) (boot_count p)

-- all words of a file of the parameters
words_spelled : (digest : List ℕ) (p : Params) (bytes : List ℕ) → Fits digest p bytes → words_at bytes 0 (5 + key_words_of p) ≡ (eval_frame digest p (eval_rows (switch_in p bytes) (boot_in p bytes))).words
words_spelled digest p bytes fits =
    let switch : List ℕ = flat_map (λ row. row) (switch_in p bytes).rows in
    let boot : List ℕ = flat_map ggsw_words (boot_in p bytes).ggsws in
    let switch_is : switch ≡ words_at bytes 5 (switch_key_words p) = rows_words bytes 5 (p.lwe.n + 1) (big_dimension p * p.switch.level) in
    words_append bytes 0 5 (key_words_of p) ∙ ap (λ (ws : List ℕ). ws ++ words_at bytes 5 (key_words_of p)) (header_is digest p bytes fits)
    ∙ ap (λ (ws : List ℕ). eval_header p ++ ws) (words_append bytes 5 (switch_key_words p) (boot_key_words p) ∙ ap (λ (ws : List ℕ). ws ++ words_at bytes (boot_place p) (boot_key_words p)) (sym switch_is) ∙ ap (λ (ws : List ℕ). switch ++ ws) (sym (boot_is p bytes)))

-- ---- the shapes of what is read

gadget_is : (g : Gadget) → params.IsGadget g → IsGadget g.base g.level
gadget_is g is = record { some_bits = is.base_low; some_digits = is.level_low; fits = is.bits }

switch_shape : (p : Params) (bytes : List ℕ) → IsParams p → IsSwitchOf p (switch_in p bytes)
switch_shape p bytes is = record {
  is_key = record {
    gadget = gadget_is p.switch is.switch;
    count = length-map-range_with_len (λ (r : ℕ). words_at bytes (switch_place + r * (p.lwe.n + 1)) (p.lwe.n + 1)) 0 (big_dimension p * p.switch.level);
    long = rows_long bytes switch_place (p.lwe.n + 1) (big_dimension p * p.switch.level);
  };
  big_dim = refl;
  small_dim = refl;
  base = refl;
  level = refl;
}

-- a row has k + 1 parts of n words
pub glwe_lengths : (bytes : List ℕ) (k n place : ℕ) → lengths_of (glwe_at bytes k n place) ≡ replicate (k + 1) n
glwe_lengths bytes k n place =
    let f : ℕ → List ℕ = λ (r : ℕ). words_at bytes (place + r * n) n in
    let parts : List (List ℕ) = glwe_at bytes k n place in
    let number : length parts ≡ k + 1 = length-map-range_with_len f 0 (k + 1) in
    same_lists (lengths_of parts) (replicate (k + 1) n) (length-map parts length ∙ number ∙ sym (length-replicate (k + 1) n))
    (λ i d inside.
    let below : i < k + 1 = omega (arith, inside, length-map parts length, number) in
    get_or-map length parts i [] d (omega (arith, below, number)) ∙ ap length (get_or-map-range_with_len f 0 (k + 1) i i [] below (omega arith)) ∙ length-words_at bytes (place + i * n) n ∙ sym (get_or-replicate (k + 1) i n d below))

-- the shape of such a row
shape_is : (p : Params) (parts : List (List ℕ)) → IsParams p → length parts ≡ p.glwe.k + 1 → AllOfLength (coefficients p.glwe) parts → HasShape parts
shape_is p parts is number long =
    let first : degree_of parts ≡ coefficients p.glwe = long 0 [] (omega (arith, number)) in
    let least : 2 ≤ 2 ^ p.glwe.log_n = pow-le-pow_right {n = 2} (omega arith) {i = 1} {j = p.glwe.log_n} is.glwe.log_n_low in
    let most : 2 ^ p.glwe.log_n ≤ 8192 = coefficients_few p.glwe.log_n is.glwe.log_n_high in
    record {
      some = omega (arith, number, is.glwe.k_low);
      few = omega (arith, number, is.glwe.k_high);
      least = omega (arith, first, least);
      most = omega (arith, first, most);
      lengths = subst (λ (n : ℕ). AllOfLength n parts) (sym first) long;
    }

row_shape : (p : Params) (bytes : List ℕ) → IsParams p → (r : ℕ) → HasShape (boot_row_in p bytes r)
row_shape p bytes is r =
    let n : ℕ = coefficients p.glwe in
    shape_is p (boot_row_in p bytes r) is (length-map-range_with_len (λ (j : ℕ). words_at bytes (boot_row_at p r + j * n) n) 0 (p.glwe.k + 1)) (rows_long bytes (boot_row_at p r) n (p.glwe.k + 1))

-- the first of some rows
some_rows : (p : Params) → IsParams p → 1 ≤ rows_of_bit p
some_rows p is =
    let parts : 1 ≤ p.glwe.k + 1 = omega arith in
    let product : 1 * 1 ≤ (p.glwe.k + 1) * p.boot.level = mul-le-mul parts is.boot.level_low in
    omega (arith, product)

ggsw_lengths : (p : Params) (bytes : List ℕ) → IsParams p → (i : ℕ) → row_lengths (ggsw_of_rows p (boot_row_in p bytes) i) ≡ replicate (p.glwe.k + 1) (coefficients p.glwe)
ggsw_lengths p bytes is i =
    let rows : ℕ = rows_of_bit p in
    let f : ℕ → List (List ℕ) = boot_row_in p bytes in
    ap lengths_of (get_or-map-range_with_len f (i * rows) rows 0 (i * rows) [] (omega (arith, some_rows p is)) (omega arith)) ∙ glwe_lengths bytes p.glwe.k (coefficients p.glwe) (boot_row_at p (i * rows))

ggsw_shape : (p : Params) (bytes : List ℕ) → IsParams p → (i : ℕ) → IsGgsw (ggsw_of_rows p (boot_row_in p bytes) i)
ggsw_shape p bytes is i =
    let rows : ℕ = rows_of_bit p in
    let f : ℕ → List (List ℕ) = boot_row_in p bytes in
    let g : GgswRows = ggsw_of_rows p f i in
    let lengths : row_lengths g ≡ replicate (p.glwe.k + 1) (coefficients p.glwe) = ggsw_lengths p bytes is i in
    let first : get_or g.rows 0 [] ≡ f (i * rows) = get_or-map-range_with_len f (i * rows) rows 0 (i * rows) [] (omega (arith, some_rows p is)) (omega arith) in
    let parts : length (row_lengths g) ≡ p.glwe.k + 1 = ap length lengths ∙ length-replicate (p.glwe.k + 1) (coefficients p.glwe) in
    record {
      gadget = gadget_is p.boot is.boot;
      number = length-map-range_with_len f (i * rows) rows ∙ ap (λ (n : ℕ). n * p.boot.level) (sym parts);
      shape = subst HasShape (sym first) (row_shape p bytes is (i * rows));
      shapes =
          All-map (λ row. lengths_of row ≡ row_lengths g) f (range_with_len (i * rows) rows)
          (λ k d inside. glwe_lengths bytes p.glwe.k (coefficients p.glwe) (boot_row_at p (get_or (range_with_len (i * rows) rows) k d)) ∙ sym lengths);
    }

boot_shape : (p : Params) (bytes : List ℕ) → IsParams p → IsBootOf p (boot_in p bytes)
boot_shape p bytes is =
    let g : ℕ → GgswRows = ggsw_of_rows p (boot_row_in p bytes) in
    let bits : List ℕ = range_with_len 0 p.lwe.n in
    record {
      is_key = record {
        ciphertexts = All-map IsGgsw g bits (λ k d inside. ggsw_shape p bytes is (get_or bits k d));
        lengths = All-map (λ g. row_lengths g ≡ shape_lengths (glwe_shape p.glwe.k p.glwe.log_n)) g bits (λ k d inside. ggsw_lengths p bytes is (get_or bits k d));
        bases = All-map (λ g. g.base ≡ p.boot.base) g bits (λ k d inside. refl);
        levels = All-map (λ g. g.level ≡ p.boot.level) g bits (λ k d inside. refl);
      };
      shape = refl;
      base = refl;
      level = refl;
      number = length-map-range_with_len g 0 p.lwe.n;
    }

-- ---- the words of what is read

boot_fit : (p : Params) (bytes : List ℕ) → AreWords bytes (5 + key_words_of p) → AreBootWords (boot_in p bytes)
boot_fit p bytes are =
    let rows : ℕ = rows_of_bit p in
    let n : ℕ = coefficients p.glwe in
    let f : ℕ → List (List ℕ) = boot_row_in p bytes in
    let g : ℕ → GgswRows = ggsw_of_rows p f in
    let bits : List ℕ = range_with_len 0 p.lwe.n in
    All-map (λ g. All (All (All IsWord)) g.rows) g bits
    (λ k d inside.
    let i : ℕ = get_or bits k d in
    let bit : i < p.lwe.n = omega (arith, inside, length-range_with_len 0 p.lwe.n, get_or-range_with_len 0 p.lwe.n k d (omega (arith, inside, length-range_with_len 0 p.lwe.n))) in
    let numbers : List ℕ = range_with_len (i * rows) rows in
    All-map (All (All IsWord)) f numbers
    (λ l e within.
    let below : l < rows = omega (arith, within, length-range_with_len (i * rows) rows) in
    let at : get_or numbers l e ≡ i * rows + l = get_or-range_with_len (i * rows) rows l e below in
    rows_fit bytes (5 + key_words_of p) (boot_row_at p (get_or numbers l e)) n (p.glwe.k + 1) are (row_before p i l (get_or numbers l e) at bit below)))
  where
    row_before : (p : Params) (i l r : ℕ) → r ≡ i * rows_of_bit p + l → i < p.lwe.n → l < rows_of_bit p → boot_row_at p r + row_words p ≤ 5 + key_words_of p
    row_before p i l r at bit below =
        let here : row_words p ≤ row_words p = omega arith in
        let same : rows_of_bit p ≤ rows_of_bit p = omega arith in
        let bits : suc i * rows_of_bit p ≤ p.lwe.n * rows_of_bit p = mul-le-mul (omega (arith, bit)) same in
        let rows : suc r * row_words p ≤ p.lwe.n * rows_of_bit p * row_words p = mul-le-mul (omega (arith, bits, at, below)) here in
        omega (arith, rows, boot_count p)

pub eval_taken : SealedLaws → MatchLaws → (digest : List ℕ) (p : Params) (bytes : List ℕ) (keys : EvalRows) → IsParams p → All (λ byte. byte < 256) bytes → eval_of digest p bytes ≡ Ok keys → IsEvalFile p keys × (bytes ≡ eval_bytes digest p keys)
unfolding eval_of
eval_taken laws matches digest p bytes keys is all read =
    let made : EvalRows = eval_rows (switch_in p bytes) (boot_in p bytes) in
    let after : Frame → Read EvalRows = λ frame. eval_fits digest p bytes >>= λ _. Ok made in
    let a = value_of_step (frame_of Eval bytes) after keys read in
    let b = value_of_step (eval_fits digest p bytes) (λ _. Ok made) keys a.2 in
    let frame : Frame = a.0 in
    let fits : Fits digest p bytes = fits_taken matches digest p bytes b.1 in
    let spelled = laws.frames.read Eval bytes frame all a.1 in
    let words : frame.words ≡ words_at bytes 0 (5 + key_words_of p) = ap (λ (f : Frame). f.words) (laws.reading.all Eval bytes frame a.1) ∙ ap (words_at bytes 0) (count_is digest p bytes fits) in
    let are : AreWords bytes (5 + key_words_of p) = are_words bytes (5 + key_words_of p) (subst (All IsWord) words spelled.0.words) in
    let same_digests : frame.digest ≡ digest = held_digest laws Eval bytes frame a.1 ∙ sym fits.same in
    let same : frame ≡ eval_frame digest p made = frame_is digest (eval_frame digest p made).words frame same_digests (words ∙ words_spelled digest p bytes fits) in
    subst (λ (k : EvalRows). IsEvalFile p k × (bytes ≡ eval_bytes digest p k)) {x = made} (some_is made keys b.2) (
      record {
        params = is;
        switch = switch_shape p bytes is;
        boot = boot_shape p bytes is;
        switch_words = rows_fit bytes (5 + key_words_of p) switch_place (p.lwe.n + 1) (big_dimension p * p.switch.level) are (omega arith);
        boot_words = boot_fit p bytes are;
      },
      spelled.1 ∙ ap (frame_bytes Eval) same,
    )
  where
    frame_is : (digest words : List ℕ) (frame : Frame) → frame.digest ≡ digest → frame.words ≡ words → frame ≡ record { digest = digest; words = words }
    frame_is digest words frame a b = ap (λ (d : List ℕ). record { digest = d; words = frame.words }) a ∙ ap (λ (ws : List ℕ). record { digest = digest; words = ws }) b

pub eval_valid : {A : Type 0} (view : A → EvalRows) (digest : List ℕ) (p : Params) → ((bytes : List ℕ) (keys : EvalRows) → All (λ byte. byte < 256) bytes → eval_of digest p bytes ≡ Ok keys → IsEvalFile p keys × (bytes ≡ eval_bytes digest p keys)) → (bytes : List ℕ) (answer : Result A (Refusal FileFault)) → All (λ byte. byte < 256) bytes → Gives view answer (eval_of digest p bytes) → IfOk answer (λ read. IsEvalFile p (view read))
eval_valid view digest p laws bytes (Ok read) fits given = (laws bytes (view read) fits given).0
eval_valid view digest p laws bytes (Err refusal) fits given = tt
