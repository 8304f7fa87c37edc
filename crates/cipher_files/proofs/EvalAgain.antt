-- Evaluation keys that are spelled are read again.
use Rattle.std.proofs.Common.{◌≡◌, ℕ, ◌+◌, ◌*◌, ◌^◌, ◌≤◌, List, [], ◌∷◌, ◌++◌, length, get_or, map, replicate, All, Ok, sym, ap, subst, ◌∙◌, length-append, arith}
use Rattle.std.specs.List.{flat_map, range_with_len, AllByRecursion}
use Rattle.std.proofs.lemmas.List.{append-nil, length-map, length-replicate, get_or-map, get_or-replicate}
use Rattle.std.proofs.lemmas.List.Elements.{recursion_from_All, All-cons, All-append}
use Rattle.word_ring.specs.Words.{IsWord}
use Rattle.word_ring.specs.Rows.{AllOfLength}
use Rattle.key_switch.specs.Key.{SwitchRows, switch_rows}
use Rattle.glwe_core.specs.Glwe.{lengths_of}
use Rattle.ggsw_core.specs.Ggsw.{GgswRows, IsGgsw, row_lengths}
use Rattle.blind_rotate.specs.BootKey.{GlweShape, BootRows, boot_rows, shape_lengths}
use Rattle.fhe_params.specs.declared.params.Params.{Params}
use Rattle.fhe_params.specs.Params.{coefficients, big_dimension}
use Rattle.fhe_params.specs.Cost.{switch_key_words, boot_key_words, key_words_of}
use Rattle.sealed_files.specs.declared.kinds.FileKind.TheVariants.{Eval}
use Rattle.sealed_files.specs.Frame.{Frame, IsFrame}
use Rattle.sealed_files.specs.FrameReading.{words_at, frame_of}
use Rattle.sealed_files.specs.Laws.{MatchLaws}
use Rattle.cipher_files.specs.CipherFile.{rows_at}
use Rattle.cipher_files.specs.EvalFile.{EvalRows, eval_rows, glwe_words, ggsw_words, eval_header, eval_frame, eval_bytes, IsSwitchOf, IsBootOf, IsEvalFile, IsDigest, eval_fits, switch_place, boot_place, switch_in, row_words, boot_row_at, boot_row_in, rows_of_bit, ggsw_of_rows, boot_in, eval_of}
use Rattle.cipher_files.proofs.Pieces.{SealedLaws, Holds, length-flat, flat_words, again_at, held_words, held_digest, held_word, held_piece}
use Rattle.cipher_files.proofs.CipherTexts.{rows_again}
use Rattle.cipher_files.proofs.EvalTexts.{Fits, fits_again, boot_count}
use Rattle.cipher_files.proofs.Places.{level_small}

-- ---- the parts of a boot key

-- a row of the parameters
record IsRow (p : Params) (row : List (List ℕ)) : Type 0 where
  pub number : length row ≡ p.glwe.k + 1
  pub long : AllOfLength (coefficients p.glwe) row

-- a GGSW ciphertext of them
record IsBit (p : Params) (g : GgswRows) : Type 0 where
  pub base : g.base ≡ p.boot.base
  pub level : g.level ≡ p.boot.level
  pub number : length g.rows ≡ rows_of_bit p
  pub rows : All (IsRow p) g.rows

row_is : (p : Params) (row : List (List ℕ)) → lengths_of row ≡ replicate (p.glwe.k + 1) (coefficients p.glwe) → IsRow p row
row_is p row shape =
    let number : length row ≡ p.glwe.k + 1 = sym (length-map row length) ∙ ap length shape ∙ length-replicate (p.glwe.k + 1) (coefficients p.glwe) in
    record {
      number = number;
      long = λ i d inside. sym (get_or-map length row i d 0 inside) ∙ ap (λ (ls : List ℕ). get_or ls i 0) shape ∙ get_or-replicate (p.glwe.k + 1) i (coefficients p.glwe) 0 (omega (arith, inside, number));
    }

bits_are : (p : Params) (key : BootRows) → IsBootOf p key → All (IsBit p) key.ggsws
bits_are p key is i d inside =
    let g : GgswRows = get_or key.ggsws i d in
    let ggsw : IsGgsw g = is.is_key.ciphertexts i d inside in
    let lengths : row_lengths g ≡ replicate (p.glwe.k + 1) (coefficients p.glwe) = is.is_key.lengths i d inside ∙ ap shape_lengths is.shape in
    let level : g.level ≡ p.boot.level = is.is_key.levels i d inside ∙ is.level in
    let parts : length (row_lengths g) ≡ p.glwe.k + 1 = ap length lengths ∙ length-replicate (p.glwe.k + 1) (coefficients p.glwe) in
    record {
      base = is.is_key.bases i d inside ∙ is.base;
      level = level;
      number = ggsw.number ∙ ap (λ (n : ℕ). n * g.level) parts ∙ ap (λ (l : ℕ). (p.glwe.k + 1) * l) level;
      rows = λ r e within. row_is p (get_or g.rows r e) (ggsw.shapes r e within ∙ lengths);
    }

-- how many words they have
length-row : (p : Params) (row : List (List ℕ)) → IsRow p row → length (glwe_words row) ≡ row_words p
length-row p row is = length-flat (λ (part : List ℕ). part) (coefficients p.glwe) row (recursion_from_All (λ part. length part ≡ coefficients p.glwe) row is.long) ∙ ap (λ (n : ℕ). n * coefficients p.glwe) is.number

length-bit : (p : Params) (g : GgswRows) → IsBit p g → length (ggsw_words g) ≡ rows_of_bit p * row_words p
length-bit p g is =
    length-flat glwe_words (row_words p) g.rows (recursion_from_All (λ row. length (glwe_words row) ≡ row_words p) g.rows (λ r e within. length-row p (get_or g.rows r e) (is.rows r e within))) ∙ ap (λ (n : ℕ). n * row_words p) is.number

length-boot : (p : Params) (key : BootRows) → IsBootOf p key → length (flat_map ggsw_words key.ggsws) ≡ boot_key_words p
length-boot p key is =
    let bits : All (IsBit p) key.ggsws = bits_are p key is in
    let size : ℕ = rows_of_bit p * row_words p in
    length-flat ggsw_words size key.ggsws (recursion_from_All (λ g. length (ggsw_words g) ≡ size) key.ggsws (λ i d inside. length-bit p (get_or key.ggsws i d) (bits i d inside))) ∙ ap (λ (n : ℕ). n * size) is.number ∙ boot_count p

length-switch : (p : Params) (key : SwitchRows) → IsSwitchOf p key → length (flat_map (λ row. row) key.rows) ≡ switch_key_words p
length-switch p key is =
    length-flat (λ (row : List ℕ). row) (key.small_dim + 1) key.rows (recursion_from_All (λ row. length row ≡ key.small_dim + 1) key.rows is.is_key.long) ∙ ap (λ (m : ℕ). m * (key.small_dim + 1)) is.is_key.count
    ∙ ap (λ (n : ℕ). key.big_dim * key.level * (n + 1)) is.small_dim ∙ ap (λ (d : ℕ). d * key.level * (p.lwe.n + 1)) is.big_dim ∙ ap (λ (l : ℕ). big_dimension p * l * (p.lwe.n + 1)) is.level

-- that they are words
boot_all : (key : BootRows) → All (λ g. All (All (All IsWord)) g.rows) key.ggsws → All IsWord (flat_map ggsw_words key.ggsws)
boot_all key all =
    flat_words ggsw_words key.ggsws (recursion_from_All (λ g. All IsWord (ggsw_words g)) key.ggsws
    (λ i d inside.
    let g : GgswRows = get_or key.ggsws i d in
    flat_words glwe_words g.rows (recursion_from_All (λ row. All IsWord (glwe_words row)) g.rows
    (λ r e within.
    let row : List (List ℕ) = get_or g.rows r e in
    flat_words (λ (part : List ℕ). part) row (recursion_from_All (All IsWord) row (all i d inside r e within))))))

-- ---- and that they are read again

row_again : (p : Params) (bytes : List ℕ) (r : ℕ) (row : List (List ℕ)) → IsRow p row → words_at bytes (boot_row_at p r) (row_words p) ≡ glwe_words row → boot_row_in p bytes r ≡ row
row_again p bytes r row is here =
    let n : ℕ = coefficients p.glwe in
    ap (rows_at bytes (boot_row_at p r) n) (sym is.number) ∙ rows_again bytes (boot_row_at p r) n row is.long (ap (λ (m : ℕ). words_at bytes (boot_row_at p r) (m * n)) is.number ∙ here)

same_ggsw : (g : GgswRows) (base level : ℕ) (rows : List (List (List ℕ))) → base ≡ g.base → level ≡ g.level → rows ≡ g.rows → ◌≡◌ {A = GgswRows} (record { base = base; level = level; rows = rows }) g
same_ggsw g base level rows a b c =
    ap (λ (x : ℕ). record { base = x; level = level; rows = rows }) a ∙ ap (λ (x : ℕ). record { base = g.base; level = x; rows = rows }) b ∙ ap (λ (x : List (List (List ℕ))). record { base = g.base; level = g.level; rows = x }) c

bit_again : (p : Params) (bytes : List ℕ) (i : ℕ) (g : GgswRows) → IsBit p g → words_at bytes (boot_place p + i * (rows_of_bit p * row_words p)) (rows_of_bit p * row_words p) ≡ ggsw_words g → ggsw_of_rows p (boot_row_in p bytes) i ≡ g
bit_again p bytes i g is here =
    let rows : ℕ = rows_of_bit p in
    let words : ℕ = row_words p in
    let at : boot_place p + i * rows * words ≡ boot_place p + i * (rows * words) = omega arith in
    let parts : AllByRecursion (λ row. (length (glwe_words row) ≡ words) × IsRow p row) g.rows =
    recursion_from_All (λ row. (length (glwe_words row) ≡ words) × IsRow p row) g.rows (λ r e within. (length-row p (get_or g.rows r e) (is.rows r e within), is.rows r e within)) in
    let whole : words_at bytes (boot_place p + i * rows * words) (length g.rows * words) ≡ ggsw_words g = ap (λ (q : ℕ). words_at bytes q (length g.rows * words)) at ∙ ap (λ (m : ℕ). words_at bytes (boot_place p + i * (rows * words)) (m * words)) is.number ∙ here in
    let read : map (boot_row_in p bytes) (range_with_len (i * rows) (length g.rows)) ≡ g.rows = again_at (boot_row_in p bytes) glwe_words (IsRow p) bytes (boot_place p) words (i * rows) g.rows parts (row_again p bytes) whole in
    same_ggsw g p.boot.base p.boot.level (map (boot_row_in p bytes) (range_with_len (i * rows) rows)) (sym is.base) (sym is.level) (ap (λ (m : ℕ). map (boot_row_in p bytes) (range_with_len (i * rows) m)) (sym is.number) ∙ read)

boot_again : (p : Params) (bytes : List ℕ) (key : BootRows) → IsBootOf p key → words_at bytes (boot_place p) (boot_key_words p) ≡ flat_map ggsw_words key.ggsws → boot_in p bytes ≡ key
boot_again p bytes key is here =
    let size : ℕ = rows_of_bit p * row_words p in
    let g : ℕ → GgswRows = ggsw_of_rows p (boot_row_in p bytes) in
    let bits : All (IsBit p) key.ggsws = bits_are p key is in
    let at : boot_place p + 0 * size ≡ boot_place p = omega arith in
    let parts : AllByRecursion (λ g. (length (ggsw_words g) ≡ size) × IsBit p g) key.ggsws = recursion_from_All (λ g. (length (ggsw_words g) ≡ size) × IsBit p g) key.ggsws (λ i d inside. (length-bit p (get_or key.ggsws i d) (bits i d inside), bits i d inside)) in
    let whole : words_at bytes (boot_place p + 0 * size) (length key.ggsws * size) ≡ flat_map ggsw_words key.ggsws =
    ap (λ (q : ℕ). words_at bytes q (length key.ggsws * size)) at ∙ ap (λ (m : ℕ). words_at bytes (boot_place p) (m * size)) is.number ∙ ap (words_at bytes (boot_place p)) (boot_count p) ∙ here in
    let read : map g (range_with_len 0 (length key.ggsws)) ≡ key.ggsws = again_at g ggsw_words (IsBit p) bytes (boot_place p) size 0 key.ggsws parts (bit_again p bytes) whole in
    let all : map g (range_with_len 0 p.lwe.n) ≡ key.ggsws = ap (λ (m : ℕ). map g (range_with_len 0 m)) (sym is.number) ∙ read in
    ap (boot_rows p.glwe.k p.glwe.log_n p.boot.base p.boot.level) all ∙ ap (λ (s : GlweShape). record { shape = s; base = p.boot.base; level = p.boot.level; ggsws = key.ggsws }) (sym is.shape)
    ∙ ap (λ (b : ℕ). record { shape = key.shape; base = b; level = p.boot.level; ggsws = key.ggsws }) (sym is.base) ∙ ap (λ (l : ℕ). record { shape = key.shape; base = key.base; level = l; ggsws = key.ggsws }) (sym is.level)

switch_again : (p : Params) (bytes : List ℕ) (key : SwitchRows) → IsSwitchOf p key → words_at bytes switch_place (switch_key_words p) ≡ flat_map (λ row. row) key.rows → switch_in p bytes ≡ key
switch_again p bytes key is here =
    let n : ℕ = p.lwe.n + 1 in
    let count : length key.rows ≡ big_dimension p * p.switch.level = is.is_key.count ∙ ap (λ (d : ℕ). d * key.level) is.big_dim ∙ ap (λ (l : ℕ). big_dimension p * l) is.level in
    let long : All (λ row. length row ≡ n) key.rows = subst (λ (m : ℕ). All (λ row. length row ≡ m + 1) key.rows) is.small_dim is.is_key.long in
    let read : rows_at bytes switch_place n (big_dimension p * p.switch.level) ≡ key.rows = ap (rows_at bytes switch_place n) (sym count) ∙ rows_again bytes switch_place n key.rows long (ap (λ (m : ℕ). words_at bytes switch_place (m * n)) count ∙ here) in
    ap (switch_rows (big_dimension p) p.lwe.n p.switch.base p.switch.level) read ∙ ap (λ (d : ℕ). switch_rows d p.lwe.n p.switch.base p.switch.level key.rows) (sym is.big_dim)
    ∙ ap (λ (m : ℕ). switch_rows key.big_dim m p.switch.base p.switch.level key.rows) (sym is.small_dim) ∙ ap (λ (b : ℕ). switch_rows key.big_dim key.small_dim b p.switch.level key.rows) (sym is.base) ∙ ap (λ (l : ℕ). switch_rows key.big_dim key.small_dim key.base l key.rows) (sym is.level)

-- ---- whole files

is_frame : (digest : List ℕ) (p : Params) (keys : EvalRows) → IsDigest digest → IsEvalFile p keys → IsFrame Eval (eval_frame digest p keys)
is_frame digest p keys fits is =
    let switch : List ℕ = flat_map (λ row. row) keys.switch.rows in
    let boot : List ℕ = flat_map ggsw_words keys.boot.ggsws in
    let rest : List ℕ = switch ++ boot in
    let boot_level : p.boot.level ≤ 63 = level_small p.boot is.params.boot in
    let switch_level : p.switch.level ≤ 63 = level_small p.switch is.params.switch in
    let all : All IsWord rest = All-append IsWord switch boot (flat_words (λ (row : List ℕ). row) keys.switch.rows (recursion_from_All (All IsWord) keys.switch.rows is.switch_words)) (boot_all keys.boot is.boot_words) in
    record {
      digest_length = fits.long;
      digest = fits.bytes;
      header = (
        record { least = is.params.glwe.k_low; most = is.params.glwe.k_high },
        (
          record { least = is.params.glwe.log_n_low; most = is.params.glwe.log_n_high },
          (
            record { least = is.params.lwe.n_low; most = is.params.lwe.n_high },
            (record { least = is.params.boot.level_low; most = boot_level }, (record { least = is.params.switch.level_low; most = switch_level }, tt)),
          ),
        ),
      );
      number = omega (arith, length-append switch boot, length-switch p keys.switch is.switch, length-boot p keys.boot is.boot);
      words =
          All-cons IsWord p.glwe.k (p.glwe.log_n ∷ p.lwe.n ∷ p.boot.level ∷ p.switch.level ∷ rest) (omega (arith, is.params.glwe.k_high))
          (All-cons IsWord p.glwe.log_n (p.lwe.n ∷ p.boot.level ∷ p.switch.level ∷ rest) (omega (arith, is.params.glwe.log_n_high))
          (All-cons IsWord p.lwe.n (p.boot.level ∷ p.switch.level ∷ rest) (omega (arith, is.params.lwe.n_high))
          (All-cons IsWord p.boot.level (p.switch.level ∷ rest) (omega (arith, boot_level)) (All-cons IsWord p.switch.level rest (omega (arith, switch_level)) all))));
    }

all_read : (digest : List ℕ) (p : Params) (bytes : List ℕ) (frame : Frame) (keys : EvalRows) → frame_of Eval bytes ≡ Ok frame → eval_fits digest p bytes ≡ Ok tt → switch_in p bytes ≡ keys.switch → boot_in p bytes ≡ keys.boot → eval_of digest p bytes ≡ Ok keys
unfolding eval_of
all_read digest p bytes frame keys read fits switch boot =
    let whole : eval_rows (switch_in p bytes) (boot_in p bytes) ≡ keys = ap (λ (s : SwitchRows). eval_rows s (boot_in p bytes)) switch ∙ ap (eval_rows keys.switch) boot in
    rw (read, fits) (ap (λ (k : EvalRows). Ok k) whole)

pub eval_again : SealedLaws → MatchLaws → (digest : List ℕ) (p : Params) (keys : EvalRows) → IsDigest digest → IsEvalFile p keys → eval_of digest p (eval_bytes digest p keys) ≡ Ok keys
eval_again laws matches digest p keys is_digest is =
    let frame : Frame = eval_frame digest p keys in
    let bytes : List ℕ = eval_bytes digest p keys in
    let header : List ℕ = eval_header p in
    let switch : List ℕ = flat_map (λ row. row) keys.switch.rows in
    let boot : List ℕ = flat_map ggsw_words keys.boot.ggsws in
    let read : frame_of Eval bytes ≡ Ok frame = laws.frames.spelled Eval frame (is_frame digest p keys is_digest is) in
    let held : Holds bytes frame.words = held_words laws Eval bytes frame read in
    let fits : Fits digest p bytes = record {
      same = held_digest laws Eval bytes frame read;
      k = sym (held_word bytes frame.words 0 held (omega arith));
      log_n = sym (held_word bytes frame.words 1 held (omega arith));
      n = sym (held_word bytes frame.words 2 held (omega arith));
      boot = sym (held_word bytes frame.words 3 held (omega arith));
      switch = sym (held_word bytes frame.words 4 held (omega arith));
    } in
    let switch_long : length switch ≡ switch_key_words p = length-switch p keys.switch is.switch in
    let boot_long : length boot ≡ boot_key_words p = length-boot p keys.boot is.boot in
    let switch_here : words_at bytes 5 (switch_key_words p) ≡ switch = ap (words_at bytes 5) (sym switch_long) ∙ held_piece laws bytes header switch boot held in
    let last : Holds bytes ((header ++ switch) ++ (boot ++ [])) = subst (λ (ws : List ℕ). Holds bytes (header ++ (switch ++ ws))) (sym (append-nil boot)) held in
    let at : length (header ++ switch) ≡ boot_place p = omega (arith, length-append header switch, switch_long) in
    let boot_here : words_at bytes (boot_place p) (boot_key_words p) ≡ boot =
    ap (words_at bytes (boot_place p)) (sym boot_long) ∙ ap (λ (q : ℕ). words_at bytes q (length boot)) (sym at) ∙ held_piece laws bytes (header ++ switch) boot [] last in
    all_read digest p bytes frame keys read (fits_again matches digest p bytes fits) (switch_again p bytes keys.switch is.switch switch_here) (boot_again p bytes keys.boot is.boot boot_here)

pub eval_short : SealedLaws → (digest : List ℕ) (p : Params) (keys : EvalRows) → length digest ≡ 32 → IsEvalFile p keys → key_words_of p ≤ 2 ^ 25 → length (eval_bytes digest p keys) ≤ 2 ^ 29
eval_short laws digest p keys long is few =
    let switch : List ℕ = flat_map (λ row. row) keys.switch.rows in
    let boot : List ℕ = flat_map ggsw_words keys.boot.ggsws in
    let size = laws.frames.size Eval (eval_frame digest p keys) long in
    omega (arith, size, few, length-append switch boot, length-switch p keys.switch is.switch, length-boot p keys.boot is.boot)
