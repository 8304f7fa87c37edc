-- Words of a file, cut into the pieces that they are spelled from.
use Rattle.std.proofs.Common.{◌≡◌, ℕ, zero, suc, ◌+◌, ◌*◌, ◌<◌, ◌≤◌, List, [], ◌∷◌, ◌++◌, length, get_or, map, take, drop, All, Ok, refl, sym, ap, ◌∙◌, append_assoc, zero-mul, length-append, arith}
use Rattle.std.specs.List.{flat_map, range_with_len, AllByRecursion}
use Rattle.std.proofs.lemmas.List.{take_at, drop_at, take_more, append-nil, get_or_default}
use Rattle.std.proofs.lemmas.List.Concat.{flat_map-cons}
use Rattle.std.proofs.lemmas.Grind.{flat_map-append}
use Rattle.std.proofs.lemmas.List.Elements.{All-same, All-append}
use Rattle.std.proofs.lemmas.List.FromFn.{get_or-map-range_with_len, length-map-range_with_len}
use Rattle.word_ring.specs.Words.{IsWord}
use Rattle.sealed_files.specs.declared.kinds.FileKind.{FileKind}
use Rattle.sealed_files.specs.Kinds.{word_count}
use Rattle.sealed_files.specs.Frame.{Frame, word_bytes, words_bytes}
use Rattle.sealed_files.specs.FrameReading.{word_at, words_at, header_words, digest_in, frame_of}
use Rattle.sealed_files.specs.Laws.{FrameLaws, ReadLaws}

-- what sealed files promise
pub record SealedLaws : Type 0 where
  pub frames : FrameLaws
  pub reading : ReadLaws

pub length-words_at : (bytes : List ℕ) (place count : ℕ) → length (words_at bytes place count) ≡ count
length-words_at bytes place count = length-map-range_with_len (word_at bytes) place count

-- words in two pieces
pub words_append : (bytes : List ℕ) (place m k : ℕ) → words_at bytes place (m + k) ≡ words_at bytes place m ++ words_at bytes (place + m) k
words_append bytes place zero k =
    let none : 0 + k ≡ k = omega arith in
    let at : place ≡ place + 0 = omega arith in
    ap (words_at bytes place) none ∙ ap (λ (p : ℕ). words_at bytes p k) at
words_append bytes place (suc m) k =
    let count : suc m + k ≡ suc (m + k) = omega arith in
    let at : place + 1 + m ≡ place + suc m = omega arith in
    ap (words_at bytes place) count ∙ ap (λ (ws : List ℕ). word_at bytes place ∷ ws) (words_append bytes (place + 1) m k ∙ ap (λ (p : ℕ). words_at bytes (place + 1) m ++ words_at bytes p k) at)

-- the word at a place among all
pub word_is : (bytes : List ℕ) (all i : ℕ) → i < all → get_or (words_at bytes 0 all) i 0 ≡ word_at bytes i
word_is bytes all i inside = get_or-map-range_with_len (word_at bytes) 0 all i i 0 inside (omega arith)

-- all places before a limit have words
abbrev pub AreWords : List ℕ → ℕ → Type 0
AreWords bytes limit = (i : ℕ) → i < limit → IsWord (word_at bytes i)

pub are_words : (bytes : List ℕ) (limit : ℕ) → All IsWord (words_at bytes 0 limit) → AreWords bytes limit
are_words bytes limit all i inside =
    let here : get_or (words_at bytes 0 limit) i 0 ≡ word_at bytes i = word_is bytes limit i inside in
    rw (← here) (all i 0 (omega (arith, inside, length-words_at bytes 0 limit)))

pub words_fit : (bytes : List ℕ) (limit place count : ℕ) → AreWords bytes limit → place + count ≤ limit → All IsWord (words_at bytes place count)
words_fit bytes limit place count are few k d inside =
    let below : k < count = omega (arith, inside, length-words_at bytes place count) in
    rw (get_or-map-range_with_len (word_at bytes) place count k (place + k) d below refl) (are (place + k) (omega (arith, below, few)))

-- two lists of two pieces are one, where the first pieces are as long
pub same_pieces : (a b c d : List ℕ) → a ++ b ≡ c ++ d → length a ≡ length c → (a ≡ c) × (b ≡ d)
same_pieces a b c d same long =
    (sym (take_at a b (length c) long) ∙ ap (take (length c)) same ∙ take_at c d (length c) refl, sym (drop_at a b (length c) long) ∙ ap (drop (length c)) same ∙ drop_at c d (length c) refl)

-- what a file holds that spells a frame
pub record Holds (bytes words : List ℕ) : Type 0 where
  pub are : words_at bytes 0 (length words) ≡ words

pub held_words : SealedLaws → (kind : FileKind) (bytes : List ℕ) (frame : Frame) → frame_of kind bytes ≡ Ok frame → Holds bytes frame.words
held_words laws kind bytes frame read =
    let all : frame.words ≡ words_at bytes 0 (word_count kind (header_words kind bytes)) = ap (λ (f : Frame). f.words) (laws.reading.all kind bytes frame read) in
    let count : length frame.words ≡ word_count kind (header_words kind bytes) = ap length all ∙ length-words_at bytes 0 (word_count kind (header_words kind bytes)) in
    record { are = ap (words_at bytes 0) count ∙ sym all }

pub held_digest : SealedLaws → (kind : FileKind) (bytes : List ℕ) (frame : Frame) → frame_of kind bytes ≡ Ok frame → frame.digest ≡ digest_in bytes
held_digest laws kind bytes frame read = ap (λ (f : Frame). f.digest) (laws.reading.all kind bytes frame read)

pub held_word : (bytes words : List ℕ) (i : ℕ) → Holds bytes words → i < length words → word_at bytes i ≡ get_or words i 0
held_word bytes words i held inside = sym (word_is bytes (length words) i inside) ∙ ap (λ (ws : List ℕ). get_or ws i 0) held.are

-- a piece that the words are spelled from
pub held_piece : SealedLaws → (bytes front piece rest : List ℕ) → Holds bytes (front ++ (piece ++ rest)) → words_at bytes (length front) (length piece) ≡ piece
held_piece laws bytes front piece rest held =
    let words : List ℕ = front ++ (piece ++ rest) in
    sym (laws.reading.part bytes (length front) (length piece) (length words) (omega (arith, length-append front (piece ++ rest), length-append piece rest)))
    ∙ ap (λ (ws : List ℕ). take (length piece) (drop (length front) ws)) held.are ∙ ap (take (length piece)) (drop_at front (piece ++ rest) (length front) refl) ∙ take_at piece rest (length piece) refl

-- a list of bytes
pub all_bytes : (bytes : List ℕ) → ((i : ℕ) → get_or bytes i 0 < 256) → All (λ byte. byte < 256) bytes
all_bytes bytes fits k d lt = rw (get_or_default bytes k d 0 lt) (fits k)

-- one value more is written, as a loop does
pub put_more : {X : Type 0} (spell : X → List ℕ) (xs : List X) (i : ℕ) (d : X) (start before after words : List ℕ) → i < length xs → words ≡ spell (get_or xs i d) → before ≡ start ++ words_bytes (flat_map spell (take i xs)) → after ≡ before ++ words_bytes words
    → after ≡ start ++ words_bytes (flat_map spell (take (i + 1) xs))
put_more spell xs i d start before after words inside is so_far put =
    let first : List ℕ = flat_map spell (take i xs) in
    let x : List ℕ = spell (get_or xs i d) in
    let more : flat_map spell (take (i + 1) xs) ≡ first ++ x =
    ap (flat_map spell) (take_more xs i d inside) ∙ flat_map-append spell (take i xs) (get_or xs i d ∷ []) ∙ ap (λ (ws : List ℕ). first ++ ws) (flat_map-cons spell (get_or xs i d) [] ∙ append-nil x) in
    put ∙ ap (λ (ws : List ℕ). before ++ words_bytes ws) is ∙ ap (λ (b : List ℕ). b ++ words_bytes x) so_far ∙ append_assoc start (words_bytes first) (words_bytes x)
    ∙ ap (λ (bs : List ℕ). start ++ bs) (sym (flat_map-append word_bytes first x)) ∙ ap (λ (ws : List ℕ). start ++ words_bytes ws) (sym more)

-- ---- values of one size, one after the other

-- their words
pub flat_at : {X : Type 0} (f : ℕ → X) (spell : X → List ℕ) (bytes : List ℕ) (start size count a : ℕ) → ((i : ℕ) → spell (f i) ≡ words_at bytes (start + i * size) size) → flat_map spell (map f (range_with_len a count)) ≡ words_at bytes (start + a * size) (count * size)
flat_at f spell bytes start size zero a each = let none : 0 ≡ 0 * size = omega arith in ap (words_at bytes (start + a * size)) none
flat_at f spell bytes start size (suc count) a each =
    let next : start + (a + 1) * size ≡ start + a * size + size = omega arith in
    let more : size + count * size ≡ suc count * size = omega arith in
    let others : flat_map spell (map f (range_with_len (a + 1) count)) ≡ words_at bytes (start + a * size + size) (count * size) = flat_at f spell bytes start size count (a + 1) each ∙ ap (λ (p : ℕ). words_at bytes p (count * size)) next in
    flat_map-cons spell (f a) (map f (range_with_len (a + 1) count)) ∙ ap (λ (ws : List ℕ). ws ++ flat_map spell (map f (range_with_len (a + 1) count))) (each a) ∙ ap (λ (ws : List ℕ). words_at bytes (start + a * size) size ++ ws) others
    ∙ sym (words_append bytes (start + a * size) size (count * size)) ∙ ap (words_at bytes (start + a * size)) more

-- the same, where only those that are there have their words
pub flat_within : {X : Type 0} (f : ℕ → X) (spell : X → List ℕ) (bytes : List ℕ) (start size count a : ℕ) → ((i : ℕ) → a ≤ i → i < a + count → spell (f i) ≡ words_at bytes (start + i * size) size) → flat_map spell (map f (range_with_len a count)) ≡ words_at bytes (start + a * size) (count * size)
flat_within f spell bytes start size zero a each = let none : 0 ≡ 0 * size = omega arith in ap (words_at bytes (start + a * size)) none
flat_within f spell bytes start size (suc count) a each =
    let next : start + (a + 1) * size ≡ start + a * size + size = omega arith in
    let more : size + count * size ≡ suc count * size = omega arith in
    let others : flat_map spell (map f (range_with_len (a + 1) count)) ≡ words_at bytes (start + a * size + size) (count * size) = flat_within f spell bytes start size count (a + 1) (λ i low high. each i (omega (arith, low)) (omega (arith, high))) ∙ ap (λ (p : ℕ). words_at bytes p (count * size)) next in
    flat_map-cons spell (f a) (map f (range_with_len (a + 1) count)) ∙ ap (λ (ws : List ℕ). ws ++ flat_map spell (map f (range_with_len (a + 1) count))) (each a (omega arith) (omega arith)) ∙ ap (λ (ws : List ℕ). words_at bytes (start + a * size) size ++ ws) others
    ∙ sym (words_append bytes (start + a * size) size (count * size)) ∙ ap (words_at bytes (start + a * size)) more

-- and the values of their words
pub again_at : {X : Type 0} (f : ℕ → X) (spell : X → List ℕ) (Fits : X → Type 0) (bytes : List ℕ) (start size a : ℕ) (xs : List X) → AllByRecursion (λ x. (length (spell x) ≡ size) × Fits x) xs
    → ((i : ℕ) (x : X) → Fits x → words_at bytes (start + i * size) size ≡ spell x → f i ≡ x) → words_at bytes (start + a * size) (length xs * size) ≡ flat_map spell xs → map f (range_with_len a (length xs)) ≡ xs
again_at f spell Fits bytes start size a [] all each here = refl
again_at {X = X} f spell Fits bytes start size a (x ∷ xs) all each here =
    let more : suc (length xs) * size ≡ size + length xs * size = omega arith in
    let next : start + a * size + size ≡ start + (a + 1) * size = omega arith in
    let parts : words_at bytes (start + a * size) size ++ words_at bytes (start + a * size + size) (length xs * size) ≡ spell x ++ flat_map spell xs =
    sym (words_append bytes (start + a * size) size (length xs * size)) ∙ ap (words_at bytes (start + a * size)) (sym more) ∙ here ∙ flat_map-cons spell x xs in
    let cut = same_pieces (words_at bytes (start + a * size) size) (words_at bytes (start + a * size + size) (length xs * size)) (spell x) (flat_map spell xs) parts (length-words_at bytes (start + a * size) size ∙ sym all.0.0) in
    let others : words_at bytes (start + (a + 1) * size) (length xs * size) ≡ flat_map spell xs = ap (λ (p : ℕ). words_at bytes p (length xs * size)) (sym next) ∙ cut.1 in
    ap (λ (y : X). y ∷ map f (range_with_len (a + 1) (length xs))) (each a x all.0.1 cut.0) ∙ ap (λ (ys : List X). x ∷ ys) (again_at f spell Fits bytes start size (a + 1) xs all.1 each others)

-- how many words they have
pub length-flat : {X : Type 0} (spell : X → List ℕ) (size : ℕ) (xs : List X) → AllByRecursion (λ x. length (spell x) ≡ size) xs → length (flat_map spell xs) ≡ length xs * size
length-flat spell size [] all = sym (zero-mul size)
length-flat spell size (x ∷ xs) all = ap length (flat_map-cons spell x xs) ∙ omega (arith, length-append (spell x) (flat_map spell xs), length-flat spell size xs all.1, all.0)

-- and that they are words
pub flat_words : {X : Type 0} (spell : X → List ℕ) (xs : List X) → AllByRecursion (λ x. All IsWord (spell x)) xs → All IsWord (flat_map spell xs)
flat_words spell [] all = λ k d inside. absurd (omega (arith, inside))
flat_words spell (x ∷ xs) all = All-same IsWord (flat_map spell (x ∷ xs)) (spell x ++ flat_map spell xs) (flat_map-cons spell x xs) (All-append IsWord (spell x) (flat_map spell xs) all.0 (flat_words spell xs all.1))
