-- Words that are read from bytes, and words that are written as bytes.
use Rattle.std.proofs.Common.{◌≡◌, ℕ, zero, suc, ◌+◌, ◌-◌, ◌*◌, ◌<◌, ◌≤◌, List, [], ◌∷◌, ◌++◌, length, get_or, map, take, drop, All, refl, sym, ap, ◌∙◌, append_assoc, length-append, arith, inl, inr}
use Rattle.std.specs.List.{range_with_len}
use Rattle.std.proofs.Math.Seq.{take-add}
use Rattle.std.proofs.lemmas.Bool.{cases_lt}
use Rattle.std.proofs.lemmas.List.{get_or-drop, get_or-take, get_or_past, get_or_default, length-take, length-drop, take_at, drop_at, take-append-drop, drop-drop}
use Rattle.std.proofs.lemmas.List.Concat.{flat_map-cons}
use Rattle.std.proofs.lemmas.List.Elements.{All-map}
use Rattle.std.proofs.lemmas.List.FromFn.{take-map-range_with_len, length-map-range_with_len}
use Rattle.std.proofs.lemmas.Nat.{le_bytes_8, from_le_bytes-to_le_bytes_8}
use Rattle.word_ring.specs.Words.{IsWord}
use Rattle.sealed_files.specs.Frame.{word_bytes, words_bytes}
use Rattle.sealed_files.specs.FrameReading.{word_of_bytes, word_at, words_at}

-- at each place stands a byte
abbrev pub IsBytes : List ℕ → Type 0
IsBytes bytes = (i : ℕ) → get_or bytes i 0 < 256

pub IsBytes-from_all : (bytes : List ℕ) → All (λ byte. byte < 256) bytes → IsBytes bytes
IsBytes-from_all bytes all i =
    elim (cases_lt i (length bytes)) [
      | inl lt ↦ all i 0 lt
      | inr le ↦ rw (get_or_past bytes i 0 le) (omega arith)
    ]

pub all_bytes : (bytes : List ℕ) → IsBytes bytes → All (λ byte. byte < 256) bytes
all_bytes bytes fits k d lt = rw (get_or_default bytes k d 0 lt) (fits k)

pub IsBytes-drop : (n : ℕ) (bytes : List ℕ) → IsBytes bytes → IsBytes (drop n bytes)
IsBytes-drop n bytes fits i = rw get_or-drop (fits (n + i))

pub IsBytes-take : (n : ℕ) (bytes : List ℕ) → IsBytes bytes → IsBytes (take n bytes)
IsBytes-take n bytes fits i =
    elim (cases_lt i n) [
      | inl lt ↦ rw (get_or-take n bytes i 0 lt) (fits i)
      | inr le ↦ rw (get_or_past (take n bytes) i 0 (omega (arith, length-take n bytes))) (omega arith)
    ]

pub length-word_bytes : (word : ℕ) → length (word_bytes word) ≡ 8
unfolding word_bytes
length-word_bytes word = refl

pub word_again : (word : ℕ) → IsWord word → word_of_bytes (word_bytes word) ≡ word
unfolding word_bytes word_of_bytes
word_again word lt = from_le_bytes-to_le_bytes_8 word lt

pub bytes_again : (bytes : List ℕ) → length bytes ≡ 8 → IsBytes bytes → word_bytes (word_of_bytes bytes) ≡ bytes
unfolding word_bytes word_of_bytes
bytes_again bytes len fits = le_bytes_8 bytes _ len fits refl

pub word_fits : (bytes : List ℕ) → IsBytes bytes → IsWord (word_of_bytes bytes)
unfolding word_of_bytes
word_fits bytes fits = omega (arith, fits 0, fits 1, fits 2, fits 3, fits 4, fits 5, fits 6, fits 7)

pub length-words_bytes : (words : List ℕ) → length (words_bytes words) ≡ 8 * length words
length-words_bytes [] = refl
length-words_bytes (word ∷ words) = ap length (flat_map-cons word_bytes word words) ∙ omega (arith, length-append (word_bytes word) (words_bytes words), length-word_bytes word, length-words_bytes words)

-- what stands at a place, and what stands behind it
pub next_is : {X : Type 0} (n k : ℕ) (whole text rest : List X) → drop n whole ≡ text ++ rest → length text ≡ k → (take k (drop n whole) ≡ text) × (drop (n + k) whole ≡ rest)
next_is n k whole text rest here len =
    (ap (take k) here ∙ take_at text rest k len, sym (drop-drop k n whole) ∙ ap (drop k) here ∙ drop_at text rest k len)

-- a rest is its front and what stands behind that
pub cut : {X : Type 0} (n k : ℕ) (whole : List X) → drop n whole ≡ take k (drop n whole) ++ drop (n + k) whole
cut n k whole = sym (take-append-drop k (drop n whole)) ∙ ap (λ rest. take k (drop n whole) ++ rest) (drop-drop k n whole)

-- the words from a place on, as bytes
pub words_cut : (count place : ℕ) (bytes : List ℕ) → IsBytes bytes → 40 + 8 * (place + count) ≤ length bytes → words_bytes (words_at bytes place count) ≡ take (8 * count) (drop (40 + 8 * place) bytes)
words_cut zero place bytes fits room = refl
words_cut (suc count) place bytes fits room =
    let here : List ℕ = drop (40 + 8 * place) bytes in
    let first : word_bytes (word_of_bytes (take 8 here)) ≡ take 8 here = bytes_again (take 8 here) (omega (arith, length-take 8 here, length-drop (40 + 8 * place) bytes)) (IsBytes-take 8 here (IsBytes-drop (40 + 8 * place) bytes fits)) in
    let others : words_bytes (words_at bytes (place + 1) count) ≡ take (8 * count) (drop (40 + 8 * (place + 1)) bytes) = words_cut count (place + 1) bytes fits (omega arith) in
    let behind : drop (40 + 8 * (place + 1)) bytes ≡ drop 8 here = ap (λ (n : ℕ). drop n bytes) (omega arith) ∙ sym (drop-drop 8 (40 + 8 * place) bytes) in
    let whole : take 8 here ++ take (8 * count) (drop 8 here) ≡ take (8 * suc count) here = sym (take-add 8 (8 * count) here) ∙ ap (λ (n : ℕ). take n here) (omega arith) in
    flat_map-cons word_bytes (word_at bytes place) (words_at bytes (place + 1) count) ∙ ap (λ (x : List ℕ). x ++ words_bytes (words_at bytes (place + 1) count)) first
    ∙ ap (λ (x : List ℕ). take 8 here ++ x) (others ∙ ap (take (8 * count)) behind) ∙ whole

-- which are words
pub words_fit : (count place : ℕ) (bytes : List ℕ) → IsBytes bytes → All IsWord (words_at bytes place count)
words_fit count place bytes fits =
    All-map IsWord (word_at bytes) (range_with_len place count)
    (λ k d lt. word_fits (take 8 (drop (40 + 8 * get_or (range_with_len place count) k d) bytes))
    (IsBytes-take 8 (drop (40 + 8 * get_or (range_with_len place count) k d) bytes) (IsBytes-drop (40 + 8 * get_or (range_with_len place count) k d) bytes fits)))

-- words that stand from a place on are read again
pub words_again : (words rest bytes : List ℕ) (place : ℕ) → All IsWord words → drop (40 + 8 * place) bytes ≡ words_bytes words ++ rest → words_at bytes place (length words) ≡ words
words_again [] rest bytes place all here = refl
words_again (word ∷ words) rest bytes place all here =
    let others : List ℕ = words_bytes words ++ rest in
    let parts : drop (40 + 8 * place) bytes ≡ word_bytes word ++ others = here ∙ ap (λ (x : List ℕ). x ++ rest) (flat_map-cons word_bytes word words) ∙ append_assoc (word_bytes word) (words_bytes words) rest in
    let next = next_is (40 + 8 * place) 8 bytes (word_bytes word) others parts (length-word_bytes word) in
    let first : word_at bytes place ≡ word = ap word_of_bytes next.0 ∙ word_again word (all 0 0 (omega arith)) in
    let behind : drop (40 + 8 * (place + 1)) bytes ≡ others = ap (λ (n : ℕ). drop n bytes) (omega arith) ∙ next.1 in
    let tail : All IsWord words = λ k d lt. all (suc k) d (omega (arith, lt)) in
    ap (λ (w : ℕ). w ∷ words_at bytes (place + 1) (length words)) first ∙ ap (λ (ws : List ℕ). word ∷ ws) (words_again words rest bytes (place + 1) tail behind)

-- numbers in a row, without the first
drop_range : {X : Type 0} (f : ℕ → X) (n start count : ℕ) → n ≤ count → drop n (map f (range_with_len start count)) ≡ map f (range_with_len (start + n) (count - n))
drop_range f zero start count few =
    let at : start ≡ start + 0 = omega arith in
    let left : count ≡ count - 0 = omega arith in
    ap (λ (s : ℕ). map f (range_with_len s count)) at ∙ ap (λ (c : ℕ). map f (range_with_len (start + 0) c)) left
drop_range f (suc n) start zero few = absurd (omega arith)
drop_range f (suc n) start (suc count) few =
    let at : start + 1 + n ≡ start + suc n = omega arith in
    let left : count - n ≡ suc count - suc n = omega arith in
    drop_range f n (start + 1) count (omega arith) ∙ ap (λ (s : ℕ). map f (range_with_len s (count - n))) at ∙ ap (λ (c : ℕ). map f (range_with_len (start + suc n) c)) left

-- some of the words are those from a place on
pub part_is : (bytes : List ℕ) (place count all : ℕ) → place + count ≤ all → take count (drop place (words_at bytes 0 all)) ≡ words_at bytes place count
part_is bytes place count all few =
    let at : 0 + place ≡ place = omega arith in
    ap (take count) (drop_range (word_at bytes) place 0 all (omega arith)) ∙ take-map-range_with_len (word_at bytes) (0 + place) (all - place) count (omega arith) ∙ ap (λ (p : ℕ). words_at bytes p count) at

pub length-words_at : (bytes : List ℕ) (place count : ℕ) → length (words_at bytes place count) ≡ count
length-words_at bytes place count = length-map-range_with_len (word_at bytes) place count
