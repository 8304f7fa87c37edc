-- Ciphertexts are read from their files, and their files from them.
use Rattle.std.proofs.Common.{◌≡◌, ℕ, zero, suc, ◌+◌, ◌-◌, ◌*◌, ◌^◌, ◌<◌, ◌≤◌, Bool, true, false, ◌&&◌, ℤ, int_le, List, [], ◌∷◌, ◌++◌, length, get_or, All, Result, Ok, Err, refl, sym, ap, subst, ◌∙◌, append_assoc, T, length-append, mul-le-mul, arith}
use Rattle.std.specs.Prelude.{IfOk}
use Rattle.std.specs.List.{flat_map, range_with_len, AllByRecursion}
use Rattle.std.proofs.lemmas.Bool.{and_parts}
use Rattle.std.proofs.lemmas.Int.{ints}
use Rattle.std.proofs.lemmas.List.{append-nil}
use Rattle.std.proofs.lemmas.List.Concat.{flat_map-cons}
use Rattle.std.proofs.lemmas.List.Elements.{All-from_recursion, recursion_from_All, All-cons, All-append, All-map}
use Rattle.std.proofs.lemmas.List.FromFn.{get_or-range_with_len, length-range_with_len, length-map-range_with_len}
use Rattle.refusals.specs.declared.refusal.Refusal.{Refusal}
use Rattle.refusals.specs.declared.refusal.Refusal.TheVariants.{Fault, Memory}
use Rattle.refusals.specs.Reading.{◌>>=◌, Refuses, Gives}
use Rattle.refusals.specs.Steps.{one_value, value_of_step, test_held}
use Rattle.word_ring.specs.Words.{IsWord, centred}
use Rattle.word_ring.specs.Signed.{SignedLaws, word_of}
use Rattle.forms.specs.Limits.{least_number, most_number}
use Rattle.forms.specs.Ranges.{IsNumberRange}
use Rattle.sealed_files.specs.declared.fault.FileFault.{FileFault}
use Rattle.sealed_files.specs.declared.fault.FileFault.TheVariants.{Field}
use Rattle.sealed_files.specs.declared.kinds.FileKind.TheVariants.{Cipher}
use Rattle.sealed_files.specs.Kinds.{IsWithin, big_dimension, width, ciphertexts, header_of, AreWithin}
use Rattle.sealed_files.specs.Frame.{Frame, IsFrame, frame_bytes}
use Rattle.sealed_files.specs.FrameReading.{Read, word_at, words_at, header_words, digest_in, frame_of}
use Rattle.cipher_files.specs.CipherFile.{CipherFile, range_words, cipher_frame, cipher_bytes, HasCipherLimits, IsCipherFile, is_number_range, range_at, ranges_at, rows_at, cipher_in, cipher_of}
use Rattle.cipher_files.proofs.Pieces.{SealedLaws, AreWords, are_words, words_fit, Holds, words_append, same_pieces, length-words_at, length-flat, flat_words, flat_at, again_at, held_words, held_digest, held_word, held_piece}

some_is : {A : Type 0} (x y : A) → ◌≡◌ {A = Read A} (Ok x) (Ok y) → x ≡ y
some_is {A = A} x y e = let read : Read A = Ok y in one_value x read e

-- a test as a fact
holds : (b : Bool) → b ≡ true → T b
holds true e = tt
holds false e = absurd cc

from_holds : (b : Bool) → T b → b ≡ true
from_holds true e = refl
from_holds false e = absurd e

-- the test of a range
range_true : (lo hi : ℤ) → is_number_range lo hi ≡ true → IsNumberRange lo hi
range_true lo hi held =
    let a = and_parts (int_le least_number lo) (int_le lo hi && int_le hi most_number) held in
    let b = and_parts (int_le lo hi) (int_le hi most_number) a.1 in
    record { low = record { le = holds (int_le least_number lo) a.0 }; rising = record { le = holds (int_le lo hi) b.0 }; high = record { le = holds (int_le hi most_number) b.1 } }

true_range : (lo hi : ℤ) → IsNumberRange lo hi → is_number_range lo hi ≡ true
true_range lo hi is = rw (from_holds (int_le least_number lo) is.low.le, from_holds (int_le lo hi) is.rising.le, from_holds (int_le hi most_number) is.high.le) refl

-- ---- ranges

range_taken : SignedLaws → (bytes : List ℕ) (place : ℕ) (range : ℤ × ℤ) → IsWord (word_at bytes place) → IsWord (word_at bytes (place + 1)) → range_at bytes place ≡ Ok range
    → (range_words range ≡ word_at bytes place ∷ word_at bytes (place + 1) ∷ []) × IsNumberRange range.0 range.1
unfolding range_at
range_taken signed bytes place range low_word high_word read =
    let lo : ℤ = centred (word_at bytes place) in
    let hi : ℤ = centred (word_at bytes (place + 1)) in
    let step = test_held (is_number_range lo hi) (Field place) (λ (rising : Unit {0}). Ok (lo, hi)) range read in
    let low : word_of lo ≡ word_at bytes place = signed.centred_word (word_at bytes place) ∙ omega (arith, low_word) in
    let high : word_of hi ≡ word_at bytes (place + 1) = signed.centred_word (word_at bytes (place + 1)) ∙ omega (arith, high_word) in
    let both : range_words (lo, hi) ≡ word_at bytes place ∷ word_at bytes (place + 1) ∷ [] = ap (λ (w : ℕ). w ∷ word_of hi ∷ []) low ∙ ap (λ (w : ℕ). word_at bytes place ∷ w ∷ []) high in
    subst (λ (r : ℤ × ℤ). (range_words r ≡ word_at bytes place ∷ word_at bytes (place + 1) ∷ []) × IsNumberRange r.0 r.1) {x = (lo, hi)} (some_is (lo, hi) range step.1) (both, range_true lo hi step.0)

-- so many ranges that words spell
pub record RangesTaken (bytes : List ℕ) (place count : ℕ) (ranges : List (ℤ × ℤ)) : Type 0 where
  pub spelled : flat_map range_words ranges ≡ words_at bytes place (count * 2)
  pub number : length ranges ≡ count
  pub fit : AllByRecursion (λ range. IsNumberRange range.0 range.1) ranges

none_taken : (bytes : List ℕ) (place : ℕ) → RangesTaken bytes place 0 []
none_taken bytes place = record { spelled = refl; number = refl; fit = tt }

one_more : (bytes : List ℕ) (place count : ℕ) (range : ℤ × ℤ) (ranges : List (ℤ × ℤ)) → range_words range ≡ word_at bytes place ∷ word_at bytes (place + 1) ∷ [] → IsNumberRange range.0 range.1 → RangesTaken bytes (place + 2) count ranges → RangesTaken bytes place (suc count) (range ∷ ranges)
one_more bytes place count range ranges first is others =
    let size : 2 + count * 2 ≡ suc count * 2 = omega arith in
    let whole : words_at bytes place 2 ++ words_at bytes (place + 2) (count * 2) ≡ words_at bytes place (suc count * 2) = sym (words_append bytes place 2 (count * 2)) ∙ ap (words_at bytes place) size in
    record {
      spelled = flat_map-cons range_words range ranges ∙ ap (λ (ws : List ℕ). ws ++ flat_map range_words ranges) first ∙ ap (λ (ws : List ℕ). (word_at bytes place ∷ word_at bytes (place + 1) ∷ []) ++ ws) others.spelled ∙ whole;
      number = ap suc others.number;
      fit = (is, others.fit);
    }

ranges_taken : SignedLaws → (bytes : List ℕ) (limit : ℕ) → AreWords bytes limit → (count place : ℕ) (ranges : List (ℤ × ℤ)) → place + 2 * count ≤ limit → ranges_at bytes place count ≡ Ok ranges → RangesTaken bytes place count ranges
unfolding ranges_at
ranges_taken signed bytes limit are zero place ranges room read = subst (RangesTaken bytes place 0) {x = []} (some_is [] ranges read) (none_taken bytes place)
ranges_taken signed bytes limit are (suc count) place ranges room read =
    let a = value_of_step (range_at bytes place) (λ range. ranges_at bytes (place + 2) count >>= λ others. Ok (range ∷ others)) ranges read in
    let b = value_of_step (ranges_at bytes (place + 2) count) (λ others. Ok (a.0 ∷ others)) ranges a.2 in
    let first = range_taken signed bytes place a.0 (are place (omega arith)) (are (place + 1) (omega arith)) a.1 in
    let others : RangesTaken bytes (place + 2) count b.0 = ranges_taken signed bytes limit are count (place + 2) b.0 (omega arith) b.1 in
    subst (RangesTaken bytes place (suc count)) {x = a.0 ∷ b.0} (some_is (a.0 ∷ b.0) ranges b.2) (one_more bytes place count a.0 b.0 first.0 first.1 others)

range_again : SignedLaws → (bytes : List ℕ) (place : ℕ) (range : ℤ × ℤ) → IsNumberRange range.0 range.1 → word_at bytes place ≡ word_of range.0 → word_at bytes (place + 1) ≡ word_of range.1 → range_at bytes place ≡ Ok range
unfolding range_at
range_again signed bytes place range is low high =
    let lo : centred (word_at bytes place) ≡ range.0 = ap centred low ∙ signed.word_centred range.0 (omega (arith, ints, is.low)) (omega (arith, ints, is.rising, is.high)) in
    let hi : centred (word_at bytes (place + 1)) ≡ range.1 = ap centred high ∙ signed.word_centred range.1 (omega (arith, ints, is.low, is.rising)) (omega (arith, ints, is.high)) in
    rw (lo, hi, true_range range.0 range.1 is) refl

ranges_again : SignedLaws → (bytes : List ℕ) (place : ℕ) (ranges : List (ℤ × ℤ)) → AllByRecursion (λ range. IsNumberRange range.0 range.1) ranges → words_at bytes place (length ranges * 2) ≡ flat_map range_words ranges → ranges_at bytes place (length ranges) ≡ Ok ranges
unfolding ranges_at
ranges_again signed bytes place [] all here = refl
ranges_again signed bytes place (range ∷ ranges) all here =
    let size : suc (length ranges) * 2 ≡ 2 + length ranges * 2 = omega arith in
    let parts : words_at bytes place 2 ++ words_at bytes (place + 2) (length ranges * 2) ≡ range_words range ++ flat_map range_words ranges =
    sym (words_append bytes place 2 (length ranges * 2)) ∙ ap (words_at bytes place) (sym size) ∙ here ∙ flat_map-cons range_words range ranges in
    let cut = same_pieces (words_at bytes place 2) (words_at bytes (place + 2) (length ranges * 2)) (range_words range) (flat_map range_words ranges) parts refl in
    let first : range_at bytes place ≡ Ok range = range_again signed bytes place range all.0 (ap (λ (ws : List ℕ). get_or ws 0 0) cut.0) (ap (λ (ws : List ℕ). get_or ws 1 0) cut.0) in
    rw (first, ranges_again signed bytes (place + 2) ranges all.1 cut.1) refl

-- ---- a loop over ranges

-- what was read before, and what is still read
abbrev pub with_front : List (ℤ × ℤ) → Read (List (ℤ × ℤ)) → Read (List (ℤ × ℤ))
with_front front read = read >>= λ others. Ok (front ++ others)

regroup : (front : List (ℤ × ℤ)) (range : ℤ × ℤ) (read : Read (List (ℤ × ℤ))) → with_front front (read >>= λ others. Ok (range ∷ others)) ≡ with_front (front ++ range ∷ []) read
regroup front range (Ok others) = ap (λ (ranges : List (ℤ × ℤ)). Ok ranges) (simp append_assoc)
regroup front range (Err fault) = refl

pub ranges_begin : (read : Read (List (ℤ × ℤ))) → with_front [] read ≡ read
ranges_begin (Ok ranges) = refl
ranges_begin (Err fault) = refl

pub ranges_go_on : (front : List (ℤ × ℤ)) (bytes : List ℕ) (place count i : ℕ) (range : ℤ × ℤ) (total : Read (List (ℤ × ℤ))) → i < count → range_at bytes (place + 2 * i) ≡ Ok range
    → with_front front (ranges_at bytes (place + 2 * i) (count - i)) ≡ total → with_front (front ++ range ∷ []) (ranges_at bytes (place + 2 * (i + 1)) (count - (i + 1))) ≡ total
unfolding ranges_at
ranges_go_on front bytes place count i range total lt found so_far =
    let k : count - i ≡ suc (count - (i + 1)) = omega arith in
    let next : place + 2 * i + 2 ≡ place + 2 * (i + 1) = omega arith in
    let rest : Read (List (ℤ × ℤ)) = ranges_at bytes (place + 2 * (i + 1)) (count - (i + 1)) in
    let one : with_front front (ranges_at bytes (place + 2 * i) (count - i)) ≡ with_front (front ++ range ∷ []) rest = rw (k, found, next) (regroup front range rest) in
    sym one ∙ so_far

pub ranges_end : (refusal : Refusal FileFault) (front : List (ℤ × ℤ)) (bytes : List ℕ) (place count i : ℕ) (total : Read (List (ℤ × ℤ))) → i < count → Refuses refusal (range_at bytes (place + 2 * i))
    → with_front front (ranges_at bytes (place + 2 * i) (count - i)) ≡ total → Refuses refusal total
unfolding ranges_at
ranges_end Memory front bytes place count i total lt failed so_far = tt
ranges_end (Fault fault) front bytes place count i total lt failed so_far =
    let k : count - i ≡ suc (count - (i + 1)) = omega arith in
    let one : with_front front (ranges_at bytes (place + 2 * i) (count - i)) ≡ Err fault = rw (k, failed) refl in
    sym so_far ∙ one

pub ranges_are_done : (front : List (ℤ × ℤ)) (bytes : List ℕ) (place count i : ℕ) (total : Read (List (ℤ × ℤ))) → count ≤ i → with_front front (ranges_at bytes (place + 2 * i) (count - i)) ≡ total → total ≡ Ok front
unfolding ranges_at
ranges_are_done front bytes place count i total le so_far =
    let k : count - i ≡ 0 = omega arith in
    let one : with_front front (ranges_at bytes (place + 2 * i) (count - i)) ≡ Ok front = rw k (ap (λ (ranges : List (ℤ × ℤ)). Ok ranges) (append-nil front)) in
    sym so_far ∙ one

-- ---- whole files

-- what a file that is read has
pub record Taken (bytes : List ℕ) (file : CipherFile) : Type 0 where
  pub digest : digest_in bytes ≡ file.digest
  pub dim : word_at bytes 0 ≡ file.dim
  pub width : word_at bytes 1 ≡ file.width
  pub ranges : ranges_at bytes 3 (word_at bytes 2) ≡ Ok file.ranges
  pub ciphertexts : file.ciphertexts ≡ rows_at bytes (3 + 2 * word_at bytes 2) (word_at bytes 0 + 1) (word_at bytes 2)

parts_taken : (bytes : List ℕ) (file : CipherFile) → cipher_in bytes ≡ Ok file → Taken bytes file
unfolding cipher_in
parts_taken bytes file read =
    let number : ℕ = word_at bytes 2 in
    let made : List (ℤ × ℤ) → CipherFile = λ ranges. record { digest = digest_in bytes; dim = word_at bytes 0; width = word_at bytes 1; ranges = ranges; ciphertexts = rows_at bytes (3 + 2 * number) (word_at bytes 0 + 1) number } in
    let a = value_of_step (ranges_at bytes 3 number) (λ ranges. Ok (made ranges)) file read in
    subst (Taken bytes) {x = made a.0} (some_is (made a.0) file a.2) (record { digest = refl; dim = refl; width = refl; ranges = a.1; ciphertexts = refl })

frame_is : (digest words : List ℕ) (frame : Frame) → frame.digest ≡ digest → frame.words ≡ words → frame ≡ record { digest = digest; words = words }
frame_is digest words frame a b = ap (λ (d : List ℕ). record { digest = d; words = frame.words }) a ∙ ap (λ (ws : List ℕ). record { digest = digest; words = ws }) b

-- rows one after the other
pub rows_words : (bytes : List ℕ) (place size count : ℕ) → flat_map (λ words. words) (rows_at bytes place size count) ≡ words_at bytes place (count * size)
rows_words bytes place size count =
    let at : place + 0 * size ≡ place = omega arith in
    flat_at (λ (r : ℕ). words_at bytes (place + r * size) size) (λ (words : List ℕ). words) bytes place size count 0 (λ i. refl) ∙ ap (λ (p : ℕ). words_at bytes p (count * size)) at

-- the rows lie before a limit
pub row_inside : (place size count limit r : ℕ) → place + count * size ≤ limit → r < count → place + r * size + size ≤ limit
row_inside place size count limit r room inside =
    let here : size ≤ size = omega arith in
    let rows : suc r * size ≤ count * size = mul-le-mul (omega (arith, inside)) here in
    omega (arith, rows, room)

pub rows_fit : (bytes : List ℕ) (limit place size count : ℕ) → AreWords bytes limit → place + count * size ≤ limit → All (All IsWord) (rows_at bytes place size count)
rows_fit bytes limit place size count are room =
    All-map (All IsWord) (λ (r : ℕ). words_at bytes (place + r * size) size) (range_with_len 0 count)
    (λ k d inside.
    let below : k < count = omega (arith, inside, length-range_with_len 0 count) in
    let at : get_or (range_with_len 0 count) k d ≡ 0 + k = get_or-range_with_len 0 count k d below in
    words_fit bytes limit (place + get_or (range_with_len 0 count) k d * size) size are (row_inside place size count limit (get_or (range_with_len 0 count) k d) room (omega (arith, below, at))))

pub rows_long : (bytes : List ℕ) (place size count : ℕ) → All (λ words. length words ≡ size) (rows_at bytes place size count)
rows_long bytes place size count = All-map (λ words. length words ≡ size) (λ (r : ℕ). words_at bytes (place + r * size) size) (range_with_len 0 count) (λ k d inside. length-words_at bytes (place + get_or (range_with_len 0 count) k d * size) size)

pub cipher_taken : SealedLaws → SignedLaws → (bytes : List ℕ) (file : CipherFile) → All (λ byte. byte < 256) bytes → cipher_of bytes ≡ Ok file → IsCipherFile file × (bytes ≡ cipher_bytes file)
unfolding cipher_of
cipher_taken laws signed bytes file all read =
    let step = value_of_step (frame_of Cipher bytes) (λ (frame : Frame). cipher_in bytes) file read in
    let frame : Frame = step.0 in
    let dim : ℕ = word_at bytes 0 in
    let number : ℕ = word_at bytes 2 in
    let limit : ℕ = 3 + (2 * number + number * (dim + 1)) in
    let taken : Taken bytes file = parts_taken bytes file step.2 in
    let is = laws.frames.read Cipher bytes frame all step.1 in
    let digest : frame.digest ≡ file.digest = held_digest laws Cipher bytes frame step.1 ∙ taken.digest in
    let within : AreWithin (header_of Cipher) (header_words Cipher bytes) = laws.reading.header Cipher bytes frame step.1 in
    let words : frame.words ≡ words_at bytes 0 limit = ap (λ (f : Frame). f.words) (laws.reading.all Cipher bytes frame step.1) in
    let are : AreWords bytes limit = are_words bytes limit (subst (All IsWord) words is.0.words) in
    let ranges : RangesTaken bytes 3 number file.ranges = ranges_taken signed bytes limit are number 3 file.ranges (omega arith) taken.ranges in
    let rows : List (List ℕ) = rows_at bytes (3 + 2 * number) (dim + 1) number in
    let at : 3 + 2 * number ≡ 3 + number * 2 = omega arith in
    let size : 2 * number + number * (dim + 1) ≡ number * 2 + number * (dim + 1) = omega arith in
    let spelled : words_at bytes 0 limit ≡ dim ∷ word_at bytes 1 ∷ number ∷ (flat_map range_words file.ranges ++ flat_map (λ words. words) file.ciphertexts) =
    words_append bytes 0 3 (2 * number + number * (dim + 1)) ∙ ap (λ (m : ℕ). dim ∷ word_at bytes 1 ∷ number ∷ words_at bytes 3 m) size
    ∙ ap (λ (ws : List ℕ). dim ∷ word_at bytes 1 ∷ number ∷ ws) (words_append bytes 3 (number * 2) (number * (dim + 1)) ∙ ap (λ (ws : List ℕ). ws ++ words_at bytes (3 + number * 2) (number * (dim + 1))) (sym ranges.spelled)
    ∙ ap (λ (p : ℕ). flat_map range_words file.ranges ++ words_at bytes p (number * (dim + 1))) (sym at) ∙ ap (λ (ws : List ℕ). flat_map range_words file.ranges ++ ws) (sym (rows_words bytes (3 + 2 * number) (dim + 1) number))
    ∙ ap (λ (list : List (List ℕ)). flat_map range_words file.ranges ++ flat_map (λ words. words) list) (sym taken.ciphertexts)) in
    let tail : List ℕ = flat_map range_words file.ranges ++ flat_map (λ words. words) file.ciphertexts in
    let named : dim ∷ word_at bytes 1 ∷ number ∷ tail ≡ (cipher_frame file).words =
    ap (λ (d : ℕ). d ∷ word_at bytes 1 ∷ number ∷ tail) taken.dim ∙ ap (λ (w : ℕ). file.dim ∷ w ∷ number ∷ tail) taken.width ∙ ap (λ (m : ℕ). file.dim ∷ file.width ∷ m ∷ tail) (sym ranges.number) in
    let same : frame ≡ cipher_frame file = frame_is file.digest (cipher_frame file).words frame digest (words ∙ spelled ∙ named) in
    let count : length rows ≡ number = length-map-range_with_len (λ (r : ℕ). words_at bytes (3 + 2 * number + r * (dim + 1)) (dim + 1)) 0 number in (
      record {
        limits = record {
          dim = subst (IsWithin big_dimension) taken.dim within.0;
          width = subst (IsWithin width) taken.width within.1.0;
          number = subst (IsWithin ciphertexts) (sym ranges.number) within.1.1.0;
          ranges = All-from_recursion (λ range. IsNumberRange range.0 range.1) file.ranges ranges.fit;
          count = ap length taken.ciphertexts ∙ count ∙ sym ranges.number;
          lengths = subst (λ (d : ℕ). All (λ words. length words ≡ d + 1) file.ciphertexts) taken.dim (subst (All (λ words. length words ≡ dim + 1)) (sym taken.ciphertexts) (rows_long bytes (3 + 2 * number) (dim + 1) number));
        };
        digest_length = ap length (sym digest) ∙ is.0.digest_length;
        digest = subst (All (λ byte. byte < 256)) digest is.0.digest;
        words = subst (All (All IsWord)) (sym taken.ciphertexts) (rows_fit bytes limit (3 + 2 * number) (dim + 1) number are (omega arith));
      },
      is.1 ∙ ap (frame_bytes Cipher) same,
    )

-- ---- files that are spelled

ranges_long : (ranges : List (ℤ × ℤ)) → AllByRecursion (λ range. length (range_words range) ≡ 2) ranges
ranges_long [] = tt
ranges_long (range ∷ ranges) = (refl, ranges_long ranges)

ranges_words : SignedLaws → (ranges : List (ℤ × ℤ)) → AllByRecursion (λ range. All IsWord (range_words range)) ranges
ranges_words signed [] = tt
ranges_words signed (range ∷ ranges) =
    (All-cons IsWord (word_of range.0) (word_of range.1 ∷ []) (signed.number_word range.0) (All-cons IsWord (word_of range.1) [] (signed.number_word range.1) (λ k d inside. absurd (omega (arith, inside)))), ranges_words signed ranges)

-- how many words the ranges and the ciphertexts have
pub record Sizes (file : CipherFile) : Type 0 where
  pub ranges : length (flat_map range_words file.ranges) ≡ length file.ranges * 2
  pub rows : length (flat_map (λ words. words) file.ciphertexts) ≡ length file.ranges * (file.dim + 1)

sizes_of : (file : CipherFile) → HasCipherLimits file → Sizes file
sizes_of file limits = record {
  ranges = length-flat range_words 2 file.ranges (ranges_long file.ranges);
  rows = length-flat (λ (words : List ℕ). words) (file.dim + 1) file.ciphertexts (recursion_from_All (λ words. length words ≡ file.dim + 1) file.ciphertexts limits.lengths) ∙ ap (λ (m : ℕ). m * (file.dim + 1)) limits.count;
}

is_frame : SignedLaws → (file : CipherFile) → IsCipherFile file → IsFrame Cipher (cipher_frame file)
is_frame signed file is =
    let ranges : List ℕ = flat_map range_words file.ranges in
    let rows : List ℕ = flat_map (λ words. words) file.ciphertexts in
    let number : ℕ = length file.ranges in
    let sizes : Sizes file = sizes_of file is.limits in
    let range_all : All IsWord ranges = flat_words range_words file.ranges (ranges_words signed file.ranges) in
    let row_all : All IsWord rows = flat_words (λ (words : List ℕ). words) file.ciphertexts (recursion_from_All (All IsWord) file.ciphertexts is.words) in
    record {
      digest_length = is.digest_length;
      digest = is.digest;
      header = (is.limits.dim, (is.limits.width, (is.limits.number, tt)));
      number = omega (arith, length-append ranges rows, sizes.ranges, sizes.rows);
      words =
          All-cons IsWord file.dim (file.width ∷ number ∷ (ranges ++ rows)) (omega (arith, is.limits.dim.most))
          (All-cons IsWord file.width (number ∷ (ranges ++ rows)) (omega (arith, is.limits.width.most)) (All-cons IsWord number (ranges ++ rows) (omega (arith, is.limits.number.most)) (All-append IsWord ranges rows range_all row_all)));
    }

-- where all parts are read, the file is
all_read : (bytes : List ℕ) (frame : Frame) (file : CipherFile) → frame_of Cipher bytes ≡ Ok frame → digest_in bytes ≡ file.digest → word_at bytes 0 ≡ file.dim → word_at bytes 1 ≡ file.width → word_at bytes 2 ≡ length file.ranges
    → ranges_at bytes 3 (length file.ranges) ≡ Ok file.ranges → rows_at bytes (3 + 2 * length file.ranges) (file.dim + 1) (length file.ranges) ≡ file.ciphertexts → cipher_of bytes ≡ Ok file
unfolding cipher_of cipher_in
all_read bytes frame file read digest_is dim_is width_is number_is ranges_are rows_are = rw (read, digest_is, dim_is, width_is, number_is, ranges_are, rows_are) refl

pub rows_again : (bytes : List ℕ) (place size : ℕ) (rows : List (List ℕ)) → All (λ words. length words ≡ size) rows → words_at bytes place (length rows * size) ≡ flat_map (λ words. words) rows → rows_at bytes place size (length rows) ≡ rows
rows_again bytes place size rows long here =
    let at : place + 0 * size ≡ place = omega arith in
    again_at (λ (r : ℕ). words_at bytes (place + r * size) size) (λ (words : List ℕ). words) (λ (words : List ℕ). Unit {0}) bytes place size 0 rows (fits rows (recursion_from_All (λ words. length words ≡ size) rows long))
    (λ i words fits same. same) (ap (λ (p : ℕ). words_at bytes p (length rows * size)) at ∙ here)
  where
    fits : (rows : List (List ℕ)) → AllByRecursion (λ words. length words ≡ size) rows → AllByRecursion (λ words. (length words ≡ size) × Unit {0}) rows
    fits [] all = tt
    fits (row ∷ rows) all = ((all.0, tt), fits rows all.1)

pub cipher_again : SealedLaws → SignedLaws → (file : CipherFile) → IsCipherFile file → cipher_of (cipher_bytes file) ≡ Ok file
cipher_again laws signed file is =
    let frame : Frame = cipher_frame file in
    let bytes : List ℕ = cipher_bytes file in
    let number : ℕ = length file.ranges in
    let ranges : List ℕ = flat_map range_words file.ranges in
    let rows : List ℕ = flat_map (λ words. words) file.ciphertexts in
    let sizes : Sizes file = sizes_of file is.limits in
    let read : frame_of Cipher bytes ≡ Ok frame = laws.frames.spelled Cipher frame (is_frame signed file is) in
    let held : Holds bytes frame.words = held_words laws Cipher bytes frame read in
    let dim_is : word_at bytes 0 ≡ file.dim = held_word bytes frame.words 0 held (omega arith) in
    let width_is : word_at bytes 1 ≡ file.width = held_word bytes frame.words 1 held (omega arith) in
    let number_is : word_at bytes 2 ≡ number = held_word bytes frame.words 2 held (omega arith) in
    let front : List ℕ = file.dim ∷ file.width ∷ number ∷ [] in
    let ranges_here : words_at bytes 3 (number * 2) ≡ ranges = ap (words_at bytes 3) (sym sizes.ranges) ∙ held_piece laws bytes front ranges rows held in
    let last : Holds bytes ((front ++ ranges) ++ (rows ++ [])) = subst (λ (ws : List ℕ). Holds bytes (front ++ (ranges ++ ws))) (sym (append-nil rows)) held in
    let at : length (front ++ ranges) ≡ 3 + 2 * number = omega (arith, length-append front ranges, sizes.ranges) in
    let rows_here : words_at bytes (3 + 2 * number) (number * (file.dim + 1)) ≡ rows =
    ap (words_at bytes (3 + 2 * number)) (sym sizes.rows) ∙ ap (λ (p : ℕ). words_at bytes p (length rows)) (sym at) ∙ held_piece laws bytes (front ++ ranges) rows [] last in
    let count : length file.ciphertexts ≡ number = is.limits.count in
    let rows_are : rows_at bytes (3 + 2 * number) (file.dim + 1) number ≡ file.ciphertexts =
    ap (rows_at bytes (3 + 2 * number) (file.dim + 1)) (sym count)
    ∙ rows_again bytes (3 + 2 * number) (file.dim + 1) file.ciphertexts is.limits.lengths (ap (λ (m : ℕ). words_at bytes (3 + 2 * number) (m * (file.dim + 1))) count ∙ rows_here) in
    all_read bytes frame file read (sym (held_digest laws Cipher bytes frame read)) dim_is width_is number_is (ranges_again signed bytes 3 file.ranges (recursion_from_All (λ range. IsNumberRange range.0 range.1) file.ranges is.limits.ranges) ranges_here) rows_are

pub cipher_short : SealedLaws → (file : CipherFile) → IsCipherFile file → length (cipher_bytes file) ≤ 2 ^ 29
cipher_short laws file is =
    let ranges : List ℕ = flat_map range_words file.ranges in
    let rows : List ℕ = flat_map (λ words. words) file.ciphertexts in
    let sizes : Sizes file = sizes_of file is.limits in
    let size = laws.frames.size Cipher (cipher_frame file) is.digest_length in
    let words : file.dim + 1 ≤ 24577 = omega (arith, is.limits.dim.most) in
    let most : length file.ranges * (file.dim + 1) ≤ 64 * 24577 = mul-le-mul is.limits.number.most words in
    omega (arith, size, length-append ranges rows, sizes.ranges, sizes.rows, most, is.limits.number.most)

-- an answer that reading gives has a spelling
pub cipher_valid : {A : Type 0} (view : A → CipherFile) → ((bytes : List ℕ) (file : CipherFile) → All (λ byte. byte < 256) bytes → cipher_of bytes ≡ Ok file → IsCipherFile file × (bytes ≡ cipher_bytes file)) → (bytes : List ℕ) (answer : Result A (Refusal FileFault)) → All (λ byte. byte < 256) bytes → Gives view answer (cipher_of bytes) → IfOk answer (λ read. IsCipherFile (view read))
cipher_valid view laws bytes (Ok read) fits given = (laws bytes (view read) fits given).0
cipher_valid view laws bytes (Err refusal) fits given = tt
