-- Secret keys are read from their files, and their files from them.
use Rattle.std.proofs.Common.{◌≡◌, ℕ, zero, suc, ◌+◌, ◌<◌, ◌≤◌, ◌-◌, ◌^◌, ◌==◌, nat_le, append_assoc, Bool, true, false, List, [], ◌∷◌, ◌++◌, length, get_or, All, Result, Ok, Err, refl, sym, ap, subst, ◌∙◌, length-append, arith}
use Rattle.std.specs.Prelude.{IfOk}
use Rattle.std.proofs.lemmas.Bool.{leb-true, le-leb}
use Rattle.std.proofs.lemmas.List.{append-nil, length-map}
use Rattle.std.proofs.lemmas.List.Elements.{All-cons, All-append, All-map}
use Rattle.refusals.specs.declared.refusal.Refusal.{Refusal}
use Rattle.refusals.specs.declared.refusal.Refusal.TheVariants.{Fault, Memory}
use Rattle.refusals.specs.Reading.{◌>>=◌, Refuses, Gives}
use Rattle.refusals.specs.Steps.{one_value, value_of_step, test_held}
use Rattle.word_ring.specs.Words.{IsWord}
use Rattle.lwe_core.specs.Secret.{bit_word, bit_words}
use Rattle.sealed_files.specs.declared.fault.FileFault.{FileFault}
use Rattle.sealed_files.specs.declared.fault.FileFault.TheVariants.{Field}
use Rattle.sealed_files.specs.declared.kinds.FileKind.TheVariants.{Secret}
use Rattle.sealed_files.specs.Kinds.{IsWithin, small_dimension, big_dimension, header_of, AreWithin}
use Rattle.sealed_files.specs.Frame.{Frame, IsFrame, frame_bytes}
use Rattle.sealed_files.specs.FrameReading.{Read, word_at, words_at, header_words, digest_in, frame_of}
use Rattle.cipher_files.specs.SecretFile.{SecretFile, secret_file, secret_frame, secret_bytes, IsSecretFile, bit_at, bits_at, secret_in, secret_of}
use Rattle.cipher_files.proofs.Pieces.{SealedLaws, Holds, words_append, same_pieces, length-words_at, held_words, held_digest, held_word, held_piece}

some_is : {A : Type 0} (x y : A) → ◌≡◌ {A = Read A} (Ok x) (Ok y) → x ≡ y
some_is {A = A} x y e = let read : Read A = Ok y in one_value x read e

-- a number up to 1 is the word of its bit
bit_again : (w : ℕ) → w ≤ 1 → bit_word (w == 1) ≡ w
bit_again zero few = refl
bit_again (suc zero) few = refl
bit_again (suc (suc w)) few = absurd (omega arith)

bit_back : (bit : Bool) → (bit_word bit == 1) ≡ bit
bit_back true = refl
bit_back false = refl

bit_few : (bit : Bool) → bit_word bit ≤ 1
bit_few true = omega arith
bit_few false = omega arith

bit_taken : (bytes : List ℕ) (place : ℕ) (bit : Bool) → bit_at bytes place ≡ Ok bit → bit_word bit ≡ word_at bytes place
unfolding bit_at
bit_taken bytes place bit read =
    let word : ℕ = word_at bytes place in
    let value : Bool = word == 1 in
    let step = test_held (nat_le word 1) (Field place) (λ (small : Unit {0}). Ok value) bit read in
    ap bit_word (sym (some_is value bit step.1)) ∙ bit_again word (leb-true word 1 step.0)

bits_taken : (bytes : List ℕ) (place count : ℕ) (bits : List Bool) → bits_at bytes place count ≡ Ok bits → bit_words bits ≡ words_at bytes place count
unfolding bits_at
bits_taken bytes place zero bits read = ap bit_words (sym (some_is [] bits read))
bits_taken bytes place (suc count) bits read =
    let a = value_of_step (bit_at bytes place) (λ bit. bits_at bytes (place + 1) count >>= λ others. Ok (bit ∷ others)) bits read in
    let b = value_of_step (bits_at bytes (place + 1) count) (λ others. Ok (a.0 ∷ others)) bits a.2 in
    ap bit_words (sym (some_is (a.0 ∷ b.0) bits b.2)) ∙ ap (λ (w : ℕ). w ∷ bit_words b.0) (bit_taken bytes place a.0 a.1) ∙ ap (λ (ws : List ℕ). word_at bytes place ∷ ws) (bits_taken bytes (place + 1) count b.0 b.1)

bits_again : (bytes : List ℕ) (place : ℕ) (bits : List Bool) → words_at bytes place (length bits) ≡ bit_words bits → bits_at bytes place (length bits) ≡ Ok bits
unfolding bits_at bit_at
bits_again bytes place [] here = refl
bits_again bytes place (bit ∷ bits) here =
    let first : word_at bytes place ≡ bit_word bit = ap (λ (ws : List ℕ). get_or ws 0 0) here in
    let others : words_at bytes (place + 1) (length bits) ≡ bit_words bits = (same_pieces (word_at bytes place ∷ []) (words_at bytes (place + 1) (length bits)) (bit_word bit ∷ []) (bit_words bits) here refl).1 in
    rw (first, le-leb (bit_word bit) 1 (bit_few bit), bits_again bytes (place + 1) bits others, bit_back bit) refl

-- ---- a loop over bits

-- what was read before, and what is still read
abbrev pub with_front : List Bool → Read (List Bool) → Read (List Bool)
with_front front read = read >>= λ others. Ok (front ++ others)

regroup : (front : List Bool) (bit : Bool) (read : Read (List Bool)) → with_front front (read >>= λ others. Ok (bit ∷ others)) ≡ with_front (front ++ bit ∷ []) read
regroup front bit (Ok others) = ap (λ (bits : List Bool). Ok bits) (simp append_assoc)
regroup front bit (Err fault) = refl

pub bits_begin : (read : Read (List Bool)) → with_front [] read ≡ read
bits_begin (Ok bits) = refl
bits_begin (Err fault) = refl

pub bits_go_on : (front : List Bool) (bytes : List ℕ) (place count i : ℕ) (bit : Bool) (total : Read (List Bool)) → i < count → bit_at bytes (place + i) ≡ Ok bit
    → with_front front (bits_at bytes (place + i) (count - i)) ≡ total → with_front (front ++ bit ∷ []) (bits_at bytes (place + (i + 1)) (count - (i + 1))) ≡ total
unfolding bits_at
bits_go_on front bytes place count i bit total lt found so_far =
    let k : count - i ≡ suc (count - (i + 1)) = omega arith in
    let next : place + i + 1 ≡ place + (i + 1) = omega arith in
    let rest : Read (List Bool) = bits_at bytes (place + (i + 1)) (count - (i + 1)) in
    let one : with_front front (bits_at bytes (place + i) (count - i)) ≡ with_front (front ++ bit ∷ []) rest = rw (k, found, next) (regroup front bit rest) in
    sym one ∙ so_far

pub bits_end : (refusal : Refusal FileFault) (front : List Bool) (bytes : List ℕ) (place count i : ℕ) (total : Read (List Bool)) → i < count → Refuses refusal (bit_at bytes (place + i))
    → with_front front (bits_at bytes (place + i) (count - i)) ≡ total → Refuses refusal total
unfolding bits_at
bits_end Memory front bytes place count i total lt failed so_far = tt
bits_end (Fault fault) front bytes place count i total lt failed so_far =
    let k : count - i ≡ suc (count - (i + 1)) = omega arith in
    let one : with_front front (bits_at bytes (place + i) (count - i)) ≡ Err fault = rw (k, failed) refl in
    sym so_far ∙ one

pub bits_are_done : (front : List Bool) (bytes : List ℕ) (place count i : ℕ) (total : Read (List Bool)) → count ≤ i → with_front front (bits_at bytes (place + i) (count - i)) ≡ total → total ≡ Ok front
unfolding bits_at
bits_are_done front bytes place count i total le so_far =
    let k : count - i ≡ 0 = omega arith in
    let one : with_front front (bits_at bytes (place + i) (count - i)) ≡ Ok front = rw k (ap (λ (bits : List Bool). Ok bits) (append-nil front)) in
    sym so_far ∙ one

-- ---- whole files

-- what a file that is read has
pub record Taken (bytes : List ℕ) (file : SecretFile) : Type 0 where
  pub small : bit_words file.small ≡ words_at bytes 2 (word_at bytes 0)
  pub big : bit_words file.big ≡ words_at bytes (2 + word_at bytes 0) (word_at bytes 1)
  pub digest : digest_in bytes ≡ file.digest

parts_taken : (bytes : List ℕ) (file : SecretFile) → secret_in bytes ≡ Ok file → Taken bytes file
unfolding secret_in
parts_taken bytes file read =
    let n : ℕ = word_at bytes 0 in
    let dim : ℕ = word_at bytes 1 in
    let made : List Bool → List Bool → SecretFile = secret_file (digest_in bytes) in
    let a = value_of_step (bits_at bytes 2 n) (λ small. bits_at bytes (2 + n) dim >>= λ big. Ok (made small big)) file read in
    let b = value_of_step (bits_at bytes (2 + n) dim) (λ big. Ok (made a.0 big)) file a.2 in
    subst (Taken bytes) {x = made a.0 b.0} (some_is (made a.0 b.0) file b.2) (record { small = bits_taken bytes 2 n a.0 a.1; big = bits_taken bytes (2 + n) dim b.0 b.1; digest = refl })

length-bits : (bits : List Bool) (words : List ℕ) → bit_words bits ≡ words → length bits ≡ length words
length-bits bits words same = sym (length-map bits bit_word) ∙ ap length same

frame_is : (digest : List ℕ) (words other : List ℕ) (frame : Frame) → frame.digest ≡ digest → frame.words ≡ words → frame ≡ record { digest = digest; words = words }
frame_is digest words other frame a b = ap (λ (d : List ℕ). record { digest = d; words = frame.words }) a ∙ ap (λ (ws : List ℕ). record { digest = digest; words = ws }) b

pub secret_taken : SealedLaws → (bytes : List ℕ) (file : SecretFile) → All (λ byte. byte < 256) bytes → secret_of bytes ≡ Ok file → IsSecretFile file × (bytes ≡ secret_bytes file)
unfolding secret_of
secret_taken laws bytes file all read =
    let step = value_of_step (frame_of Secret bytes) (λ (frame : Frame). secret_in bytes) file read in
    let frame : Frame = step.0 in
    let n : ℕ = word_at bytes 0 in
    let dim : ℕ = word_at bytes 1 in
    let taken : Taken bytes file = parts_taken bytes file step.2 in
    let is = laws.frames.read Secret bytes frame all step.1 in
    let digest : frame.digest ≡ file.digest = held_digest laws Secret bytes frame step.1 ∙ taken.digest in
    let within : AreWithin (header_of Secret) (header_words Secret bytes) = laws.reading.header Secret bytes frame step.1 in
    let small_long : length file.small ≡ n = length-bits file.small (words_at bytes 2 n) taken.small ∙ length-words_at bytes 2 n in
    let big_long : length file.big ≡ dim = length-bits file.big (words_at bytes (2 + n) dim) taken.big ∙ length-words_at bytes (2 + n) dim in
    let words : frame.words ≡ words_at bytes 0 (2 + (n + dim)) = ap (λ (f : Frame). f.words) (laws.reading.all Secret bytes frame step.1) in
    let spelled : words_at bytes 0 (2 + (n + dim)) ≡ length file.small ∷ length file.big ∷ (bit_words file.small ++ bit_words file.big) =
    words_append bytes 0 2 (n + dim) ∙ ap (λ (ws : List ℕ). n ∷ dim ∷ ws) (words_append bytes 2 n dim)
    ∙ ap (λ (ws : List ℕ). n ∷ dim ∷ (ws ++ words_at bytes (2 + n) dim)) (sym taken.small) ∙ ap (λ (ws : List ℕ). n ∷ dim ∷ (bit_words file.small ++ ws)) (sym taken.big)
    ∙ ap (λ (m : ℕ). m ∷ dim ∷ (bit_words file.small ++ bit_words file.big)) (sym small_long) ∙ ap (λ (m : ℕ). length file.small ∷ m ∷ (bit_words file.small ++ bit_words file.big)) (sym big_long) in
    let same : frame ≡ secret_frame file = frame_is file.digest (secret_frame file).words [] frame digest (words ∙ spelled) in (
      record {
        digest_length = ap length (sym digest) ∙ is.0.digest_length;
        digest = subst (All (λ byte. byte < 256)) digest is.0.digest;
        limits = record { small = subst (IsWithin small_dimension) (sym small_long) within.0; big = subst (IsWithin big_dimension) (sym big_long) within.1.0 };
      },
      is.1 ∙ ap (frame_bytes Secret) same,
    )

bits_words : (bits : List Bool) → All IsWord (bit_words bits)
bits_words bits = All-map IsWord bit_word bits (λ k d inside. omega (arith, bit_few (get_or bits k d)))

is_frame : (file : SecretFile) → IsSecretFile file → IsFrame Secret (secret_frame file)
is_frame file is =
    let n : ℕ = length file.small in
    let dim : ℕ = length file.big in
    let bits : List ℕ = bit_words file.small ++ bit_words file.big in
    record {
      digest_length = is.digest_length;
      digest = is.digest;
      header = (is.limits.small, (is.limits.big, tt));
      number = omega (arith, length-append (bit_words file.small) (bit_words file.big), length-map file.small bit_word, length-map file.big bit_word);
      words = All-cons IsWord n (dim ∷ bits) (omega (arith, is.limits.small.most)) (All-cons IsWord dim bits (omega (arith, is.limits.big.most)) (All-append IsWord (bit_words file.small) (bit_words file.big) (bits_words file.small) (bits_words file.big)));
    }

-- where all parts are read, the file is
all_read : (bytes : List ℕ) (frame : Frame) (small big : List Bool) (digest : List ℕ) → frame_of Secret bytes ≡ Ok frame → digest_in bytes ≡ digest → word_at bytes 0 ≡ length small → word_at bytes 1 ≡ length big
    → bits_at bytes 2 (length small) ≡ Ok small → bits_at bytes (2 + length small) (length big) ≡ Ok big → secret_of bytes ≡ Ok (secret_file digest small big)
unfolding secret_of secret_in
all_read bytes frame small big digest read digest_is n_is dim_is small_is big_is = rw (read, n_is, dim_is, small_is, big_is, digest_is) refl

pub secret_again : SealedLaws → (file : SecretFile) → IsSecretFile file → secret_of (secret_bytes file) ≡ Ok file
secret_again laws file is =
    let frame : Frame = secret_frame file in
    let bytes : List ℕ = secret_bytes file in
    let n : ℕ = length file.small in
    let dim : ℕ = length file.big in
    let small : List ℕ = bit_words file.small in
    let big : List ℕ = bit_words file.big in
    let read : frame_of Secret bytes ≡ Ok frame = laws.frames.spelled Secret frame (is_frame file is) in
    let held : Holds bytes frame.words = held_words laws Secret bytes frame read in
    let n_is : word_at bytes 0 ≡ n = held_word bytes frame.words 0 held (omega arith) in
    let dim_is : word_at bytes 1 ≡ dim = held_word bytes frame.words 1 held (omega arith) in
    let small_here : words_at bytes 2 n ≡ small = ap (words_at bytes 2) (sym (length-map file.small bit_word)) ∙ held_piece laws bytes (n ∷ dim ∷ []) small big held in
    let last : Holds bytes ((n ∷ dim ∷ small) ++ (big ++ [])) = subst (λ (ws : List ℕ). Holds bytes (n ∷ dim ∷ (small ++ ws))) (sym (append-nil big)) held in
    let at : 2 + length small ≡ 2 + n = ap (λ (m : ℕ). 2 + m) (length-map file.small bit_word) in
    let front : length (n ∷ dim ∷ small) ≡ 2 + length small = omega arith in
    let big_here : words_at bytes (2 + n) dim ≡ big =
    ap (words_at bytes (2 + n)) (sym (length-map file.big bit_word)) ∙ ap (λ (p : ℕ). words_at bytes p (length big)) (sym (front ∙ at)) ∙ held_piece laws bytes (n ∷ dim ∷ small) big [] last in
    all_read bytes frame file.small file.big file.digest read (sym (held_digest laws Secret bytes frame read)) n_is dim_is (bits_again bytes 2 file.small small_here) (bits_again bytes (2 + n) file.big big_here)

pub secret_short : SealedLaws → (file : SecretFile) → IsSecretFile file → length (secret_bytes file) ≤ 2 ^ 29
secret_short laws file is =
    let size = laws.frames.size Secret (secret_frame file) is.digest_length in
    omega (arith, size, is.limits.small.most, is.limits.big.most, length-append (bit_words file.small) (bit_words file.big), length-map file.small bit_word, length-map file.big bit_word)

-- an answer that reading gives has a spelling
pub secret_valid : {A : Type 0} (view : A → SecretFile) → ((bytes : List ℕ) (file : SecretFile) → All (λ byte. byte < 256) bytes → secret_of bytes ≡ Ok file → IsSecretFile file × (bytes ≡ secret_bytes file)) → (bytes : List ℕ) (answer : Result A (Refusal FileFault)) → All (λ byte. byte < 256) bytes → Gives view answer (secret_of bytes) → IfOk answer (λ read. IsSecretFile (view read))
secret_valid view laws bytes (Ok read) fits given = (laws bytes (view read) fits given).0
secret_valid view laws bytes (Err refusal) fits given = tt
