-- What is spelled is read again.
use Rattle.std.proofs.Common.{◌≡◌, ℕ, ◌-◌, ◌≤◌, true, ◌==◌, nat_le, List, ◌++◌, length, take, drop, Ok, bytes_eq, refl, sym, ap, subst, ◌∙◌, append_assoc, length-append, arith}
use Rattle.std.proofs.lemmas.Bool.{eq-eqb, le-leb}
use Rattle.std.proofs.lemmas.List.{take_at, drop_at}
use Rattle.std.proofs.lemmas.Slice.Eq.{bytes_eq-Decides}
use Rattle.sha2.specs.Sha256.{sha256, digest_bytes}
use Rattle.sealed_files.specs.declared.kinds.FileKind.{FileKind}
use Rattle.sealed_files.specs.declared.kinds.HeaderField.{HeaderField}
use Rattle.sealed_files.specs.Kinds.{magic_of, header_of, AreWithin, word_count, file_size}
use Rattle.sealed_files.specs.Frame.{Frame, front_bytes, words_bytes, frame_bytes, IsFrame}
use Rattle.sealed_files.specs.FrameReading.{Read, words_at, fields_within, header_words, digest_in, is_sealed, frame_in, frame_of}
use Rattle.sealed_files.proofs.WordLemmas.{next_is, words_again, part_is, length-words_bytes}
use Rattle.sealed_files.proofs.HeaderLemmas.{header_again, first_within, fields_few, length-magic_of, count_by_header}

pub length-sha256 : (message : List ℕ) → length (sha256 message) ≡ 32
unfolding sha256 digest_bytes
length-sha256 message = refl

-- how many bytes there are
pub frame_size : (kind : FileKind) (frame : Frame) → length frame.digest ≡ 32 → length (frame_bytes kind frame) ≡ file_size (length frame.words)
frame_size kind frame digest =
    let front : List ℕ = front_bytes kind frame.digest in
    let words : List ℕ = words_bytes frame.words in
    let seal : List ℕ = sha256 (front ++ words) in
    omega (arith, length-append (front ++ words) seal, length-append front words, length-append (magic_of kind) frame.digest, length-magic_of kind, length-words_bytes frame.words, length-sha256 (front ++ words))

sealed_again : (body : List ℕ) → is_sealed (body ++ sha256 body) ≡ true
unfolding is_sealed
sealed_again body =
    let bytes : List ℕ = body ++ sha256 body in
    let len : length body ≡ length bytes - 32 = omega (arith, length-append body (sha256 body), length-sha256 body) in
    let seal_is : drop (length bytes - 32) bytes ≡ sha256 body = drop_at body (sha256 body) (length bytes - 32) len in
    let body_is : take (length bytes - 32) bytes ≡ body = take_at body (sha256 body) (length bytes - 32) len in
    rw (seal_is, body_is) ((bytes_eq-Decides (sha256 body) (sha256 body)).1 refl)

-- where all checks hold, the file is read
all_held : (kind : FileKind) (bytes : List ℕ) → nat_le (file_size (length (header_of kind))) (length bytes) ≡ true → bytes_eq (take 8 bytes) (magic_of kind) ≡ true → fields_within 0 (header_of kind) bytes ≡ Ok tt
    → (length bytes == file_size (word_count kind (header_words kind bytes))) ≡ true → is_sealed bytes ≡ true → frame_of kind bytes ≡ Ok (frame_in kind bytes)
unfolding frame_of
all_held kind bytes room magic header exact seal = rw (room, magic, header, exact, seal) refl

same_frame : (digest digest' words words' : List ℕ) → digest ≡ digest' → words ≡ words' → ◌≡◌ {A = Read Frame} (Ok (record { digest = digest; words = words })) (Ok (record { digest = digest'; words = words' }))
same_frame digest digest' words words' e f = rw (e, f) refl

pub frame_again : (kind : FileKind) (frame : Frame) → IsFrame kind frame → frame_of kind (frame_bytes kind frame) ≡ Ok frame
frame_again kind frame is =
    let bytes : List ℕ = frame_bytes kind frame in
    let fields : List HeaderField = header_of kind in
    let words : List ℕ = words_bytes frame.words in
    let body : List ℕ = front_bytes kind frame.digest ++ words in
    let seal : List ℕ = sha256 body in
    let count : ℕ = length frame.words in
    let size : length bytes ≡ file_size count = frame_size kind frame is.digest_length in
    let few : length fields ≤ count = fields_few fields frame.words is.header in
    let parts : bytes ≡ magic_of kind ++ (frame.digest ++ (words ++ seal)) = simp append_assoc in
    let magic = next_is 0 8 bytes (magic_of kind) (frame.digest ++ (words ++ seal)) parts (length-magic_of kind) in
    let digest = next_is 8 32 bytes frame.digest (words ++ seal) magic.1 is.digest_length in
    let read : words_at bytes 0 count ≡ frame.words = words_again frame.words seal bytes 0 is.words digest.1 in
    let header : header_words kind bytes ≡ take (length fields) frame.words = sym (part_is bytes 0 (length fields) count (omega (arith, few))) ∙ ap (take (length fields)) read in
    let number : word_count kind (header_words kind bytes) ≡ count = ap (word_count kind) header ∙ count_by_header kind frame.words ∙ sym is.number in
    let within : AreWithin fields (header_words kind bytes) = subst (AreWithin fields) (sym header) (first_within fields frame.words is.header) in
    let held = all_held kind bytes (le-leb (file_size (length fields)) (length bytes) (omega arith)) ((bytes_eq-Decides (take 8 bytes) (magic_of kind)).1 magic.0) (header_again 0 fields bytes within)
    (eq-eqb (length bytes) (file_size (word_count kind (header_words kind bytes))) (size ∙ ap file_size (sym number))) (sealed_again body) in
    let all : words_at bytes 0 (word_count kind (header_words kind bytes)) ≡ frame.words = ap (words_at bytes 0) number ∙ read in
    held ∙ same_frame (digest_in bytes) frame.digest (words_at bytes 0 (word_count kind (header_words kind bytes))) frame.words digest.0 all
