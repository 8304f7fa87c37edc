-- What is read from bytes is spelled by them.
use Rattle.std.proofs.Common.{◌≡◌, ℕ, ◌+◌, ◌-◌, ◌*◌, ◌≤◌, true, ◌==◌, nat_le, List, ◌++◌, length, take, drop, Ok, bytes_eq, sym, ap, ◌∙◌, append_assoc, length-append, arith}
use Rattle.std.proofs.lemmas.Bool.{eqb-true, leb-true}
use Rattle.std.proofs.lemmas.List.{length-take, length-drop, take_at}
use Rattle.std.proofs.lemmas.Slice.Eq.{bytes_eq-Decides}
use Rattle.sha2.specs.Sha256.{sha256}
use Rattle.refusals.specs.Reading.{◌>>=◌, unless}
use Rattle.refusals.specs.Steps.{one_value, value_of_step, test_held}
use Rattle.sealed_files.specs.declared.fault.FileFault.TheVariants.{Magic, Length, Digest}
use Rattle.sealed_files.specs.declared.kinds.FileKind.{FileKind}
use Rattle.sealed_files.specs.Kinds.{magic_of, header_of, AreWithin, word_count, file_size}
use Rattle.sealed_files.specs.Frame.{Frame, front_bytes, words_bytes, frame_bytes, IsFrame}
use Rattle.sealed_files.specs.FrameReading.{Read, words_at, fields_within, header_words, digest_in, is_sealed, frame_in, frame_of}
use Rattle.sealed_files.proofs.WordLemmas.{IsBytes, IsBytes-take, IsBytes-drop, all_bytes, cut, words_cut, words_fit, part_is, length-words_at}
use Rattle.sealed_files.proofs.HeaderLemmas.{header_within, more_within, count_by_header}

-- the checks that bytes went through
pub record Checked (kind : FileKind) (bytes : List ℕ) (frame : Frame) : Type 0 where
  pub room : file_size (length (header_of kind)) ≤ length bytes
  pub magic : take 8 bytes ≡ magic_of kind
  pub header : AreWithin (header_of kind) (header_words kind bytes)
  pub exact : length bytes ≡ file_size (word_count kind (header_words kind bytes))
  pub seal : is_sealed bytes ≡ true
  pub is : frame ≡ frame_in kind bytes

pub checked : (kind : FileKind) (bytes : List ℕ) (frame : Frame) → frame_of kind bytes ≡ Ok frame → Checked kind bytes frame
unfolding frame_of
checked kind bytes frame read =
    let least : ℕ = file_size (length (header_of kind)) in
    let want : ℕ = file_size (word_count kind (header_words kind bytes)) in
    let after_size : Unit {0} → Read Frame = λ _. unless (is_sealed bytes) Digest >>= λ _. Ok (frame_in kind bytes) in
    let after_header : Unit {0} → Read Frame = λ _. unless (length bytes == want) (Length want (length bytes)) >>= after_size in
    let after_magic : Unit {0} → Read Frame = λ _. fields_within 0 (header_of kind) bytes >>= after_header in
    let after_room : Unit {0} → Read Frame = λ _. unless (bytes_eq (take 8 bytes) (magic_of kind)) Magic >>= after_magic in
    let a = test_held (nat_le least (length bytes)) (Length least (length bytes)) after_room frame read in
    let b = test_held (bytes_eq (take 8 bytes) (magic_of kind)) Magic after_magic frame a.1 in
    let c = value_of_step (fields_within 0 (header_of kind) bytes) after_header frame b.1 in
    let d = test_held (length bytes == want) (Length want (length bytes)) after_size frame c.2 in
    let e = test_held (is_sealed bytes) Digest (λ (_ : Unit {0}). Ok (frame_in kind bytes)) frame d.1 in
    let given : Read Frame = Ok frame in
    record {
      room = leb-true least (length bytes) a.0;
      magic = (bytes_eq-Decides (take 8 bytes) (magic_of kind)).0 b.0;
      header = header_within 0 (header_of kind) bytes c.1;
      exact = eqb-true (length bytes) want d.0;
      seal = e.0;
      is = sym (one_value (frame_in kind bytes) given e.1);
    }

-- the bytes are a body with its seal, where the last 32 are the seal of those before
seal_cut : (bytes body : List ℕ) → 32 ≤ length bytes → bytes ≡ body ++ drop (length bytes - 32) bytes → is_sealed bytes ≡ true → bytes ≡ body ++ sha256 body
unfolding is_sealed
seal_cut bytes body long parts sealed =
    let seal : List ℕ = drop (length bytes - 32) bytes in
    let seal_is : seal ≡ sha256 (take (length bytes - 32) bytes) = (bytes_eq-Decides seal (sha256 (take (length bytes - 32) bytes))).0 sealed in
    let len : length body ≡ length bytes - 32 = omega (arith, ap length parts, length-append body seal, length-drop (length bytes - 32) bytes) in
    let body_is : take (length bytes - 32) bytes ≡ body = ap (take (length bytes - 32)) parts ∙ take_at body seal (length bytes - 32) len in
    parts ∙ ap (λ (x : List ℕ). body ++ x) (seal_is ∙ ap sha256 body_is)

-- one piece more of the bytes is known
piece_more : (whole front rest piece after : List ℕ) → whole ≡ front ++ rest → rest ≡ piece ++ after → whole ≡ (front ++ piece) ++ after
piece_more whole front rest piece after e f = e ∙ ap (λ (x : List ℕ). front ++ x) f ∙ sym (append_assoc front piece after)

-- what checked bytes hold is a frame, which spells them
pub frame_taken : (kind : FileKind) (bytes : List ℕ) → IsBytes bytes → Checked kind bytes (frame_in kind bytes) → IsFrame kind (frame_in kind bytes) × (bytes ≡ frame_bytes kind (frame_in kind bytes))
frame_taken kind bytes fits c =
    let fields : ℕ = length (header_of kind) in
    let count : ℕ = word_count kind (header_words kind bytes) in
    let words : List ℕ = words_at bytes 0 count in
    let digest : List ℕ = digest_in bytes in
    let seal : List ℕ = drop (length bytes - 32) bytes in
    let first : bytes ≡ magic_of kind ++ drop 8 bytes = cut 0 8 bytes ∙ ap (λ (front : List ℕ). front ++ drop 8 bytes) c.magic in
    let to_digest : bytes ≡ (magic_of kind ++ digest) ++ drop 40 bytes = piece_more bytes (magic_of kind) (drop 8 bytes) digest (drop 40 bytes) first (cut 8 32 bytes) in
    let room : 40 + 8 * (0 + count) ≤ length bytes = omega (arith, c.exact) in
    let spelled : words_bytes words ≡ take (8 * count) (drop 40 bytes) = words_cut count 0 bytes fits room in
    let at_seal : drop (40 + 8 * count) bytes ≡ seal = ap (λ (n : ℕ). drop n bytes) (omega (arith, c.exact)) in
    let words_here : drop 40 bytes ≡ words_bytes words ++ seal = cut 40 (8 * count) bytes ∙ ap (λ (x : List ℕ). x ++ drop (40 + 8 * count) bytes) (sym spelled) ∙ ap (λ (x : List ℕ). words_bytes words ++ x) at_seal in
    let whole : bytes ≡ (front_bytes kind digest ++ words_bytes words) ++ seal = piece_more bytes (magic_of kind ++ digest) (drop 40 bytes) (words_bytes words) seal to_digest words_here in
    let header : header_words kind bytes ≡ take fields words = sym (part_is bytes 0 fields count (omega arith)) in
    let number : word_count kind words ≡ count = sym (count_by_header kind words) ∙ ap (word_count kind) (sym header) in (
      record {
        digest_length = omega (arith, length-take 32 (drop 8 bytes), length-drop 8 bytes, c.exact);
        digest = all_bytes digest (IsBytes-take 32 (drop 8 bytes) (IsBytes-drop 8 bytes fits));
        header = more_within (header_of kind) bytes 0 count (omega arith) c.header;
        number = length-words_at bytes 0 count ∙ sym number;
        words = words_fit count 0 bytes fits;
      },
      seal_cut bytes (front_bytes kind digest ++ words_bytes words) (omega (arith, c.exact)) whole c.seal,
    )
