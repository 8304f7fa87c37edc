use Rattle.std.proofs.Common.{◌≡◌, ◌<◌, ℕ, List, All, Ok, sym, subst}
use Rattle.sealed_files.specs.declared.kinds.FileKind.{FileKind}
use Rattle.sealed_files.specs.Frame.{Frame, IsFrame, frame_bytes}
use Rattle.sealed_files.specs.FrameReading.{frame_of}
use Rattle.sealed_files.proofs.WordLemmas.{IsBytes-from_all, part_is}
use Rattle.sealed_files.proofs.FrameTaken.{Checked, checked, frame_taken}
use Rattle.sealed_files.proofs.FrameAgain.{frame_size, frame_again}
use Rattle.sealed_files.proofs.Matches.{digests_are, digest_is, words_are, word_is}
use Rattle.sealed_files.proofs.laws.laws.Goals as goal

taken : (kind : FileKind) (bytes : List ℕ) (frame : Frame) → All (λ byte. byte < 256) bytes → frame_of kind bytes ≡ Ok frame → IsFrame kind frame × (bytes ≡ frame_bytes kind frame)
taken kind bytes frame all read =
    let c : Checked kind bytes frame = checked kind bytes frame read in
    subst (λ (f : Frame). IsFrame kind f × (bytes ≡ frame_bytes kind f)) (sym c.is) (frame_taken kind bytes (IsBytes-from_all bytes all) (subst (Checked kind bytes) c.is c))

pub returns-clause-frames : goal.returns-clause-frames
returns-clause-frames c = record { read = taken; spelled = frame_again; size = frame_size }

pub returns-clause-reading : goal.returns-clause-reading
returns-clause-reading c = record {
  all = λ kind bytes frame read. (checked kind bytes frame read).is;
  header = λ kind bytes frame read. (checked kind bytes frame read).header;
  long = λ kind bytes frame read. (checked kind bytes frame read).exact;
  part = part_is;
}

pub returns-clause-matching : goal.returns-clause-matching
returns-clause-matching c = record { digests = digests_are; same_digests = digest_is; words = words_are; same_words = word_is }
