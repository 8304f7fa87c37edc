use Rattle.std.proofs.Common.{◌≡◌, drop}
use Rattle.sealed_files.specs.Kinds.{header_of}
use Rattle.sealed_files.specs.FrameReading.{fields_within}
use Rattle.sealed_files.proofs.reader.fields_within.Given as goal

abbrev pub invariant-loop-place : goal.invariant-loop-place
invariant-loop-place l = fields_within l.place (drop l.place (header_of l.fn.kind)) l.bytes ≡ fields_within 0 (header_of l.fn.kind) l.bytes
