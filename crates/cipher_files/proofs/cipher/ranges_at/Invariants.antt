use Rattle.std.proofs.Common.{◌≡◌, ◌+◌, ◌-◌, ◌*◌}
use Rattle.cipher_files.specs.CipherFile.{ranges_at}
use Rattle.cipher_files.proofs.CipherTexts.{with_front}
use Rattle.cipher_files.proofs.cipher.ranges_at.Given as goal

-- the ranges that were read, and those that are still read, are all ranges
abbrev pub invariant-loop-i : goal.invariant-loop-i
invariant-loop-i l = with_front l.ranges.items (ranges_at l.bytes (l.place + 2 * l.i) (l.count - l.i)) ≡ ranges_at l.bytes l.place l.count
