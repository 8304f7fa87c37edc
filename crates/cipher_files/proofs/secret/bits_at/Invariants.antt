use Rattle.std.proofs.Common.{◌≡◌, ◌+◌, ◌-◌}
use Rattle.cipher_files.specs.SecretFile.{bits_at}
use Rattle.cipher_files.proofs.SecretTexts.{with_front}
use Rattle.cipher_files.proofs.secret.bits_at.Given as goal

-- the bits that were read, and those that are still read, are all bits
abbrev pub invariant-loop-i : goal.invariant-loop-i
invariant-loop-i l = with_front l.bits.items (bits_at l.bytes (l.place + l.i) (l.count - l.i)) ≡ bits_at l.bytes l.place l.count
