use Rattle.std.proofs.Common.{◌≡◌, ◌+◌}
use Rattle.cipher_files.specs.CipherFile.{rows_at}
use Rattle.cipher_files.proofs.cipher.ciphertexts_at.Given as goal

-- the first i rows are read
abbrev pub invariant-loop-i : goal.invariant-loop-i
invariant-loop-i l = l.list.items ≡ rows_at l.bytes l.place (l.dim + 1) l.i
