use Rattle.std.proofs.Common.{◌≡◌, take}
use Rattle.glwe_core.specs.Glwe.{lengths_of}
use Rattle.cipher_files.specs.CipherFile.{rows_at}
use Rattle.cipher_files.proofs.eval.read_glwe.Given as goal

-- the first j polynomials are read
abbrev pub invariant-loop-j : goal.invariant-loop-j
invariant-loop-j l = record {
  parts : take l.j l.row ≡ rows_at l.bytes l.place l.n l.j;
  shape : lengths_of l.row ≡ lengths_of l.initial.row;
}
