use Rattle.std.proofs.Common.{◌≡◌, drop}
use Rattle.cipher_files.specs.CipherFile.{same_ranges}
use Rattle.cipher_files.proofs.matching.same_ranges.Given as goal

abbrev pub invariant-loop-i : goal.invariant-loop-i
invariant-loop-i l = same_ranges (drop l.i l.lefts) (drop l.i l.rights) ≡ same_ranges l.lefts l.rights
