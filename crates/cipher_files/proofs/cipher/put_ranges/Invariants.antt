use Rattle.std.proofs.Common.{◌≡◌, ◌++◌, take}
use Rattle.std.specs.List.{flat_map}
use Rattle.sealed_files.specs.Frame.{words_bytes}
use Rattle.cipher_files.specs.CipherFile.{range_words}
use Rattle.cipher_files.proofs.cipher.put_ranges.Given as goal

abbrev pub invariant-loop-range : goal.invariant-loop-range
invariant-loop-range l = l.out.items ≡ l.fn.out.items ++ words_bytes (flat_map range_words (take l.range-index l.ranges))
