use Rattle.std.proofs.Common.{◌≡◌, ◌++◌, take}
use Rattle.glwe_core.specs.Glwe.{words_bits}
use Rattle.glwe_core.proofs.key.push_bits.Given as goal

-- the bits of the first words are added
abbrev pub invariant-loop-word : goal.invariant-loop-word
invariant-loop-word l = l.bits.items ≡ l.fn.bits.items ++ words_bits (take l.word-index l.words)
