use Rattle.std.proofs.Common.{◌≡◌, ◌++◌, take}
use Rattle.lwe_core.specs.Secret.{bit_words}
use Rattle.sealed_files.specs.Frame.{words_bytes}
use Rattle.cipher_files.proofs.secret.put_bits.Given as goal

abbrev pub invariant-loop-i : goal.invariant-loop-i
invariant-loop-i g l = l.out.items ≡ l.fn.out.items ++ words_bytes (bit_words (take l.i l.key))
