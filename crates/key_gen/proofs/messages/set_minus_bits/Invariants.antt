use Rattle.std.proofs.Common.{◌≡◌, ℕ, ◌+◌, ◌<◌, false, length, get_or}
use Rattle.word_ring.specs.Words.{word_negation}
use Rattle.lwe_core.specs.Secret.{bit_word}
use Rattle.key_gen.proofs.messages.set_minus_bits.Given as goal

-- the coefficients below the index are minus bits of the key
abbrev pub invariant-loop-i : goal.invariant-loop-i
invariant-loop-i l = record {
  done : (m : ℕ) → m < l.i → get_or l.out m 0 ≡ word_negation (bit_word (get_or l.key (l.at + m) false));
  long : length l.out ≡ length l.initial.out;
}
