use Rattle.std.proofs.Common.{◌≡◌, ◌++◌, All, take}
use Rattle.std.specs.List.{flat_map}
use Rattle.word_ring.specs.Words.{IsWord}
use Rattle.sealed_files.specs.Frame.{words_bytes}
use Rattle.cipher_files.proofs.cipher.put_ciphertexts.Given as goal

abbrev pub invariant-loop-ciphertext : goal.invariant-loop-ciphertext
invariant-loop-ciphertext l = record {
  put : l.out.items ≡ l.fn.out.items ++ words_bytes (flat_map (λ words. words) (take l.ciphertext-index l.list));
  words : All (All IsWord) (take l.ciphertext-index l.list);
}
