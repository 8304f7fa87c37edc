use Rattle.std.proofs.Common.{◌≡◌, ◌++◌, All, take}
use Rattle.std.specs.List.{flat_map}
use Rattle.word_ring.specs.Words.{IsWord}
use Rattle.sealed_files.specs.Frame.{words_bytes}
use Rattle.cipher_files.specs.EvalFile.{ggsw_words}
use Rattle.cipher_files.proofs.eval.put_boot.Given as goal

-- the first i GGSW ciphertexts are put
abbrev pub invariant-loop-i : goal.invariant-loop-i
invariant-loop-i l = record {
  put : l.out.items ≡ l.fn.out.items ++ words_bytes (flat_map ggsw_words (take l.i l.key.ggsws));
  words : All (λ g. All (All (All IsWord)) g.rows) (take l.i l.key.ggsws);
}
