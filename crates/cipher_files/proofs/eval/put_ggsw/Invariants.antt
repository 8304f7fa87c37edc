use Rattle.std.proofs.Common.{◌≡◌, ◌++◌, All, take}
use Rattle.std.specs.List.{flat_map}
use Rattle.word_ring.specs.Words.{IsWord}
use Rattle.sealed_files.specs.Frame.{words_bytes}
use Rattle.cipher_files.specs.EvalFile.{glwe_words}
use Rattle.cipher_files.proofs.eval.put_ggsw.Given as goal

-- the first r rows are put
abbrev pub invariant-loop-r : goal.invariant-loop-r
invariant-loop-r l = record {
  put : l.out.items ≡ l.fn.out.items ++ words_bytes (flat_map glwe_words (take l.r l.g.rows));
  words : All (All (All IsWord)) (take l.r l.g.rows);
}
