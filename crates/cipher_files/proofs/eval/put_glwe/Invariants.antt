use Rattle.std.proofs.Common.{◌≡◌, ◌++◌, All, take}
use Rattle.word_ring.specs.Words.{IsWord}
use Rattle.sealed_files.specs.Frame.{words_bytes}
use Rattle.cipher_files.specs.EvalFile.{glwe_words}
use Rattle.cipher_files.proofs.eval.put_glwe.Given as goal

-- the first j parts are put
abbrev pub invariant-loop-j : goal.invariant-loop-j
invariant-loop-j l = record {
  put : l.out.items ≡ l.fn.out.items ++ words_bytes (glwe_words (take l.j l.row));
  words : All (All IsWord) (take l.j l.row);
}
