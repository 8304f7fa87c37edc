use Rattle.std.proofs.Common.{◌+◌, ◌*◌}
use Rattle.fhe_params.specs.Params.{big_dimension}
use Rattle.sealed_files.specs.FrameReading.{words_at}
use Rattle.cipher_files.proofs.Written.{AreWritten}
use Rattle.cipher_files.proofs.eval.switch_in.Given as goal

-- the first r rows are read
abbrev pub invariant-loop-r : goal.invariant-loop-r
invariant-loop-r l =
    let n = l.params.lwe.n in
    AreWritten (λ r. words_at l.bytes (5 + r * (n + 1)) (n + 1)) (big_dimension l.params) n l.params.switch.base l.params.switch.level l.r l.key l.row
