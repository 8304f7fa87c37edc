use Rattle.std.proofs.Common.{◌≡◌, ◌+◌, ◌^◌, replicate}
use Rattle.std.specs.List.{All}
use Rattle.ggsw_core.specs.Ggsw.{IsGgsw, zero_ggsw}
use Rattle.blind_rotate.proofs.key.BootKey.new.Given as goal

-- so many GGSW ciphertexts whose rows are 0
abbrev pub invariant-loop-bit : goal.invariant-loop-bit
invariant-loop-bit l = record {
  zeros : l.ggsws.items ≡ replicate l._bit (zero_ggsw (l.k + 1) (2 ^ l.log_n) l.base l.level);
  ciphertexts : All IsGgsw l.ggsws.items;
}
