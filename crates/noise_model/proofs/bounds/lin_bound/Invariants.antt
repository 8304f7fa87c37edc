use Rattle.std.proofs.Common.{◌≡◌, ◌≤◌, ◌*◌, ◌^◌, take, get_or}
use Rattle.std.specs.Prelude.{unsigned_abs}
use Rattle.std.specs.List.{sum_by}
use Rattle.noise_model.specs.Bounds.{capped}
use Rattle.noise_model.proofs.bounds.lin_bound.Given as goal

-- the terms so far are added up
abbrev pub invariant-loop-term : goal.invariant-loop-term
invariant-loop-term l = record {
  total : l.total ≡ capped (sum_by (λ t. unsigned_abs t.1 * get_or l.bounds t.0 0) (take l.term-index l.terms));
  most : l.total ≤ 2 ^ 64;
}
