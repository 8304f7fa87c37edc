use Rattle.std.proofs.Common.{◌≡◌, ℕ, ◌||◌, false, take, length, get_or}
use Rattle.std.specs.List.{list_any}
use Rattle.std.specs.Prelude.{◌==◌}
use Rattle.ap_level.specs.Operations.{operands_of}
use Rattle.live_patterns.proofs.live.mark.Given as goal

-- the operands so far are marked
abbrev pub invariant-loop-at : goal.invariant-loop-at
invariant-loop-at l = record {
  marks : (number : ℕ) → get_or l.used.items number false
      ≡ (get_or l.fn.used.items number false || list_any (λ operand. operand == number) (take l.at (operands_of l.op)));
  length : length l.used.items ≡ length l.fn.used.items;
}
