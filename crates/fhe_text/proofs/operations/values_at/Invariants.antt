use Rattle.std.proofs.Common.{length}
use Rattle.fhe_text.specs.Rest.{pieces}
use Rattle.fhe_text.specs.Descent.{next_value_at, values_at}
use Rattle.fhe_text.proofs.Lists.{IsLeft}
use Rattle.fhe_text.proofs.operations.values_at.Given as goal

abbrev pub invariant-loop-after : goal.invariant-loop-after
invariant-loop-after l = IsLeft (next_value_at l.names) l.values.items l.after l.fn.rest (values_at l.names (pieces l.fn.rest))

abbrev pub decreases-loop-after : goal.decreases-loop-after
decreases-loop-after l = length l.after.tokens.now
