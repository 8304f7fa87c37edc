use Rattle.std.proofs.Common.{length}
use Rattle.fhe_text.specs.Rest.{pieces}
use Rattle.fhe_text.specs.Descent.{operation_entry_at, listed_at}
use Rattle.fhe_text.proofs.Lists.{IsLeft}
use Rattle.fhe_text.proofs.operations.operation_entries_at.Given as goal

abbrev pub invariant-loop-after : goal.invariant-loop-after
invariant-loop-after l = IsLeft operation_entry_at tt l.after l.fn.rest (listed_at operation_entry_at tt (pieces l.fn.rest))

abbrev pub decreases-loop-after : goal.decreases-loop-after
decreases-loop-after l = length l.after.tokens.now
