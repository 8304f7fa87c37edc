use Rattle.std.proofs.Common.{length, None}
use Rattle.fhe_text.specs.Rest.{pieces}
use Rattle.fhe_text.specs.Descent.{argument_entry_at, listed_at}
use Rattle.fhe_text.proofs.Lists.{IsLeft}
use Rattle.fhe_text.proofs.args.argument_entries_at.Given as goal

abbrev pub invariant-loop-after : goal.invariant-loop-after
invariant-loop-after l = IsLeft argument_entry_at l.declared l.after l.fn.rest (listed_at argument_entry_at None (pieces l.fn.rest))

abbrev pub decreases-loop-after : goal.decreases-loop-after
decreases-loop-after l = length l.after.tokens.now
