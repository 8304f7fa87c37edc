use Rattle.std.proofs.Common.{length}
use Rattle.fhe_text.specs.Rest.{pieces, HasRoom}
use Rattle.fhe_text.specs.Descent.{next_arg_at, listed_at}
use Rattle.fhe_text.proofs.Lists.{IsLeft}
use Rattle.fhe_text.proofs.args.listed_args_at.Given as goal

abbrev pub invariant-loop-after : goal.invariant-loop-after
invariant-loop-after l = record {
  left : IsLeft next_arg_at (l.names, l.args.items) l.after l.fn.rest (listed_at next_arg_at (l.fn.names, l.fn.args.items) (pieces l.fn.rest));
  room : HasRoom l.names l.after;
}

abbrev pub decreases-loop-after : goal.decreases-loop-after
decreases-loop-after l = length l.after.tokens.now
