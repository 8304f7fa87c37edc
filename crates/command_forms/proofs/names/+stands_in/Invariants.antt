use Rattle.std.proofs.Common.{length}
use Rattle.command_forms.proofs.names.+stands_in.Given as goal

abbrev pub decreases-stands_in : goal.decreases-stands_in
decreases-stands_in a = length a.names.now
