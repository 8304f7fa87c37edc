use Rattle.std.proofs.Common.{length}
use Rattle.fhec_cmd.proofs.seed.+has_upper.Given as goal

abbrev pub decreases-has_upper : goal.decreases-has_upper
decreases-has_upper a = length a.word.now
