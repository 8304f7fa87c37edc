use Rattle.std.proofs.Common.{◌-◌, ◌*◌, ◌^◌}
use Rattle.word_ring.specs.Rounding.{mod_switched}
use Rattle.blind_rotate.specs.Bootstrap.{first_accumulator}
use Rattle.blind_rotate.proofs.Steps.{first_rotation}
use Rattle.blind_rotate.proofs.bootstrap.start.Goals as goal

pub returns-clause-words : goal.returns-clause-words
unfolding first_accumulator
returns-clause-words c =
    cc (first_rotation c.laws.ensures.rotations c.args.test.now c.args.log_n (2 * 2 ^ c.args.log_n - mod_switched c.args.body c.args.log_n) c.requires.test)
