use Rattle.std.proofs.Common.{arith, length}
use Rattle.negacyclic.proofs.Joins.{is_second, is_third}
use Rattle.negacyclic.proofs.karatsuba.join.Goals as goal

pub returns-clause-second : goal.returns-clause-second
returns-clause-second c =
    is_second c.laws.ensures.rows (length c.args.second.now) c.loop-i.second c.args.first.now c.args.second.now c.args.third.now c.args.mid_front.now
    (record { first = omega arith; second = omega arith; third = omega arith; fourth = omega arith })
    (omega arith)
    (λ k inside. c.loop-i.invariant.second_done k (omega arith))

pub returns-clause-third : goal.returns-clause-third
returns-clause-third c =
    is_third c.laws.ensures.rows (length c.args.second.now) c.loop-i.third c.args.second.now c.args.third.now c.args.fourth.now c.args.mid_back.now
    (record { first = omega arith; second = omega arith; third = omega arith; fourth = omega arith })
    (omega arith)
    (λ k inside. c.loop-i.invariant.third_done k (omega arith))
