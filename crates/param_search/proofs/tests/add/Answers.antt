use Rattle.std.proofs.Common.{◌<◌, ◌≤◌, length, arith, All, rules}
use Rattle.std.proofs.lemmas.List.{take_all}
use Rattle.std.proofs.lemmas.List.Elements.{All-more}
use Rattle.tfhe_level.specs.Operations.{operands_of}
use Rattle.param_search.proofs.tests.add.Goals as goal

pub loop-at-preserved : goal.loop-at-preserved
loop-at-preserved g c =
    let operands = operands_of c.args.op in
    let within : c.loop-at.at < length operands = omega (arith, c.loop-at-test.true, c.arity-arity.ensures) in
    All-more (λ operand. operand < c.node_count-count.result) operands c.loop-at.at 0 within c.loop-at.invariant (omega (arith, c.operand.ensures))

pub push-requires-clause-earlier : goal.push-requires-clause-earlier
push-requires-clause-earlier g c =
    let operands = operands_of c.args.op in
    let whole : length operands ≤ c.loop-at.at = omega (arith, c.loop-at-test.false, c.arity-arity.ensures) in
    rw (← c.node_count-count.ensures, ← take_all c.loop-at.at operands whole) c.loop-at.invariant
