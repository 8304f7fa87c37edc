use Rattle.std.proofs.Common.{◌≡◌, ◌+◌, ◌<◌, ◌≤◌, length, take, length-append, [], ◌∷◌, ap, sym, refl, ◌∙◌, Ok, arith}
use Rattle.circuit_lines.specs.Many.{many, one_more, no_more, at_limit, at_start}
use Rattle.circuit_file.specs.Walks.{line_at, lines_at}
use Rattle.circuit_file.proofs.WalkLemmas.{walk_taken, walk_ended}
use Rattle.circuit_file.proofs.walks.walk_over.Goals as goal
use Rattle.circuit_file.proofs.walks.walk_over.Goals.{else-loop-index-test, then-loop-index-test+in-Err-Fault}

pub loop-index-preserved : goal.loop-index-preserved
loop-index-preserved c =
    let total = lines_at c.args.part c.args.line c.args.bytes.now in
    let next = one_more (line_at c.args.part) (length c.args.bytes.now) c.args.line c.args.bytes.now c.loop-index.index c.loop-index.rest.now c.in-Ok.read c.in-Ok.after.now (omega (arith, c.loop-index-test.true, c.requires)) c.in-Ok.ensures.exact c.loop-index.invariant.stands in
    record {
      stands = next.0;
      walk = walk_taken c.args.walk c.loop-index.walk c.in-Ok-take.next (take c.loop-index.index total.0) (take (c.loop-index.index + 1) total.0) c.in-Ok.read c.loop-index.invariant.walk next.1 c.in-Ok-take.ensures;
      count = refl;
      many = omega (arith, ap length (sym next.1), length-append (take c.loop-index.index total.0) (c.in-Ok.read ∷ []), c.loop-index.invariant.many);
      left = omega (arith, c.in-Ok.ensures.left, c.loop-index.invariant.left);
    }

pub returns-clause-exact : goal.returns-clause-exact
returns-clause-exact c =
    let part = c.args.part in
    let total = length c.args.bytes.now in
    let all = lines_at part c.args.line c.args.bytes.now in
    let ended : all ≡ (take c.loop-index.index all.0, c.loop-index.rest.now) = elim c.loop-index-test.branch [
      | else-loop-index-test w ↦ at_limit (line_at part) total c.args.line c.args.bytes.now c.loop-index.index c.loop-index.rest.now (omega (arith, w.loop-index-test.false, c.requires)) c.loop-index.invariant.stands
      | then-loop-index-test+in-Err-Fault w ↦ no_more (line_at part) total c.args.line c.args.bytes.now c.loop-index.index c.loop-index.rest.now _ (omega (arith, w.loop-index-test.true, c.requires)) (rw w.in-Err-Fault.field-0-is at w.in-Err-Fault.ensures.exact) c.loop-index.invariant.stands
    ] in
    walk_ended part c.args.walk c.loop-index.walk c.args.line c.args.bytes.now c.loop-index.rest.now c.loop-index.index c.loop-index.count ended c.loop-index.invariant.walk c.loop-index.invariant.count c.loop-index.invariant.many
