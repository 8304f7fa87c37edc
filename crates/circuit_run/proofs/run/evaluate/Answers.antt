use Rattle.std.proofs.Common.{◌≡◌, ◌+◌, ◌∙◌, take, ap, sym, subst, arith}
use Rattle.std.specs.Option.{option_copied}
use Rattle.std.proofs.lemmas.List.{take_all}
use Rattle.tfhe_level.specs.Nodes.{nodes_of}
use Rattle.circuit_run.specs.Running.{EvalKeys, eval_keys, words_of}
use Rattle.circuit_run.specs.Rooms.{RoomWords, held_rows}
use Rattle.circuit_run.proofs.Operands.{rule_at}
use Rattle.circuit_run.proofs.RoomRows.{big_number, small_number}
use Rattle.circuit_run.proofs.Runs.{run_more}
use Rattle.circuit_run.proofs.Ready.{RuleLaws, can_step}
use Rattle.circuit_run.proofs.run.evaluate.Goals as goal

pub step-requires-clause-can : goal.step-requires-clause-can
step-requires-clause-can c =
    let keys : EvalKeys = eval_keys (option_copied c.args.switch) (option_copied c.args.boot) in
    let laws : RuleLaws = record { forms = c.laws.ensures; nodes = c.laws-2.ensures; constraints = c.laws-3.ensures.constraints } in
    can_step laws c.args.circuit.now keys c.args.inputs.now c.loop-number.room c.loop-number.number c.node.result.now c.requires.rules c.loop-number.invariant.fits c.requires.keys c.requires.inputs c.node.ensures.node

pub loop-number-preserved : goal.loop-number-preserved
loop-number-preserved c =
    let circuit = c.args.circuit.now in
    let nodes = nodes_of circuit.shape in
    let number = c.loop-number.number in
    let room = c.loop-number.room in
    let fits = c.loop-number.invariant.fits in
    let keys : EvalKeys = eval_keys (option_copied c.args.switch) (option_copied c.args.boot) in
    record {
      fits = record {
        big = c.step.ensures.big ∙ fits.big;
        small = c.step.ensures.small ∙ fits.small;
        shape = c.step.ensures.shape ∙ fits.shape;
      };
      so_far = subst (λ (after : RoomWords). held_rows (take (number + 1) nodes) after.big after.small ≡ words_of circuit keys c.args.inputs.now (take (number + 1) nodes)) (sym c.step.ensures.room)
          (run_more circuit keys c.args.inputs.now nodes room number c.node.result.now (big_number circuit room fits) (small_number circuit room fits) c.node.ensures.node (rule_at nodes number c.node.result.now c.requires.rules.shape.nodes.rules c.node.ensures.node) c.loop-number.invariant.so_far);
    }

pub returns-clause-words : goal.returns-clause-words
returns-clause-words c =
    let circuit = c.args.circuit.now in
    let nodes = nodes_of circuit.shape in
    let room = c.loop-number.room in
    let keys : EvalKeys = eval_keys (option_copied c.args.switch) (option_copied c.args.boot) in
    let all = take_all c.loop-number.number nodes (omega (arith, c.node_count-number-end.ensures, c.loop-number-test.false)) in
    ap (λ ops. held_rows ops room.big room.small) (sym all) ∙ c.loop-number.invariant.so_far ∙ ap (words_of circuit keys c.args.inputs.now) all

pub returns-clause-big : goal.returns-clause-big
returns-clause-big c = big_number c.args.circuit.now c.loop-number.room c.loop-number.invariant.fits

pub returns-clause-small : goal.returns-clause-small
returns-clause-small c = small_number c.args.circuit.now c.loop-number.room c.loop-number.invariant.fits
