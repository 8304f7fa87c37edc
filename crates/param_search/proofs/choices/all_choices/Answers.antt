use Rattle.std.proofs.Common.{[], ℕ, List, ap, ◌∙◌, arith}
use Rattle.std.specs.List.{flat_map}
use Rattle.param_search.specs.declared.choices.Priced.{Priced}
use Rattle.param_search.specs.Choices.{lwe_choices}
use Rattle.param_search.proofs.Growing.{grown_flat, all_entries}
use Rattle.param_search.proofs.choices.all_choices.Goals as goal

pub loop-glwe-preserved : goal.loop-glwe-preserved
loop-glwe-preserved c =
    let behind : ℕ → List Priced = λ glwe. lwe_choices c.args.table.now c.args.counts.now glwe in
    grown_flat behind c.args.table.now.glwe c.loop-glwe.glwe [] c.loop-glwe.choices.items c.put_lwe_choices.new.choices.items
    (omega (arith, c.loop-glwe-test.true, c.len-glwe-end.ensures, c.requires.glwe.high))
    c.in_ok-put_lwe_choices.ensures
    c.loop-glwe.invariant

pub returns : goal.returns
returns c =
    let behind : ℕ → List Priced = λ glwe. lwe_choices c.args.table.now c.args.counts.now glwe in
    c.loop-glwe.invariant ∙ ap (λ l. flat_map (λ e. behind e.0) l) (all_entries c.args.table.now.glwe c.loop-glwe.glwe (omega (arith, c.loop-glwe-test.false, c.len-glwe-end.ensures, c.requires.glwe.high)))
