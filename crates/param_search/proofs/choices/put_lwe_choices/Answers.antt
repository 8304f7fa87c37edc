use Rattle.std.proofs.Common.{◌++◌, ℕ, List, ap, ◌∙◌, arith}
use Rattle.std.specs.List.{flat_map}
use Rattle.param_search.specs.declared.choices.Priced.{Priced}
use Rattle.param_search.specs.Choices.{boot_choices}
use Rattle.param_search.proofs.Growing.{grown_flat, all_entries}
use Rattle.param_search.proofs.choices.put_lwe_choices.Goals as goal

pub loop-lwe-preserved : goal.loop-lwe-preserved
loop-lwe-preserved c =
    let behind : ℕ → List Priced = λ lwe. boot_choices c.args.table.now c.args.counts.now c.args.glwe lwe in
    grown_flat behind c.args.table.now.lwe c.loop-lwe.lwe c.args.choices.now.items c.loop-lwe.choices.items c.put_boot_choices.new.choices.items
    (omega (arith, c.loop-lwe-test.true, c.len-lwe-end.ensures, c.requires.table.lwe.high))
    c.in_ok-put_boot_choices.ensures
    c.loop-lwe.invariant

pub returns : goal.returns
returns c =
    let behind : ℕ → List Priced = λ lwe. boot_choices c.args.table.now c.args.counts.now c.args.glwe lwe in
    c.loop-lwe.invariant ∙ ap (λ l. c.args.choices.now.items ++ flat_map (λ e. behind e.0) l) (all_entries c.args.table.now.lwe c.loop-lwe.lwe (omega (arith, c.loop-lwe-test.false, c.len-lwe-end.ensures, c.requires.table.lwe.high)))
