use Rattle.std.proofs.Common.{◌++◌, ℕ, List, ap, ◌∙◌, arith}
use Rattle.std.specs.List.{flat_map}
use Rattle.param_search.specs.declared.choices.Priced.{Priced}
use Rattle.param_search.specs.Choices.{switch_choices}
use Rattle.param_search.proofs.Growing.{grown_flat, all_entries}
use Rattle.param_search.proofs.choices.put_boot_choices.Goals as goal

pub loop-boot-preserved : goal.loop-boot-preserved
loop-boot-preserved c =
    let behind : ℕ → List Priced = λ boot. switch_choices c.args.table.now c.args.counts.now c.args.glwe c.args.lwe boot in
    grown_flat behind c.args.table.now.boot c.loop-boot.boot c.args.choices.now.items c.loop-boot.choices.items c.put_switch_choices.new.choices.items
    (omega (arith, c.loop-boot-test.true, c.len-boot-end.ensures, c.requires.table.boot.high))
    c.in_ok-put_switch_choices.ensures
    c.loop-boot.invariant

pub returns : goal.returns
returns c =
    let behind : ℕ → List Priced = λ boot. switch_choices c.args.table.now c.args.counts.now c.args.glwe c.args.lwe boot in
    c.loop-boot.invariant ∙ ap (λ l. c.args.choices.now.items ++ flat_map (λ e. behind e.0) l) (all_entries c.args.table.now.boot c.loop-boot.boot (omega (arith, c.loop-boot-test.false, c.len-boot-end.ensures, c.requires.table.boot.high)))
