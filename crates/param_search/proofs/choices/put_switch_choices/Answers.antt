use Rattle.std.proofs.Common.{◌∷◌, [], ◌++◌, map, ℕ, ap, ◌∙◌, arith}
use Rattle.param_search.specs.declared.choices.Priced.{Priced}
use Rattle.param_search.specs.Choices.{price_of, choice_at}
use Rattle.param_search.proofs.Growing.{grown_map, all_entries}
use Rattle.param_search.proofs.choices.put_switch_choices.Goals as goal

pub loop-switch-preserved : goal.loop-switch-preserved
loop-switch-preserved c =
    let price : ℕ → Priced = λ switch. price_of c.args.table.now c.args.counts.now (choice_at c.args.glwe c.args.lwe c.args.boot switch) in
    grown_map price c.args.table.now.switch c.loop-switch.switch c.args.choices.now.items c.loop-switch.choices.items c.push.new.self.items
    (omega (arith, c.loop-switch-test.true, c.len-switch-end.ensures, c.requires.table.switch.high))
    (c.in_ok-push.ensures.items ∙ ap (λ p. c.loop-switch.choices.items ++ p ∷ []) c.price_of.ensures)
    c.loop-switch.invariant

pub returns : goal.returns
returns c =
    let price : ℕ → Priced = λ switch. price_of c.args.table.now c.args.counts.now (choice_at c.args.glwe c.args.lwe c.args.boot switch) in
    c.loop-switch.invariant ∙ ap (λ l. c.args.choices.now.items ++ map (λ e. price e.0) l) (all_entries c.args.table.now.switch c.loop-switch.switch (omega (arith, c.loop-switch-test.false, c.len-switch-end.ensures, c.requires.table.switch.high)))
