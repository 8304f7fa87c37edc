use Rattle.std.proofs.Common.{ℕ, List, length, set, ap, sym, ◌∙◌}
use Rattle.key_gen.proofs.Factors.{one_set}
use Rattle.key_gen.proofs.messages.set_one.Goals as goal

pub returns-clause-one : goal.returns-clause-one
returns-clause-one c =
    let n = length c.args.out.now in
    c.set.ensures ∙ ap (λ (xs : List ℕ). set xs 0 1) c.zero_assign.ensures.words ∙ one_set n c.requires ∙ sym (c.laws.ensures.rotations.monomial_none n c.requires)
