use Rattle.std.proofs.Common.{◌≡◌, pos, sym, ◌∙◌, true, false, get_or}
use Rattle.linear_forms.specs.Merging.{is_at}
use Rattle.linear_forms.proofs.Sizes.{narrow_back}
use Rattle.linear_forms.proofs.Terms.{at_is, weight_at, weight_not}
use Rattle.linear_forms.proofs.combining.weight_from.Goals as goal

pub returns-then-is_at-clause-weight : goal.returns-then-is_at-clause-weight
returns-then-is_at-clause-weight c =
    let terms = c.args.terms.now in
    let is : is_at terms c.args.place c.args.leaf ≡ true = sym c.is_at.ensures ∙ c.if-is_at.true in
    let at = at_is terms c.args.place c.args.leaf is in
    narrow_back (get_or terms c.args.place (0, pos 0)).1 (c.requires.small c.args.place (0, pos 0) at.0)
    ∙ sym (weight_at terms c.args.place c.args.leaf c.requires.rising is)

pub returns-else-is_at-clause-weight : goal.returns-else-is_at-clause-weight
returns-else-is_at-clause-weight c =
    let is : is_at c.args.terms.now c.args.place c.args.leaf ≡ false = sym c.is_at.ensures ∙ c.if-is_at.false in
    sym (weight_not c.args.terms.now c.args.place c.args.leaf c.requires.rising is)
