use Rattle.std.proofs.Common.{rules, ◌∙◌, get_or, pos, SFits, w64}
use Rattle.std.proofs.lemmas.Int.{to_z-of_z}
use Rattle.forms.specs.Terms.{terms_on-set}
use Rattle.forms.proofs.terms.set_leaf.Goals as goal

pub returns : goal.returns
returns c =
    let weight = (get_or c.as_slice.result.now c.args.at (0, pos 0)).1 in
    let fits : SFits w64 weight = search rules in
    rw (to_z-of_z w64 weight fits, c.as_slice.ensures) at c.set.ensures ∙ terms_on-set c.args.terms.now c.args.at c.args.leaf (0, pos 0) c.requires
