use Rattle.std.proofs.Common.{ℕ, ℤ, ◌<◌, ◌≡◌, length, All, subst, sym}
use mir.Syntax.{w64}
use mir.Val.{to_z, of_z}
use Rattle.tfhe_level.specs.Nodes.{nodes_of}
use Rattle.place_pass.proofs.Finding.{alone_below}
use Rattle.place_pass.proofs.nodes.put_form.Goals as goal

pub returns-in-Some-clause-there : goal.returns-in-Some-clause-there
returns-in-Some-clause-there c =
    let count = length (nodes_of c.args.shape.now) in
    let same : c.deref.result.now ≡ c.args.terms.items = c.deref.ensures.value in
    alone_below (to_z w64 (of_z w64 c.args.constant)) c.deref.result.now count c.in-Some.leaf (subst (All (λ (t : ℕ × ℤ). t.0 < count)) (sym same) c.requires.earlier) c.in-Some.ensures
