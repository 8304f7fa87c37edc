use Rattle.std.proofs.Common.{ℕ, ◌<◌, length, All, subst, sym}
use Rattle.forms.specs.Terms.{leaves_of}
use Rattle.tfhe_level.specs.Nodes.{nodes_of}
use Rattle.place_pass.proofs.Finding.{leaves_below}
use Rattle.place_pass.proofs.nodes.put_sum.Goals as goal

pub put_last-requires-clause-earlier : goal.put_last-requires-clause-earlier
put_last-requires-clause-earlier c =
    subst (λ l. All (λ (o : ℕ). o < length (nodes_of c.args.shape.now)) (leaves_of l)) (sym c.from_vec.ensures) (leaves_below c.args.terms.items (length (nodes_of c.args.shape.now)) c.requires.earlier)
