use Rattle.std.proofs.Common.{◌≡◌, ℕ, ℤ, ◌<◌, length, All, subst, sym}
use Rattle.tfhe_level.specs.Nodes.{nodes_of}
use Rattle.place_pass.specs.Placing.{on_nodes}
use Rattle.place_pass.proofs.Finding.{moved_below}
use Rattle.place_pass.proofs.places.Places.put_form.Goals as goal

pub put_form-requires-clause-earlier : goal.put_form-requires-clause-earlier
put_form-requires-clause-earlier c =
    let count = length (nodes_of c.args.self.now.shape) in
    let same : c.deref.result.now ≡ c.args.self.now.leaves.items = c.deref.ensures.value in
    let moved = moved_below c.args.self.now.leaves.items c.args.terms.now count c.requires.room.leaves c.requires.form.leaves in
    let there = subst (λ l. All (λ (t : ℕ × ℤ). t.0 < count) (on_nodes l c.args.terms.now)) (sym same) moved in
    subst (All (λ (t : ℕ × ℤ). t.0 < count)) (sym c.in_ok-terms.ensures) there
