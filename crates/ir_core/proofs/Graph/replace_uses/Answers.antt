use Rattle.std.proofs.Common.{length, ◌∙◌, ap}
use Rattle.std.proofs.lemmas.List.{take_at, length-map}
use Rattle.std.proofs.lemmas.List.Elements.{All-contains}
use Rattle.ir_core.specs.Graph.{StandsBefore, uses_of}
use Rattle.ir_core.proofs.Uses.{use_there}
use Rattle.ir_core.proofs.Kept.{renamed_keeps}
use Rattle.ir_core.proofs.Graph.replace_uses.Goals as goal

-- each operation that takes the one value has a use of it, before which the other stands
pub invariant_of-self : goal.invariant_of-self
invariant_of-self g c =
    let level = g.L.Level in
    let list = c.self.inside.entries.items in
    let earlier = rw (← c.self.view_is) at c.requires.earlier in
    let renamed = rw c.as_mut_slice.ensures.value at c.rename_all.ensures in
    let len = rw c.as_mut_slice.ensures.value at c.as_mut_slice.ensures.len in
    rw (take_at c.rename_all.new.entries _ c.self.inside.entries.len (ap length renamed ∙ length-map list _ ∙ len), renamed)
    (renamed_keeps level.operands level.with_operands g.met.L.Level.put_is_read list c.self.inside.made c.args.from c.args.to c.self.invariant
    (λ user op stands holds.
    let use_ = use_there level.operands list c.args.from user op stands holds in
    All-contains (λ u. StandsBefore list c.args.to u.0) (uses_of level.operands list c.args.from) (user, use_.0) earlier use_.1))
