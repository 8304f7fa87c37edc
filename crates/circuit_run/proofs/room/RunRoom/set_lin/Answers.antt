use Rattle.std.proofs.Common.{◌≡◌, ◌∙◌, ap, sym, take, set, length, List, ℕ, arith, rules, w64, FitsSigned}
use Rattle.std.specs.Vec.{with_items}
use Rattle.std.proofs.lemmas.List.{with_items_is}
use Rattle.std.proofs.lemmas.Int.{to_z-of_z}
use Rattle.circuit_run.specs.Running.{lin_row}
use Rattle.circuit_run.specs.Rooms.{RoomWords, room_words}
use Rattle.circuit_run.specs.Steps.{with_big}
use Rattle.circuit_run.proofs.RoomRows.{big_kept, length-lin_row}
use Rattle.circuit_run.proofs.room.RunRoom.set_lin.Goals as goal

pub returns-clause-room : goal.returns-clause-room
returns-clause-room c =
    let made : List (List ℕ) → List ℕ = λ rows. lin_row c.args.dim c.args.width c.args.constant c.args.terms.now (take c.args.node rows) in
    let kept : FitsSigned w64 c.args.constant = search rules in
    let lent = c.as_mut_slice.result.now in
    let same = ap (λ z. set lent c.args.node (lin_row c.args.dim c.args.width z c.args.terms.now (take c.args.node lent))) (to_z-of_z w64 c.args.constant kept) in
    let written : (with_items c.self.inside.big c.lin_at.new.rows).items ≡ c.lin_at.new.rows = with_items_is c.self.inside.big c.lin_at.new.rows (omega (arith, c.lin_at.auto.rows, c.as_mut_slice.ensures.len)) in
    ap (λ big. room_words big c.self.inside.small.items c.self.inside.boot) (written ∙ c.lin_at.ensures ∙ same ∙ ap (λ rows. set rows c.args.node (made rows)) c.as_mut_slice.ensures.value)
    ∙ ap (λ (r : RoomWords). with_big r c.args.node (made r.big)) c.self.view_is

pub returns-clause-lengths : goal.returns-clause-lengths
returns-clause-lengths c =
    let before = take c.args.node c.args.self.now.big in
    big_kept _ c.args.self.now c.args.node (lin_row c.args.dim c.args.width c.args.constant c.args.terms.now before) (returns-clause-room c)
    (length-lin_row c.args.dim c.args.width c.args.constant c.args.terms.now before ∙ sym c.requires.dim)
