use Rattle.std.proofs.Common.{◌≡◌, ◌∙◌, List, ℕ, length, map, ap, sym}
use Rattle.circuit_run.specs.Running.{row_at}
use Rattle.circuit_run.specs.Rooms.{RoomWords}
use Rattle.circuit_run.proofs.RoomRows.{lengths_kept}
use Rattle.circuit_run.proofs.room.RunRoom.set_switch.Goals as goal

pub returns-clause-lengths : goal.returns-clause-lengths
returns-clause-lengths c =
    let rows : List (List ℕ) = c.self.inside.small.items in
    let long : length c.switch_into.new.out ≡ length (row_at rows c.args.node) =
    ap length c.switch_into.ensures.words ∙ c.laws.ensures.switching.switched_length c.args.key.now _ c.known.ensures
    ∙ sym c.requires.small ∙ sym (ap (λ (r : RoomWords). length (row_at r.small c.args.node)) c.self.view_is) in
    lengths_kept rows c.args.node c.switch_into.new.out long
    ∙ ap (λ (r : RoomWords). map (λ row. length row) r.small) c.self.view_is
