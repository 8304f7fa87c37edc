use Rattle.std.proofs.Common.{◌≡◌, ◌<◌, ◌∙◌, List, ℕ, [], length, get_or, map, ap, sym, subst}
use Rattle.std.proofs.lemmas.List.{get_or_default}
use Rattle.circuit_run.specs.Rooms.{RoomWords}
use Rattle.circuit_run.proofs.RoomRows.{lengths_kept}
use Rattle.circuit_run.proofs.room.RunRoom.set_boot.Goals as goal

pub returns-clause-lengths : goal.returns-clause-lengths
returns-clause-lengths c =
    let rows : List (List ℕ) = c.self.inside.big.items in
    let there : c.args.node < length rows = subst (λ (r : RoomWords). c.args.node < length r.big) (sym c.self.view_is) c.requires.there in
    let here : c.index_mut.result.now ≡ get_or rows c.args.node [] = c.index_mut.ensures.value ∙ get_or_default rows c.args.node c.index_mut.result.now [] there in
    lengths_kept rows c.args.node c.boot_into.new.out (c.boot_into.ensures.length ∙ ap length here)
    ∙ ap (λ (r : RoomWords). map (λ row. length row) r.big) c.self.view_is
