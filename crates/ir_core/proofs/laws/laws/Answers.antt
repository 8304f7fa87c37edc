use Rattle.std.proofs.Common.{refl}
use Rattle.std.proofs.lemmas.List.{map_push}
use Rattle.ir_core.proofs.PlacedGraphs.{placed_one_more, placed_place, placed_there, placed_earlier}
use Rattle.ir_core.proofs.laws.laws.Goals as goal

pub returns : goal.returns
returns g c = record {
  none = record { numbers = refl; next = refl };
  one_more = placed_one_more;
  last = λ graph op. map_push (λ entry. entry.1) graph.list (graph.made, op);
  there = placed_there;
  place = placed_place;
  earlier = placed_earlier g.L.Level.operands;
}
