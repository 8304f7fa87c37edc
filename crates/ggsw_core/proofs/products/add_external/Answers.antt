use Rattle.std.proofs.Common.{arith, refl, ◌∙◌}
use Rattle.ggsw_core.proofs.Additions.{Adding}
use Rattle.ggsw_core.proofs.Steps.{Fitting, begun, part_added}
use Rattle.ggsw_core.proofs.products.add_external.Goals as goal

pub loop-j-init : goal.loop-j-init
loop-j-init c =
    let laws : Adding = record { rows = c.laws.ensures.rows; ring = c.laws.ensures.row_ring; totals = c.laws.ensures.row_totals; products = c.laws-2.ensures.products } in
    let fits : Fitting c.args.g.now c.args.c.now = record { is = c.known-3.ensures; rows = c.requires.rows; shape = c.known-2.ensures.shape } in
    record { added = begun laws c.args.g.now c.args.c.now c.args.into.now fits c.requires.into c.known.ensures.words; shape = refl; degree = refl; room = refl }

pub loop-j-preserved : goal.loop-j-preserved
loop-j-preserved c =
    let laws : Adding = record { rows = c.laws.ensures.rows; ring = c.laws.ensures.row_ring; totals = c.laws.ensures.row_totals; products = c.laws-2.ensures.products } in
    let fits : Fitting c.args.g.now c.args.c.now = record { is = c.known-3.ensures; rows = c.requires.rows; shape = c.known-2.ensures.shape } in
    record {
      added = part_added laws c.args.g.now c.args.c.now c.args.into.now c.loop-j.into c.add_part.new.into c.loop-j.j fits c.requires.into (omega arith) c.loop-j.invariant.added c.add_part.ensures.words;
      shape = c.add_part.ensures.shape ∙ c.loop-j.invariant.shape;
      degree = c.add_part.ensures.degree_stays ∙ c.loop-j.invariant.degree;
      room = c.add_part.ensures.room_stays ∙ c.loop-j.invariant.room;
    }
