use Rattle.std.proofs.Common.{arith, ap, sym, refl, ◌∙◌, ◌+◌, [], length, get_or}
use Rattle.std.proofs.lemmas.List.{length-map}
use Rattle.glwe_core.specs.Glwe.{lengths_of}
use Rattle.ggsw_core.proofs.Additions.{Adding}
use Rattle.ggsw_core.proofs.Rows.{row_shape}
use Rattle.ggsw_core.proofs.Steps.{Fitting, begun, digit_same, place_added}
use Rattle.ggsw_core.proofs.products.add_part.Goals as goal

pub loop-t-init : goal.loop-t-init
loop-t-init c =
    let laws : Adding = record { rows = c.laws.ensures.rows; ring = c.laws.ensures.row_ring; totals = c.laws.ensures.row_totals; products = c.laws-2.ensures.products } in
    let fits : Fitting c.args.g.now c.args.c.now = record { is = c.known-3.ensures; rows = c.requires.rows; shape = c.known-2.ensures.shape } in
    record { added = begun laws c.args.g.now c.args.c.now c.args.into.now fits c.requires.into c.known.ensures.words; shape = refl; degree = refl; room = refl }

pub add_product-requires-clause-shape : goal.add_product-requires-clause-shape
add_product-requires-clause-shape c =
    c.loop-t.invariant.shape ∙ c.requires.into
    ∙ sym (ap lengths_of c.row.ensures ∙ row_shape c.args.g.now c.args.c.now c.args.j (c.loop-t.t + 1) c.known-3.ensures c.requires.rows c.requires.part (omega arith) (omega arith))

pub loop-t-preserved : goal.loop-t-preserved
loop-t-preserved c =
    let laws : Adding = record { rows = c.laws.ensures.rows; ring = c.laws.ensures.row_ring; totals = c.laws.ensures.row_totals; products = c.laws-2.ensures.products } in
    let fits : Fitting c.args.g.now c.args.c.now = record { is = c.known-3.ensures; rows = c.requires.rows; shape = c.known-2.ensures.shape } in
    record {
      added =
          place_added laws c.args.g.now c.args.c.now c.args.into.now c.loop-t.into c.add_product.new.into c.args.j c.loop-t.t fits c.requires.into c.loop-t.invariant.shape c.requires.part (omega arith) c.loop-t.invariant.added
          (cc (digit_same c.base.result c.args.g.now.base c.level.result c.args.g.now.level (c.loop-t.t + 1) (get_or c.args.c.now c.args.j []) c.base.ensures c.level.ensures));
      shape = c.add_product.ensures.shape ∙ c.loop-t.invariant.shape;
      degree = ap length c.poly_digit_into.ensures.words ∙ length-map c.part.result.now _ ∙ ap length c.part.ensures ∙ c.known-2.ensures.shape.lengths c.args.j [] c.requires.part ∙ sym c.requires.degree;
      room = c.add_product.ensures.room_stays ∙ c.loop-t.invariant.room;
    }
