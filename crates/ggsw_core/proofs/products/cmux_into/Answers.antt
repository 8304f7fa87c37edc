use Rattle.std.proofs.Common.{ap, sym, subst, ◌∙◌, ◌≡◌, List, ℕ}
use Rattle.word_ring.specs.Rows.{row_difference, zip_rows}
use Rattle.glwe_core.specs.Glwe.{lengths_of}
use Rattle.ggsw_core.specs.Ggsw.{plus_all, all_products}
use Rattle.ggsw_core.proofs.Additions.{Adding}
use Rattle.ggsw_core.proofs.Rows.{shape_by_lengths}
use Rattle.ggsw_core.proofs.Steps.{copied, to_acc}
use Rattle.ggsw_core.specs.Noise.{SelectsPhase}
use Rattle.ggsw_core.proofs.products.cmux_into.Goals as goal

pub returns-clause-words : goal.returns-clause-words
returns-clause-words c =
    let laws : Adding = record { rows = c.laws.ensures.rows; ring = c.laws.ensures.row_ring; totals = c.laws.ensures.row_totals; products = c.laws-2.ensures.products } in
    let acc : List (List ℕ) = c.args.acc.now in
    let other : List (List ℕ) = c.args.other.now in
    let room : lengths_of c.room.inside.more ≡ lengths_of acc = c.room.view_is ∙ c.requires.room in
    let copy = copied laws c.room.inside.more other c.known.ensures.shape c.known.ensures.words (room ∙ sym c.requires.other) in
    let more_is : c.sub_assign.new.self ≡ zip_rows row_difference other acc = cc copy in
    let lengths : lengths_of (zip_rows row_difference other acc) ≡ lengths_of acc = cc (more_is, room) in
    c.add_external.ensures.words
    ∙ ap (λ x. plus_all acc (all_products c.args.g.now x)) more_is
    ∙ to_acc laws c.args.g.now acc other (shape_by_lengths other acc (sym c.requires.other) c.known.ensures.shape) lengths

pub returns-clause-noise : goal.returns-clause-noise
returns-clause-noise c = subst (SelectsPhase c.args.g.now c.args.acc.now c.args.other.now) (sym (returns-clause-words c)) (c.laws-3.ensures.noise.cmux_noise c.args.g.now c.args.acc.now c.args.other.now)
