use Rattle.std.proofs.Common.{sym, subst, ◌<◌, length, set, List, ℕ, ap, ◌∙◌}
use Rattle.ggsw_core.specs.Ggsw.{GgswRows, IsGgsw, row_lengths}
use Rattle.ggsw_core.proofs.Rows.{row_exchanged}
use Rattle.ggsw_core.proofs.ggsw.Ggsw.swap_row.Goals as goal

pub invariant_of-self : goal.invariant_of-self
invariant_of-self c =
    let g : GgswRows = record { base = c.self.inside.base; level = c.self.inside.level; rows = c.self.inside.rows.items } in
    let place : ℕ = c.place_of-place.result in
    let P : List (List ℕ) → Type 0 = λ row. IsGgsw (record g { rows = set g.rows place row }) in
    let Inside : GgswRows → Type 0 = λ g. place < length g.rows in
    subst P (sym c.swap.ensures.x_after)
    (row_exchanged g place c.args.row.now c.self.invariant (subst Inside (sym c.self.view_is) c.place_of-place.ensures.inside) (c.requires.shape ∙ ap row_lengths (sym c.self.view_is)))
