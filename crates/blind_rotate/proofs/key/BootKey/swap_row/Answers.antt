use Rattle.std.proofs.Common.{◌≡◌, ℕ, List, sym, subst, ◌∙◌, slice_set}
use Rattle.std.proofs.lemmas.List.{get_or_default}
use Rattle.glwe_core.specs.Glwe.{lengths_of}
use Rattle.ggsw_core.specs.Ggsw.{with_row}
use Rattle.blind_rotate.specs.BootKey.{BootRows, IsBootKey, HasBootRow, boot_rows, shape_lengths, ggsw_at}
use Rattle.blind_rotate.proofs.BootRowPlaces.{no_ggsw, stays_key}
use Rattle.blind_rotate.proofs.key.BootKey.swap_row.Goals as goal

pub invariant_of-self : goal.invariant_of-self
invariant_of-self c =
    let key : BootRows = boot_rows c.self.inside.k c.self.inside.log_n c.self.inside.base c.self.inside.level c.self.inside.ggsws.items in
    let row : List (List ℕ) = c.args.row.now in
    let has : HasBootRow key c.args.i c.args.j c.args.t =
    subst (λ key. HasBootRow key c.args.i c.args.j c.args.t) (sym c.self.view_is)
    (record { bit = c.requires.bit; part = c.requires.part; first = c.requires.first; last = c.requires.last }) in
    let shape : lengths_of row ≡ shape_lengths key.shape = subst (λ (key : BootRows). lengths_of row ≡ shape_lengths key.shape) (sym c.self.view_is) c.requires.shape in
    let there = c.index_mut.ensures.value ∙ get_or_default c.self.inside.ggsws.items c.args.i c.index_mut.result.now no_ggsw has.bit in
    let new : c.swap_row.new.self ≡ with_row (ggsw_at key.ggsws c.args.i) c.args.j c.args.t row = cc there in
    subst (λ g. IsBootKey (record key { ggsws = slice_set key.ggsws c.args.i g })) (sym new)
    (stays_key c.laws.ensures.exchange key c.args.i c.args.j c.args.t row c.self.invariant has shape)
