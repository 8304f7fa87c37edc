use Rattle.std.proofs.Common.{◌≡◌, ◌∙◌, ◌++◌, ◌∷◌, [], ap, pos}
use Rattle.ir_core.specs.Placed.{operations_of}
use Rattle.ap_level.specs.declared.level.ApOp.TheVariants.{Input, Look, Out}
use Rattle.place_pass.proofs.Worked.{one_look, one_look_is}
use Rattle.place_pass.proofs.tests.one_look.Goals as goal

pub returns : goal.returns
returns c =
    let first = Input (pos 0) (pos 3) in
    let second = Look (pos 0) ((0, pos 1) ∷ []) (pos 1 ∷ pos 3 ∷ pos 0 ∷ pos 2 ∷ []) in
    let third = Out (pos 0) ((1, pos 1) ∷ []) in
    let one : operations_of c.append.new.self ≡ first ∷ [] = c.in_ok-append.ensures.ok ∙ ap (λ l. l ++ first ∷ []) c.new-ap.ensures.patterns in
    let table : c.in_ok-table.table ≡ second = c.in_ok-table.ensures in
    let entry : c.in_ok-entry.entry ≡ third = c.in_ok-entry.ensures in
    let two : operations_of c.append-2.new.self ≡ first ∷ second ∷ []
    = c.in_ok-append-2.ensures.ok ∙ ap (λ l. l ++ c.in_ok-table.table ∷ []) one ∙ ap (λ op. first ∷ op ∷ []) table in
    let three : operations_of c.append-3.new.self ≡ one_look
    = c.in_ok-append-3.ensures.ok ∙ ap (λ l. l ++ c.in_ok-entry.entry ∷ []) two ∙ ap (λ op. first ∷ second ∷ op ∷ []) entry in
    one_look_is _ c.in_ok-append-3.ensures.placed three c.new-ap.ensures.width
