use Rattle.std.proofs.Common.{◌≡◌, ◌∙◌, ◌++◌, ◌∷◌, [], ap}
use mir.Syntax.{w64}
use mir.Val.{SFits}
use Rattle.std.proofs.lemmas.Int.{to_z-of_z}
use Rattle.forms.specs.Ranges.{range_of_entries}
use Rattle.tfhe_level.specs.Nodes.{nodes_of}
use Rattle.place_pass.specs.Placements.{placement_of}
use Rattle.place_pass.proofs.Finding.{look_put}
use Rattle.place_pass.proofs.places.Places.put_look.Goals as goal

pub returns-clause-placement : goal.returns-clause-placement
returns-clause-placement c =
    let before = c.args.self.now in
    let formed = c.in_ok-form.ensures in
    let fits : SFits w64 c.args.constant = c.ranges.constant in
    let number = simp to_z-of_z at formed.number in
    let nodes = simp to_z-of_z at formed.nodes in
    let leaves : c.push.new.self.items ≡ before.leaves.items ++ c.in_ok-boot.boot ∷ [] = c.in_ok-push.ensures.items ∙ ap (λ v. v.items ++ c.in_ok-boot.boot ∷ []) formed.leaves in
    let ranges : c.push-2.new.self.items ≡ before.ranges.items ++ range_of_entries c.args.entries.now ∷ []
    = c.in_ok-push-2.ensures.items ∙ ap (λ v. v.items ++ c.range_of_entries.result ∷ []) formed.ranges ∙ ap (λ r. before.ranges.items ++ r ∷ []) c.range_of_entries.ensures in
    look_put (placement_of before) c.args.constant c.args.terms.now c.args.entries.now c.in_ok-form.form c.in_ok-switch.switch c.in_ok-boot.boot
    (nodes_of c.put_form.new.self.shape) (nodes_of c.put_switch.new.shape) (nodes_of c.put_boot.new.shape) c.push.new.self.items c.push-2.new.self.items c.put_form.new.self.outs.items
    number nodes c.in_ok-switch.ensures.number c.in_ok-switch.ensures.nodes c.in_ok-boot.ensures.number c.in_ok-boot.ensures.nodes leaves ranges (ap (λ v. v.items) formed.outs)
