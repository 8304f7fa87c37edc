use Rattle.std.proofs.Common.{◌≡◌, ap, sym, subst, ◌<◌, ◌^◌, arith, w64, ◌∙◌}
use Rattle.std.specs.Prelude.{IsTrue}
use Rattle.std.proofs.lemmas.Int.{to_z-of_z, fits_signed_from_abs}
use Rattle.forms.specs.Forms.{form_range}
use Rattle.tfhe_level.specs.Nodes.{range_of, node_ranges, nodes_of}
use Rattle.circuit_nodes.specs.Tests.{keeps_alone}
use Rattle.circuit_nodes.proofs.Counting.{few_operations}
use Rattle.circuit_nodes.proofs.Ranges.{lin_small, lin_range, lin_constant}
use Rattle.circuit_nodes.proofs.nodes.Nodes.range_of.Goals as goal

pub range_of-requires : goal.range_of-requires
range_of-requires c =
    let kept = subst (λ ops. IsTrue (keeps_alone ops c.args.op.now)) (sym c.self.view_is) c.requires.kept in
    let lin = subst (λ op. IsTrue (keeps_alone (nodes_of c.self.inside.shape) op)) c.in-Lin.is kept in
    let few = few_operations _ _ c.self.invariant.counted c.self.invariant.few in
    rw (c.as_slice.ensures, c.as_slice-in-Lin.ensures.value) (lin_small (nodes_of c.self.inside.shape) c.self.inside.leaves.items c.in-Lin.constant c.in-Lin.terms c.self.invariant.tell few lin)

pub returns-in-Lin-clause-range : goal.returns-in-Lin-clause-range
returns-in-Lin-clause-range c =
    let kept = subst (λ ops. IsTrue (keeps_alone ops c.args.op.now)) (sym c.self.view_is) c.requires.kept in
    let lin = subst (λ op. IsTrue (keeps_alone (nodes_of c.self.inside.shape) op)) c.in-Lin.is kept in
    let small = lin_constant (nodes_of c.self.inside.shape) c.in-Lin.constant c.in-Lin.terms lin in
    let constant = to_z-of_z w64 c.in-Lin.constant (fits_signed_from_abs w64 c.in-Lin.constant (omega (arith, small))) in
    c.range_of.ensures.range ∙ ap (λ z. form_range z c.as_slice.result.now c.as_slice-in-Lin.result.now) constant ∙ rw (c.as_slice.ensures, c.as_slice-in-Lin.ensures.value, c.in-Lin.is, sym c.self.view_is) (lin_range (nodes_of c.self.inside.shape) c.self.inside.leaves.items c.in-Lin.constant c.in-Lin.terms c.self.invariant.tell lin)
