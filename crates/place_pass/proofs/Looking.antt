-- One argument or look-up more.
use Rattle.std.proofs.Common.{◌≡◌, ℕ, ◌+◌, ◌<◌, ◌≤◌, List, [], ◌∷◌, ◌++◌, length, All, refl, ap, ◌∙◌, arith, ℤ, pos}
use Rattle.std.specs.Prelude.{unsigned_abs}
use Rattle.std.proofs.lemmas.List.{length_push}
use Rattle.std.proofs.lemmas.List.Elements.{All-cons, All-nil}
use Rattle.forms.specs.Forms.{number_at, range_at}
use Rattle.ap_level.specs.declared.level.ApOp.{ApOp}
use Rattle.ap_level.specs.declared.level.ApOp.TheVariants as patterns
use Rattle.tfhe_level.specs.declared.level.TfheOp.{TfheOp}
use Rattle.tfhe_level.specs.declared.level.TfheOp.TheVariants.{Switch, Boot}
use Rattle.tfhe_level.specs.Nodes.{value_of, range_of, node_values, node_ranges}
use Rattle.place_pass.specs.Placing.{Put, put_form, put_boot, put_form_switch, on_nodes}
use Rattle.place_pass.proofs.Solving.{StandsAt, stands_last, stands_below, result_at, values_hang, ranges_hang}
use Rattle.place_pass.proofs.Puts.{IsPut, last, put_stands, put_short, switch_is_put}
use Rattle.place_pass.proofs.Following.{IsStage, stage_then, put_stage, grown_result, Agrees, agrees_longer, agrees_push, AreOn, form_placed}

one_below : (count operand : ℕ) → operand < count → All (λ (o : ℕ). o < count) (operand ∷ [])
one_below count operand below = All-cons (λ (o : ℕ). o < count) operand [] below (All-nil (λ (o : ℕ). o < count))

-- the key switch of a form has the form's value and range
pub record IsSwitchPlaced (nodes : List TfheOp) (form switch : Put) : Type 0 where
  pub stands : StandsAt switch.nodes switch.number (Switch form.number)
  pub stage : IsStage form.nodes switch.nodes
  pub below : switch.number < length switch.nodes
  pub short : length switch.nodes ≤ length form.nodes + 1
  pub range : range_at (node_ranges switch.nodes) switch.number ≡ range_at (node_ranges form.nodes) form.number
  pub value : (inputs : List ℤ) → number_at (node_values switch.nodes inputs) switch.number ≡ number_at (node_values form.nodes inputs) form.number

pub switch_placed : (nodes : List TfheOp) (form : Put) → IsStage nodes form.nodes → form.number < length form.nodes → IsSwitchPlaced nodes form (put_form_switch form)
switch_placed nodes form before below =
    let switch = put_form_switch form in
    let is : IsPut (Switch form.number) form.nodes switch = switch_is_put form.number form.nodes in
    let stands = put_stands (Switch form.number) form.nodes switch is in
    let stage = put_stage (Switch form.number) form.nodes switch is refl refl before.grown.sound (one_below (length form.nodes) form.number below) in
    record {
      stands = stands;
      stage = stage;
      below = stands_below switch.nodes switch.number (Switch form.number) stands;
      short = put_short (Switch form.number) form.nodes switch is;
      range =
          result_at range_of ranges_hang (pos 0, pos 0) switch.nodes switch.number (Switch form.number) stands refl stage.grown.sound
          ∙ grown_result range_of (pos 0, pos 0) form.nodes switch.nodes form.number stage.grown below;
      value = λ inputs.
          result_at (value_of inputs) (values_hang inputs) (pos 0) switch.nodes switch.number (Switch form.number) stands refl stage.grown.sound
          ∙ grown_result (value_of inputs) (pos 0) form.nodes switch.nodes form.number stage.grown below;
    }

-- a look-up more
pub record IsLookPlaced (leafs : List ApOp) (nodes : List TfheOp) (leaves : List ℕ) (op : ApOp) (boot : Put) : Type 0 where
  pub stage : IsStage nodes boot.nodes
  pub agrees : Agrees (leafs ++ op ∷ []) boot.nodes (leaves ++ boot.number ∷ [])
  pub short : length boot.nodes ≤ length nodes + 3

pub look_placed : (leafs : List ApOp) (nodes : List TfheOp) (leaves : List ℕ) (constant : ℤ) (terms : List (ℕ × ℤ)) (entries : List ℤ) → Agrees leafs nodes leaves → AreOn (length leaves) terms
    → IsLookPlaced leafs nodes leaves (patterns.Look constant terms entries) (put_boot entries (put_form_switch (put_form constant (on_nodes leaves terms) nodes)))
look_placed leafs nodes leaves constant terms entries agrees on =
    let form = put_form constant (on_nodes leaves terms) nodes in
    let switch = put_form_switch form in
    let boot = put_boot entries switch in
    let op = Boot switch.number entries in
    let placed = form_placed leafs nodes leaves constant terms agrees on in
    let switched = switch_placed nodes form placed.stage placed.below in
    let is : IsPut op switch.nodes boot = last refl in
    let stage : IsStage switch.nodes boot.nodes = put_stage op switch.nodes boot is refl refl switched.stage.grown.sound (one_below (length switch.nodes) switch.number switched.below) in
    let stands : StandsAt boot.nodes boot.number op = stands_last switch.nodes op in
    let both : IsStage form.nodes boot.nodes = stage_then form.nodes switch.nodes boot.nodes switched.stage stage in
    let more : Agrees leafs boot.nodes leaves = agrees_longer leafs form.nodes boot.nodes leaves placed.agrees both.grown in
    record {
      stage = stage_then nodes form.nodes boot.nodes placed.stage both;
      agrees = agrees_push leafs boot.nodes leaves (patterns.Look constant terms entries) boot.number more (stands_below boot.nodes boot.number op stands)
          (result_at range_of ranges_hang (pos 0, pos 0) boot.nodes boot.number op stands refl stage.grown.sound)
          (λ inputs.
          result_at (value_of inputs) (values_hang inputs) (pos 0) boot.nodes boot.number op stands refl stage.grown.sound
          ∙ ap (λ v. number_at entries (unsigned_abs v)) (grown_result (value_of inputs) (pos 0) switch.nodes boot.nodes switch.number stage.grown switched.below ∙ switched.value inputs ∙ placed.value inputs));
      short = omega (arith, length_push switch.nodes op, switched.short, placed.short);
    }
