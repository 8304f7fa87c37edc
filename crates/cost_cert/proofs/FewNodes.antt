-- How many operations and weights a circuit has at most.
use Rattle.std.proofs.Common.{◌≡◌, ℕ, zero, suc, ◌+◌, ◌*◌, ◌<◌, ◌≤◌, Bool, true, false, cond, List, [], ◌∷◌, ◌++◌, length, ℤ, sym, refl, subst, arith, length-append, append_assoc}
use Rattle.std.specs.Prelude.{count_by}
use Rattle.std.specs.List.{AllByRecursion, sum_by}
use Rattle.std.proofs.lemmas.List.{append-nil}
use Rattle.std.proofs.lemmas.List.Elements.{recursion_from_All}
use Rattle.std.proofs.lemmas.List.Sums.{sum_by-append, sum_by-cons, count_by-le-length}
use Rattle.forms.specs.Forms.{AreRising}
use Rattle.tfhe_level.specs.declared.level.TfheOp.{TfheOp}
use Rattle.tfhe_level.specs.declared.level.TfheOp.TheVariants.{Input, Lin, Switch, Boot, Out}
use Rattle.tfhe_level.specs.Operations.{is_input, is_lin, is_switch, is_boot, is_out, is_leaf}
use Rattle.tfhe_level.specs.Rules.{Stands, IsTerm, KeepsRule, KeepRules}
use Rattle.tfhe_level.specs.Counts.{is_weight, weight_count}

-- ---- operations of each kind

pub record AreFew (ops : List TfheOp) : Type 0 where
  pub inputs : count_by is_input ops ≤ 64
  pub lins : count_by is_lin ops ≤ 1088
  pub switches : count_by is_switch ops ≤ 1024
  pub boots : count_by is_boot ops ≤ 1024
  pub outs : count_by is_out ops ≤ 64

one_fits : (test : Bool) (count most : ℕ) → count ≤ most → (test ≡ true → count < most) → count + cond test 1 0 ≤ most
one_fits true count most few less = omega (arith, less refl)
one_fits false count most few less = omega (arith, few)

-- one operation more, where there is room if it is of the kind
fits : (kind : TfheOp → Bool) (most : ℕ) (ops : List TfheOp) (op : TfheOp) → count_by kind ops ≤ most → (kind op ≡ true → count_by kind ops < most) → count_by kind (ops ++ op ∷ []) ≤ most
fits kind most ops op few less =
    omega (arith, sum_by-append (λ x. cond (kind x) 1 0) ops (op ∷ []), sum_by-cons (λ x. cond (kind x) 1 0) op [], one_fits (kind op) (count_by kind ops) most few less)

input_room : (all earlier : List TfheOp) (op : TfheOp) → KeepsRule all earlier op → is_input op ≡ true → count_by is_input earlier < 64
input_room all earlier (Input lo hi) is e = omega (arith, is.few, count_by-le-length is_input earlier)
input_room all earlier (Lin constant terms) is e = absurd (let e = e in cc)
input_room all earlier (Switch source) is e = absurd (let e = e in cc)
input_room all earlier (Boot source entries) is e = absurd (let e = e in cc)
input_room all earlier (Out source lo hi) is e = absurd (let e = e in cc)

lin_room : (all earlier : List TfheOp) (op : TfheOp) → KeepsRule all earlier op → is_lin op ≡ true → count_by is_lin earlier < 1088
lin_room all earlier (Input lo hi) is e = absurd (let e = e in cc)
lin_room all earlier (Lin constant terms) is e = is.few
lin_room all earlier (Switch source) is e = absurd (let e = e in cc)
lin_room all earlier (Boot source entries) is e = absurd (let e = e in cc)
lin_room all earlier (Out source lo hi) is e = absurd (let e = e in cc)

switch_room : (all earlier : List TfheOp) (op : TfheOp) → KeepsRule all earlier op → is_switch op ≡ true → count_by is_switch earlier < 1024
switch_room all earlier (Input lo hi) is e = absurd (let e = e in cc)
switch_room all earlier (Lin constant terms) is e = absurd (let e = e in cc)
switch_room all earlier (Switch source) is e = is.few
switch_room all earlier (Boot source entries) is e = absurd (let e = e in cc)
switch_room all earlier (Out source lo hi) is e = absurd (let e = e in cc)

boot_room : (all earlier : List TfheOp) (op : TfheOp) → KeepsRule all earlier op → is_boot op ≡ true → count_by is_boot earlier < 1024
boot_room all earlier (Input lo hi) is e = absurd (let e = e in cc)
boot_room all earlier (Lin constant terms) is e = absurd (let e = e in cc)
boot_room all earlier (Switch source) is e = absurd (let e = e in cc)
boot_room all earlier (Boot source entries) is e = is.few
boot_room all earlier (Out source lo hi) is e = absurd (let e = e in cc)

out_room : (all earlier : List TfheOp) (op : TfheOp) → KeepsRule all earlier op → is_out op ≡ true → count_by is_out earlier < 64
out_room all earlier (Input lo hi) is e = absurd (let e = e in cc)
out_room all earlier (Lin constant terms) is e = absurd (let e = e in cc)
out_room all earlier (Switch source) is e = absurd (let e = e in cc)
out_room all earlier (Boot source entries) is e = absurd (let e = e in cc)
out_room all earlier (Out source lo hi) is e = is.few

few_more : (all earlier : List TfheOp) (op : TfheOp) → AreFew earlier → KeepsRule all earlier op → AreFew (earlier ++ op ∷ [])
few_more all earlier op few is = record {
  inputs = fits is_input 64 earlier op few.inputs (input_room all earlier op is);
  lins = fits is_lin 1088 earlier op few.lins (lin_room all earlier op is);
  switches = fits is_switch 1024 earlier op few.switches (switch_room all earlier op is);
  boots = fits is_boot 1024 earlier op few.boots (boot_room all earlier op is);
  outs = fits is_out 64 earlier op few.outs (out_room all earlier op is);
}

few_all : (all earlier ops : List TfheOp) → AreFew earlier → KeepRules all earlier ops → AreFew (earlier ++ ops)
few_all all earlier [] few keep = subst AreFew (sym (append-nil earlier)) few
few_all all earlier (op ∷ ops) few keep =
    subst AreFew (append_assoc earlier (op ∷ []) ops) (few_all all (earlier ++ op ∷ []) ops (few_more all earlier op few keep.0) keep.1)

-- so a circuit has few of each
pub few_of_each : (ops : List TfheOp) → KeepRules ops [] ops → AreFew ops
few_of_each ops keep =
    few_all ops [] ops (record { inputs = omega arith; lins = omega arith; switches = omega arith; boots = omega arith; outs = omega arith }) keep

-- each is of one kind
one_kind : (op : TfheOp) → 1 ≡ cond (is_input op) 1 0 + (cond (is_lin op) 1 0 + (cond (is_switch op) 1 0 + (cond (is_boot op) 1 0 + cond (is_out op) 1 0)))
one_kind (Input lo hi) = omega arith
one_kind (Lin constant terms) = omega arith
one_kind (Switch source) = omega arith
one_kind (Boot source entries) = omega arith
one_kind (Out source lo hi) = omega arith

all_kinds : (ops : List TfheOp) → length ops ≡ count_by is_input ops + (count_by is_lin ops + (count_by is_switch ops + (count_by is_boot ops + count_by is_out ops)))
all_kinds [] = omega arith
all_kinds (op ∷ ops) =
    let inputs = sum_by-cons (λ x. cond (is_input x) 1 0) op ops in
    let lins = sum_by-cons (λ x. cond (is_lin x) 1 0) op ops in
    let switches = sum_by-cons (λ x. cond (is_switch x) 1 0) op ops in
    let boots = sum_by-cons (λ x. cond (is_boot x) 1 0) op ops in
    let outs = sum_by-cons (λ x. cond (is_out x) 1 0) op ops in
    omega (arith, all_kinds ops, one_kind op, inputs, lins, switches, boots, outs)

-- and few in all
pub few_nodes : (ops : List TfheOp) → KeepRules ops [] ops → length ops ≤ 3264
few_nodes ops keep =
    let few = few_of_each ops keep in
    omega (arith, all_kinds ops, few.inputs, few.lins, few.switches, few.boots, few.outs)

-- ---- weights

stands_below : (kind : TfheOp → Bool) (ops : List TfheOp) (place : ℕ) → Stands kind ops place → place < length ops
stands_below kind [] place is = absurd is
stands_below kind (op ∷ ops) zero is = omega arith
stands_below kind (op ∷ ops) (suc place) is = omega (arith, stands_below kind ops place is)

-- terms that rise are no more than their leaves
rising_few : (low : ℕ) (earlier : List TfheOp) (terms : List (ℕ × ℤ)) → low ≤ length earlier → AreRising low terms → AllByRecursion (IsTerm earlier) terms → low + length terms ≤ length earlier
rising_few low earlier [] le rising all = omega (arith, le)
rising_few low earlier (t ∷ terms) le rising all =
    let below = stands_below is_leaf earlier t.0 all.0.leaf in
    let later = rising_few (t.0 + 1) earlier terms (omega (arith, below)) rising.1 all.1 in
    omega (arith, rising.0, later)

weights_here : (all earlier : List TfheOp) (op : TfheOp) → KeepsRule all earlier op → weight_count op ≤ length earlier
weights_here all earlier (Input lo hi) is = omega arith
weights_here all earlier (Lin constant terms) is =
    let few = rising_few 0 earlier terms (omega arith) is.rising (recursion_from_All (IsTerm earlier) terms is.each) in
    omega (arith, few, count_by-le-length is_weight terms)
weights_here all earlier (Switch source) is = omega arith
weights_here all earlier (Boot source entries) is = omega arith
weights_here all earlier (Out source lo hi) is = omega arith

weights_among : (all earlier ops : List TfheOp) → length earlier + length ops ≤ 3264 → KeepRules all earlier ops → sum_by weight_count ops ≤ length ops * 3264
weights_among all earlier [] le keep = omega arith
weights_among all earlier (op ∷ ops) le keep =
    let here = weights_here all earlier op keep.0 in
    let later = weights_among all (earlier ++ op ∷ []) ops (omega (arith, le, length-append earlier (op ∷ []))) keep.1 in
    omega (arith, sum_by-cons weight_count op ops, here, later, le)

pub few_weights : (ops : List TfheOp) → KeepRules ops [] ops → sum_by weight_count ops ≤ 10653696
few_weights ops keep =
    let few = few_nodes ops keep in
    omega (arith, few, weights_among ops [] ops (omega (arith, few)) keep)
