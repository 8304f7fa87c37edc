-- How many operations there are at most.
use Rattle.std.proofs.Common.{◌≡◌, ℕ, ◌+◌, ◌≤◌, Bool, cond, List, [], ◌∷◌, ◌++◌, length, ap, arith, refl}
use Rattle.std.specs.Prelude.{count_by}
use Rattle.std.proofs.lemmas.List.Sums.{sum_by-cons}
use Rattle.tfhe_level.specs.declared.level.TfheOp.{TfheOp}
use Rattle.tfhe_level.specs.declared.level.TfheOp.TheVariants.{Input, Lin, Switch, Boot, Out}
use Rattle.tfhe_level.specs.Operations.{is_input, is_lin, is_switch, is_boot, is_out}
use Rattle.circuit_nodes.specs.declared.kinds.Kinds.{Kinds}
use Rattle.circuit_nodes.specs.Nodes.{kinds_of, AreFew}
use Rattle.circuit_nodes.specs.Walk.{most_operations}

pub count_first : (kind : TfheOp → Bool) (op : TfheOp) (ops : List TfheOp) → count_by kind (op ∷ ops) ≡ cond (kind op) 1 0 + count_by kind ops
count_first kind op ops = sum_by-cons (λ x. cond (kind x) 1 0) op ops

pub count_push : (kind : TfheOp → Bool) (ops : List TfheOp) (op : TfheOp) → count_by kind (ops ++ op ∷ []) ≡ count_by kind ops + cond (kind op) 1 0
count_push kind [] op = omega (arith, count_first kind op [])
count_push kind (x ∷ ops) op = omega (arith, count_first kind x (ops ++ op ∷ []), count_first kind x ops, count_push kind ops op)

one_kind : (op : TfheOp) → cond (is_input op) 1 0 + cond (is_lin op) 1 0 + cond (is_switch op) 1 0 + cond (is_boot op) 1 0 + cond (is_out op) 1 0 ≡ 1
one_kind (Input lo hi) = refl
one_kind (Lin constant terms) = refl
one_kind (Switch source) = refl
one_kind (Boot source entries) = refl
one_kind (Out source lo hi) = refl

-- each operation is of one kind
pub by_kinds : (ops : List TfheOp) → length ops ≡ count_by is_input ops + count_by is_lin ops + count_by is_switch ops + count_by is_boot ops + count_by is_out ops
by_kinds [] = refl
by_kinds (op ∷ ops) = omega (arith, by_kinds ops, one_kind op, count_first is_input op ops, count_first is_lin op ops, count_first is_switch op ops, count_first is_boot op ops, count_first is_out op ops)

pub few_operations : (ops : List TfheOp) (kinds : Kinds) → kinds ≡ kinds_of ops → AreFew kinds → length ops ≤ most_operations
few_operations ops kinds counted few =
    let inputs : kinds.inputs ≡ count_by is_input ops = ap (λ k. k.inputs) counted in
    let lins : kinds.lins ≡ count_by is_lin ops = ap (λ k. k.lins) counted in
    let switches : kinds.switches ≡ count_by is_switch ops = ap (λ k. k.switches) counted in
    let boots : kinds.boots ≡ count_by is_boot ops = ap (λ k. k.boots) counted in
    let outs : kinds.outs ≡ count_by is_out ops = ap (λ k. k.outs) counted in
    omega (arith, by_kinds ops, inputs, lins, switches, boots, outs, few.inputs, few.lins, few.switches, few.boots, few.outs)
