-- counting operation by operation
use Rattle.std.proofs.Common.{◌≡◌, ℕ, ◌+◌, ◌≤◌, List, length, take, sym, ap, ◌∙◌, Some, arith}
use Rattle.std.specs.List.{sum_by, slice_get}
use Rattle.std.proofs.lemmas.List.{length-map}
use Rattle.std.proofs.lemmas.List.Sums.{sum_by_more, count_by-le-length}
use Rattle.std.proofs.lemmas.Option.{slice_get_within, get_or_from_slice_get}
use Rattle.tfhe_level.specs.declared.level.TfheOp.{TfheOp}
use Rattle.tfhe_level.specs.declared.level.TfheOp.TheVariants.{Input, Lin, Switch, Boot, Out}
use Rattle.tfhe_level.specs.Operations.{operands_of}
use Rattle.tfhe_level.specs.Counts.{is_weight, weight_count}

-- one more operation
pub counted_more : (f : TfheOp → ℕ) (nodes : List TfheOp) (n before : ℕ) (op : TfheOp) → slice_get nodes n ≡ Some op → before ≡ sum_by f (take n nodes) → before + f op ≡ sum_by f (take (n + 1) nodes)
counted_more f nodes n before op at is =
    ap (λ k. k + f op) is ∙ ap (λ o. sum_by f (take n nodes) + f o) (sym (get_or_from_slice_get nodes n op op at)) ∙ sym (sum_by_more f nodes n op (slice_get_within nodes n op at))

-- an operation has no more weights than operands
pub weight_count_most : (op : TfheOp) → weight_count op ≤ length (operands_of op)
weight_count_most (Input lo hi) = omega arith
weight_count_most (Lin constant terms) = omega (arith, count_by-le-length is_weight terms, length-map terms (λ t. t.0))
weight_count_most (Switch source) = omega arith
weight_count_most (Boot source entries) = omega arith
weight_count_most (Out source lo hi) = omega arith
