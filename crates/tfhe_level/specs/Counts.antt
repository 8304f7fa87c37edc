-- How much a circuit does.
use Rattle.std.specs.Prelude.{ℕ, Bool, not, List, count_by, ℤ, pos}
use Rattle.std.specs.Ordering.{int_eq}
use Rattle.std.specs.List.{sum_by}
use Rattle.fhe_params.specs.declared.table.Counts.{Counts}
use Rattle.tfhe_level.specs.declared.level.TfheOp.{TfheOp}
use Rattle.tfhe_level.specs.declared.level.TfheOp.TheVariants.{Lin}
use Rattle.tfhe_level.specs.Operations.{is_switch, is_boot}

-- a weight that is not 0
abbrev pub is_weight : ℕ × ℤ → Bool
is_weight t = not (int_eq t.1 (pos 0))

-- the weights of a weighted sum that are not 0
abbrev pub weight_count : TfheOp → ℕ
weight_count (Lin constant terms) = count_by is_weight terms
weight_count _ = 0

-- the key switches, the bootstraps, and the weights that are not 0 over all weighted sums
abbrev pub counts_of : List TfheOp → Counts
counts_of nodes =
    record { switches = count_by is_switch nodes; boots = count_by is_boot nodes; weights = sum_by weight_count nodes }
