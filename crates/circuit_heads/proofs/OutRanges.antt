-- The ranges of outs, among those of all operations.
use Rattle.std.proofs.Common.{◌≡◌, List, [], ◌∷◌, ◌++◌, refl, sym, ap, ◌∙◌, append_assoc}
use lib.IntN.{ℤ}
use Rattle.std.proofs.lemmas.List.{append-nil}
use Rattle.forms.specs.FromEarlier.{from_earlier}
use Rattle.tfhe_level.specs.declared.level.TfheOp.{TfheOp}
use Rattle.tfhe_level.specs.declared.level.TfheOp.TheVariants.{Input, Lin, Switch, Boot, Out}
use Rattle.tfhe_level.specs.Nodes.{range_of, node_ranges, at_outs}
use Rattle.circuit_heads.specs.Heads.{out_ranges}
use Rattle.circuit_heads.specs.Laws.{HeadLaws}
use Rattle.circuit_heads.proofs.HeadLimits.{input_limits, output_limits}

-- the ranges of these operations, where those of the operations before them are given
record Found (earlier : List (ℤ × ℤ)) (operations : List TfheOp) : Type 0 where
  found : List (ℤ × ℤ)
  behind : from_earlier range_of earlier operations ≡ earlier ++ found
  outs : out_ranges operations ≡ at_outs operations found

in_front : (earlier : List (ℤ × ℤ)) (op : TfheOp) (operations : List TfheOp) (found : List (ℤ × ℤ)) → out_ranges operations ≡ at_outs operations found → out_ranges (op ∷ operations) ≡ at_outs (op ∷ operations) (range_of earlier op ∷ found)
in_front earlier (Input lo hi) operations found same = same
in_front earlier (Lin constant terms) operations found same = same
in_front earlier (Switch source) operations found same = same
in_front earlier (Boot source entries) operations found same = same
in_front earlier (Out source lo hi) operations found same = ap (λ ranges. (lo, hi) ∷ ranges) same

found_in : (earlier : List (ℤ × ℤ)) (operations : List TfheOp) → Found earlier operations
found_in earlier [] = record { found = []; behind = sym (append-nil earlier); outs = refl }
found_in earlier (op ∷ operations) =
    let rest = found_in (earlier ++ range_of earlier op ∷ []) operations in
    record {
      found = range_of earlier op ∷ rest.found;
      behind = rest.behind ∙ append_assoc earlier (range_of earlier op ∷ []) rest.found;
      outs = in_front earlier op operations rest.found rest.outs;
    }

outs : (operations : List TfheOp) → out_ranges operations ≡ at_outs operations (node_ranges operations)
outs operations = let all = found_in [] operations in all.outs ∙ ap (at_outs operations) (sym all.behind)

pub head_laws : HeadLaws
head_laws = record { outs = outs; input_limits = input_limits; output_limits = output_limits }
