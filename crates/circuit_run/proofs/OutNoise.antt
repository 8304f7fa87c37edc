-- What holds at each out holds of the outputs in order.
use Rattle.std.proofs.Common.{◌≡◌, ℕ, zero, suc, ◌+◌, ◌<◌, ◌≤◌, ℤ, pos, Bool, true, false, cond, List, [], ◌∷◌, length, map, filter, get_or, refl, sym, ap, ◌∙◌, arith, Some}
use Rattle.std.specs.List.{slice_get, zip}
use Rattle.forms.specs.Forms.{number_at, range_at}
use Rattle.forms.specs.FromEarlier.{length-from_earlier}
use Rattle.tfhe_level.specs.declared.level.TfheOp.{TfheOp}
use Rattle.tfhe_level.specs.declared.shape.Circuit.{Circuit}
use Rattle.tfhe_level.specs.Operations.{is_out}
use Rattle.tfhe_level.specs.Nodes.{nodes_of, at_outs, value_of, node_values, node_ranges, clear_values}
use Rattle.noise_model.specs.Bounds.{bound_of, noise_bounds}
use Rattle.noise_model.specs.Circuits.{IsCircuit}
use Rattle.circuit_run.specs.Running.{EvalKeys, row_at, node_row, run_words, output_words}
use Rattle.circuit_run.specs.Laws.{RowLaws, NoiseLaws}
use Rattle.circuit_run.specs.Noise.{AreGood, IsRight, AreRight}
use Rattle.circuit_run.proofs.Ranges.{count_ranges, count_values, value_in}
use Rattle.circuit_run.proofs.RoomRows.{held_in_room}
use Rattle.circuit_run.proofs.Terms.{CiphertextLaws}
use Rattle.circuit_run.proofs.Stands.{node_noise, out_right}

-- one operation, which is an out or is none
first_right : (bits : List Bool) (width : ℕ) (b : Bool) (op : TfheOp) (range : ℤ × ℤ) (bound : ℕ) (row : List ℕ) (value : ℤ) (ranges : List (TfheOp × (ℤ × ℤ))) (bounds : List (TfheOp × ℕ)) (rows : List (TfheOp × List ℕ)) (values : List (TfheOp × ℤ)) → (b ≡ true → IsRight bits width bound range row value)
    → AreRight bits width (map (λ n. n.1) ranges) (map (λ n. n.1) bounds) (map (λ n. n.1) rows) (map (λ n. n.1) values)
    → AreRight bits width (map (λ n. n.1) (cond b ((op, range) ∷ ranges) ranges)) (map (λ n. n.1) (cond b ((op, bound) ∷ bounds) bounds)) (map (λ n. n.1) (cond b ((op, row) ∷ rows) rows)) (map (λ n. n.1) (cond b ((op, value) ∷ values) values))
first_right bits width true op range bound row value ranges bounds rows values right rest = (right refl, rest)
first_right bits width false op range bound row value ranges bounds rows values right rest = rest

outs_right : (bits : List Bool) (width : ℕ) (operations : List TfheOp) (ranges : List (ℤ × ℤ)) (bounds : List ℕ) (rows : List (List ℕ)) (values : List ℤ) → length ranges ≡ length operations → length bounds ≡ length operations → length rows ≡ length operations → length values ≡ length operations
    → ((n : ℕ) (op : TfheOp) → slice_get operations n ≡ Some op → is_out op ≡ true → IsRight bits width (get_or bounds n 0) (range_at ranges n) (row_at rows n) (number_at values n))
    → AreRight bits width (at_outs operations ranges) (at_outs operations bounds) (at_outs operations rows) (at_outs operations values)
outs_right bits width [] ranges bounds rows values p q r s right = tt
outs_right bits width (op ∷ operations) [] bounds rows values p q r s right = absurd (omega (arith, p))
outs_right bits width (op ∷ operations) (range ∷ ranges) [] rows values p q r s right = absurd (omega (arith, q))
outs_right bits width (op ∷ operations) (range ∷ ranges) (bound ∷ bounds) [] values p q r s right = absurd (omega (arith, r))
outs_right bits width (op ∷ operations) (range ∷ ranges) (bound ∷ bounds) (row ∷ rows) [] p q r s right = absurd (omega (arith, s))
outs_right bits width (op ∷ operations) (range ∷ ranges) (bound ∷ bounds) (row ∷ rows) (value ∷ values) p q r s right =
    first_right bits width (is_out op) op range bound row value
    (filter (λ node. is_out node.0) (zip operations ranges)) (filter (λ node. is_out node.0) (zip operations bounds)) (filter (λ node. is_out node.0) (zip operations rows)) (filter (λ node. is_out node.0) (zip operations values))
    (right 0 op refl)
    (outs_right bits width operations ranges bounds rows values (omega (arith, p)) (omega (arith, q)) (omega (arith, r)) (omega (arith, s)) (λ n o at is. right (suc n) o at is))

count_bounds : (c : Circuit) → length (noise_bounds c.params (nodes_of c.shape)) ≡ length (nodes_of c.shape)
count_bounds c = omega (arith, length-from_earlier (bound_of c.params) [] (nodes_of c.shape))

count_words : (c : Circuit) (keys : EvalKeys) (inputs : List (List ℕ)) → length (run_words c keys inputs) ≡ length (nodes_of c.shape)
count_words c keys inputs = omega (arith, length-from_earlier (node_row c keys inputs) [] (nodes_of c.shape))

outputs_right : CiphertextLaws → (c : Circuit) (keys : EvalKeys) (big small : List Bool) (values : List ℤ) (inputs : List (List ℕ)) → IsCircuit c → AreGood c keys big small values inputs
    → AreRight big c.shape.width (at_outs (nodes_of c.shape) (node_ranges (nodes_of c.shape))) (at_outs (nodes_of c.shape) (noise_bounds c.params (nodes_of c.shape))) (output_words c keys inputs) (clear_values (nodes_of c.shape) values)
outputs_right laws c keys big small values inputs is good =
    outs_right big c.shape.width (nodes_of c.shape) (node_ranges (nodes_of c.shape)) (noise_bounds c.params (nodes_of c.shape)) (run_words c keys inputs) (node_values (nodes_of c.shape) values)
    (count_ranges (nodes_of c.shape)) (count_bounds c) (count_words c keys inputs) (count_values (nodes_of c.shape) values)
    (out_right laws c keys big small values inputs is good)

pub row_laws : RowLaws
row_laws = record { number = count_words; held = held_in_room }

pub noise_of_runs : CiphertextLaws → NoiseLaws
noise_of_runs laws = record {
  node_noise = node_noise laws;
  node_range = λ c values n is given there. value_in laws.forms laws.nodes (nodes_of c.shape) values n is.shape.nodes.rules given there;
  outputs_right = outputs_right laws;
}
