-- The limits of the file of outputs.
use Rattle.std.proofs.Common.{◌≡◌, ℕ, ◌+◌, Bool, true, false, cond, List, [], ◌∷◌, length, map, filter, All, refl, sym, ap, ◌∙◌, arith}
use lib.IntN.{ℤ}
use Rattle.std.specs.List.{zip}
use Rattle.forms.specs.FromEarlier.{length-from_earlier}
use Rattle.fhe_params.specs.Params.{big_dimension}
use Rattle.tfhe_level.specs.declared.level.TfheOp.{TfheOp}
use Rattle.tfhe_level.specs.declared.shape.Circuit.{Circuit}
use Rattle.tfhe_level.specs.Operations.{is_out}
use Rattle.tfhe_level.specs.Nodes.{nodes_of, at_outs, range_of, node_ranges}
use Rattle.noise_model.specs.Circuits.{IsCircuit}
use Rattle.circuit_heads.specs.Heads.{out_ranges, output_head}
use Rattle.circuit_heads.specs.Laws.{HeadLaws}
use Rattle.cipher_files.specs.CipherFile.{file_of, HasCipherLimits}
use Rattle.circuit_run.specs.Running.{EvalKeys, node_row, run_words, output_words}

-- one operation in front, which is an out or is none
in_front : {A B : Type 0} (b : Bool) (op : TfheOp) (x : A) (y : B) (xs : List (TfheOp × A)) (ys : List (TfheOp × B)) → length (map (λ (n : TfheOp × A). n.1) xs) ≡ length (map (λ (n : TfheOp × B). n.1) ys)
    → length (map (λ (n : TfheOp × A). n.1) (cond b ((op, x) ∷ xs) xs)) ≡ length (map (λ (n : TfheOp × B). n.1) (cond b ((op, y) ∷ ys) ys))
in_front true op x y xs ys same = omega (arith, same)
in_front false op x y xs ys same = same

-- there is one for each out, whatever there is one of for each operation
as_many_outs : {A B : Type 0} (operations : List TfheOp) (xs : List A) (ys : List B) → length xs ≡ length operations → length ys ≡ length operations → length (at_outs operations xs) ≡ length (at_outs operations ys)
as_many_outs [] xs ys p q = refl
as_many_outs (op ∷ operations) [] ys p q = absurd (omega (arith, p))
as_many_outs (op ∷ operations) (x ∷ xs) [] p q = absurd (omega (arith, q))
as_many_outs {A} {B} (op ∷ operations) (x ∷ xs) (y ∷ ys) p q =
    in_front (is_out op) op x y (filter (λ (n : TfheOp × A). is_out n.0) (zip operations xs)) (filter (λ (n : TfheOp × B). is_out n.0) (zip operations ys)) (as_many_outs operations xs ys (omega (arith, p)) (omega (arith, q)))

output_number : HeadLaws → (circuit : Circuit) (keys : EvalKeys) (inputs : List (List ℕ)) → length (output_words circuit keys inputs) ≡ length (out_ranges (nodes_of circuit.shape))
output_number laws circuit keys inputs =
    let nodes = nodes_of circuit.shape in
    as_many_outs nodes (run_words circuit keys inputs) (node_ranges nodes) (omega (arith, length-from_earlier (node_row circuit keys inputs) [] nodes)) (omega (arith, length-from_earlier range_of [] nodes))
    ∙ ap (λ (ranges : List (ℤ × ℤ)). length ranges) (sym (laws.outs nodes))

-- the outputs of a circuit keep the limits of a file
pub output_limits : HeadLaws → (circuit : Circuit) (keys : EvalKeys) (inputs list : List (List ℕ)) → IsCircuit circuit → list ≡ output_words circuit keys inputs → All (λ row. length row ≡ big_dimension circuit.params + 1) list → HasCipherLimits (file_of (output_head circuit) list)
output_limits laws circuit keys inputs list is words long =
    let head = laws.output_limits circuit is in
    record {
      dim = head.dim;
      width = head.width;
      number = head.number;
      ranges = head.ranges;
      count = ap (λ (rows : List (List ℕ)). length rows) words ∙ output_number laws circuit keys inputs;
      lengths = long;
    }
