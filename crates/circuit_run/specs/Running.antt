-- The words of a circuit's operations, from those of its inputs and the evaluation keys.
use Rattle.std.specs.Prelude.{ℕ, ◌+◌, ◌^◌, List, [], ◌∷◌, length, map, replicate, Option, Some, None, ℤ}
use Rattle.std.specs.List.{slice_index_or}
use Rattle.word_ring.specs.Rows.{combined}
use Rattle.word_ring.specs.Signed.{word_of}
use Rattle.lwe_core.specs.Decoding.{encoded}
use Rattle.lwe_core.specs.Phase.{with_message}
use Rattle.key_switch.specs.Key.{SwitchRows}
use Rattle.key_switch.specs.Switching.{switched}
use Rattle.lut_encode.specs.TestPolynomial.{test_polynomial}
use Rattle.blind_rotate.specs.BootKey.{BootRows}
use Rattle.blind_rotate.specs.Bootstrap.{bootstrapped}
use Rattle.fhe_params.specs.Params.{big_dimension}
use Rattle.forms.specs.FromEarlier.{from_earlier}
use Rattle.tfhe_level.specs.declared.level.TfheOp.{TfheOp}
use Rattle.tfhe_level.specs.declared.level.TfheOp.TheVariants.{Input, Lin, Switch, Boot, Out}
use Rattle.tfhe_level.specs.declared.shape.Circuit.{Circuit}
use Rattle.tfhe_level.specs.Nodes.{nodes_of, at_outs}

-- the words at a place, and none past the end
abbrev pub row_at : List (List ℕ) → ℕ → List ℕ
row_at rows place = slice_index_or rows place []

-- each weight times its operand, added up word by word modulo 2^64; the ciphertexts have so many words
abbrev pub weighted_row : ℕ → List (ℕ × ℤ) → List (List ℕ) → List ℕ
weighted_row len terms rows =
    combined (replicate len 0) (map (λ t. word_of t.1) terms) (map (λ t. row_at rows t.0) terms)

-- a weighted sum under a key of this dimension: the weighted operands, and the place of the constant added to the body
unfoldable pub lin_row : ℕ → ℕ → ℤ → List (ℕ × ℤ) → List (List ℕ) → List ℕ
lin_row dim width constant terms rows = with_message dim (weighted_row (dim + 1) terms rows) (encoded width constant)

-- the evaluation keys: a circuit without a bootstrap needs none
pub record EvalKeys : Type 0 where
  pub switch : Option SwitchRows
  pub boot : Option BootRows

-- those of these two
abbrev pub eval_keys : Option SwitchRows → Option BootRows → EvalKeys
eval_keys switch boot = record { switch = switch; boot = boot }

-- a ciphertext switched with a key; without one there are no words
abbrev pub switched_by : Option SwitchRows → List ℕ → List ℕ
switched_by (Some key) words = switched key words
switched_by None words = []

-- a ciphertext bootstrapped with a key and the test polynomial of a table; without one there are no words
abbrev pub looked_up_by : Option BootRows → ℕ → List ℤ → List ℕ → List ℕ
looked_up_by (Some key) width entries words =
    bootstrapped key (test_polynomial entries (2 ^ key.shape.log_n) width) words
looked_up_by None width entries words = []

-- the words of an operation, from those of the inputs and of the operations before it
abbrev pub node_row : Circuit → EvalKeys → List (List ℕ) → List (List ℕ) → TfheOp → List ℕ
node_row c keys inputs earlier (Input lo hi) = row_at inputs (length earlier)
node_row c keys inputs earlier (Lin constant terms) =
    lin_row (big_dimension c.params) c.shape.width constant terms earlier
node_row c keys inputs earlier (Switch source) = switched_by keys.switch (row_at earlier source)
node_row c keys inputs earlier (Boot source entries) =
    looked_up_by keys.boot c.shape.width entries (row_at earlier source)
node_row c keys inputs earlier (Out source lo hi) = row_at earlier source

-- the words of these operations
abbrev pub words_of : Circuit → EvalKeys → List (List ℕ) → List TfheOp → List (List ℕ)
words_of c keys inputs operations = from_earlier (node_row c keys inputs) [] operations

-- the words of all operations of a circuit
abbrev pub run_words : Circuit → EvalKeys → List (List ℕ) → List (List ℕ)
run_words c keys inputs = words_of c keys inputs (nodes_of c.shape)

-- the words of its outs, in order
abbrev pub output_words : Circuit → EvalKeys → List (List ℕ) → List (List ℕ)
output_words c keys inputs = at_outs (nodes_of c.shape) (run_words c keys inputs)
