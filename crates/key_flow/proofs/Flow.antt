-- From keys and values to values again.
use Rattle.std.proofs.Common.{◌≡◌, ℕ, suc, ◌≤ℤ◌, ◌+◌, ◌*◌, Bool, true, false, List, [], ◌∷◌, length, map, Ok, refl, sym, ap, subst, ◌∙◌, arith, cond, ℤ, pos, ◌-ℤ◌, int_le, T}
use Rattle.std.specs.List.{range_with_len}
use Rattle.std.proofs.lemmas.Int.{ints}
use Rattle.std.proofs.lemmas.List.FromFn.{length-map-range_with_len}
use Rattle.lwe_core.specs.Phase.{phase_of}
use Rattle.lwe_core.specs.Decoding.{encoded, decoded}
use Rattle.lwe_core.specs.Encrypts.{Encrypts}
use Rattle.lwe_core.specs.Secret.{HasDimensions}
use Rattle.fhe_params.specs.Params.{IsParams, big_dimension}
use Rattle.tfhe_level.specs.declared.shape.Circuit.{Circuit}
use Rattle.forms.specs.Forms.{number_at, AreIn}
use Rattle.key_gen.specs.Seeds.{drawn_row, key_numbers, input_label}
use Rattle.key_gen.specs.Laws.{KeyLaws, BootKeyLaws}
use Rattle.blind_rotate.specs.Fits.{KeysFit}
use Rattle.noise_model.specs.Circuits.{IsCircuit}
use Rattle.seed_stream.specs.Draws.{stream_key}
use Rattle.tfhe_level.specs.Nodes.{nodes_of, node_ranges, at_outs, clear_values}
use Rattle.tfhe_level.specs.Laws.{input_ranges}
use Rattle.sealed_files.specs.Laws.{MatchLaws}
use Rattle.circuit_digest.specs.ParamsDigest.{params_digest}
use Rattle.circuit_heads.specs.Heads.{out_ranges}
use Rattle.circuit_heads.specs.Laws.{HeadLaws}
use Rattle.cipher_files.specs.SecretFile.{secret_file}
use Rattle.cipher_files.specs.CipherFile.{cipher_head, key_fits}
use Rattle.value_files.specs.Values.{values_text}
use Rattle.circuit_run.specs.Running.{EvalKeys, output_words}
use Rattle.circuit_run.specs.Noise.{AreOfParams, EvalKeysFit, StandFor, AreGood, IsRight, AreRight}
use Rattle.circuit_run.specs.Laws.{NoiseLaws}
use Rattle.key_commands.specs.Encrypt.{drawn_input, drawn_inputs}
use Rattle.key_commands.specs.Decrypt.{value_at, values_at, decrypted_text}
use Rattle.command_files.specs.Files.{has_boot}
use Rattle.key_commands.specs.Keygen.{secret_of_seed, eval_keys_of_seed}
use Rattle.run_command.specs.Run.{some_keys, no_keys, output_file}
use Rattle.key_flow.specs.Laws.{run_keys, inputs_of, KeyCommandLaws}

-- ---- inputs

-- the first value is that at its place
first_is : (all : List ℤ) (value : ℤ) (values : List ℤ) (place : ℕ) → ((i : ℕ) → number_at all (place + i) ≡ number_at (value ∷ values) i) → number_at all place ≡ value
first_is all value values place same = ap (number_at all) (omega arith) ∙ same 0

-- ciphertexts at places from one on stand for the values from there on
stand_from : KeyLaws → (key : List ℕ) (big : List Bool) (width bound : ℕ) (all values : List ℤ) (place : ℕ) → ((i : ℕ) → number_at all (place + i) ≡ number_at values i)
    → StandFor big width bound (map (drawn_input key big width bound all) (range_with_len place (length values))) values
stand_from laws key big width bound all [] place same = tt
stand_from laws key big width bound all (value ∷ values) place same = (
  subst (λ (v : ℤ). Encrypts big (drawn_row key (place * (length big + 1)) big (encoded width v) bound) value width bound) (sym (first_is all value values place same)) (laws.fresh key (place * (length big + 1)) big value width bound),
  stand_from laws key big width bound all values (place + 1) (λ i. ap (number_at all) (omega arith) ∙ same (suc i)),
)

fresh : KeyLaws → (key : List ℕ) (big : List Bool) (width bound : ℕ) (values : List ℤ) → StandFor big width bound (drawn_inputs key big width bound values) values
fresh laws key big width bound values = stand_from laws key big width bound values values 0 (λ i. ap (number_at values) (omega arith))

-- ---- outputs

from_holds : (b : Bool) → T b → b ≡ true
from_holds true e = refl
from_holds false e = absurd e

value_right : (line width : ℕ) (big : List Bool) (range : ℤ × ℤ) (bound : ℕ) (row : List ℕ) (value : ℤ) → IsRight big width bound range row value → value_at line width big range row ≡ Ok value
unfolding value_at
value_right line width big range bound row value right =
    let offset : ℤ = pos (decoded (phase_of big row) width range.0) in
    let below : offset ≤ℤ (range.1 -ℤ range.0) = omega (arith, ints, right.decodes, right.inside.most) in
    let held : int_le offset (range.1 -ℤ range.0) ≡ true = from_holds (int_le offset (range.1 -ℤ range.0)) below.le in
    rw held (ap (λ (v : ℤ). Ok v) right.decodes)

all_right : (line width : ℕ) (big : List Bool) (ranges : List (ℤ × ℤ)) (bounds : List ℕ) (rows : List (List ℕ)) (values : List ℤ) → AreRight big width ranges bounds rows values → values_at line width big ranges rows ≡ Ok values
unfolding values_at
all_right line width big [] [] [] [] right = refl
all_right line width big [] [] [] (value ∷ values) right = absurd right
all_right line width big [] [] (row ∷ rows) values right = absurd right
all_right line width big [] (bound ∷ bounds) rows values right = absurd right
all_right line width big (range ∷ ranges) [] rows values right = absurd right
all_right line width big (range ∷ ranges) (bound ∷ bounds) [] values right = absurd right
all_right line width big (range ∷ ranges) (bound ∷ bounds) (row ∷ rows) [] right = absurd right
all_right line width big (range ∷ ranges) (bound ∷ bounds) (row ∷ rows) (value ∷ values) right =
    rw (value_right line width big range bound row value right.0, all_right (line + 1) width big ranges bounds rows values right.1) refl

-- a key that is the circuit's fits the file of its outputs
key_is : MatchLaws → (circuit : Circuit) (keys : EvalKeys) (big : List Bool) (inputs : List (List ℕ)) → length big ≡ big_dimension circuit.params → key_fits (params_digest circuit.params) big (cipher_head (output_file circuit keys inputs)) ≡ Ok tt
unfolding key_fits
key_is laws circuit keys big inputs long = rw (laws.same_digests (params_digest circuit.params), long, laws.same_words (big_dimension circuit.params)) refl

printed : MatchLaws → HeadLaws → NoiseLaws → (circuit : Circuit) (keys : EvalKeys) (big small : List Bool) (values : List ℤ) (inputs : List (List ℕ)) → IsCircuit circuit → AreGood circuit keys big small values inputs
    → decrypted_text (secret_file (params_digest circuit.params) small big) (output_file circuit keys inputs) ≡ Ok (values_text (clear_values (nodes_of circuit.shape) values))
unfolding decrypted_text
printed match_laws heads noise circuit keys big small values inputs is good =
    let right = noise.outputs_right circuit keys big small values inputs is good in
    let nodes = nodes_of circuit.shape in
    let decoded_all : values_at 1 circuit.shape.width big (out_ranges nodes) (output_words circuit keys inputs) ≡ Ok (clear_values nodes values) =
    ap (λ (ranges : List (ℤ × ℤ)). values_at 1 circuit.shape.width big ranges (output_words circuit keys inputs)) (heads.outs nodes)
    ∙ all_right 1 circuit.shape.width big _ _ _ _ right in
    rw (key_is match_laws circuit keys big inputs good.secret.big_length, decoded_all) refl

-- ---- from values to values

dimensions : (circuit : Circuit) (seed : List ℕ) → HasDimensions (big_dimension circuit.params) circuit.params.lwe.n (secret_of_seed circuit seed).big (secret_of_seed circuit seed).small
dimensions circuit seed = record {
  big_length = length-map-range_with_len _ 0 (big_dimension circuit.params);
  small_length = length-map-range_with_len _ 0 circuit.params.lwe.n;
}

keys_fit : BootKeyLaws → (circuit : Circuit) (seed : List ℕ) → IsParams circuit.params
    → KeysFit (key_numbers circuit.params) (secret_of_seed circuit seed).big (secret_of_seed circuit seed).small (eval_keys_of_seed circuit seed).switch.rows (eval_keys_of_seed circuit seed).boot.ggsws
keys_fit boots circuit seed is = boots.keys_fit (key_numbers circuit.params) seed (boots.parameters_can circuit.params is)

-- the keys of a seed are of the parameters
of_params : (circuit : Circuit) (seed : List ℕ) → AreOfParams circuit.params (eval_keys_of_seed circuit seed).switch (eval_keys_of_seed circuit seed).boot
of_params circuit seed = record {
  big_dim = (dimensions circuit seed).big_length;
  small_dim = (dimensions circuit seed).small_length;
  base = refl;
  level = refl;
  shape = refl;
}

-- where the circuit has a bootstrap, they are there and fit
run_keys_fit : BootKeyLaws → (circuit : Circuit) (seed : List ℕ) → IsParams circuit.params → has_boot circuit ≡ true
    → EvalKeysFit circuit.params (secret_of_seed circuit seed).big (secret_of_seed circuit seed).small (run_keys circuit seed).switch (run_keys circuit seed).boot
run_keys_fit boots circuit seed is boot =
    subst (λ (b : Bool). EvalKeysFit circuit.params (secret_of_seed circuit seed).big (secret_of_seed circuit seed).small (cond b (some_keys (eval_keys_of_seed circuit seed)) no_keys).switch (cond b (some_keys (eval_keys_of_seed circuit seed)) no_keys).boot)
    (sym boot) (of_params circuit seed, keys_fit boots circuit seed is)

whole : KeyLaws → BootKeyLaws → NoiseLaws → (circuit : Circuit) (seed other : List ℕ) (values : List ℤ) → IsCircuit circuit → AreIn (input_ranges (nodes_of circuit.shape)) values
    → values_at 1 circuit.shape.width (secret_of_seed circuit seed).big (at_outs (nodes_of circuit.shape) (node_ranges (nodes_of circuit.shape)))
    (output_words circuit (run_keys circuit seed) (inputs_of circuit (secret_of_seed circuit seed).big other values)) ≡ Ok (clear_values (nodes_of circuit.shape) values)
whole keys boots noise circuit seed other values is within =
    let big = (secret_of_seed circuit seed).big in
    let inputs = inputs_of circuit big other values in
    let good : AreGood circuit (run_keys circuit seed) big (secret_of_seed circuit seed).small values inputs = record {
      secret = dimensions circuit seed;
      fit = λ boot. run_keys_fit boots circuit seed is.params boot;
      ranges = within;
      fresh = fresh keys (stream_key other input_label) big circuit.shape.width circuit.params.glwe.error values;
    } in
    all_right 1 circuit.shape.width big _ _ _ _ (noise.outputs_right circuit (run_keys circuit seed) big (secret_of_seed circuit seed).small values inputs is good)

-- ---- all of it

pub flow : KeyLaws → BootKeyLaws → NoiseLaws → MatchLaws → HeadLaws → KeyCommandLaws
flow keys boots noise match_laws heads = record {
  keys_fit = keys_fit boots;
  dimensions = dimensions;
  fresh = fresh keys;
  decrypted = all_right;
  printed = printed match_laws heads noise;
  whole = whole keys boots noise;
}
