-- The limits of what files of ciphertexts say of a circuit's inputs and of its outputs.
use Rattle.std.proofs.Common.{Bool, ◌≡◌, ℕ, ◌+◌, ◌*◌, ◌^◌, ◌<◌, ◌≤◌, ◌⊎◌, List, [], ◌∷◌, ◌++◌, length, All, inl, inr, ⊎_elim, refl, sym, ap, ◌∙◌, arith, ℤ, cond}
use Rattle.std.specs.Prelude.{count_by}
use Rattle.std.specs.List.{AllByRecursion}
use Rattle.std.proofs.Math.Nat.{mul-le-mul, pow-le-pow_right, one-le-pow}
use Rattle.std.proofs.lemmas.List.{length-append}
use Rattle.std.proofs.lemmas.List.Elements.{All-from_recursion, filter_map-append}
use Rattle.std.proofs.lemmas.List.Recursion.{is_count_by}
use Rattle.forms.specs.Ranges.{IsNumberRange}
use Rattle.fhe_params.specs.declared.params.Params.{Params}
use Rattle.fhe_params.specs.Params.{IsGlwe, coefficients, big_dimension}
use Rattle.tfhe_level.specs.declared.level.TfheOp.{TfheOp}
use Rattle.tfhe_level.specs.declared.level.TfheOp.TheVariants.{Input, Lin, Switch, Boot, Out}
use Rattle.tfhe_level.specs.declared.shape.Circuit.{Circuit}
use Rattle.tfhe_level.specs.Operations.{is_out}
use Rattle.tfhe_level.specs.Nodes.{nodes_of}
use Rattle.tfhe_level.specs.Rules.{KeepRules}
use Rattle.tfhe_level.specs.Laws.{input_ranges}
use Rattle.noise_model.specs.Circuits.{IsCircuit}
use Rattle.circuit_heads.specs.Heads.{out_range, out_ranges, head_with, input_head, output_head, HasHeadLimits}

-- ---- the inputs

each_range : (all earlier operations : List TfheOp) → KeepRules all earlier operations → AllByRecursion (λ range. IsNumberRange range.0 range.1) (input_ranges operations)
each_range all earlier [] kept = tt
each_range all earlier (Input lo hi ∷ operations) kept = (kept.0.range, each_range all (earlier ++ Input lo hi ∷ []) operations kept.1)
each_range all earlier (Lin constant terms ∷ operations) kept = each_range all (earlier ++ Lin constant terms ∷ []) operations kept.1
each_range all earlier (Switch source ∷ operations) kept = each_range all (earlier ++ Switch source ∷ []) operations kept.1
each_range all earlier (Boot source entries ∷ operations) kept = each_range all (earlier ++ Boot source entries ∷ []) operations kept.1
each_range all earlier (Out source lo hi ∷ operations) kept = each_range all (earlier ++ Out source lo hi ∷ []) operations kept.1

-- no input is left, or there is room for those that are
FewLeft : List TfheOp → List TfheOp → Type 0
FewLeft earlier operations = (length (input_ranges operations) ≡ 0) ⊎ (length earlier + length (input_ranges operations) ≤ 64)

one_more : (earlier operations : List TfheOp) (op : TfheOp) → FewLeft (earlier ++ op ∷ []) operations → FewLeft earlier operations
unfolding FewLeft
one_more earlier operations op (inl none) = inl none
one_more earlier operations op (inr some) = inr (omega (arith, some, length-append earlier (op ∷ [])))

one_input : (earlier operations : List TfheOp) (lo hi : ℤ) → length earlier < 64 → FewLeft (earlier ++ Input lo hi ∷ []) operations → FewLeft earlier (Input lo hi ∷ operations)
unfolding FewLeft
one_input earlier operations lo hi few (inl none) = inr (omega (arith, none, few))
one_input earlier operations lo hi few (inr some) = inr (omega (arith, some, length-append earlier (Input lo hi ∷ [])))

few_left : (all earlier operations : List TfheOp) → KeepRules all earlier operations → FewLeft earlier operations
unfolding FewLeft
few_left all earlier [] kept = inl refl
few_left all earlier (Input lo hi ∷ operations) kept = one_input earlier operations lo hi kept.0.few (few_left all (earlier ++ Input lo hi ∷ []) operations kept.1)
few_left all earlier (Lin constant terms ∷ operations) kept = one_more earlier operations (Lin constant terms) (few_left all (earlier ++ Lin constant terms ∷ []) operations kept.1)
few_left all earlier (Switch source ∷ operations) kept = one_more earlier operations (Switch source) (few_left all (earlier ++ Switch source ∷ []) operations kept.1)
few_left all earlier (Boot source entries ∷ operations) kept = one_more earlier operations (Boot source entries) (few_left all (earlier ++ Boot source entries ∷ []) operations kept.1)
few_left all earlier (Out source lo hi ∷ operations) kept = one_more earlier operations (Out source lo hi) (few_left all (earlier ++ Out source lo hi ∷ []) operations kept.1)

-- there are at most 64
few_inputs : (operations : List TfheOp) → KeepRules operations [] operations → length (input_ranges operations) ≤ 64
unfolding FewLeft
few_inputs operations kept = ⊎_elim (λ none. omega (arith, none)) (λ some. omega (arith, some)) (few_left operations [] operations kept)

-- ---- the outs

each_out : (all earlier operations : List TfheOp) → KeepRules all earlier operations → AllByRecursion (λ range. IsNumberRange range.0 range.1) (out_ranges operations)
each_out all earlier [] kept = tt
each_out all earlier (Input lo hi ∷ operations) kept = each_out all (earlier ++ Input lo hi ∷ []) operations kept.1
each_out all earlier (Lin constant terms ∷ operations) kept = each_out all (earlier ++ Lin constant terms ∷ []) operations kept.1
each_out all earlier (Switch source ∷ operations) kept = each_out all (earlier ++ Switch source ∷ []) operations kept.1
each_out all earlier (Boot source entries ∷ operations) kept = each_out all (earlier ++ Boot source entries ∷ []) operations kept.1
each_out all earlier (Out source lo hi ∷ operations) kept = (kept.0.range, each_out all (earlier ++ Out source lo hi ∷ []) operations kept.1)

-- a range for each out
first_counted : (op : TfheOp) (operations : List TfheOp) → length (out_ranges (op ∷ operations)) ≡ cond (is_out op) (1 + length (out_ranges operations)) (length (out_ranges operations))
first_counted (Input lo hi) operations = refl
first_counted (Lin constant terms) operations = refl
first_counted (Switch source) operations = refl
first_counted (Boot source entries) operations = refl
first_counted (Out source lo hi) operations = omega arith

number_of_outs : (operations : List TfheOp) → length (out_ranges operations) ≡ count_by is_out operations
number_of_outs operations = is_count_by (λ ops. length (out_ranges ops)) is_out refl first_counted operations

-- no out is left, or there is room for those that are
FewOuts : List TfheOp → List TfheOp → Type 0
FewOuts earlier operations = (length (out_ranges operations) ≡ 0) ⊎ (length (out_ranges earlier) + length (out_ranges operations) ≤ 64)

behind : (earlier : List TfheOp) (op : TfheOp) → length (out_ranges (earlier ++ op ∷ [])) ≡ length (out_ranges earlier) + length (out_ranges (op ∷ []))
behind earlier op = ap (λ ranges. length ranges) (filter_map-append out_range earlier (op ∷ [])) ∙ length-append (out_ranges earlier) (out_ranges (op ∷ []))

no_out : (earlier operations : List TfheOp) (op : TfheOp) → length (out_ranges (op ∷ [])) ≡ 0 → FewOuts (earlier ++ op ∷ []) operations → FewOuts earlier operations
unfolding FewOuts
no_out earlier operations op is (inl none) = inl none
no_out earlier operations op is (inr some) = inr (omega (arith, some, behind earlier op, is))

one_out : (earlier operations : List TfheOp) (source : ℕ) (lo hi : ℤ) → length (out_ranges earlier) < 64 → FewOuts (earlier ++ Out source lo hi ∷ []) operations → FewOuts earlier (Out source lo hi ∷ operations)
unfolding FewOuts
one_out earlier operations source lo hi few (inl none) = inr (omega (arith, none, few))
one_out earlier operations source lo hi few (inr some) = inr (omega (arith, some, behind earlier (Out source lo hi)))

outs_left : (all earlier operations : List TfheOp) → KeepRules all earlier operations → FewOuts earlier operations
unfolding FewOuts
outs_left all earlier [] kept = inl refl
outs_left all earlier (Input lo hi ∷ operations) kept = no_out earlier operations (Input lo hi) refl (outs_left all (earlier ++ Input lo hi ∷ []) operations kept.1)
outs_left all earlier (Lin constant terms ∷ operations) kept = no_out earlier operations (Lin constant terms) refl (outs_left all (earlier ++ Lin constant terms ∷ []) operations kept.1)
outs_left all earlier (Switch source ∷ operations) kept = no_out earlier operations (Switch source) refl (outs_left all (earlier ++ Switch source ∷ []) operations kept.1)
outs_left all earlier (Boot source entries ∷ operations) kept = no_out earlier operations (Boot source entries) refl (outs_left all (earlier ++ Boot source entries ∷ []) operations kept.1)
outs_left all earlier (Out source lo hi ∷ operations) kept = one_out earlier operations source lo hi (omega (arith, number_of_outs earlier, kept.0.few)) (outs_left all (earlier ++ Out source lo hi ∷ []) operations kept.1)

few_outs : (operations : List TfheOp) → KeepRules operations [] operations → length (out_ranges operations) ≤ 64
unfolding FewOuts
few_outs operations kept = ⊎_elim (λ none. omega (arith, none)) (λ some. omega (arith, some)) (outs_left operations [] operations kept)

-- ---- the whole

power_short : (n : ℕ) → n ≤ 13 → 2 ^ n ≤ 8192
power_short n few = pow-le-pow_right {n = 2} (omega arith) few

-- a big key has at most 3 * 2^13 bits
big_short : (params : Params) → IsGlwe params.glwe → big_dimension params ≤ 24576
big_short params is =
    let words : coefficients params.glwe ≤ 8192 = power_short params.glwe.log_n is.log_n_high in
    mul-le-mul is.k_high words

with_limits : (c : Circuit) (ranges : List (ℤ × ℤ)) → IsCircuit c → length ranges ≤ 64 → All (λ range. IsNumberRange range.0 range.1) ranges → HasHeadLimits (head_with c ranges)
with_limits c ranges is few each =
    let some_words : 1 ≤ coefficients c.params.glwe = one-le-pow c.params.glwe.log_n 2 (omega arith) in
    let some : 1 * 1 ≤ big_dimension c.params = mul-le-mul is.params.glwe.k_low some_words in
    record {
      dim = record { least = some; most = big_short c.params is.params.glwe };
      width = record { least = is.shape.width.low; most = is.shape.width.high };
      number = record { least = omega arith; most = few };
      ranges = each;
    }

pub input_limits : (c : Circuit) → IsCircuit c → HasHeadLimits (input_head c)
input_limits c is =
    let nodes = nodes_of c.shape in
    with_limits c (input_ranges nodes) is (few_inputs nodes is.shape.nodes.rules) (All-from_recursion (λ range. IsNumberRange range.0 range.1) (input_ranges nodes) (each_range nodes [] nodes is.shape.nodes.rules))

pub output_limits : (c : Circuit) → IsCircuit c → HasHeadLimits (output_head c)
output_limits c is =
    let nodes = nodes_of c.shape in
    with_limits c (out_ranges nodes) is (few_outs nodes is.shape.nodes.rules) (All-from_recursion (λ range. IsNumberRange range.0 range.1) (out_ranges nodes) (each_out nodes [] nodes is.shape.nodes.rules))
