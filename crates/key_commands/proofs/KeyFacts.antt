-- What the keys of a seed are, for their files.
use Rattle.std.proofs.Common.{◌≡◌, ℕ, ◌*◌, ◌+◌, ◌^◌, ◌≤◌, Bool, true, false, List, [], ◌∷◌, ◌++◌, length, All, Result, Ok, refl, sym, ap, subst, ◌∙◌, arith, cond}
use Rattle.std.specs.List.{list_any}
use Rattle.std.proofs.lemmas.List.Elements.{All-head}
use Rattle.std.proofs.lemmas.List.FromFn.{length-map-range_with_len}
use Rattle.fhe_params.specs.declared.params.Params.{Params}
use Rattle.fhe_params.specs.Params.{IsParams, big_dimension}
use Rattle.fhe_params.specs.Cost.{key_words_of}
use Rattle.tfhe_level.specs.declared.shape.Circuit.{Circuit}
use Rattle.tfhe_level.specs.Operations.{is_boot}
use Rattle.tfhe_level.specs.Nodes.{nodes_of}
use Rattle.noise_model.specs.Circuits.{IsCircuit}
use Rattle.noise_model.specs.declared.constraints.Constraint.TheVariants.{Size}
use Rattle.noise_model.specs.Constraints.{IsMet, noise_constraints, constraints_of, most_key_words}
use Rattle.blind_rotate.specs.BootKey.{BootRows, IsBootKey}
use Rattle.lwe_core.specs.Secret.{HasDimensions}
use Rattle.sealed_files.specs.Kinds.{IsWithin}
use Rattle.sealed_files.specs.Kinds as fields
use Rattle.key_gen.specs.Seeds.{drawn_bits, drawn_boot_key, key_numbers}
use Rattle.cipher_files.specs.SecretFile.{secret_file, HasSecretLimits}
use Rattle.cipher_files.specs.EvalFile.{IsBootOf}
use Rattle.port_store.specs.Files.{Files}
use Rattle.refusals.specs.Reading.{◌>>=◌, unless}
use Rattle.command_forms.specs.declared.fault.Fault.{Fault}
use Rattle.command_forms.specs.declared.fault.Fault.TheVariants as fault
use Rattle.command_forms.specs.Names.{are_distinct}
use Rattle.key_commands.specs.Words.{KeygenWords, keygen_files}
use Rattle.command_files.specs.Files.{has_boot, fits_eval}
use Rattle.key_commands.specs.Keygen.{KeyFiles, key_files_of}

-- ---- bootstraps

met_size : (p : Params) (circuit : Circuit) (b : Bool) → list_any is_boot (nodes_of circuit.shape) ≡ b → b ≡ true → All IsMet (constraints_of p circuit.shape) → key_words_of p ≤ 2 ^ 25
met_size p circuit true is e met =
    let same : All IsMet (cond true (record { on = Size; bound = key_words_of p; limit = most_key_words } ∷ []) [] ++ noise_constraints p circuit.shape) = subst (λ (c : Bool). All IsMet (cond c (record { on = Size; bound = key_words_of p; limit = most_key_words } ∷ []) [] ++ noise_constraints p circuit.shape)) is met in
    All-head IsMet (record { on = Size; bound = key_words_of p; limit = most_key_words }) (noise_constraints p circuit.shape) same
met_size p circuit false is e met = absurd cc

-- a circuit with a bootstrap has keys that a file holds
pub few_words : (circuit : Circuit) → IsCircuit circuit → has_boot circuit ≡ true → key_words_of circuit.params ≤ 2 ^ 25
few_words circuit is boot = met_size circuit.params circuit (has_boot circuit) refl boot is.meets

-- ---- keys

-- the boot key of a seed is one of its parameters
pub boot_of_params : (p : Params) (key : List ℕ) (big small : List Bool) (boot : BootRows) → boot ≡ drawn_boot_key key (key_numbers p) big small → length small ≡ p.lwe.n → IsBootKey boot → IsBootOf p boot
boot_of_params p key big small boot drawn long is = record {
  is_key = is;
  shape = ap (λ (b : BootRows). b.shape) drawn;
  base = ap (λ (b : BootRows). b.base) drawn;
  level = ap (λ (b : BootRows). b.level) drawn;
  number = ap (λ (b : BootRows). length b.ggsws) drawn ∙ length-map-range_with_len _ 0 (length small) ∙ long;
}

-- the dimensions of secret keys that are drawn
pub drawn_dimensions : (p : Params) (big_key small_key : List ℕ) (big small : List Bool) → big ≡ drawn_bits big_key (big_dimension p) p.glwe.ones → small ≡ drawn_bits small_key p.lwe.n p.lwe.ones → HasDimensions (big_dimension p) p.lwe.n big small
drawn_dimensions p big_key small_key big small big_is small_is = record {
  big_length = ap length big_is ∙ length-map-range_with_len _ 0 (big_dimension p);
  small_length = ap length small_is ∙ length-map-range_with_len _ 0 p.lwe.n;
}

-- and their limits
pub drawn_limits : (p : Params) (digest : List ℕ) (big small : List Bool) → IsParams p → IsWithin fields.big_dimension (big_dimension p) → HasDimensions (big_dimension p) p.lwe.n big small → HasSecretLimits (secret_file digest small big)
drawn_limits p digest big small is within dimensions = record {
  small = record { least = omega (arith, dimensions.small_length, is.lwe.n_low); most = omega (arith, dimensions.small_length, is.lwe.n_high) };
  big = subst (IsWithin fields.big_dimension) (sym dimensions.big_length) within;
}

-- ---- what goes on from the circuit

-- the keys of a circuit that EVAL fits
abbrev pub after_circuit : KeygenWords → Files → Circuit → Result KeyFiles Fault
after_circuit words files circuit = unless (fits_eval circuit words.eval) fault.Usage >>= λ fits. Ok (key_files_of circuit words.seed)

-- the file that is read is one
pub read_alone : (words : KeygenWords) → are_distinct (keygen_files words) ≡ true → are_distinct (words.circuit ∷ []) ≡ true
read_alone words apart = refl
