-- What inputs and keys that fit a circuit are.
use Rattle.std.proofs.Common.{◌≡◌, ℕ, ◌+◌, Bool, true, false, not, cond, List, length, All, Option, Some, None, Ok, sym, ap, subst, ◌∙◌}
use Rattle.std.proofs.lemmas.Bool.{false≢true}
use Rattle.port_store.specs.Files.{Bytes}
use Rattle.refusals.specs.Reading.{◌>>=◌}
use Rattle.refusals.specs.Steps.{value_of_step}
use Rattle.key_switch.specs.Key.{SwitchRows}
use Rattle.blind_rotate.specs.BootKey.{BootRows}
use Rattle.fhe_params.specs.Params.{big_dimension}
use Rattle.tfhe_level.specs.declared.shape.Circuit.{Circuit}
use Rattle.sealed_files.specs.Laws.{MatchLaws}
use Rattle.sealed_files.specs.Matching.{same_digest, same_word}
use Rattle.circuit_heads.specs.Heads.{input_head}
use Rattle.cipher_files.specs.declared.head.CipherHead.{CipherHead}
use Rattle.cipher_files.specs.CipherFile.{file_of, IsCipherFile, same_ranges, head_fits}
use Rattle.circuit_run.specs.Steps.{HasKeys, AreInputs}
use Rattle.command_forms.specs.Names.{is_no_eval}
use Rattle.command_files.specs.Files.{has_boot, fits_eval}
use Rattle.run_command.specs.Run.{AreKeysOf, keys_view}

-- heads that fit have one dimension and as many ranges
record AreAlike (wanted head : CipherHead) : Type 0 where
  dim : wanted.dim ≡ head.dim
  number : length wanted.ranges ≡ length head.ranges

alike : MatchLaws → (wanted head : CipherHead) → head_fits wanted head ≡ Ok tt → AreAlike wanted head
unfolding head_fits
alike laws wanted head fits =
    let first = value_of_step (same_digest wanted.digest head.digest) (λ _. same_word wanted.dim head.dim >>= λ _. (same_word wanted.width head.width >>= λ _. (same_word (length wanted.ranges) (length head.ranges) >>= λ _. same_ranges wanted.ranges head.ranges))) tt fits in
    let second = value_of_step (same_word wanted.dim head.dim) (λ _. same_word wanted.width head.width >>= λ _. (same_word (length wanted.ranges) (length head.ranges) >>= λ _. same_ranges wanted.ranges head.ranges)) tt first.2 in
    let third = value_of_step (same_word wanted.width head.width) (λ _. same_word (length wanted.ranges) (length head.ranges) >>= λ _. same_ranges wanted.ranges head.ranges) tt second.2 in
    let fourth = value_of_step (same_word (length wanted.ranges) (length head.ranges)) (λ _. same_ranges wanted.ranges head.ranges) tt third.2 in
    record { dim = laws.words wanted.dim head.dim second.1; number = laws.words (length wanted.ranges) (length head.ranges) fourth.1 }

-- ciphertexts whose head fits are inputs of the circuit
pub are_inputs : MatchLaws → (circuit : Circuit) (wanted head : CipherHead) (list : List (List ℕ)) → wanted ≡ input_head circuit → head_fits wanted head ≡ Ok tt → IsCipherFile (file_of head list) → AreInputs circuit list
are_inputs laws circuit wanted head list is fits file =
    let same = alike laws (input_head circuit) head (subst (λ (w : CipherHead). head_fits w head ≡ Ok tt) is fits) in
    record {
      number = file.limits.count ∙ sym same.number;
      words = subst (λ (d : ℕ). All (λ row. length row ≡ d + 1) list) (sym same.dim) file.limits.lengths;
    }

-- ---- keys

no_boot : (boot none : Bool) → cond boot (not none) none ≡ true → none ≡ true → boot ≡ true → ⊥
no_boot true none fits is e = absurd (false≢true (sym (ap not is) ∙ fits))
no_boot false none fits is e = false≢true e

-- the keys of EVAL that fit a circuit are those that it needs
pub has_keys : (circuit : Circuit) (eval : Bytes) (keys : Option (SwitchRows × BootRows)) → fits_eval circuit eval ≡ true → AreKeysOf circuit.params eval keys → HasKeys circuit (keys_view keys)
has_keys circuit eval None fits is = record {
  switch = λ boot. absurd (no_boot (has_boot circuit) (is_no_eval eval) fits is boot);
  boot = λ boot. absurd (no_boot (has_boot circuit) (is_no_eval eval) fits is boot);
}
has_keys circuit eval (Some keys) fits is = record {
  switch = λ boot. (is.1.switch.big_dim, is.1.switch.small_dim);
  boot = λ boot. (is.1.boot.shape, is.1.boot.number);
}
