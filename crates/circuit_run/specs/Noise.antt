-- What the ciphertexts of a circuit stand for.
use Rattle.std.specs.Prelude.{◌≡◌, ℕ, Bool, List, [], ◌∷◌, IsTrue, Option, Some, None, ℤ, pos, ◌+ℤ◌, if◌then◌else◌}
use Rattle.std.specs.List.{list_any}
use Rattle.lwe_core.specs.Secret.{HasDimensions}
use Rattle.lwe_core.specs.Phase.{phase_of}
use Rattle.lwe_core.specs.Decoding.{decoded}
use Rattle.lwe_core.specs.Encrypts.{Encrypts}
use Rattle.key_switch.specs.Key.{SwitchRows}
use Rattle.blind_rotate.specs.BootKey.{BootRows, glwe_shape}
use Rattle.blind_rotate.specs.Fits.{KeysFit}
use Rattle.key_gen.specs.Seeds.{key_numbers}
use Rattle.fhe_params.specs.declared.params.Params.{Params}
use Rattle.fhe_params.specs.Params.{big_dimension}
use Rattle.forms.specs.Forms.{IsIn, AreIn}
use Rattle.tfhe_level.specs.declared.level.TfheOp.{TfheOp}
use Rattle.tfhe_level.specs.declared.level.TfheOp.TheVariants.{Out}
use Rattle.tfhe_level.specs.declared.shape.Circuit.{Circuit}
use Rattle.tfhe_level.specs.Operations.{is_switch, is_boot}
use Rattle.tfhe_level.specs.Nodes.{nodes_of}
use Rattle.tfhe_level.specs.Laws.{input_ranges}
use Rattle.circuit_run.specs.Running.{EvalKeys}

-- the key that an operation's ciphertext is under: the small one for a key switch, else the big one
abbrev pub key_under : List Bool → List Bool → TfheOp → List Bool
key_under big small op = if is_switch op then small else big

-- ---- premises

-- a switch key with the parameters' dimensions and digits, and a boot key of their shape
pub record AreOfParams (p : Params) (switch : SwitchRows) (boot : BootRows) : Type 0 where
  pub big_dim : switch.big_dim ≡ big_dimension p
  pub small_dim : switch.small_dim ≡ p.lwe.n
  pub base : switch.base ≡ p.switch.base
  pub level : switch.level ≡ p.switch.level
  pub shape : boot.shape ≡ glwe_shape p.glwe.k p.glwe.log_n

-- both keys are there, of the parameters, and their rows fit the secret key
abbrev pub EvalKeysFit : Params → List Bool → List Bool → Option SwitchRows → Option BootRows → Type 0
EvalKeysFit p big small (Some switch) (Some boot) =
    AreOfParams p switch boot × KeysFit (key_numbers p) big small switch.rows boot.ggsws
EvalKeysFit p big small (Some switch) None = ⊥
EvalKeysFit p big small None boot = ⊥

-- the ciphertexts stand for the values, one for one, at a width and within a bound
abbrev pub StandFor : List Bool → ℕ → ℕ → List (List ℕ) → List ℤ → Type 0
StandFor bits width bound [] [] = Unit {0}
StandFor bits width bound (row ∷ rows) (value ∷ values) =
    Encrypts bits row value width bound × StandFor bits width bound rows values
StandFor bits width bound [] (value ∷ values) = ⊥
StandFor bits width bound (row ∷ rows) [] = ⊥

-- a secret key of the circuit's dimensions, which the evaluation keys fit where there is a bootstrap, values in the
-- input ranges, and inputs that stand for them within the error of fresh ciphertexts
pub record AreGood (c : Circuit) (keys : EvalKeys) (big small : List Bool) (values : List ℤ) (inputs : List (List ℕ))
    : Type 0 where
  pub secret : HasDimensions (big_dimension c.params) c.params.lwe.n big small
  pub fit : IsTrue (list_any is_boot (nodes_of c.shape)) → EvalKeysFit c.params big small keys.switch keys.boot
  pub ranges : AreIn (input_ranges (nodes_of c.shape)) values
  pub fresh : StandFor big c.shape.width c.params.glwe.error inputs values

-- ---- outputs

-- an output is right: it stands for the value within a bound, the value lies in the output's range, and the least
-- number of that range plus what the phase decodes to is the value
pub record IsRight (bits : List Bool) (width bound : ℕ) (range : ℤ × ℤ) (row : List ℕ) (value : ℤ) : Type 0 where
  pub stands : Encrypts bits row value width bound
  pub inside : IsIn range value
  pub decodes : (range.0 +ℤ pos (decoded (phase_of bits row) width range.0)) ≡ value

-- each of these outputs is right: its range, its bound, its words and its value
abbrev pub AreRight : List Bool → ℕ → List (ℤ × ℤ) → List ℕ → List (List ℕ) → List ℤ → Type 0
AreRight bits width [] [] [] [] = Unit {0}
AreRight bits width (range ∷ ranges) (bound ∷ bounds) (row ∷ rows) (value ∷ values) =
    IsRight bits width bound range row value × AreRight bits width ranges bounds rows values
AreRight bits width ranges bounds rows values = ⊥
