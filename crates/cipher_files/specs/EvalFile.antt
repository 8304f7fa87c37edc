-- The file of evaluation keys: what it holds, its one spelling, and reading it.
use Rattle.std.specs.Prelude.{◌≡◌, ℕ, ◌+◌, ◌*◌, ◌<◌, List, [], ◌∷◌, ◌++◌, length, map, All, Ok}
use Rattle.std.specs.List.{flat_map, range_with_len}
use Rattle.refusals.specs.Reading.{◌>>=◌}
use Rattle.word_ring.specs.Words.{IsWord}
use Rattle.key_switch.specs.Key.{SwitchRows, switch_rows, IsSwitchKey}
use Rattle.ggsw_core.specs.Ggsw.{GgswRows}
use Rattle.blind_rotate.specs.BootKey.{BootRows, glwe_shape, boot_rows, IsBootKey}
use Rattle.fhe_params.specs.declared.params.Params.{Params}
use Rattle.fhe_params.specs.Params.{IsParams, coefficients, big_dimension}
use Rattle.fhe_params.specs.Cost.{switch_key_words}
use Rattle.sealed_files.specs.declared.kinds.FileKind.TheVariants.{Eval}
use Rattle.sealed_files.specs.Limits.{digest_size}
use Rattle.sealed_files.specs.Frame.{Frame, frame_bytes}
use Rattle.sealed_files.specs.FrameReading.{Read, word_at, digest_in, frame_of}
use Rattle.sealed_files.specs.Matching.{same_digest, same_word}
use Rattle.cipher_files.specs.CipherFile.{rows_at}

-- both evaluation keys, as their rows
pub record EvalRows : Type 0 where
  pub switch : SwitchRows
  pub boot : BootRows

-- those of these two
abbrev pub eval_rows : SwitchRows → BootRows → EvalRows
eval_rows switch boot = record { switch = switch; boot = boot }

-- the words of a row of a boot key: those of its mask polynomials in order, and then those of its body
abbrev pub glwe_words : List (List ℕ) → List ℕ
glwe_words parts = flat_map (λ part. part) parts

-- those of all rows of a GGSW ciphertext, row by row
abbrev pub ggsw_words : GgswRows → List ℕ
ggsw_words g = flat_map glwe_words g.rows

-- the header: k, log_n, n, and the levels of the boot key and of the switch key
abbrev pub eval_header : Params → List ℕ
eval_header p = p.glwe.k ∷ p.glwe.log_n ∷ p.lwe.n ∷ p.boot.level ∷ p.switch.level ∷ []

-- the words of a file: the header, the rows of the switch key, and then those of the boot key
abbrev pub eval_frame : List ℕ → Params → EvalRows → Frame
eval_frame digest params keys = record {
  digest = digest;
  words =
      eval_header params
      ++ (flat_map (λ row. row) keys.switch.rows ++ flat_map ggsw_words keys.boot.ggsws);
}

-- all its bytes
abbrev pub eval_bytes : List ℕ → Params → EvalRows → List ℕ
eval_bytes digest params keys = frame_bytes Eval (eval_frame digest params keys)

-- a switch key of these parameters: for each bit of the big key and each place a row of n + 1 words
pub record IsSwitchOf (p : Params) (key : SwitchRows) : Type 0 where
  pub is_key : IsSwitchKey key
  pub big_dim : key.big_dim ≡ big_dimension p
  pub small_dim : key.small_dim ≡ p.lwe.n
  pub base : key.base ≡ p.switch.base
  pub level : key.level ≡ p.switch.level

-- a boot key of these parameters: for each of n bits rows of k + 1 polynomials
pub record IsBootOf (p : Params) (key : BootRows) : Type 0 where
  pub is_key : IsBootKey key
  pub shape : key.shape ≡ glwe_shape p.glwe.k p.glwe.log_n
  pub base : key.base ≡ p.boot.base
  pub level : key.level ≡ p.boot.level
  pub number : length key.ggsws ≡ p.lwe.n

-- all words of the rows of a switch key are words of 64 bits
abbrev pub AreSwitchWords : SwitchRows → Type 0
AreSwitchWords key = All (All IsWord) key.rows

-- and so are those of the rows of a boot key
abbrev pub AreBootWords : BootRows → Type 0
AreBootWords key = All (λ g. All (All (All IsWord)) g.rows) key.ggsws

-- keys that have a spelling as those of these parameters
pub record IsEvalFile (p : Params) (keys : EvalRows) : Type 0 where
  pub params : IsParams p
  pub switch : IsSwitchOf p keys.switch
  pub boot : IsBootOf p keys.boot
  pub switch_words : AreSwitchWords keys.switch
  pub boot_words : AreBootWords keys.boot

-- a digest has 32 bytes
pub record IsDigest (digest : List ℕ) : Type 0 where
  pub long : length digest ≡ digest_size
  pub bytes : All (λ byte. byte < 256) digest

-- ---- reading

-- the file is that of the parameters, whose digest this is: the digest, and then the header
unfoldable pub eval_fits : List ℕ → Params → List ℕ → Read (Unit {0})
eval_fits digest params bytes = do
  same ← same_digest digest (digest_in bytes)
  k ← same_word params.glwe.k (word_at bytes 0)
  log_n ← same_word params.glwe.log_n (word_at bytes 1)
  n ← same_word params.lwe.n (word_at bytes 2)
  boot ← same_word params.boot.level (word_at bytes 3)
  same_word params.switch.level (word_at bytes 4)

-- where the rows of the switch key begin, right behind the header
abbrev pub switch_place : ℕ
switch_place = 5

-- and those of the boot key, right behind them
abbrev pub boot_place : Params → ℕ
boot_place p = switch_place + switch_key_words p

-- the switch key: its rows go by the bits of the big key, and for each by the places from 1
abbrev pub switch_in : Params → List ℕ → SwitchRows
switch_in p bytes =
    switch_rows (big_dimension p) p.lwe.n p.switch.base p.switch.level
    (rows_at bytes switch_place (p.lwe.n + 1) (big_dimension p * p.switch.level))

-- a row of a boot key from a place on: k + 1 polynomials of n words each
abbrev pub glwe_at : List ℕ → ℕ → ℕ → ℕ → List (List ℕ)
glwe_at bytes k n place = rows_at bytes place n (k + 1)

-- the words of such a row
abbrev pub row_words : Params → ℕ
row_words p = (p.glwe.k + 1) * coefficients p.glwe

-- where row r of the boot key begins
abbrev pub boot_row_at : Params → ℕ → ℕ
boot_row_at p r = boot_place p + r * row_words p

-- that row
abbrev pub boot_row_in : Params → List ℕ → ℕ → List (List ℕ)
boot_row_in p bytes r = glwe_at bytes p.glwe.k (coefficients p.glwe) (boot_row_at p r)

-- how many rows there are for a bit of the small key
abbrev pub rows_of_bit : Params → ℕ
rows_of_bit p = (p.glwe.k + 1) * p.boot.level

-- the GGSW ciphertext of bit i, whose rows are numbered by f
abbrev pub ggsw_of_rows : Params → (ℕ → List (List ℕ)) → ℕ → GgswRows
ggsw_of_rows p f i = record {
  base = p.boot.base;
  level = p.boot.level;
  rows = map f (range_with_len (i * rows_of_bit p) (rows_of_bit p));
}

-- the boot key: its rows go by the bits of the small key, by the parts from 0 to k, and by the places from 1
abbrev pub boot_in : Params → List ℕ → BootRows
boot_in p bytes =
    boot_rows p.glwe.k p.glwe.log_n p.boot.base p.boot.level
    (map (ggsw_of_rows p (boot_row_in p bytes)) (range_with_len 0 p.lwe.n))

-- the evaluation keys that the bytes hold, as those of the parameters, whose digest this is
unfoldable pub eval_of : List ℕ → Params → List ℕ → Read EvalRows
eval_of digest params bytes = do
  frame ← frame_of Eval bytes
  fits ← eval_fits digest params bytes
  Ok (eval_rows (switch_in params bytes) (boot_in params bytes))
