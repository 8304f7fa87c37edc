-- Reading what a file spells, and what is read where a file stays. Nothing is defined here.
use Rattle.std.proofs.Common.{◌≡◌, ℕ, ◌≤◌, ltb, Bool, true, false, not, cond, List, [], ◌∷◌, length, Option, Some, None, Ok, refl, sym, ap, ◌∙◌}
use Rattle.std.specs.FinMap.{get, insert}
use Rattle.std.specs.Str.{bytes_eq}
use Rattle.std.proofs.lemmas.Bool.{le-ltb, false≢true}
use Rattle.refusals.specs.Reading.{◌>>=◌}
use Rattle.port_store.specs.Files.{Bytes, Files}
use Rattle.port_store.specs.Laws.{FilesLaws}
use Rattle.fhe_params.specs.declared.params.Params.{Params}
use Rattle.tfhe_level.specs.declared.shape.Circuit.{Circuit}
use Rattle.noise_model.specs.Circuits.{IsCircuit}
use Rattle.circuit_file.specs.Limits.{circuit_limit}
use Rattle.sealed_files.specs.Limits.{file_limit}
use Rattle.value_files.specs.Values.{values_limit}
use Rattle.cipher_files.specs.SecretFile.{SecretFile, secret_of}
use Rattle.cipher_files.specs.CipherFile.{CipherFile, cipher_of}
use Rattle.cipher_files.specs.EvalFile.{EvalRows, eval_of}
use Rattle.command_forms.specs.Names.{is_no_eval}
use Rattle.command_forms.specs.Outcome.{FileWrite, bounded, file_write, written}
use Rattle.command_files.specs.Files.{has_boot, fits_eval, circuit_in, circuit_from, eval_in, eval_from, secret_in, secret_from, cipher_in, cipher_from, values_in, values_from}
use Rattle.key_commands.specs.Keygen.{eval_writes}
use lib.IntN.{ℤ}

-- ---- what a file spells

-- a file that is there is read, where it keeps its limit
read_there : (most : ℕ) (bytes : Bytes) (held : Option Bytes) → held ≡ Some bytes → length bytes ≤ most → bounded most held ≡ Ok bytes
read_there most bytes held is within = rw (is, le-ltb most (length bytes) within) refl

pub secret_spelled : (files : Files) (name bytes : Bytes) (file : SecretFile) → get files name ≡ Some bytes → length bytes ≤ file_limit → secret_of bytes ≡ Ok file → secret_from name files ≡ Ok file
unfolding secret_from
secret_spelled files name bytes file held within spelled = rw (read_there file_limit bytes (get files name) held within, spelled) refl

pub cipher_spelled : (files : Files) (name bytes : Bytes) (file : CipherFile) → get files name ≡ Some bytes → length bytes ≤ file_limit → cipher_of bytes ≡ Ok file → cipher_from name files ≡ Ok file
unfolding cipher_from
cipher_spelled files name bytes file held within spelled = rw (read_there file_limit bytes (get files name) held within, spelled) refl

pub eval_spelled : (digest : List ℕ) (params : Params) (files : Files) (name bytes : Bytes) (keys : EvalRows) → get files name ≡ Some bytes → length bytes ≤ file_limit → eval_of digest params bytes ≡ Ok keys → eval_from digest params name files ≡ Ok keys
unfolding eval_from
eval_spelled digest params files name bytes keys held within spelled = rw (read_there file_limit bytes (get files name) held within, spelled) refl

-- ---- what stays

pub circuit_stays : (name : Bytes) (before after : Files) → get after name ≡ get before name → circuit_from name after ≡ circuit_from name before
unfolding circuit_from
circuit_stays name before after same = ap (λ (held : Option Bytes). bounded circuit_limit held >>= circuit_in) same

pub secret_stays : (name : Bytes) (before after : Files) → get after name ≡ get before name → secret_from name after ≡ secret_from name before
unfolding secret_from
secret_stays name before after same = ap (λ (held : Option Bytes). bounded file_limit held >>= secret_in) same

pub eval_stays : (digest : List ℕ) (params : Params) (name : Bytes) (before after : Files) → get after name ≡ get before name → eval_from digest params name after ≡ eval_from digest params name before
unfolding eval_from
eval_stays digest params name before after same = ap (λ (held : Option Bytes). bounded file_limit held >>= eval_in digest params) same

pub values_stay : (ranges : List (ℤ × ℤ)) (name : Bytes) (before after : Files) → get after name ≡ get before name → values_from ranges name after ≡ values_from ranges name before
unfolding values_from
values_stay ranges name before after same = ap (λ (held : Option Bytes). bounded values_limit held >>= values_in ranges) same

-- ---- the files of keys

-- the evaluation keys are a file of their own where there is a bootstrap
some_eval : (has none : Bool) → cond has (not none) none ≡ true → has ≡ true → none ≡ false
some_eval true false needs e = refl
some_eval true true needs e = absurd (false≢true needs)
some_eval false none needs e = absurd (false≢true e)

pub eval_named : (circuit : Circuit) (eval : Bytes) → fits_eval circuit eval ≡ true → has_boot circuit ≡ true → is_no_eval eval ≡ false
eval_named circuit eval needs boot = some_eval (has_boot circuit) (is_no_eval eval) needs boot

-- a file beside those of the keys stays
pub beside_keys : FilesLaws → (has : Bool) (secret eval secret_bytes eval_bytes other : Bytes) (before : Files) → bytes_eq other secret ≡ false → (has ≡ true → bytes_eq other eval ≡ false)
    → get (written (file_write secret secret_bytes ∷ eval_writes eval (cond has (Some eval_bytes) None)) before) other ≡ get before other
beside_keys laws true secret eval secret_bytes eval_bytes other before one two = laws.others_stay (insert before secret secret_bytes) eval eval_bytes other (two refl) ∙ laws.others_stay before secret secret_bytes other one
beside_keys laws false secret eval secret_bytes eval_bytes other before one two = laws.others_stay before secret secret_bytes other one

-- that of the secret keys is there
pub secret_there : FilesLaws → (has : Bool) (secret eval secret_bytes eval_bytes : Bytes) (before : Files) → (has ≡ true → bytes_eq secret eval ≡ false)
    → get (written (file_write secret secret_bytes ∷ eval_writes eval (cond has (Some eval_bytes) None)) before) secret ≡ Some secret_bytes
secret_there laws true secret eval secret_bytes eval_bytes before apart = laws.others_stay (insert before secret secret_bytes) eval eval_bytes secret (apart refl) ∙ laws.put_is_there before secret secret_bytes
secret_there laws false secret eval secret_bytes eval_bytes before apart = laws.put_is_there before secret secret_bytes

-- and so is that of the evaluation keys
pub eval_there : FilesLaws → (has : Bool) (secret eval secret_bytes eval_bytes : Bytes) (before : Files) → has ≡ true
    → get (written (file_write secret secret_bytes ∷ eval_writes eval (cond has (Some eval_bytes) None)) before) eval ≡ Some eval_bytes
eval_there laws true secret eval secret_bytes eval_bytes before boot = laws.put_is_there (insert before secret secret_bytes) eval eval_bytes
eval_there laws false secret eval secret_bytes eval_bytes before boot = absurd (false≢true boot)
