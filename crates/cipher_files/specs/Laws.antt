-- What holds of the files of keys and of ciphertexts.
use Rattle.std.specs.Prelude.{◌≡◌, ℕ, ◌^◌, ◌<◌, ◌≤◌, List, length, All, Ok}
use Rattle.fhe_params.specs.declared.params.Params.{Params}
use Rattle.fhe_params.specs.Params.{IsParams}
use Rattle.fhe_params.specs.Cost.{key_words_of}
use Rattle.sealed_files.specs.Limits.{file_limit, digest_size}
use Rattle.cipher_files.specs.SecretFile.{SecretFile, IsSecretFile, secret_bytes, secret_of}
use Rattle.cipher_files.specs.CipherFile.{CipherFile, IsCipherFile, cipher_bytes, cipher_of}
use Rattle.cipher_files.specs.EvalFile.{EvalRows, IsEvalFile, IsDigest, eval_bytes, eval_of}

-- secret keys: reading and spelling are inverse to each other, and a file is short
pub record SecretFileLaws : Type 0 where
  -- what is read from bytes is what they are spelled from
  pub read : (bytes : List ℕ) (file : SecretFile) → All (λ byte. byte < 256) bytes
      → secret_of bytes ≡ Ok file → IsSecretFile file × (bytes ≡ secret_bytes file)
  -- what is spelled so is read
  pub spelled : (file : SecretFile) → IsSecretFile file → secret_of (secret_bytes file) ≡ Ok file
  -- and keeps the limit of the files that are read
  pub size : (file : SecretFile) → IsSecretFile file → length (secret_bytes file) ≤ file_limit

-- ciphertexts
pub record CipherFileLaws : Type 0 where
  pub read : (bytes : List ℕ) (file : CipherFile) → All (λ byte. byte < 256) bytes
      → cipher_of bytes ≡ Ok file → IsCipherFile file × (bytes ≡ cipher_bytes file)
  pub spelled : (file : CipherFile) → IsCipherFile file → cipher_of (cipher_bytes file) ≡ Ok file
  pub size : (file : CipherFile) → IsCipherFile file → length (cipher_bytes file) ≤ file_limit

-- evaluation keys: a file keeps the limit where the keys have at most 2^25 words
pub record EvalFileLaws : Type 0 where
  pub read : (digest : List ℕ) (params : Params) (bytes : List ℕ) (keys : EvalRows) → IsParams params
      → All (λ byte. byte < 256) bytes → eval_of digest params bytes ≡ Ok keys
      → IsEvalFile params keys × (bytes ≡ eval_bytes digest params keys)
  pub spelled : (digest : List ℕ) (params : Params) (keys : EvalRows) → IsDigest digest → IsEvalFile params keys
      → eval_of digest params (eval_bytes digest params keys) ≡ Ok keys
  pub size : (digest : List ℕ) (params : Params) (keys : EvalRows) → length digest ≡ digest_size
      → IsEvalFile params keys → key_words_of params ≤ 2 ^ 25 → length (eval_bytes digest params keys) ≤ file_limit
