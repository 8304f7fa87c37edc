-- What ties a file to its parameters.
use Rattle.std.specs.Prelude.{ℕ, List}
use Rattle.sha2.specs.Sha256.{sha256}
use Rattle.fhe_params.specs.declared.params.Params.{Params}
use Rattle.circuit_file.specs.Text.{params_text}

-- the SHA-256 of the four parameter lines
abbrev pub params_digest : Params → List ℕ
params_digest params = sha256 (params_text params)
