pub mod SecretFile
pub mod CipherFile
pub mod EvalFile
pub mod Laws
