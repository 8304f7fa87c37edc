pub mod ParamsDigest
