-- The limits of certificates.
use Rattle.std.specs.Prelude.{ℕ, ◌^◌}

-- the most bytes of a certificate
abbrev pub cert_limit : ℕ
cert_limit = 2 ^ 24
