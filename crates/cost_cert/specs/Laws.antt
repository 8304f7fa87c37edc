-- What holds of certificates.
use Rattle.std.specs.Prelude.{◌≡◌, ◌↔◌, ◌≤◌, ℕ, List, length, IsTrue}
use Rattle.fhe_params.specs.declared.table.Table.{Table}
use Rattle.fhe_params.specs.Table.{IsTable}
use Rattle.tfhe_level.specs.declared.shape.Shape.{Shape}
use Rattle.tfhe_level.specs.Rules.{IsShape}
use Rattle.cost_cert.specs.Limits.{cert_limit}
use Rattle.cost_cert.specs.Certificate.{certificate_text}
use Rattle.cost_cert.specs.Check.{is_same}

-- the text of a certificate
pub record TextLaws : Type 0 where
  -- it is short
  pub size : (table : Table) (shape : Shape) → IsTable table → IsShape shape
      → length (certificate_text table shape) ≤ cert_limit

-- the test of a certificate
pub record CheckLaws : Type 0 where
  -- it tells the one text from all others
  pub same : (text bytes : List ℕ) → IsTrue (is_same text bytes) ↔ (bytes ≡ text)
