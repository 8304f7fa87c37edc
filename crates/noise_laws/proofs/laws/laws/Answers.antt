use Rattle.std.proofs.Common.{refl}
use Rattle.noise_laws.proofs.laws.laws.Goals as goal

pub returns : goal.returns
returns c = record {
  noise = record { switch_adds = λ p. refl; rows_add = λ p. refl; digits_add = λ p. refl; boot_adds = λ p. refl };
  constraints = record { boot_is_read = λ p shape boot met. met; out_is_read = λ p shape out met. met };
}
