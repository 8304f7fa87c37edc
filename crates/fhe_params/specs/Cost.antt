-- How large the keys of parameters are, and what a circuit under them costs.
use Rattle.std.specs.Prelude.{ℕ, ◌+◌, ◌*◌}
use Rattle.fhe_params.specs.declared.params.Params.{Params}
use Rattle.fhe_params.specs.declared.table.CostWeights.{CostWeights}
use Rattle.fhe_params.specs.declared.table.Counts.{Counts}
use Rattle.fhe_params.specs.Params.{coefficients, big_dimension}

-- the words of a switch key: for each bit of the big key and each digit a small ciphertext
abbrev pub switch_key_words : Params → ℕ
switch_key_words p = big_dimension p * p.switch.level * (p.lwe.n + 1)

-- the words of a boot key: for each bit of the small key (k + 1)*level rows of k + 1 polynomials
abbrev pub boot_key_words : Params → ℕ
boot_key_words p = p.lwe.n * ((p.glwe.k + 1) * (p.glwe.k + 1)) * p.boot.level * coefficients p.glwe

-- the words of both keys
abbrev pub key_words_of : Params → ℕ
key_words_of p = switch_key_words p + boot_key_words p

-- a switch passes over its key, a boot log_n times over its own, and a weight over a big ciphertext
abbrev pub cost_of : Params → CostWeights → Counts → ℕ
cost_of p w c =
    w.switch * c.switches * switch_key_words p
    + w.boot * c.boots * (boot_key_words p * p.glwe.log_n)
    + w.lin * c.weights * (big_dimension p + 1)
