-- Tables of parameters, and choices out of them.
use Rattle.std.specs.Prelude.{ℕ, ◌<◌, ◌≤◌, List, length, All, slice_index_or}
use Rattle.fhe_params.specs.declared.params.GlweChoice.{GlweChoice}
use Rattle.fhe_params.specs.declared.params.LweChoice.{LweChoice}
use Rattle.fhe_params.specs.declared.params.Gadget.{Gadget}
use Rattle.fhe_params.specs.declared.params.Params.{Params}
use Rattle.fhe_params.specs.declared.table.CostWeights.{CostWeights}
use Rattle.fhe_params.specs.declared.table.Table.{Table}
use Rattle.fhe_params.specs.declared.table.Choice.{Choice}
use Rattle.fhe_params.specs.Limits.{most_weight, most_entries}
use Rattle.fhe_params.specs.Params.{IsGlwe, IsLwe, IsGadget}

-- the weights of a cost keep their limit
pub record IsCostWeights (w : CostWeights) : Type 0 where
  pub switch : w.switch ≤ most_weight
  pub boot : w.boot ≤ most_weight
  pub lin : w.lin ≤ most_weight

-- a list of a table: at least one entry, and each keeps its limits
pub record AreEntries {E : Type 0} (IsEntry : E → Type 0) (entries : List E) : Type 0 where
  pub low : 1 ≤ length entries
  pub high : length entries ≤ most_entries
  pub each : All IsEntry entries

-- a table keeps its limits
pub record IsTable (t : Table) : Type 0 where
  pub weights : IsCostWeights t.weights
  pub glwe : AreEntries IsGlwe t.glwe
  pub lwe : AreEntries IsLwe t.lwe
  pub boot : AreEntries IsGadget t.boot
  pub switch : AreEntries IsGadget t.switch

-- a choice out of a table: at each of its places there is an entry
pub record IsChoice (t : Table) (c : Choice) : Type 0 where
  pub glwe : c.glwe < length t.glwe
  pub lwe : c.lwe < length t.lwe
  pub boot : c.boot < length t.boot
  pub switch : c.switch < length t.switch

-- the entry of the ring at a place
abbrev pub glwe_at : Table → ℕ → GlweChoice
glwe_at t place = slice_index_or t.glwe place (record { k = 1; log_n = 1; ones = 0; error = 0 })

-- the entry of small ciphertexts at a place
abbrev pub lwe_at : Table → ℕ → LweChoice
lwe_at t place = slice_index_or t.lwe place (record { n = 1; ones = 0; error = 0 })

-- the cut into digits at a place
abbrev pub gadget_at : List Gadget → ℕ → Gadget
gadget_at gadgets place = slice_index_or gadgets place (record { base = 1; level = 1 })

-- the parameters of a choice: the entries at its places
abbrev pub params_of : Table → Choice → Params
params_of t c = record { glwe = glwe_at t c.glwe; lwe = lwe_at t c.lwe; boot = gadget_at t.boot c.boot; switch = gadget_at t.switch c.switch }
