-- What holds of tables and of their texts.
use Rattle.std.specs.Prelude.{ℕ, ◌↔◌, List, IfOk, IsTrue}
use Rattle.fhe_params.specs.declared.params.GlweChoice.{GlweChoice}
use Rattle.fhe_params.specs.declared.params.LweChoice.{LweChoice}
use Rattle.fhe_params.specs.declared.params.Gadget.{Gadget}
use Rattle.fhe_params.specs.declared.params.Params.{Params}
use Rattle.fhe_params.specs.declared.table.Table.{Table}
use Rattle.fhe_params.specs.declared.table.Choice.{Choice}
use Rattle.fhe_params.specs.Params.{IsGlwe, IsLwe, IsGadget, IsParams, is_glwe, is_lwe, is_gadget, is_params}
use Rattle.fhe_params.specs.Table.{IsTable, IsChoice, params_of}
use Rattle.fhe_params.specs.TableReading.{table_of}

-- tables keep their limits
pub record TableLaws : Type 0 where
  -- a table that is read does
  pub read : (bytes : List ℕ) → IfOk (table_of bytes) IsTable
  -- so do the parameters of each choice out of a table that does
  pub params : (t : Table) (c : Choice) → IsTable t → IsChoice t c → IsParams (params_of t c)

-- the tests of limits are those of their rules
pub record LimitLaws : Type 0 where
  pub glwe : (g : GlweChoice) → IsTrue (is_glwe g) ↔ IsGlwe g
  pub lwe : (l : LweChoice) → IsTrue (is_lwe l) ↔ IsLwe l
  pub gadget : (g : Gadget) → IsTrue (is_gadget g) ↔ IsGadget g
  pub params : (p : Params) → IsTrue (is_params p) ↔ IsParams p
