-- The headline of the compiler: what `compile` writes computes the program, and no cheaper choice of the table would.
use Rattle.std.specs.Prelude.{◌≡◌, ◌≤◌, ◌⊎◌, List, length, Some, Ok, ℤ}
use Rattle.std.specs.FinMap.{get, insert}
use Rattle.port_store.specs.Files.{Bytes, Files}
use Rattle.forms.specs.Forms.{AreIn}
use Rattle.fhe_level.specs.Programs.{clear_values}
use Rattle.fhe_params.specs.declared.table.Table.{Table}
use Rattle.fhe_params.specs.declared.table.Choice.{Choice}
use Rattle.fhe_params.specs.Table.{IsChoice, params_of}
use Rattle.fhe_params.specs.TableReading.{table_of}
use Rattle.tfhe_level.specs.declared.shape.Shape.{Shape}
use Rattle.tfhe_level.specs.Nodes.{nodes_of}
use Rattle.tfhe_level.specs.Nodes as on_nodes
use Rattle.tfhe_level.specs.Laws.{input_ranges}
use Rattle.noise_model.specs.Circuits.{IsCircuit}
use Rattle.noise_model.specs.Constraints.{MeetsAll}
use Rattle.param_search.specs.Search.{least_choice}
use Rattle.param_search.specs.Laws.{GoesBefore, price_for}
use Rattle.cost_cert.specs.Certificate.{certificate_text}
use Rattle.circuit_file.specs.Text.{circuit_text}
use Rattle.compile_pipe.specs.declared.parts.Front.{Front}
use Rattle.compile_pipe.specs.Front.{front_of}
use Rattle.compile_pipe.specs.Back.{circuit_with}
use Rattle.command_forms.specs.declared.status.Status.{Status}
use Rattle.command_forms.specs.declared.status.Status.TheVariants as status
use Rattle.command_forms.specs.Outside.{Outside}
use Rattle.program_commands.specs.Words.{CompileWords}
use Rattle.program_commands.specs.Programs.{program_limit, table_limit}

-- no other choice out of a table whose parameters meet all constraints costs less, or as much at lower places
abbrev pub IsCheapest : Table → Shape → Choice → Type 0
IsCheapest table shape choice =
    (other : Choice) → IsChoice table other → MeetsAll (params_of table other) shape
    → (other ≡ choice) ⊎ GoesBefore (price_for table shape choice) (price_for table shape other)

-- a circuit computes a program, on the same arguments, for all of them in their ranges
pub record Computes (front : Front) : Type 0 where
  pub inputs : input_ranges (nodes_of front.shape) ≡ front.program.args
  pub values : (inputs : List ℤ) → AreIn front.program.args inputs
      → on_nodes.clear_values (nodes_of front.shape) inputs ≡ clear_values front.program inputs

-- the files are right: the circuit and the certificate are those of the program and the table
pub record IsCompiled (words : CompileWords) (before after : Files) : Type 0 where
  -- PROGRAM spells the program, and TABLE the table, each within its limit
  pub text : Bytes
  pub program : get before words.program ≡ Some text
  pub short : length text ≤ program_limit
  pub front : Front
  pub front_read : front_of text ≡ Ok front
  pub table_text : Bytes
  pub table_file : get before words.table ≡ Some table_text
  pub table_short : length table_text ≤ table_limit
  pub table : Table
  pub table_read : table_of table_text ≡ Ok table
  -- CERT holds the one certificate, with the least choice, and CIRCUIT the one text of the circuit with its parameters
  pub choice : Choice
  pub least : least_choice table front.shape ≡ Some choice
  pub cert : get after words.cert ≡ Some (certificate_text table front.shape)
  pub circuit : get after words.circuit ≡ Some (circuit_text (circuit_with front.shape table choice))
  -- and nothing else changes
  pub stored : after ≡ insert (insert before words.cert (certificate_text table front.shape)) words.circuit
      (circuit_text (circuit_with front.shape table choice))
  -- the circuit keeps the rules, meets all constraints, and computes the program; no cheaper choice meets them
  pub rules : IsCircuit (circuit_with front.shape table choice)
  pub computes : Computes front
  pub cheapest : IsCheapest table front.shape choice

-- what the answer Ok promises, over a store that tells its files
abbrev pub CompileHeadline : CompileWords → Status → Outside → Outside → Type 0
CompileHeadline words answer before after =
    answer ≡ status.Ok → (files now : Files) → before.store.files ≡ Some files → after.store.files ≡ Some now
    → IsCompiled words files now
