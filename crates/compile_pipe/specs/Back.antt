-- The certificate and the circuit that a table gives.
use Rattle.std.specs.Prelude.{ℕ, List, Option, Some, None, Result, Ok}
use Rattle.std.specs.Option.{option_map}
use Rattle.refusals.specs.Reading.{◌>>=◌}
use Rattle.fhe_params.specs.declared.fault.TableFault.{TableFault}
use Rattle.fhe_params.specs.declared.table.Table.{Table}
use Rattle.fhe_params.specs.declared.table.Choice.{Choice}
use Rattle.fhe_params.specs.Table.{params_of}
use Rattle.fhe_params.specs.TableReading.{table_of}
use Rattle.tfhe_level.specs.declared.shape.Shape.{Shape}
use Rattle.tfhe_level.specs.declared.shape.Circuit.{Circuit}
use Rattle.circuit_file.specs.Text.{circuit_text}
use Rattle.param_search.specs.Search.{least_choice}
use Rattle.cost_cert.specs.Certificate.{certificate_text}
use Rattle.compile_pipe.specs.declared.parts.Compiled.{Compiled}

-- the circuit with the parameters of a choice
abbrev pub circuit_with : Shape → Table → Choice → Circuit
circuit_with shape table choice = record { shape = shape; params = params_of table choice }

-- that of the least choice, where there is one
abbrev pub chosen_circuit : Table → Shape → Option Circuit
chosen_circuit table shape = option_map (circuit_with shape table) (least_choice table shape)

-- a certificate, and a circuit with its text
pub record CompiledTexts : Type 0 where
  pub cert : List ℕ
  pub circuit : Option (Circuit × List ℕ)

-- a circuit with its text
abbrev pub with_text : Circuit → Circuit × List ℕ
with_text circuit = (circuit, circuit_text circuit)

-- what a shape and a table come to
abbrev pub compiled : Table → Shape → CompiledTexts
compiled table shape = record {
  cert = certificate_text table shape;
  circuit = option_map with_text (chosen_circuit table shape);
}

-- what code keeps of it
abbrev pub compiled_view : Compiled → CompiledTexts
compiled_view found = record {
  cert = found.cert.items;
  circuit = option_map (λ circuit. (circuit.0, circuit.1.items)) found.circuit;
}

-- what a shape and the text of a table come to
unfoldable pub back_of : Shape → List ℕ → Result CompiledTexts TableFault
back_of shape bytes = do
  table ← table_of bytes
  Ok (compiled table shape)
