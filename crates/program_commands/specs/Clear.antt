-- `clear`: what a program computes on whole numbers.
use Rattle.std.specs.Prelude.{List, Result, Ok, ℤ}
use Rattle.refusals.specs.Reading.{◌>>=◌}
use Rattle.port_store.specs.Files.{Bytes, Files}
use Rattle.fhe_level.specs.declared.program.Program.{Program}
use Rattle.fhe_level.specs.Programs.{clear_values}
use Rattle.value_files.specs.Values.{values_text}
use Rattle.command_forms.specs.declared.fault.Fault.{Fault}
use Rattle.command_forms.specs.Outcome.{Outcome, outcome_from, putting}
use Rattle.command_files.specs.Files.{values_from}
use Rattle.program_commands.specs.Words.{ClearWords}
use Rattle.program_commands.specs.Programs.{front_from}

-- the values of the results, a line each
abbrev pub result_lines : Program → List ℤ → Bytes
result_lines program values = values_text (clear_values program values)

-- those of the files
unfoldable pub cleared : ClearWords → Files → Result Bytes Fault
cleared words files = do
  front ← front_from words.program files
  values ← values_from front.program.args words.values files
  Ok (result_lines front.program values)

-- reads PROGRAM and VALUES, and puts the values of the results, a line each
abbrev pub clear_outcome : ClearWords → Files → Outcome
clear_outcome words files = outcome_from putting (cleared words files)
