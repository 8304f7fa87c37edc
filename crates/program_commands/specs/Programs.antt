-- What the files of programs and of tables hold.
use Rattle.std.specs.Prelude.{ℕ, ◌^◌, Result}
use Rattle.refusals.specs.Reading.{◌>>=◌}
use Rattle.port_store.specs.Files.{Bytes, Files}
use Rattle.tfhe_level.specs.declared.shape.Shape.{Shape}
use Rattle.compile_pipe.specs.declared.fault.FrontFault.{FrontFault}
use Rattle.compile_pipe.specs.declared.fault.FrontFault.TheVariants as front
use Rattle.compile_pipe.specs.declared.parts.Front.{Front}
use Rattle.compile_pipe.specs.Front.{front_of}
use Rattle.compile_pipe.specs.Back.{CompiledTexts, back_of}
use Rattle.command_forms.specs.declared.fault.Fault.{Fault}
use Rattle.command_forms.specs.declared.fault.Fault.TheVariants as fault
use Rattle.command_forms.specs.Outcome.{as_fault, reading}

-- the most bytes of a program text
abbrev pub program_limit : ℕ
program_limit = 2 ^ 20

-- and of a table
abbrev pub table_limit : ℕ
table_limit = 2 ^ 16

-- the fault of a program, as one of a command
abbrev pub front_fault_of : FrontFault → Fault
front_fault_of (front.Text f) = fault.Text f
front_fault_of (front.Limit f) = fault.Limit f
front_fault_of (front.Typing f) = fault.Typing f
front_fault_of (front.Range op lo hi) = fault.Range op lo hi

-- the program in a text, with its circuit, and that in a file
abbrev pub front_in : Bytes → Result Front Fault
front_in text = as_fault front_fault_of (front_of text)

unfoldable pub front_from : Bytes → Files → Result Front Fault
front_from name files = do
  text ← reading files name program_limit
  front_in text

-- what a circuit and the text of a table come to, and a file of it
abbrev pub compiled_in : Shape → Bytes → Result CompiledTexts Fault
compiled_in shape text = as_fault fault.Table (back_of shape text)

unfoldable pub compiled_from : Shape → Bytes → Files → Result CompiledTexts Fault
compiled_from shape name files = do
  text ← reading files name table_limit
  compiled_in shape text
