-- The circuit that a program text comes to, or the first fault.
use Rattle.std.specs.Prelude.{ℕ, List, Option, Some, None, Result, Ok, Err}
use Rattle.refusals.specs.Reading.{◌>>=◌}
use Rattle.ap_level.specs.declared.level.ApOp.{ApOp}
use Rattle.fhe_text.specs.declared.source.Source.{Source}
use Rattle.fhe_text.specs.Reading as texts
use Rattle.fhe_level.specs.declared.fault.LimitFault.{LimitFault}
use Rattle.fhe_level.specs.declared.program.Program.{Program}
use Rattle.fhe_level.specs.Limits.{limit_fault}
use Rattle.fhe_level.specs.Programs.{checked_program}
use Rattle.pattern_walk.specs.declared.fault.FormFault.{FormFault}
use Rattle.pattern_walk.specs.declared.fault.FormFault.TheVariants as forming
use Rattle.pattern_pass.specs.Formed.{formed}
use Rattle.place_pass.specs.Placing.{placed_nodes}
use Rattle.compile_pipe.specs.declared.fault.FrontFault.{FrontFault}
use Rattle.compile_pipe.specs.declared.fault.FrontFault.TheVariants as fault
use Rattle.compile_pipe.specs.declared.parts.Front.{Front}
use Rattle.compile_pipe.specs.Shapes.{shape_of}

-- a value, or its fault as one of a program
abbrev pub as_front : {A F : Type 0} → (F → FrontFault) → Result A F → Result A FrontFault
as_front kind (Ok value) = Ok value
as_front kind (Err f) = Err (kind f)

-- the fault of a form
abbrev pub form_fault_of : FormFault → FrontFault
form_fault_of (forming.Range op lo hi) = fault.Range op lo hi
form_fault_of (forming.Limit f) = fault.Limit f

-- no count is above its limit
abbrev pub no_limit : Option LimitFault → Result (Unit {0}) FrontFault
no_limit None = Ok tt
no_limit (Some f) = Err (fault.Limit f)

-- ---- the program

-- the source that a text spells
abbrev pub text_in : List ℕ → Result Source FrontFault
text_in bytes = as_front fault.Text (texts.program_of bytes)

-- its counts are within their limits
abbrev pub check_counts : Source → Result (Unit {0}) FrontFault
check_counts source = no_limit (limit_fault source)

-- its program, whose types are right
abbrev pub typed_in : Source → Result Program FrontFault
typed_in source = as_front fault.Typing (checked_program source)

-- the program that a text spells
unfoldable pub program_in : List ℕ → Result Program FrontFault
program_in bytes = do
  source ← text_in bytes
  within ← check_counts source
  typed_in source

-- ---- the circuit

-- the patterns that its results hang on
abbrev pub patterns_in : Program → Result (List ApOp) FrontFault
patterns_in program = as_front form_fault_of (formed program)

-- a program with the circuit of these patterns
abbrev pub placed_front : Program → List ApOp → Front
placed_front program patterns = record { program = program; shape = shape_of (placed_nodes patterns) }

-- the program that a text spells, and its circuit
unfoldable pub front_of : List ℕ → Result Front FrontFault
front_of bytes = do
  program ← program_in bytes
  patterns ← patterns_in program
  Ok (placed_front program patterns)
