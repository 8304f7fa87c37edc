-- The patterns of a program.
use Rattle.std.specs.Prelude.{List, Result, Ok}
use Rattle.refusals.specs.Reading.{◌>>=◌}
use Rattle.ap_level.specs.declared.level.ApOp.{ApOp}
use Rattle.live_patterns.specs.Found.{found_patterns}
use Rattle.live_patterns.specs.Live.{live_patterns}
use Rattle.fhe_level.specs.declared.program.Program.{Program}
use Rattle.pattern_walk.specs.declared.fault.FormFault.{FormFault}
use Rattle.pattern_walk.specs.Walking.{patterns_found}

-- the patterns that the results of a program hang on, or the first fault
abbrev pub formed : Program → Result (List ApOp) FormFault
formed program = patterns_found program >>= λ found. Ok (live_patterns (found_patterns found))
