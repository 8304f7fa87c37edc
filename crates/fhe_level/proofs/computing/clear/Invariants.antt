use Rattle.std.proofs.Common.{◌≡◌, map, take}
use Rattle.fhe_level.specs.Clearing.{number_of}
use Rattle.fhe_level.proofs.computing.clear.Given as goal

-- the results so far
abbrev pub invariant-loop-number : goal.invariant-loop-number
invariant-loop-number l = l.found.items ≡ map (number_of l.program l.values) (take l.number-index l.program.results)
