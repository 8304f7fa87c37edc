use Rattle.std.proofs.Common.{◌≡◌, ◌*◌}
use Rattle.glwe_core.specs.Glwe.{degree_of}
use Rattle.glwe_core.proofs.ExtractionLoops.{HasExtracted}
use Rattle.glwe_core.proofs.extraction.extract_into.Given as goal

-- the words of the mask polynomials below the index are set
abbrev pub invariant-loop-j : goal.invariant-loop-j
invariant-loop-j l = HasExtracted l.fn.out l.c l.j l.at l.out
