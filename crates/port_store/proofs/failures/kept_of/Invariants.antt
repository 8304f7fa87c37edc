use Rattle.std.proofs.Common.{◌≡◌, drop}
use Rattle.port_store.specs.Listed.{kept_of}
use Rattle.port_store.proofs.failures.kept_of.Given as goal

-- the entries so far do not list the call
abbrev pub invariant-loop-listed : goal.invariant-loop-listed
invariant-loop-listed l = kept_of (drop l.listed-index l.failures) l.call ≡ kept_of l.failures l.call
