use Rattle.std.proofs.Common.{◌≡◌, take}
use Rattle.glwe_core.specs.Glwe.{lengths_of}
use Rattle.blind_rotate.specs.Bootstrap.{blind_rotation}
use Rattle.blind_rotate.proofs.bootstrap.rotate_blindly.Given as goal

-- the first i steps are done
abbrev pub invariant-loop-i : goal.invariant-loop-i
invariant-loop-i l = record {
  done : l.acc ≡ blind_rotation l.log_n l.fn.acc (take l.i l.ggsws) l.words;
  shape : lengths_of l.acc ≡ lengths_of l.fn.acc;
  turned : lengths_of l.turned ≡ lengths_of l.fn.turned;
  room : l.room ≡ l.fn.room;
}
