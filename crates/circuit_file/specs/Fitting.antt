-- Parameter lines whose numbers the fields of parameters hold.
use Rattle.std.specs.Prelude.{ℕ, ◌^◌, ◌&&◌, Bool, ℤ, pos, int_le, int_lt}
use Rattle.circuit_lines.specs.declared.head.GlweNumbers.{GlweNumbers}
use Rattle.circuit_lines.specs.declared.head.LweNumbers.{LweNumbers}
use Rattle.circuit_lines.specs.declared.head.GadgetNumbers.{GadgetNumbers}

-- a number that is not below 0 and that so many bits hold
abbrev pub fits_bits : ℕ → ℤ → Bool
fits_bits bits z = int_le (pos 0) z && int_lt z (pos (2 ^ bits))

-- the numbers of each line
abbrev pub fits_glwe : GlweNumbers → Bool
fits_glwe g = (fits_bits 32 g.k && fits_bits 32 g.log_n) && (fits_bits 63 g.ones && fits_bits 63 g.error)

abbrev pub fits_lwe : LweNumbers → Bool
fits_lwe l = fits_bits 32 l.n && (fits_bits 63 l.ones && fits_bits 63 l.error)

abbrev pub fits_gadget : GadgetNumbers → Bool
fits_gadget g = fits_bits 32 g.base && fits_bits 32 g.level
