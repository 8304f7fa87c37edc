-- The parameter lines, whose numbers must lie within their limits.
use Rattle.std.specs.Prelude.{ℕ, ◌&&◌, Bool, Option, Some, None, Ok, Err, ℤ, pos, int_le, unsigned_abs, if◌then◌else◌}
use Rattle.refusals.specs.Reading.{◌>>=◌}
use Rattle.circuit_lines.specs.declared.head.GlweNumbers.{GlweNumbers}
use Rattle.circuit_lines.specs.declared.head.LweNumbers.{LweNumbers}
use Rattle.circuit_lines.specs.declared.head.GadgetNumbers.{GadgetNumbers}
use Rattle.circuit_lines.specs.declared.head.Head.{Head}
use Rattle.fhe_params.specs.declared.params.GlweChoice.{GlweChoice}
use Rattle.fhe_params.specs.declared.params.LweChoice.{LweChoice}
use Rattle.fhe_params.specs.declared.params.Gadget.{Gadget}
use Rattle.fhe_params.specs.declared.params.Params.{Params}
use Rattle.fhe_params.specs.Params.{is_glwe, is_lwe, is_gadget}
use Rattle.circuit_file.specs.declared.fault.CircuitKind.TheVariants.{Params as ParamsKind}
use Rattle.circuit_file.specs.Faults.{Read, fault_at}

-- a number that is not below 0
abbrev pub is_natural : ℤ → Bool
is_natural z = int_le (pos 0) z

-- the parameters of the ring, as they are written
abbrev pub glwe_choice : GlweNumbers → GlweChoice
glwe_choice g = record {
  k = unsigned_abs g.k;
  log_n = unsigned_abs g.log_n;
  ones = unsigned_abs g.ones;
  error = unsigned_abs g.error;
}

-- they are within their limits
abbrev pub is_glwe_line : GlweNumbers → Bool
is_glwe_line g =
    ((is_natural g.k && is_natural g.log_n) && (is_natural g.ones && is_natural g.error)) && is_glwe (glwe_choice g)

-- the parameters of small ciphertexts
abbrev pub lwe_choice : LweNumbers → LweChoice
lwe_choice l = record { n = unsigned_abs l.n; ones = unsigned_abs l.ones; error = unsigned_abs l.error }

-- they are within their limits
abbrev pub is_lwe_line : LweNumbers → Bool
is_lwe_line l = (is_natural l.n && (is_natural l.ones && is_natural l.error)) && is_lwe (lwe_choice l)

-- a cut into digits
abbrev pub gadget : GadgetNumbers → Gadget
gadget g = record { base = unsigned_abs g.base; level = unsigned_abs g.level }

-- it is within its limits
abbrev pub is_gadget_line : GadgetNumbers → Bool
is_gadget_line g = (is_natural g.base && is_natural g.level) && is_gadget (gadget g)

-- what stands on a parameter line, or the fault of the line
abbrev pub on_line : {A : Type 0} → ℕ → Option A → Read A
on_line line None = Err (fault_at line ParamsKind)
on_line line (Some x) = Ok x

-- the parameters of the four lines, or the first line that has a number outside its limits
unfoldable pub params_of : Head → Read Params
params_of head = do
  glwe ← on_line 3 (if is_glwe_line head.glwe then Some (glwe_choice head.glwe) else None)
  lwe ← on_line 4 (if is_lwe_line head.lwe then Some (lwe_choice head.lwe) else None)
  boot ← on_line 5 (if is_gadget_line head.boot then Some (gadget head.boot) else None)
  switch ← on_line 6 (if is_gadget_line head.switch then Some (gadget head.switch) else None)
  Ok (record { glwe = glwe; lwe = lwe; boot = boot; switch = switch })
