-- What the parameters of a circuit must keep so that every bootstrap and every out gives the right value.
use Rattle.std.specs.Prelude.{ℕ, ◌+◌, ◌-◌, ◌*◌, ◌^◌, ◌<◌, ◌≤◌, nat_lt, nat_le, Bool, List, [], ◌∷◌, ◌++◌, map, filter_map, find, All, Option, Some, None, if◌then◌else◌}
use Rattle.std.specs.List.{enumerate_from, list_any}
use Rattle.std.specs.Option.{option_map}
use Rattle.fhe_params.specs.declared.params.Params.{Params}
use Rattle.fhe_params.specs.Cost.{key_words_of}
use Rattle.tfhe_level.specs.declared.level.TfheOp.{TfheOp}
use Rattle.tfhe_level.specs.declared.level.TfheOp.TheVariants.{Boot, Out}
use Rattle.tfhe_level.specs.declared.shape.Shape.{Shape}
use Rattle.tfhe_level.specs.Operations.{is_boot}
use Rattle.tfhe_level.specs.Nodes.{nodes_of}
use Rattle.noise_model.specs.declared.constraints.Constraint.{Constraint}
use Rattle.noise_model.specs.declared.constraints.Constraint.TheVariants.{Size, Boot as AtBoot, Result as AtResult}
use Rattle.noise_model.specs.declared.constraints.Broken.{Broken}
use Rattle.noise_model.specs.Bounds.{noise_bound, capped}

-- the most words of evaluation keys: 256 MiB
abbrev pub most_key_words : ℕ
most_key_words = 2 ^ 25

-- what the modulus switch of a bootstrap adds: half a place for the body, and for each one of the small key
abbrev pub modulus_noise : Params → ℕ
modulus_noise p = (1 + p.lwe.ones) * 2 ^ (62 - p.glwe.log_n)

-- half of the distance of two messages of this width
abbrev pub half_step : ℕ → ℕ
half_step width = 2 ^ (62 - width)

-- a constraint: what it is on, a bound, and the limit of the bound
pub record Comparison : Type 0 where
  pub on : Constraint
  pub bound : ℕ
  pub limit : ℕ

-- it is met: the size of the keys may be its limit, and all other bounds are below theirs
abbrev pub IsBelow : Constraint → ℕ → ℕ → Type 0
IsBelow Size bound limit = bound ≤ limit
IsBelow (AtBoot count) bound limit = bound < limit
IsBelow (AtResult count) bound limit = bound < limit

abbrev pub IsMet : Comparison → Type 0
IsMet c = IsBelow c.on c.bound c.limit

-- the test that it is broken
abbrev pub exceeds : Constraint → ℕ → ℕ → Bool
exceeds Size bound limit = nat_lt limit bound
exceeds (AtBoot count) bound limit = nat_le limit bound
exceeds (AtResult count) bound limit = nat_le limit bound

abbrev pub is_broken : Comparison → Bool
is_broken c = exceeds c.on c.bound c.limit

-- ---- the constraints of a shape

-- the key switch that a bootstrap is on
abbrev pub boot_source : TfheOp → Option ℕ
boot_source (Boot source entries) = Some source
boot_source _ = None

-- the operation that an out gives
abbrev pub out_source : TfheOp → Option ℕ
out_source (Out source lo hi) = Some source
out_source _ = None

-- the size of the keys, where there is a bootstrap
abbrev pub size_constraint : Params → List TfheOp → List Comparison
size_constraint p operations =
    if list_any is_boot operations
    then record { on = Size; bound = key_words_of p; limit = most_key_words } ∷ []
    else []

-- a bootstrap, counted from 0: the bound of its key switch, and what the modulus switch adds
abbrev pub boot_constraint : Params → Shape → ℕ × ℕ → Comparison
boot_constraint p shape boot = record {
  on = AtBoot boot.0;
  bound = noise_bound p (nodes_of shape) boot.1 + modulus_noise p;
  limit = half_step shape.width;
}

-- an out, counted from 0: the bound of its operation
abbrev pub out_constraint : Params → Shape → ℕ × ℕ → Comparison
out_constraint p shape out = record {
  on = AtResult out.0;
  bound = noise_bound p (nodes_of shape) out.1;
  limit = half_step shape.width;
}

-- the bootstraps, and then the outs
abbrev pub noise_constraints : Params → Shape → List Comparison
noise_constraints p shape =
    map (boot_constraint p shape) (enumerate_from 0 (filter_map boot_source (nodes_of shape)))
    ++ map (out_constraint p shape) (enumerate_from 0 (filter_map out_source (nodes_of shape)))

-- all constraints in their order: the size of the keys goes first
abbrev pub constraints_of : Params → Shape → List Comparison
constraints_of p shape = size_constraint p (nodes_of shape) ++ noise_constraints p shape

-- parameters meet all constraints of a shape
abbrev pub MeetsAll : Params → Shape → Type 0
MeetsAll p shape = All IsMet (constraints_of p shape)

-- a broken constraint as it is given, its bound capped
abbrev pub as_broken : Comparison → Broken
as_broken c = record { at = c.on; bound = capped c.bound; limit = c.limit }

-- the first constraint that is broken
abbrev pub first_broken_of : Params → Shape → Option Broken
first_broken_of p shape = option_map as_broken (find is_broken (constraints_of p shape))
