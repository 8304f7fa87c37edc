-- What the walk over the statements keeps, beside the bounds of its numbers.
use Rattle.std.proofs.Common.{◌≡◌, ℕ, ◌+◌, ◌<◌, ◌≤◌, ◌^◌, Bool, true, false, List, [], ◌∷◌, ◌++◌, length, map, All, refl, Option, Some, None}
use Rattle.std.specs.Prelude.{ℤ, pos, ◌+ℤ◌, ◌<ℤ◌, unsigned_abs, not}
use Rattle.std.specs.Option.{option_map_or, IsSomeAnd}
use Rattle.std.proofs.lemmas.Bool.{false≢true}
use Rattle.ir_core.specs.Graph.{place_of}
use Rattle.forms.specs.Limits.{most_constant, most_weight}
use Rattle.forms.specs.Ranges.{range_of_entries, IsNumber}
use Rattle.live_patterns.specs.declared.patterns.Look.{Look}
use Rattle.fhe_text.specs.declared.source.WrittenType.TheVariants as types
use Rattle.fhe_level.specs.declared.level.FheOp.{FheOp}
use Rattle.fhe_level.specs.declared.level.FheOp.TheVariants as ops
use Rattle.fhe_level.specs.declared.program.Program.{Program}
use Rattle.fhe_level.specs.Rows.{is_eint}
use Rattle.fhe_level.specs.Operations.{type_of}
use Rattle.fhe_level.specs.Clearing.{op_with, type_with, is_constant, IsResult}
use Rattle.pattern_walk.specs.Sums.{form_at}
use Rattle.pattern_walk.specs.Looking.{range_on, is_new}
use Rattle.pattern_walk.specs.Walking.{Walked, is_in_type}
use Rattle.pattern_walk.specs.Safe.{IsBuilt, IsSafe}

-- the range of the form of each operation so far that is no constant lies in the operation's type
abbrev pub AreTyped : Program → Walked → Type 0
AreTyped program walked =
    (number : ℕ) → place_of program.graph.list number < walked.place → IsResult program.graph.list number
    → is_in_type (type_with program.graph.list number) (range_on walked.ranges (form_at walked.forms number)) ≡ true

-- a look-up on leaves of these ranges: on a form from 0 on with more than one value, all below 2^16, with an entry for each
pub record IsSoundLook (ranges : List (ℤ × ℤ)) (look : Look) : Type 0 where
  pub built : IsBuilt (length ranges) look.form
  pub constant : unsigned_abs look.form.constant ≤ most_constant
  pub weights : All (λ t. unsigned_abs t.1 ≤ most_weight) look.form.terms
  pub starts : (range_on ranges look.form).0 ≡ pos 0
  pub many : pos 0 <ℤ (range_on ranges look.form).1
  pub narrow : (range_on ranges look.form).1 <ℤ pos (2 ^ 16)
  pub number : pos (length look.entries) ≡ (range_on ranges look.form).1 +ℤ pos 1
  pub each : All IsNumber look.entries

-- so is each look-up on the leaves before it, and it is none of the earlier ones
abbrev pub AreSoundLooks : List (ℤ × ℤ) → List Look → List Look → Type 0
AreSoundLooks ranges earlier [] = Unit {0}
AreSoundLooks ranges earlier (look ∷ looks) =
    IsSoundLook ranges look × (is_new earlier look ≡ true)
    × AreSoundLooks (ranges ++ range_of_entries look.entries ∷ []) (earlier ++ look ∷ []) looks

pub record IsSound (program : Program) (walked : Walked) : Type 0 where
  pub safe : IsSafe program walked
  pub typed : AreTyped program walked
  pub ranges : walked.ranges ≡ program.args ++ map (λ (look : Look). range_of_entries look.entries) walked.looks
  pub looks : AreSoundLooks program.args [] walked.looks

eint_by : (found : Option FheOp) → is_eint (option_map_or type_of found (types.Int 0)) ≡ true
    → IsSomeAnd found (λ op. not (is_constant op) ≡ true)
eint_by None eint = absurd (false≢true eint)
eint_by (Some (ops.Arg ty)) eint = refl
eint_by (Some (ops.Int value bits)) eint = absurd (false≢true eint)
eint_by (Some (ops.Dense found count bits)) eint = absurd (false≢true eint)
eint_by (Some (ops.Apply name operands ty)) eint = refl

-- what has an encrypted type is no constant
pub eint_result : (list : List (ℕ × FheOp)) (number : ℕ) → is_eint (type_with list number) ≡ true → IsResult list number
eint_result list number eint = eint_by (op_with list number) eint
