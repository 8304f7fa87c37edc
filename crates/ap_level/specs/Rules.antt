-- The rules that the operations and the width of patterns keep.
use Rattle.std.specs.Prelude.{◌≡◌, ◌≢◌, ℕ, ◌<◌, ◌≤◌, ◌==◌, Bool, not, List, [], ◌∷◌, ◌++◌, length, filter, count_by, All, Contains, IsTrue, IsSomeAnd, slice_get, ℤ, pos, ◌+ℤ◌, ◌<ℤ◌, unsigned_abs}
use Rattle.std.specs.List.{list_any, flat_map}
use Rattle.ir_core.specs.Placed.{IsPlaced}
use Rattle.forms.specs.Forms.{form_range, AreRising}
use Rattle.forms.specs.Limits.{most_inputs, most_outs, most_weight, most_constant}
use Rattle.forms.specs.Ranges.{IsNumber, IsNumberRange, IsLeastWidth}
use Rattle.ap_level.specs.declared.level.ApOp.{ApOp}
use Rattle.ap_level.specs.declared.level.ApOp.TheVariants.{Input, Look, Out}
use Rattle.ap_level.specs.declared.program.ApProgram.{ApProgram}
use Rattle.ap_level.specs.Limits.{most_looks}
use Rattle.ap_level.specs.Operations.{operands_of, is_input, is_look, is_out, is_leaf}
use Rattle.ap_level.specs.Patterns.{patterns_of, pattern_ranges}

-- a leaf stands at a place
abbrev pub IsLeafAt : List ApOp → ℕ → Type 0
IsLeafAt operations place = IsSomeAnd (slice_get operations place) (λ op. IsTrue (is_leaf op))

-- ---- forms

-- a term is on an argument or a look-up, and its weight is not 0
pub record IsTerm (earlier : List ApOp) (term : ℕ × ℤ) : Type 0 where
  pub leaf : IsLeafAt earlier term.0
  pub weight : term.1 ≢ pos 0
  pub size : unsigned_abs term.1 ≤ most_weight

-- a form has a constant within its limit, and terms that rise in their leaves
pub record IsForm (earlier : List ApOp) (constant : ℤ) (terms : List (ℕ × ℤ)) : Type 0 where
  pub size : unsigned_abs constant ≤ most_constant
  pub each : All (IsTerm earlier) terms
  pub rising : AreRising 0 terms

-- the range of a form on the operations before it
abbrev pub range_on : List ApOp → ℤ → List (ℕ × ℤ) → ℤ × ℤ
range_on earlier constant terms = form_range constant terms (pattern_ranges earlier)

-- ---- one operation, given those before it

-- arguments stand first
pub record IsInput (earlier : List ApOp) (lo hi : ℤ) : Type 0 where
  pub first : All (λ op. IsTrue (is_input op)) earlier
  pub range : IsNumberRange lo hi
  pub few : length earlier < most_inputs

-- an operation with a term on this number
abbrev pub is_user_of : ℕ → ApOp → Bool
is_user_of number op = list_any (λ operand. operand == number) (operands_of op)

-- a look-up is on a form from 0 on with more than one value, has an entry for each, is no earlier one, and some
-- operation of the program has a term on it
pub record IsLook (all earlier : List ApOp) (constant : ℤ) (terms : List (ℕ × ℤ)) (entries : List ℤ) : Type 0 where
  pub form : IsForm earlier constant terms
  pub starts : (range_on earlier constant terms).0 ≡ pos 0
  pub many : pos 0 <ℤ (range_on earlier constant terms).1
  pub number : pos (length entries) ≡ (range_on earlier constant terms).1 +ℤ pos 1
  pub each : All IsNumber entries
  pub new : ¬ Contains earlier (Look constant terms entries)
  pub used : IsTrue (list_any (is_user_of (length earlier)) all)
  pub few : count_by is_look earlier < most_looks

-- a result is a form of such numbers
pub record IsOut (earlier : List ApOp) (constant : ℤ) (terms : List (ℕ × ℤ)) : Type 0 where
  pub form : IsForm earlier constant terms
  pub range : IsNumberRange (range_on earlier constant terms).0 (range_on earlier constant terms).1
  pub few : count_by is_out earlier < most_outs

-- an operation keeps its rule, given those before it
abbrev pub KeepsRule : List ApOp → List ApOp → ApOp → Type 0
KeepsRule all earlier (Input lo hi) = IsInput earlier lo hi
KeepsRule all earlier (Look constant terms entries) = IsLook all earlier constant terms entries
KeepsRule all earlier (Out constant terms) = IsOut earlier constant terms

-- so does each of these, one after the other
abbrev pub KeepRules : List ApOp → List ApOp → List ApOp → Type 0
KeepRules all earlier [] = Unit {0}
KeepRules all earlier (op ∷ operations) = KeepsRule all earlier op × KeepRules all (earlier ++ op ∷ []) operations

-- ---- the whole

-- the ranges that the width must hold: those of the forms of look-ups and results
abbrev pub ranges_on : List (ℤ × ℤ) → ApOp → List (ℤ × ℤ)
ranges_on ranges (Input lo hi) = []
ranges_on ranges (Look constant terms entries) = form_range constant terms ranges ∷ []
ranges_on ranges (Out constant terms) = form_range constant terms ranges ∷ []

-- these of all operations
abbrev pub message_ranges : List ApOp → List (ℤ × ℤ)
message_ranges operations = flat_map (ranges_on (pattern_ranges operations)) operations

-- operations keep the rules of patterns, and the results stand last, at least one
pub record ArePatterns (operations : List ApOp) : Type 0 where
  pub rules : KeepRules operations [] operations
  pub outs_last : operations ≡ filter (λ op. not (is_out op)) operations ++ filter is_out operations
  pub some_out : 1 ≤ count_by is_out operations

-- a program of patterns keeps all rules
pub record IsApProgram (program : ApProgram) : Type 0 where
  pub placed : IsPlaced program.graph
  pub patterns : ArePatterns (patterns_of program)
  pub width : IsLeastWidth (message_ranges (patterns_of program)) program.width
