-- What the statements of a program come to, as operations of patterns, and the rules that these keep.
use Rattle.std.specs.Prelude.{◌≡◌, ℕ, ◌<◌, ◌≤◌, not, List, [], ◌∷◌, ◌++◌, length, map, filter, count_by, All, Contains, ℤ, pos, ◌+ℤ◌, ◌<ℤ◌}
use Rattle.forms.specs.Limits.{most_width}
use Rattle.forms.specs.Ranges.{IsNumber, HoldsRanges}
use Rattle.linear_forms.specs.declared.linear.Form.{Form}
use Rattle.ap_level.specs.declared.level.ApOp.{ApOp}
use Rattle.ap_level.specs.declared.level.ApOp.TheVariants as patterns
use Rattle.ap_level.specs.Limits.{most_looks}
use Rattle.ap_level.specs.Operations.{is_look, is_out}
use Rattle.ap_level.specs.Patterns.{pattern_ranges}
use Rattle.ap_level.specs.Rules.{IsForm, IsInput, IsOut, range_on, ranges_on}
use Rattle.live_patterns.specs.declared.patterns.Look.{Look}
use Rattle.live_patterns.specs.declared.patterns.Patterns.{Patterns}

-- ---- the operations

-- an argument
abbrev pub input_op : ℤ × ℤ → ApOp
input_op range = patterns.Input range.0 range.1

-- a look-up
abbrev pub look_op : Look → ApOp
look_op look = patterns.Look look.form.constant look.form.terms look.entries

-- a result
abbrev pub out_op : Form → ApOp
out_op form = patterns.Out form.constant form.terms

-- the arguments, the look-ups and the results
abbrev pub found_patterns : Patterns → List ApOp
found_patterns found = map input_op found.inputs ++ map look_op found.looks ++ map out_op found.outs

-- ---- their rules

-- a look-up is on a form from 0 on with more than one value, has an entry for each, and is no earlier one
pub record IsFound (earlier : List ApOp) (constant : ℤ) (terms : List (ℕ × ℤ)) (entries : List ℤ) : Type 0 where
  pub form : IsForm earlier constant terms
  pub starts : (range_on earlier constant terms).0 ≡ pos 0
  pub many : pos 0 <ℤ (range_on earlier constant terms).1
  pub number : pos (length entries) ≡ (range_on earlier constant terms).1 +ℤ pos 1
  pub each : All IsNumber entries
  pub new : ¬ Contains earlier (patterns.Look constant terms entries)
  pub few : count_by is_look earlier < most_looks

-- an operation keeps its rule, given those before it
abbrev pub KeepsFoundRule : List ApOp → ApOp → Type 0
KeepsFoundRule earlier (patterns.Input lo hi) = IsInput earlier lo hi
KeepsFoundRule earlier (patterns.Look constant terms entries) = IsFound earlier constant terms entries
KeepsFoundRule earlier (patterns.Out constant terms) = IsOut earlier constant terms

-- so does each of these, one after the other
abbrev pub KeepFoundRules : List ApOp → List ApOp → Type 0
KeepFoundRules earlier [] = Unit {0}
KeepFoundRules earlier (op ∷ operations) = KeepsFoundRule earlier op × KeepFoundRules (earlier ++ op ∷ []) operations

-- the ranges that the width must hold are narrow: the greatest number of each less the least one is below 2^16
abbrev pub IsNarrow : List ApOp → ApOp → Type 0
IsNarrow earlier op = HoldsRanges most_width (ranges_on (pattern_ranges earlier) op)

-- so they are at each of these operations, one after the other
abbrev pub AreNarrow : List ApOp → List ApOp → Type 0
AreNarrow earlier [] = Unit {0}
AreNarrow earlier (op ∷ operations) = IsNarrow earlier op × AreNarrow (earlier ++ op ∷ []) operations

-- operations keep the rules of patterns, but that a look-up may have no user; the results stand last, at least one, and
-- 16 bits hold what the width must hold
pub record AreFound (operations : List ApOp) : Type 0 where
  pub rules : KeepFoundRules [] operations
  pub outs_last : operations ≡ filter (λ op. not (is_out op)) operations ++ filter is_out operations
  pub some_out : 1 ≤ count_by is_out operations
  pub narrow : AreNarrow [] operations
