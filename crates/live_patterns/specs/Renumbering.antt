-- What the code needs to number one operation more anew.
use Rattle.std.specs.Prelude.{◌≡◌, ℕ, ◌+◌, ◌<◌, ◌≤◌, ◌^◌, ◌-◌, Bool, false, List, [], ◌∷◌, length, All, slice_index, slice_index_or, ℤ}
use Rattle.forms.specs.Forms.{form_range}
use Rattle.forms.specs.Limits.{most_width}
use Rattle.forms.specs.Ranges.{IsNumberRange, HoldsRanges}
use Rattle.range_pass.specs.Bounds.{AreSmall}
use Rattle.ap_level.specs.declared.level.ApOp.{ApOp}
use Rattle.ap_level.specs.declared.level.ApOp.TheVariants.{Input, Look, Out}
use Rattle.ap_level.specs.Operations.{operands_of}
use Rattle.ap_level.specs.Rules.{ranges_on}
use Rattle.live_patterns.specs.Live.{is_used, renumbered}

-- the marks of all operations that one of these has a term on
abbrev pub AreMarks : List Bool → List (ℕ × ApOp) → Type 0
AreMarks used operations = (number : ℕ) → slice_index_or used number false ≡ is_used number operations

-- operands stand at earlier places, the first of which has this number
abbrev pub HaveEarlier : ℕ → List ApOp → Type 0
HaveEarlier number [] = Unit {0}
HaveEarlier number (op ∷ operations) =
    All (λ operand. operand < number) (operands_of op) × HaveEarlier (number + 1) operations

-- an operation under the new numbers that these places say
abbrev pub placed_anew : List ℕ → ApOp → ApOp
placed_anew places op = renumbered (slice_index places) op

-- the range of an operation can be computed where those of the operations before it are known
abbrev pub CanRange : List (ℤ × ℤ) → ApOp → Type 0
CanRange ranges (Input lo hi) = Unit {0}
CanRange ranges (Look constant terms entries) = AreSmall terms ranges
CanRange ranges (Out constant terms) =
    AreSmall terms ranges
    × IsNumberRange (form_range constant terms ranges).0 (form_range constant terms ranges).1

-- the least width from this one on that holds these ranges
pub record IsWidened (width : ℕ) (ranges : List (ℤ × ℤ)) (wide : ℕ) : Type 0 where
  pub from : width ≤ wide
  pub most : wide ≤ most_width
  pub holds : HoldsRanges wide ranges
  pub least : (other : ℕ) → width ≤ other → HoldsRanges other ranges → wide ≤ other

-- an operation may be put behind these ones: it had this number, and its operands are among them
pub record CanPut (operations : List ApOp) (places : List ℕ) (ranges : List (ℤ × ℤ)) (old : ℕ) (op : ApOp) : Type 0
  where
    pub number : old < length places
    pub leaves : All (λ leaf. leaf < length places) (operands_of op)
    pub earlier : All (λ operand. operand < length operations) (operands_of (placed_anew places op))
    pub few : length (operands_of op) < 2 ^ 32
    pub numbers_left : length operations < 2 ^ 32 - 1
    pub range : CanRange ranges (placed_anew places op)
    pub narrow : HoldsRanges most_width (ranges_on ranges (placed_anew places op))
