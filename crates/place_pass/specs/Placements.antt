-- What the code has of a circuit so far, and what it needs to put one operation more.
use Rattle.std.specs.Prelude.{ℕ, ◌+◌, ◌<◌, ◌^◌, List, length, All, ℤ}
use Rattle.forms.specs.Forms.{form_range}
use Rattle.forms.specs.Ranges.{IsNumberRange}
use Rattle.range_pass.specs.Bounds.{AreSmall}
use Rattle.ap_level.specs.declared.level.ApOp.{ApOp}
use Rattle.ap_level.specs.declared.level.ApOp.TheVariants as patterns
use Rattle.tfhe_level.specs.Nodes.{nodes_of}
use Rattle.place_pass.specs.declared.places.Places.{Places}
use Rattle.place_pass.specs.Placing.{Placed, placed_of}

-- the placement that the code has
abbrev pub placement_of : Places → Placed
placement_of places =
    placed_of (nodes_of places.shape) places.leaves.items places.ranges.items places.outs.items

-- there are numbers for three nodes more, and each leaf has a node
pub record HasRoom (p : Placed) : Type 0 where
  pub numbers : length p.nodes + 3 < 2 ^ 32
  pub leaves : All (λ leaf. leaf < length p.nodes) p.leaves

-- the terms of a form are on the leaves so far
pub record IsFormThere (p : Placed) (terms : List (ℕ × ℤ)) : Type 0 where
  pub leaves : All (λ t. t.0 < length p.leaves) terms
  pub few : length terms < 2 ^ 32

-- so are those of a look-up
pub record CanLook (p : Placed) (terms : List (ℕ × ℤ)) : Type 0 where
  pub room : HasRoom p
  pub form : IsFormThere p terms

-- the range of a result is one of small numbers
pub record CanOut (p : Placed) (constant : ℤ) (terms : List (ℕ × ℤ)) : Type 0 where
  pub room : HasRoom p
  pub form : IsFormThere p terms
  pub small : AreSmall terms p.ranges
  pub range : IsNumberRange (form_range constant terms p.ranges).0 (form_range constant terms p.ranges).1

-- an operation may be put
abbrev pub CanPlace : Placed → ApOp → Type 0
CanPlace p (patterns.Input lo hi) = HasRoom p
CanPlace p (patterns.Look constant terms entries) = CanLook p terms
CanPlace p (patterns.Out constant terms) = CanOut p constant terms

-- there are numbers for the outs, and each has a node
pub record CanFinish (p : Placed) : Type 0 where
  pub numbers : length p.nodes + length p.outs < 2 ^ 32
  pub sources : All (λ outlet. outlet.source < length p.nodes) p.outs
