-- Circuits of worked patterns.
use Rattle.std.proofs.Common.{◌≡◌, pos, [], ◌∷◌, refl}
use lib.IntN.{negsuc}
use Rattle.ap_level.specs.declared.level.ApOp.TheVariants as patterns
use Rattle.tfhe_level.specs.declared.level.TfheOp.TheVariants.{Input, Lin, Switch, Boot, Out}
use Rattle.place_pass.specs.Placing.{placed_nodes}

-- an argument that is returned
returned : placed_nodes (patterns.Input (pos 0) (pos 15) ∷ patterns.Out (pos 0) ((0, pos 1) ∷ []) ∷ []) ≡ Input (pos 0) (pos 15) ∷ Out 0 (pos 0) (pos 15) ∷ []
returned = refl

-- a result that is a number
number : placed_nodes (patterns.Input (pos 0) (pos 3) ∷ patterns.Out (pos 5) [] ∷ []) ≡ Input (pos 0) (pos 3) ∷ Lin (pos 5) [] ∷ Out 1 (pos 5) (pos 5) ∷ []
number = refl

-- look-ups on one argument have one key switch, and a look-up that is returned twice one bootstrap
shared_switch : placed_nodes (
    patterns.Input (pos 0) (pos 3)
    ∷ patterns.Look (pos 0) ((0, pos 1) ∷ []) (pos 1 ∷ pos 3 ∷ pos 0 ∷ pos 2 ∷ [])
    ∷ patterns.Look (pos 0) ((0, pos 1) ∷ []) (pos 0 ∷ pos 1 ∷ pos 2 ∷ pos 3 ∷ [])
    ∷ patterns.Out (pos 0) ((1, pos 1) ∷ [])
    ∷ patterns.Out (pos 0) ((2, pos 1) ∷ [])
    ∷ patterns.Out (pos 0) ((1, pos 1) ∷ [])
    ∷ [])
    ≡ Input (pos 0) (pos 3)
    ∷ Switch 0
    ∷ Boot 1 (pos 1 ∷ pos 3 ∷ pos 0 ∷ pos 2 ∷ [])
    ∷ Boot 1 (pos 0 ∷ pos 1 ∷ pos 2 ∷ pos 3 ∷ [])
    ∷ Out 2 (pos 0) (pos 3)
    ∷ Out 3 (pos 0) (pos 3)
    ∷ Out 2 (pos 0) (pos 3)
    ∷ []
shared_switch = refl

-- an argument from 2 to 5 is moved to 0
moved : placed_nodes (
    patterns.Input (pos 2) (pos 5)
    ∷ patterns.Look (negsuc 1) ((0, pos 1) ∷ []) (pos 5 ∷ pos 6 ∷ pos 7 ∷ pos 1 ∷ [])
    ∷ patterns.Out (pos 0) ((1, pos 1) ∷ [])
    ∷ [])
    ≡ Input (pos 2) (pos 5)
    ∷ Lin (negsuc 1) ((0, pos 1) ∷ [])
    ∷ Switch 1
    ∷ Boot 2 (pos 5 ∷ pos 6 ∷ pos 7 ∷ pos 1 ∷ [])
    ∷ Out 3 (pos 1) (pos 7)
    ∷ []
moved = refl

-- a form that is looked up, and returned too, has one weighted sum
shared_sum : placed_nodes (
    patterns.Input (pos 0) (pos 1)
    ∷ patterns.Input (pos 0) (pos 1)
    ∷ patterns.Look (pos 0) ((0, pos 1) ∷ (1, pos 1) ∷ []) (pos 0 ∷ pos 1 ∷ pos 4 ∷ [])
    ∷ patterns.Out (pos 0) ((0, pos 1) ∷ (1, pos 1) ∷ [])
    ∷ patterns.Out (pos 3) ((0, negsuc 1) ∷ (2, pos 1) ∷ [])
    ∷ [])
    ≡ Input (pos 0) (pos 1)
    ∷ Input (pos 0) (pos 1)
    ∷ Lin (pos 0) ((0, pos 1) ∷ (1, pos 1) ∷ [])
    ∷ Switch 2
    ∷ Boot 3 (pos 0 ∷ pos 1 ∷ pos 4 ∷ [])
    ∷ Lin (pos 3) ((0, negsuc 1) ∷ (4, pos 1) ∷ [])
    ∷ Out 2 (pos 0) (pos 2)
    ∷ Out 5 (pos 1) (pos 7)
    ∷ []
shared_sum = refl
