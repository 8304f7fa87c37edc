-- the definitions on worked circuits
use Rattle.std.proofs.Common.{◌≡◌, pos, List, [], ◌∷◌, refl}
use lib.IntN.{negsuc}
use Rattle.tfhe_level.specs.declared.level.TfheOp.{TfheOp}
use Rattle.tfhe_level.specs.declared.level.TfheOp.TheVariants.{Input, Lin, Switch, Boot, Out}
use Rattle.tfhe_level.specs.Nodes.{clear_values, node_ranges}
use Rattle.tfhe_level.specs.Counts.{counts_of}

-- 1, 2 and 3 times three inputs, and the squares of the sum modulo 16
abbrev pub squares : List TfheOp
squares =
    Input (pos 0) (pos 3) ∷ Input (pos 0) (pos 3) ∷ Input (pos 0) (pos 2)
    ∷ Lin (pos 0) ((0, pos 1) ∷ (1, pos 2) ∷ (2, pos 3) ∷ [])
    ∷ Switch 3
    ∷ Boot 4 (pos 0 ∷ pos 1 ∷ pos 4 ∷ pos 9 ∷ pos 0 ∷ pos 9 ∷ pos 4 ∷ pos 1 ∷ pos 0 ∷ pos 1 ∷ pos 4 ∷ pos 9 ∷ pos 0 ∷ pos 9 ∷ pos 4 ∷ pos 1 ∷ [])
    ∷ Out 5 (pos 0) (pos 9)
    ∷ []

ten_squared : clear_values squares (pos 3 ∷ pos 2 ∷ pos 1 ∷ []) ≡ pos 4 ∷ []
ten_squared = refl

ranges_of_squares : node_ranges squares ≡ (pos 0, pos 3) ∷ (pos 0, pos 3) ∷ (pos 0, pos 2) ∷ (pos 0, pos 15) ∷ (pos 0, pos 15) ∷ (pos 0, pos 9) ∷ (pos 0, pos 9) ∷ []
ranges_of_squares = refl

counts_of_squares : counts_of squares ≡ record { switches = 1; boots = 1; weights = 3 }
counts_of_squares = refl

-- a look-up on an input from 2 to 5, and the input itself
abbrev shifted : List TfheOp
shifted =
    Input (pos 2) (pos 5)
    ∷ Lin (negsuc 1) ((0, pos 1) ∷ [])
    ∷ Switch 1
    ∷ Boot 2 (pos 5 ∷ pos 6 ∷ pos 7 ∷ pos 1 ∷ [])
    ∷ Out 3 (pos 1) (pos 7)
    ∷ Out 0 (pos 2) (pos 5)
    ∷ []

values_of_shifted : clear_values shifted (pos 4 ∷ []) ≡ pos 7 ∷ pos 4 ∷ []
values_of_shifted = refl

ranges_of_shifted : node_ranges shifted ≡ (pos 2, pos 5) ∷ (pos 0, pos 3) ∷ (pos 0, pos 3) ∷ (pos 1, pos 7) ∷ (pos 1, pos 7) ∷ (pos 2, pos 5) ∷ []
ranges_of_shifted = refl

-- minus two times an input, one times another, and minus 3
abbrev linear : List TfheOp
linear =
    Input (pos 0) (pos 1) ∷ Input (pos 0) (pos 2)
    ∷ Lin (negsuc 2) ((0, negsuc 1) ∷ (1, pos 1) ∷ [])
    ∷ Out 2 (negsuc 4) (negsuc 0)
    ∷ []

values_of_linear : clear_values linear (pos 1 ∷ pos 2 ∷ []) ≡ negsuc 2 ∷ []
values_of_linear = refl

ranges_of_linear : node_ranges linear ≡ (pos 0, pos 1) ∷ (pos 0, pos 2) ∷ (negsuc 4, negsuc 0) ∷ (negsuc 4, negsuc 0) ∷ []
ranges_of_linear = refl
