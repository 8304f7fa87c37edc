-- The definitions on worked programs.
use Rattle.std.proofs.Common.{◌≡◌, pos, List, [], ◌∷◌, refl}
use lib.IntN.{negsuc}
use Rattle.ap_level.specs.declared.level.ApOp.{ApOp}
use Rattle.ap_level.specs.declared.level.ApOp.TheVariants.{Input, Look, Out}
use Rattle.ap_level.specs.Patterns.{clear_values, pattern_ranges}
use Rattle.ap_level.specs.Rules.{message_ranges}

-- the squares modulo 16 of 1, 2 and 3 times three arguments
abbrev squares : List ApOp
squares =
    Input (pos 0) (pos 3) ∷ Input (pos 0) (pos 3) ∷ Input (pos 0) (pos 2)
    ∷ Look (pos 0) ((0, pos 1) ∷ (1, pos 2) ∷ (2, pos 3) ∷ []) (pos 0 ∷ pos 1 ∷ pos 4 ∷ pos 9 ∷ pos 0 ∷ pos 9 ∷ pos 4 ∷ pos 1 ∷ pos 0 ∷ pos 1 ∷ pos 4 ∷ pos 9 ∷ pos 0 ∷ pos 9 ∷ pos 4 ∷ pos 1 ∷ [])
    ∷ Out (pos 0) ((3, pos 1) ∷ [])
    ∷ []

ten_squared : clear_values squares (pos 3 ∷ pos 2 ∷ pos 1 ∷ []) ≡ pos 4 ∷ []
ten_squared = refl

ranges_of_squares : pattern_ranges squares ≡ (pos 0, pos 3) ∷ (pos 0, pos 3) ∷ (pos 0, pos 2) ∷ (pos 0, pos 9) ∷ (pos 0, pos 9) ∷ []
ranges_of_squares = refl

messages_of_squares : message_ranges squares ≡ (pos 0, pos 15) ∷ (pos 0, pos 9) ∷ []
messages_of_squares = refl

-- a look-up on an argument from 2 to 5, and twice its entry less the argument
abbrev shifted : List ApOp
shifted =
    Input (pos 2) (pos 5)
    ∷ Look (negsuc 1) ((0, pos 1) ∷ []) (pos 5 ∷ pos 6 ∷ pos 7 ∷ pos 1 ∷ [])
    ∷ Out (pos 0) ((0, negsuc 0) ∷ (1, pos 2) ∷ [])
    ∷ Out (pos 7) []
    ∷ []

values_of_shifted : clear_values shifted (pos 4 ∷ []) ≡ pos 10 ∷ pos 7 ∷ []
values_of_shifted = refl

messages_of_shifted : message_ranges shifted ≡ (pos 0, pos 3) ∷ (negsuc 2, pos 12) ∷ (pos 7, pos 7) ∷ []
messages_of_shifted = refl
