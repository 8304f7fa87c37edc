use Rattle.std.proofs.Common.{◌≡◌, replicate}
use Rattle.ggsw_core.proofs.tests.a_product_with_one_gives_the_words_back.Given as goal

-- the room keeps its size
abbrev pub invariant-loop-mask : goal.invariant-loop-mask
invariant-loop-mask g l = l.room ≡ replicate 2 2
