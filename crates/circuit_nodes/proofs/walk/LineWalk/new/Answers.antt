use Rattle.std.proofs.Common.{◌≡◌, false, refl}
use Rattle.circuit_nodes.proofs.walk.LineWalk.new.Goals as goal

pub returns : goal.returns
returns c = rw (c.new.ensures, c.in_ok-named.ensures.items_if_clones_equal (λ y same. same)) refl
