use Rattle.std.proofs.Common.{arith}
use Rattle.place_pass.proofs.Finding.{other_lengths}
use Rattle.place_pass.proofs.nodes.same_terms.Goals as goal

pub returns-then-terms-others : goal.returns-then-terms-others
returns-then-terms-others c = other_lengths c.args.terms.now c.args.others.now (λ same. omega (arith, same))
