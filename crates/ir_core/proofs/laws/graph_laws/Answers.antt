use Rattle.std.proofs.Common.{arith}
use Rattle.ir_core.proofs.Changes.{users_after, before_there, push_unused, insertion_unused, insertion_before, insertion_keeps, replaced_unused, push_erased}
use Rattle.ir_core.proofs.laws.graph_laws.Goals as goal

pub returns : goal.returns
returns g c =
    let level = g.L.Level in
    record {
      users_after = users_after level.operands;
      before_there = before_there;
      transitive = λ list a b c before after. omega (arith, before, after);
      push_unused = push_unused level.operands;
      insertion_unused = insertion_unused level.operands;
      insertion_before = insertion_before level.operands;
      insertion_keeps = insertion_keeps level.operands;
      replaced_unused = replaced_unused level.operands level.with_operands g.met.L.Level.put_is_read;
      push_erased = push_erased level.operands;
    }
