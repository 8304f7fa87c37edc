use Rattle.std.proofs.Common.{ℕ, ◌<◌, get_or, arith}
use Rattle.std.proofs.lemmas.List.Elements.{All-contains}
use Rattle.ir_core.specs.Graph.{Holds, numbers_of}
use Rattle.fhe_level.proofs.computing.operand_number.Goals as goal

pub number_at-requires : goal.number_at-requires
number_at-requires c =
    let operand : ℕ = get_or c.args.operands.now c.args.at 0 in
    let there : Holds c.args.program.now.graph.list operand = c.requires.held.there c.args.at 0 c.requires.at in
    let given : operand < c.args.program.now.graph.made =
    All-contains (λ (n : ℕ). n < c.args.program.now.graph.made) (numbers_of c.args.program.now.graph.list) operand c.known.ensures.given there in
    omega (arith, given, c.requires.room)
