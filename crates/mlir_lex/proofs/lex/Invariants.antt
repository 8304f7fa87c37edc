-- A reading of what is left, behind the tokens so far, is a reading of the whole.
use Rattle.std.proofs.Common.{◌-◌, ◌≤◌, ◌++◌, List, Option, length}
use Rattle.mlir_lex.specs.declared.Token.{Token}
use Rattle.mlir_lex.specs.declared.LexFault.{LexFault}
use Rattle.mlir_lex.specs.Tokens.{AreTokensFrom, AreTokensOf}
use Rattle.mlir_lex.proofs.lex.Given as goal

abbrev pub invariant-loop-token : goal.invariant-loop-token
invariant-loop-token l = (l.place ≤ length l.bytes) × ((tokens : List Token) (stop : Option LexFault) → AreTokensFrom l.bytes l.place tokens stop → AreTokensOf l.bytes (l.list.items ++ tokens) stop)

abbrev pub decreases-loop-token : goal.decreases-loop-token
decreases-loop-token l = length l.bytes - l.place
