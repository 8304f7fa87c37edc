-- Lines, and the places where tokens stop.
use Rattle.std.proofs.Common.{◌≡◌, ℕ, ◌+◌, ◌<◌, ◌≤◌, Bool, false, List, [], ◌∷◌, length, sym, arith, Option, Some, None}
use Rattle.std.specs.Prelude.{count_by, drop, filter, IfSome}
use Rattle.std.specs.List.{AllByRecursion}
use Rattle.std.proofs.lemmas.List.Sums.{length-filter}
use Rattle.mlir_lex.specs.declared.Token.{Token}
use Rattle.mlir_lex.specs.declared.LexFault.{LexFault}
use Rattle.mlir_lex.specs.Tokens.{AreTokensFrom, IsWithin, gap_length}

-- how many pass a test
pub count_filtered : {X : Type 0} (test : X → Bool) (xs : List X) → count_by test xs ≡ length (filter test xs)
count_filtered test xs = sym (length-filter test xs)

-- a stop lies within the bytes
pub stop_within : (bytes : List ℕ) (place : ℕ) (tokens : List Token) (stop : Option LexFault) → AreTokensFrom bytes place tokens stop → IfSome stop (λ s. s.at ≤ length bytes)
stop_within bytes place [] None h = tt
stop_within bytes place [] (Some s) h = omega (arith, h.0, h.1)
stop_within bytes place (token ∷ tokens) stop h = stop_within bytes token.end tokens stop h.1

-- each token has a byte of its own
pub few_tokens : (bytes : List ℕ) (place : ℕ) (tokens : List Token) (stop : Option LexFault) → place ≤ length bytes → AreTokensFrom bytes place tokens stop → AllByRecursion (IsWithin bytes) tokens → place + length tokens ≤ length bytes
few_tokens bytes place [] stop p h all = omega (arith, p)
few_tokens bytes place (token ∷ tokens) stop p h all =
    let rest : token.end + length tokens ≤ length bytes = few_tokens bytes token.end tokens stop all.0.1 h.1 all.1 in
    let from : token.start ≡ place + gap_length false (drop place bytes) = h.0.0 in
    let more : token.start < token.end = all.0.0 in
    omega (arith, from, more, rest)
