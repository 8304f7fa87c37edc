use Rattle.std.proofs.Common.{◌≡◌, ◌<◌, ◌∷◌, ℕ, List, Option, None, Some, subst, sym, arith}
use Rattle.mlir_lex.specs.Tokens.{StartsNoToken, StartsWithLongest}
use Rattle.mlir_lex.specs.Lengths.{IsFirstToken, kind_of_first, starts_with_digit, token_length}
use Rattle.mlir_lex.specs.declared.TokenKind.{TokenKind}
use Rattle.mlir_lex.proofs.Longest.{first_is_longest, no_kind_no_token, no_length_no_token}
use Rattle.mlir_lex.proofs.lengths.first_token.Goals as goal

pub returns-in_err-kind : goal.returns-in_err-kind
returns-in_err-kind c =
    let no_kind : kind_of_first c.in_ok-first.first.now (starts_with_digit c.in_ok-first.rest.now) ≡ None = cc (c.in_err-kind.was, c.kind_of_first.ensures, c.starts_with_digit.ensures) in
    let none : StartsNoToken c.args.bytes.now = subst (λ (bytes : List ℕ). StartsNoToken bytes) (sym c.in_ok-first.ensures.cases.0) (no_kind_no_token c.in_ok-first.first.now c.in_ok-first.rest.now no_kind) in
    subst (λ (found : Option (TokenKind × ℕ)). IsFirstToken c.args.bytes.now found) (sym c.from_residual-in_err-kind.ensures) none

pub returns-then-length-eq0 : goal.returns-then-length-eq0
returns-then-length-eq0 c =
    let kind : kind_of_first c.in_ok-first.first.now (starts_with_digit c.in_ok-first.rest.now) ≡ Some c.in_ok-kind.kind = cc (c.in_ok-kind.was, c.kind_of_first.ensures, c.starts_with_digit.ensures) in
    let length : token_length c.in_ok-kind.kind c.in_ok-first.first.now c.in_ok-first.rest.now ≡ 0 = cc (c.if-length-eq0.true, c.token_length-length.ensures) in
    subst (λ (bytes : List ℕ). StartsNoToken bytes) (sym c.in_ok-first.ensures.cases.0) (no_length_no_token c.in_ok-kind.kind c.in_ok-first.first.now c.in_ok-first.rest.now kind length)

pub returns-else-length-eq0 : goal.returns-else-length-eq0
returns-else-length-eq0 c =
    let kind : kind_of_first c.in_ok-first.first.now (starts_with_digit c.in_ok-first.rest.now) ≡ Some c.in_ok-kind.kind = cc (c.in_ok-kind.was, c.kind_of_first.ensures, c.starts_with_digit.ensures) in
    let some_bytes : 0 < token_length c.in_ok-kind.kind c.in_ok-first.first.now c.in_ok-first.rest.now = omega (arith, c.if-length-eq0.false, c.token_length-length.ensures) in
    let longest = first_is_longest c.in_ok-kind.kind c.in_ok-first.first.now c.in_ok-first.rest.now kind some_bytes in
    subst (λ (bytes : List ℕ). StartsWithLongest c.in_ok-kind.kind c.token_length-length.result bytes) (sym c.in_ok-first.ensures.cases.0)
    (subst (λ (n : ℕ). StartsWithLongest c.in_ok-kind.kind n (c.in_ok-first.first.now ∷ c.in_ok-first.rest.now)) (sym c.token_length-length.ensures) longest)
