use Rattle.std.proofs.Common.{◌≡◌, List, length, ap, sym, subst, arith}
use Rattle.std.proofs.lemmas.List.Elements.{recursion_from_All}
use Rattle.refusals.specs.Reading.{Gives}
use Rattle.mlir_lex.specs.declared.Token.{Token}
use Rattle.mlir_lex.specs.Tokens.{AreTokensOf, IsWithin}
use Rattle.fhe_text.proofs.Places.{few_tokens, stop_within}
use Rattle.fhe_text.proofs.Sources.{program_is}
use Rattle.fhe_text.proofs.reader.read_text.Goals as goal

pub finished-requires-clause-room : goal.finished-requires-clause-room
finished-requires-clause-room c =
    let list : List Token = c.in_ok-tokens.tokens.list in
    let few = few_tokens c.args.bytes.now 0 list c.in_ok-tokens.tokens.stop (omega arith) c.in_ok-tokens.ensures.tokens (recursion_from_All (IsWithin c.args.bytes.now) list c.in_ok-tokens.ensures.within) in
    let same : length c.as_slice.result.now ≡ length list = ap (λ (l : List Token). length l) c.as_slice.ensures in
    omega (arith, few, same, c.requires)

pub finished-requires-clause-stop_within : goal.finished-requires-clause-stop_within
finished-requires-clause-stop_within c = stop_within c.args.bytes.now 0 c.in_ok-tokens.tokens.list c.in_ok-tokens.tokens.stop c.in_ok-tokens.ensures.tokens

pub returns : goal.returns
returns c =
    let all : AreTokensOf c.args.bytes.now c.as_slice.result.now c.in_ok-tokens.tokens.stop =
    subst (λ l. AreTokensOf c.args.bytes.now l c.in_ok-tokens.tokens.stop) (sym c.as_slice.ensures) c.in_ok-tokens.ensures.tokens in
    subst (λ r. Gives (λ source. source) c.finished.result r) (sym (program_is c.laws.ensures.tokens c.args.bytes.now c.as_slice.result.now c.in_ok-tokens.tokens.stop all)) c.finished.ensures
