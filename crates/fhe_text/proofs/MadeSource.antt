-- A printed text is made of the tokens of its source.
use Rattle.std.proofs.Common.{◌≡◌, ℕ, ◌+◌, ◌^◌, ◌<◌, true, List, [], ◌∷◌, ◌++◌, length, refl, sym, ap, ◌∙◌, subst, arith, codes, ℤ, Option, Some, None}
use Rattle.std.specs.Fmt.{decimal, signed_decimal}
use Rattle.std.specs.List.{list_all, AllByRecursion}
use Rattle.std.proofs.lemmas.List.{append_assoc}
use Rattle.mlir_lex.specs.declared.TokenKind.TheVariants.{Word, Int, Value, Symbol, Sign}
use Rattle.mlir_lex.specs.Spellings.{is_blank}
use Rattle.mlir_lex.specs.Pieces.{ends_before}
use Rattle.fhe_text.specs.declared.source.WrittenType.{WrittenType}
use Rattle.fhe_text.specs.declared.source.WrittenType.TheVariants as types
use Rattle.fhe_text.specs.declared.source.Arg.{Arg}
use Rattle.fhe_text.specs.declared.source.Statement.{Statement}
use Rattle.fhe_text.specs.declared.source.Source.{Source}
use Rattle.fhe_text.specs.Roles.{Spelled}
use Rattle.fhe_text.specs.Printing.{line_feed, comma, type_text, value_text, types_text, values_text, statement_text, statements_text, declared_text, arg_text, more_args_text, args_text, results_text, program_text}
use Rattle.fhe_text.specs.Spellable.{IsEncrypted, IsWritable, IsDeclared, IsArgument, AreStatements, AreSome, value_count, IsSpellable}
use Rattle.fhe_text.proofs.Decimals.{IsShort, decimal_in_value, decimal_names, signed_int, fits_short}
use Rattle.fhe_text.proofs.Made.{IsMade, made_end, made_token, made_sign, made_as, some_made}
use Rattle.fhe_text.proofs.MadeParts.{type_made, types_made, value_made, few_defined, computed_made}
use Rattle.fhe_text.proofs.PrintedTokens.{all_tokens, behind_comma, listed_tokens, type_tokens, types_tokens, values_tokens, statement_tokens, declared_tokens, arg_tokens, results_tokens, return_tokens, body_tokens, source_tokens}

-- ---- arguments

declared_grouped : (low high rest : List ℕ) → (codes " {fhec.range = [" ++ (low ++ (comma ++ (high ++ codes "]}")))) ++ rest ≡ codes " {fhec.range = [" ++ (low ++ (comma ++ (high ++ (codes "]}" ++ rest))))
declared_grouped low high rest =
    ap (λ l. codes " {fhec.range = [" ++ l) (append_assoc low (comma ++ (high ++ codes "]}")) rest ∙ ap (λ l. low ++ (comma ++ l)) (append_assoc high (codes "]}") rest))

declared_made : (declared : Option (ℤ × ℤ)) → IsDeclared declared → (rest : List ℕ) (tokens : List Spelled) → IsMade rest tokens → IsMade (declared_text declared ++ rest) (declared_tokens declared tokens)
declared_made None h rest tokens m = m
declared_made (Some range) h rest tokens m =
    made_as (declared_grouped (signed_decimal range.0) (signed_decimal range.1) rest)
    (made_sign (codes " ") (codes "{") refl refl (made_token [] Word (codes "fhec.range") refl refl refl (made_sign (codes " ") (codes "=") refl refl (made_sign (codes " ") (codes "[") refl refl
    (made_token [] Int (signed_decimal range.0) refl (signed_int range.0 (fits_short range.0 h.0)) refl (made_sign [] (codes ",") refl refl
    (made_token (codes " ") Int (signed_decimal range.1) refl (signed_int range.1 (fits_short range.1 h.1)) refl (made_sign [] (codes "]") refl refl (made_sign [] (codes "}") refl refl m)))))))))

declared_ends : (declared : Option (ℤ × ℤ)) (rest : List ℕ) → ends_before Word rest ≡ true → ends_before Word (declared_text declared ++ rest) ≡ true
declared_ends None rest e = e
declared_ends (Some range) rest e = refl

encrypted_writable : (t : WrittenType) → IsEncrypted t → IsWritable t
encrypted_writable (types.Eint width) h = h
encrypted_writable (types.Int bits) h = absurd h
encrypted_writable (types.Tensor count bits) h = absurd h

pub all_writable : (written : List WrittenType) → AllByRecursion IsEncrypted written → AllByRecursion IsWritable written
all_writable [] all = tt
all_writable (t ∷ written) all = (encrypted_writable t all.0, all_writable written all.1)

arg_grouped : (place ty declared rest : List ℕ) → (codes "%arg" ++ (place ++ (codes ": " ++ (ty ++ declared)))) ++ rest ≡ codes "%arg" ++ (place ++ (codes ": " ++ (ty ++ (declared ++ rest))))
arg_grouped place ty declared rest =
    ap (λ l. codes "%arg" ++ l) (append_assoc place (codes ": " ++ (ty ++ declared)) rest ∙ ap (λ l. place ++ (codes ": " ++ l)) (append_assoc ty declared rest))

arg_made : (blanks : List ℕ) → list_all is_blank blanks ≡ true → (place : ℕ) (arg : Arg) → IsShort place → IsArgument arg → (rest : List ℕ) (tokens : List Spelled) → ends_before Word rest ≡ true → IsMade rest tokens → IsMade (blanks ++ (arg_text place arg ++ rest)) (arg_tokens place arg tokens)
arg_made blanks b place arg few h rest tokens e m =
    made_as (ap (λ l. blanks ++ l) (arg_grouped (decimal place) (type_text arg.ty) (declared_text arg.declared) rest))
    (made_token blanks Value (37 ∷ 97 ∷ 114 ∷ 103 ∷ decimal place) b (decimal_in_value place few) refl (made_sign [] (codes ":") refl refl
    (type_made (codes " ") refl arg.ty (encrypted_writable arg.ty h.0) (declared_text arg.declared ++ rest) (declared_tokens arg.declared tokens) (declared_ends arg.declared rest e) (declared_made arg.declared h.1 rest tokens m))))

args_end : (place : ℕ) (args : List Arg) (rest : List ℕ) → ends_before Word rest ≡ true → ends_before Word (more_args_text place args ++ rest) ≡ true
args_end place [] rest e = e
args_end place (arg ∷ args) rest e = refl

more_args_made : (place : ℕ) (args : List Arg) → IsShort (place + length args) → AllByRecursion IsArgument args → (rest : List ℕ) (tokens : List Spelled) → ends_before Word rest ≡ true → IsMade rest tokens → IsMade (more_args_text place args ++ rest) (all_tokens (behind_comma arg_tokens) place args tokens)
more_args_made place [] few all rest tokens e m = m
more_args_made place (arg ∷ args) few all rest tokens e m =
    made_as (ap (λ l. comma ++ l) (append_assoc (arg_text place arg) (more_args_text (place + 1) args) rest))
    (made_sign [] (codes ",") refl refl
    (arg_made (codes " ") refl place arg (omega (arith, few)) all.0 (more_args_text (place + 1) args ++ rest) (all_tokens (behind_comma arg_tokens) (place + 1) args tokens) (args_end (place + 1) args rest e)
    (more_args_made (place + 1) args (omega (arith, few)) all.1 rest tokens e m)))

args_made : (args : List Arg) → IsShort (length args) → AllByRecursion IsArgument args → (rest : List ℕ) (tokens : List Spelled) → ends_before Word rest ≡ true → IsMade rest tokens → IsMade (args_text args ++ rest) (listed_tokens arg_tokens 0 args tokens)
args_made [] few all rest tokens e m = m
args_made (arg ∷ args) few all rest tokens e m =
    made_as (append_assoc (arg_text 0 arg) (more_args_text 1 args) rest)
    (arg_made [] refl 0 arg (omega arith) all.0 (more_args_text 1 args ++ rest) (all_tokens (behind_comma arg_tokens) 1 args tokens) (args_end 1 args rest e)
    (more_args_made 1 args (omega (arith, few)) all.1 rest tokens e m))

-- ---- results

results_made : (results : List WrittenType) → AllByRecursion IsEncrypted results → (rest : List ℕ) (tokens : List Spelled) → ends_before Word rest ≡ true → IsMade rest tokens → IsMade (codes " " ++ (results_text results ++ rest)) (results_tokens results tokens)
results_made [] all rest tokens e m = made_sign (codes " ") (codes "(") refl refl (made_sign [] (codes ")") refl refl m)
results_made (one ∷ []) all rest tokens e m = type_made (codes " ") refl one (encrypted_writable one all.0) rest tokens e m
results_made (one ∷ other ∷ more) all rest tokens e m =
    made_as (ap (λ l. codes " (" ++ l) (append_assoc (types_text (one ∷ other ∷ more)) (codes ")") rest))
    (made_sign (codes " ") (codes "(") refl refl
    (types_made (one ∷ other ∷ more) (all_writable (one ∷ other ∷ more) all) (codes ")" ++ rest) ((Sign, codes ")") ∷ tokens) refl (made_sign [] (codes ")") refl refl m)))

-- ---- statements

line_grouped : (place computed behind rest : List ℕ) → (codes "  %" ++ (place ++ (codes " = " ++ (computed ++ line_feed))) ++ behind) ++ rest ≡ codes "  %" ++ (place ++ (codes " = " ++ (computed ++ (line_feed ++ (behind ++ rest)))))
line_grouped place computed behind rest =
    ap (λ l. codes "  %" ++ l) (append_assoc (place ++ (codes " = " ++ (computed ++ line_feed))) behind rest
    ∙ append_assoc place (codes " = " ++ (computed ++ line_feed)) (behind ++ rest)
    ∙ ap (λ l. place ++ (codes " = " ++ l)) (append_assoc computed line_feed (behind ++ rest)))

-- the line feed of the line before, and the statements
statements_made : (args place : ℕ) (body : List Statement) → IsShort (args + place + length body) → AreStatements (args + place) body → (rest : List ℕ) (tokens : List Spelled) → IsMade (line_feed ++ rest) tokens → IsMade (line_feed ++ (statements_text args place body ++ rest)) (all_tokens (statement_tokens args) place body tokens)
statements_made args place [] few all rest tokens m = m
statements_made args place (statement ∷ body) few all rest tokens m =
    let regroup : args + place + 1 ≡ args + (place + 1) = omega arith in
    made_as (ap (λ l. line_feed ++ l) (line_grouped (decimal place) (statement_text args statement) (statements_text args (place + 1) body) rest))
    (made_token (codes "\n  ") Value (37 ∷ decimal place) refl (decimal_names place (omega (arith, few))) refl (made_sign (codes " ") (codes "=") refl refl
    (computed_made args (args + place) statement (omega (arith, few)) all.0 (line_feed ++ (statements_text args (place + 1) body ++ rest)) (all_tokens (statement_tokens args) (place + 1) body tokens) refl
    (statements_made args (place + 1) body (omega (arith, few)) (subst (λ (n : ℕ). AreStatements n body) regroup all.1) rest tokens m))))

-- ---- the return

some_types : (written : List WrittenType) → AreSome IsWritable written → (rest : List ℕ) (tokens : List Spelled) → ends_before Word rest ≡ true → IsMade rest tokens → IsMade (codes " " ++ (types_text written ++ rest)) (types_tokens written tokens)
some_types [] h rest tokens e m = absurd (omega (arith, h.0))
some_types (t ∷ written) h rest tokens e m = some_made type_text type_tokens IsWritable Word type_made refl (codes " ") refl t written h.1 rest tokens e m

some_values : (args count : ℕ) (values : List ℕ) → IsShort count → AreSome (λ v. v < count) values → (rest : List ℕ) (tokens : List Spelled) → ends_before Value rest ≡ true → IsMade rest tokens → IsMade (codes " " ++ (values_text args values ++ rest)) (values_tokens args values tokens)
some_values args count [] few h rest tokens e m = absurd (omega (arith, h.0))
some_values args count (v ∷ values) few h rest tokens e m =
    some_made (value_text args) (λ x more. (Value, value_text args x) ∷ more) IsShort Value (value_made args) refl (codes " ") refl v values (few_defined count (10 ^ 64) (v ∷ values) (omega (arith, few)) h.1) rest tokens e m

-- the end of the text
abbrev end_text : List ℕ
end_text = line_feed ++ (codes "}" ++ line_feed)

return_made : (source : Source) → IsSpellable source → IsShort (value_count source) → IsMade (line_feed ++ (codes "  return " ++ (values_text (length source.args) source.returned ++ (codes " : " ++ (types_text source.returned_types ++ end_text))))) (return_tokens source ((Sign, codes "}") ∷ []))
return_made source h few =
    made_token (codes "\n  ") Word (codes "return") refl refl refl
    (some_values (length source.args) (value_count source) source.returned few h.returned (codes " : " ++ (types_text source.returned_types ++ end_text)) ((Sign, codes ":") ∷ types_tokens source.returned_types ((Sign, codes "}") ∷ [])) refl
    (made_sign (codes " ") (codes ":") refl refl
    (some_types source.returned_types h.returned_types end_text ((Sign, codes "}") ∷ []) refl (made_sign line_feed (codes "}") refl refl made_end))))

-- ---- the text

body_text : Source → List ℕ
body_text source =
    codes " {" ++ (line_feed ++ (statements_text (length source.args) 0 source.body
    ++ (codes "  return " ++ (values_text (length source.args) source.returned ++ (codes " : " ++ (types_text source.returned_types ++ end_text))))))

body_made : (source : Source) → IsSpellable source → IsShort (value_count source) → IsMade (body_text source) (body_tokens source [])
unfolding body_text
body_made source h few =
    let start : length source.args + 0 ≡ length source.args = omega arith in
    made_sign (codes " ") (codes "{") refl refl
    (statements_made (length source.args) 0 source.body (omega (arith, few)) (subst (λ (n : ℕ). AreStatements n source.body) (sym start) h.body) (codes "  return " ++ (values_text (length source.args) source.returned ++ (codes " : " ++ (types_text source.returned_types ++ end_text)))) (return_tokens source ((Sign, codes "}") ∷ [])) (return_made source h few))

pub source_made : (source : Source) → IsSpellable source → IsShort (value_count source) → IsMade (program_text source) (source_tokens source)
unfolding program_text body_text
source_made source h few =
    made_token [] Word (codes "func.func") refl refl refl (made_token (codes " ") Symbol (codes "@main") refl refl refl (made_sign [] (codes "(") refl refl
    (args_made source.args (omega (arith, few)) h.args (codes ") -> " ++ (results_text source.results ++ body_text source)) ((Sign, codes ")") ∷ (Sign, codes "->") ∷ results_tokens source.results (body_tokens source [])) refl
    (made_sign [] (codes ")") refl refl (made_sign (codes " ") (codes "->") refl refl
    (results_made source.results h.results.1 (body_text source) (body_tokens source []) refl (body_made source h few)))))))
