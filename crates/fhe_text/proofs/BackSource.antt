-- A source is read back from its tokens: statements, the return and the function.
use Rattle.std.proofs.Common.{◌≡◌, ℕ, suc, ◌+◌, ◌<◌, ◌≤◌, true, false, List, [], ◌∷◌, ◌++◌, length, refl, sym, ap, ◌∙◌, subst, arith, codes, ℤ, Ok, nat_lt}
use Rattle.std.specs.Fmt.{decimal, signed_decimal}
use Rattle.std.proofs.lemmas.Bool.{lt-ltb}
use Rattle.std.proofs.lemmas.List.{append-nil, append_assoc}
use Rattle.mlir_lex.specs.declared.TokenKind.TheVariants.{Word, Int, Value, Sign}
use Rattle.fhe_text.specs.declared.source.WrittenType.{WrittenType}
use Rattle.fhe_text.specs.declared.source.Entries.{Entries}
use Rattle.fhe_text.specs.declared.source.Entries.TheVariants as entries
use Rattle.fhe_text.specs.declared.source.Statement.{Statement}
use Rattle.fhe_text.specs.declared.source.Statement.TheVariants as statements
use Rattle.fhe_text.specs.declared.source.Source.{Source}
use Rattle.fhe_text.specs.Roles.{Spelled}
use Rattle.fhe_text.specs.Conditions.{is_among}
use Rattle.fhe_text.specs.Printing.{value_text}
use Rattle.fhe_text.specs.Spellable.{IsWritable, AreStatements, IsStatement, AreSome, value_count, IsSpellable}
use Rattle.fhe_text.specs.Descent.{stands, kind_stands, kind_at, role_at, sign_at, statement_at, next_statement_at, statements_at, return_word_at, return_at, body_at, func_at, unit_at, source_at}
use Rattle.fhe_text.proofs.Decimals.{IsShort}
use Rattle.fhe_text.proofs.ValueNames.{names_to, statement_name, names_count, name_is_new}
use Rattle.fhe_text.proofs.PrintedTokens.{all_tokens, type_tokens, types_tokens, values_tokens, computed_tokens, numbers_tokens, entries_tokens, dense_type_tokens, signature_tokens, statement_tokens, results_tokens, return_tokens, body_tokens, source_tokens}
use Rattle.fhe_text.proofs.Steps.{Goes, all_goes, listed_longer}
use Rattle.fhe_text.proofs.BackParts.{type_longer, types_back, values_back, computed_back}
use Rattle.fhe_text.proofs.BackArgs.{results_back, new_back, args_back}

-- ---- statements

statement_back : (args place : ℕ) (statement : Statement) → IsShort (args + place) → IsStatement (args + place) statement → (rest : List Spelled) → statement_at (names_to args (args + place)) (statement_tokens args place statement rest) ≡ Ok ((names_to args (suc (args + place)), statement), rest)
unfolding statement_at sign_at role_at kind_at
statement_back args place statement few h rest =
    let name : value_text args (args + place) ≡ 37 ∷ decimal place = statement_name args place in
    let fresh : is_among (names_to args (args + place)) (37 ∷ decimal place) ≡ false = subst (λ t. is_among (names_to args (args + place)) t ≡ false) name (name_is_new args (args + place) few) in
    rw (new_back (names_to args (args + place)) (37 ∷ decimal place) fresh ((Sign, codes "=") ∷ computed_tokens args statement rest), computed_back args (args + place) statement few h rest, name) refl

next_statement_back : (args place : ℕ) (found : List Statement) (statement : Statement) → IsShort (args + place) → IsStatement (args + place) statement → (rest : List Spelled) → next_statement_at (names_to args (args + place), found) (statement_tokens args place statement rest) ≡ Ok ((names_to args (suc (args + place)), found ++ statement ∷ []), rest)
unfolding next_statement_at
next_statement_back args place found statement few h rest = rw (statement_back args place statement few h rest) refl

statements_go : (args place last : ℕ) (found body : List Statement) → IsShort last → args + place + length body ≡ last → AreStatements (args + place) body → Goes next_statement_at (statement_tokens args) place (names_to args (args + place), found) body (names_to args last, found ++ body)
statements_go args place last found [] few e all =
    let same : args + place ≡ last = omega (arith, e) in
    ap (λ n. (names_to args n, found)) same ∙ ap (λ l. (names_to args last, l)) (sym (append-nil found))
statements_go args place last found (statement ∷ body) few e all =
    let regroup : args + place + 1 ≡ args + (place + 1) = omega arith in
    let one_more : args + (place + 1) ≡ suc (args + place) = omega arith in
    let behind : Goes next_statement_at (statement_tokens args) (place + 1) (names_to args (args + (place + 1)), found ++ statement ∷ []) body (names_to args last, (found ++ statement ∷ []) ++ body) =
    statements_go args (place + 1) last (found ++ statement ∷ []) body few (omega (arith, e)) (subst (λ (n : ℕ). AreStatements n body) regroup all.1) in (
      (names_to args (suc (args + place)), found ++ statement ∷ []),
      λ rest f. next_statement_back args place found statement (omega (arith, few, e)) all.0 rest,
      subst (λ (n : ℕ). Goes next_statement_at (statement_tokens args) (place + 1) (names_to args n, found ++ statement ∷ []) body (names_to args last, found ++ statement ∷ body)) one_more
          (subst (λ (l : List Statement). Goes next_statement_at (statement_tokens args) (place + 1) (names_to args (args + (place + 1)), found ++ statement ∷ []) body (names_to args last, l)) (append_assoc found (statement ∷ []) body) behind),
    )

types_longer : (written : List WrittenType) (rest : List Spelled) → length rest ≤ length (types_tokens written rest)
types_longer written rest = listed_longer (λ p t more. type_tokens t more) type_longer 0 written rest

values_longer : (args : ℕ) (values : List ℕ) (rest : List Spelled) → length rest ≤ length (values_tokens args values rest)
values_longer args values rest = listed_longer (λ p v more. (Value, value_text args v) ∷ more) (λ p x more. omega arith) 0 values rest

numbers_longer : (numbers : List ℤ) (rest : List Spelled) → length rest ≤ length (numbers_tokens numbers rest)
numbers_longer numbers rest = listed_longer (λ p z more. (Int, signed_decimal z) ∷ more) (λ p x more. omega arith) 0 numbers rest

entries_longer : (found : Entries) (rest : List Spelled) → length rest ≤ length (entries_tokens found rest)
entries_longer (entries.List numbers) rest = let a = numbers_longer numbers ((Sign, codes "]") ∷ rest) in omega (arith, a)
entries_longer (entries.Splat value) rest = omega arith

computed_longer : (args : ℕ) (statement : Statement) (rest : List Spelled) → length rest ≤ length (computed_tokens args statement rest)
computed_longer args (statements.Int value bits) rest = omega arith
computed_longer args (statements.Dense found count bits) rest =
    let a = entries_longer found ((Sign, codes ">") ∷ (Sign, codes ":") ∷ dense_type_tokens count bits rest) in omega (arith, a)
computed_longer args (statements.Op name operands written result) rest =
    let a = type_longer 0 result rest in
    let b = types_longer written ((Sign, codes ")") ∷ (Sign, codes "->") ∷ type_tokens result rest) in
    let c = values_longer args operands ((Sign, codes ")") ∷ signature_tokens written result rest) in
    omega (arith, a, b, c)

statement_longer : (args place : ℕ) (statement : Statement) (rest : List Spelled) → length rest < length (statement_tokens args place statement rest)
statement_longer args place statement rest = let a = computed_longer args statement rest in omega (arith, a)

statements_back : (args : ℕ) (body : List Statement) → IsShort (args + length body) → AreStatements args body → (rest : List Spelled) → kind_stands Value rest ≡ false → statements_at (names_to args args, []) (all_tokens (statement_tokens args) 0 body rest) ≡ Ok ((names_to args (args + length body), body), rest)
unfolding statements_at
statements_back args body few h rest e =
    let start : args + 0 ≡ args = omega arith in
    all_goes (kind_stands Value) next_statement_at (statement_tokens args) 0 (names_to args args, []) body (names_to args (args + length body), body) rest
    (subst (λ (n : ℕ). Goes next_statement_at (statement_tokens args) 0 (names_to args n, []) body (names_to args (args + length body), body)) start
    (statements_go args 0 (args + length body) [] body few (omega arith) (subst (λ (n : ℕ). AreStatements n body) (sym start) h)))
    (statement_longer args) (λ p x more. refl) e

-- ---- the return

some_name : (args n : ℕ) → 0 < n → nat_lt 0 (length (names_to args n)) ≡ true
some_name args n some = let count : length (names_to args n) ≡ n = names_count args n in lt-ltb 0 (length (names_to args n)) (omega (arith, count, some))

return_word_back : (args n : ℕ) → 0 < n → (rest : List Spelled) → return_word_at (names_to args n) ((Word, codes "return") ∷ rest) ≡ Ok (codes "return", rest)
unfolding return_word_at role_at kind_at
return_word_back args n some rest = rw (some_name args n some) refl

some_defined : (n : ℕ) (values : List ℕ) → AreSome (λ v. v < n) values → 0 < n
some_defined n [] h = absurd (omega (arith, h.0))
some_defined n (v ∷ values) h = omega (arith, h.1.0)

return_back : (args n : ℕ) (returned : List ℕ) (written : List WrittenType) → IsShort n → AreSome (λ v. v < n) returned → AreSome IsWritable written → (rest : List Spelled) → stands Sign (codes ",") rest ≡ false → return_at (names_to args n) ((Word, codes "return") ∷ values_tokens args returned ((Sign, codes ":") ∷ types_tokens written rest)) ≡ Ok ((returned, written), rest)
unfolding return_at sign_at role_at kind_at
return_back args n returned written few h g rest e =
    rw (return_word_back args n (some_defined n returned h) (values_tokens args returned ((Sign, codes ":") ∷ types_tokens written rest)), values_back args n returned few h ((Sign, codes ":") ∷ types_tokens written rest) refl, types_back written g rest e) refl

-- ---- the function

body_back : (source : Source) → IsSpellable source → IsShort (value_count source) → (rest : List Spelled) → body_at (names_to (length source.args) (length source.args)) (body_tokens source rest) ≡ Ok ((source.body, (source.returned, source.returned_types)), rest)
unfolding body_at sign_at role_at kind_at
body_back source h few rest =
    rw (
      statements_back (length source.args) source.body few h.body (return_tokens source ((Sign, codes "}") ∷ rest)) refl,
      return_back (length source.args) (value_count source) source.returned source.returned_types few h.returned h.returned_types ((Sign, codes "}") ∷ rest) refl,
    ) refl

func_back : (source : Source) → IsSpellable source → IsShort (value_count source) → func_at (source_tokens source) ≡ Ok (source, [])
unfolding func_at sign_at role_at kind_at
func_back source h few =
    rw (
      args_back source.args (omega (arith, few)) h.args ((Sign, codes "->") ∷ results_tokens source.results (body_tokens source [])),
      results_back source.results h.results (body_tokens source []),
      body_back source h few [],
    ) refl

unit_back : (source : Source) → IsSpellable source → IsShort (value_count source) → unit_at (source_tokens source) ≡ Ok (source, [])
unfolding unit_at
unit_back source h few = func_back source h few

-- a source that keeps the rules is read back from its tokens
pub source_back : (source : Source) → IsSpellable source → IsShort (value_count source) → source_at (source_tokens source) ≡ Ok source
unfolding source_at
source_back source h few = rw (unit_back source h few) refl
