-- The results and the arguments of a source are read back from their tokens.
use Rattle.std.proofs.Common.{◌≡◌, ℕ, suc, ◌+◌, ◌<◌, ◌≤◌, true, false, List, [], ◌∷◌, ◌++◌, length, refl, sym, ap, ◌∙◌, subst, arith, codes, ℤ, Ok, Some, None, Option}
use Rattle.std.specs.Fmt.{decimal, signed_decimal}
use Rattle.std.specs.List.{AllByRecursion}
use Rattle.std.proofs.lemmas.Bool.{cond-false}
use Rattle.std.proofs.lemmas.List.{append-nil, append_assoc}
use Rattle.refusals.specs.Reading.{◌>>=◌}
use Rattle.mlir_lex.specs.declared.TokenKind.TheVariants.{Word, Int, Value, Sign}
use Rattle.fhe_text.specs.declared.source.WrittenType.{WrittenType}
use Rattle.fhe_text.specs.declared.source.WrittenType.TheVariants as types
use Rattle.fhe_text.specs.declared.source.Arg.{Arg}
use Rattle.fhe_text.specs.declared.fault.TextKind.TheVariants as kinds
use Rattle.fhe_text.specs.Roles.{Spelled}
use Rattle.fhe_text.specs.Numbers.{fits_bits}
use Rattle.fhe_text.specs.Conditions.{is_among}
use Rattle.fhe_text.specs.Printing.{value_text}
use Rattle.fhe_text.specs.Spellable.{IsEncrypted, IsDeclared, IsArgument, AreSome}
use Rattle.fhe_text.specs.Descent.{wrong_at, stands, some_or, kind_at, role_at, sign_at, next_etype_at, etypes_at, result_types_at, range_end_at, range_at, argument_entry_at, maybe_listed_at, argument_dict_at, declared_at, new_name_at, arg_at, next_arg_at, args_at}
use Rattle.fhe_text.proofs.Decimals.{IsShort, signed_again, fits_short}
use Rattle.fhe_text.proofs.ValueNames.{names_to, argument_name, name_is_new}
use Rattle.fhe_text.proofs.PrintedTokens.{listed_tokens, type_tokens, types_tokens, declared_tokens, arg_tokens, results_tokens}
use Rattle.fhe_text.proofs.Steps.{GoesWhere, listed_goes, maybe_goes, maybe_where, appends_goes}
use Rattle.fhe_text.proofs.BackParts.{etype_back, type_longer}

-- ---- results

next_etype_back : (found : List WrittenType) (t : WrittenType) → IsEncrypted t → (rest : List Spelled) → next_etype_at found (type_tokens t rest) ≡ Ok (found ++ t ∷ [], rest)
unfolding next_etype_at
next_etype_back found (types.Eint width) h rest = rw (etype_back width h rest) refl
next_etype_back found (types.Int bits) h rest = absurd h
next_etype_back found (types.Tensor count bits) h rest = absurd h

etypes_back : (t : WrittenType) (written : List WrittenType) → AllByRecursion IsEncrypted (t ∷ written) → (rest : List Spelled) → stands Sign (codes ",") rest ≡ false → etypes_at (types_tokens (t ∷ written) rest) ≡ Ok (t ∷ written, rest)
unfolding etypes_at
etypes_back t written all rest e =
    listed_goes next_etype_at (λ p. type_tokens) 0 [] t written (t ∷ written) rest (appends_goes next_etype_at type_tokens IsEncrypted next_etype_back 0 [] (t ∷ written) all) type_longer e

encrypted_no_open : (t : WrittenType) → IsEncrypted t → (rest : List Spelled) → stands Sign (codes "(") (type_tokens t rest) ≡ false
encrypted_no_open (types.Eint width) h rest = refl
encrypted_no_open (types.Int bits) h rest = absurd h
encrypted_no_open (types.Tensor count bits) h rest = absurd h

one_result : (t : WrittenType) → IsEncrypted t → (rest : List Spelled) → result_types_at (type_tokens t rest) ≡ Ok (t ∷ [], rest)
unfolding result_types_at
one_result t h rest = cond-false (stands Sign (codes "(") (type_tokens t rest)) _ (next_etype_at [] (type_tokens t rest)) (encrypted_no_open t h rest) ∙ next_etype_back [] t h rest

more_results : (t : WrittenType) (written : List WrittenType) → AllByRecursion IsEncrypted (t ∷ written) → (rest : List Spelled) → result_types_at ((Sign, codes "(") ∷ types_tokens (t ∷ written) ((Sign, codes ")") ∷ rest)) ≡ Ok (t ∷ written, rest)
unfolding result_types_at sign_at role_at kind_at
more_results t written all rest = rw (etypes_back t written all ((Sign, codes ")") ∷ rest) refl) refl

pub results_back : (results : List WrittenType) → AreSome IsEncrypted results → (rest : List Spelled) → result_types_at (results_tokens results rest) ≡ Ok (results, rest)
results_back [] h rest = absurd (omega (arith, h.0))
results_back (t ∷ []) h rest = one_result t h.1.0 rest
results_back (t ∷ other ∷ more) h rest = more_results t (other ∷ more) h.1 rest

-- ---- arguments

end_back : (z : ℤ) → fits_bits 128 z ≡ true → (rest : List Spelled) → range_end_at ((Int, signed_decimal z) ∷ rest) ≡ Ok (z, rest)
unfolding range_end_at kind_at
end_back z h rest = ap (λ o. some_or o rest (wrong_at kinds.Constant ((Int, signed_decimal z) ∷ rest))) (signed_again 128 z (fits_short z h) h)

abbrev range_tokens : ℤ × ℤ → List Spelled → List Spelled
range_tokens range rest =
    (Word, codes "fhec.range") ∷ (Sign, codes "=") ∷ (Sign, codes "[") ∷ (Int, signed_decimal range.0) ∷ (Sign, codes ",") ∷ (Int, signed_decimal range.1) ∷ (Sign, codes "]") ∷ rest

range_back : (range : ℤ × ℤ) → fits_bits 128 range.0 ≡ true → fits_bits 128 range.1 ≡ true → (rest : List Spelled) → range_at (range_tokens range rest) ≡ Ok (range, rest)
unfolding range_at sign_at role_at kind_at
range_back range low high rest =
    rw (end_back range.0 low ((Sign, codes ",") ∷ (Int, signed_decimal range.1) ∷ (Sign, codes "]") ∷ rest), end_back range.1 high ((Sign, codes "]") ∷ rest)) refl

entry_back : (range : ℤ × ℤ) → fits_bits 128 range.0 ≡ true → fits_bits 128 range.1 ≡ true → (rest : List Spelled) → argument_entry_at None (range_tokens range rest) ≡ Ok (Some range, rest)
unfolding argument_entry_at
entry_back range low high rest = rw (range_back range low high rest) refl

entries_listed : (range : ℤ × ℤ) → fits_bits 128 range.0 ≡ true → fits_bits 128 range.1 ≡ true → (rest : List Spelled) → maybe_listed_at (codes "}") argument_entry_at None (range_tokens range ((Sign, codes "}") ∷ rest)) ≡ Ok (Some range, (Sign, codes "}") ∷ rest)
entries_listed range low high rest =
    maybe_goes (codes "}") argument_entry_at (λ p. range_tokens) 0 None (range ∷ []) (Some range) ((Sign, codes "}") ∷ rest)
    (Some range, λ rest f. entry_back range low high rest, refl) (λ p x more. omega arith) (λ p x more. refl) refl refl

dict_back : (range : ℤ × ℤ) → fits_bits 128 range.0 ≡ true → fits_bits 128 range.1 ≡ true → (rest : List Spelled) → argument_dict_at ((Sign, codes "{") ∷ range_tokens range ((Sign, codes "}") ∷ rest)) ≡ Ok (Some range, rest)
unfolding argument_dict_at sign_at role_at kind_at
dict_back range low high rest = rw (entries_listed range low high rest) refl

declared_back : (declared : Option (ℤ × ℤ)) → IsDeclared declared → (rest : List Spelled) → stands Sign (codes "{") rest ≡ false → declared_at (declared_tokens declared rest) ≡ Ok (declared, rest)
unfolding declared_at
declared_back None h rest e = cond-false (stands Sign (codes "{") rest) (argument_dict_at rest) (Ok (None, rest)) e
declared_back (Some range) h rest e = dict_back range h.0 h.1 rest

pub new_back : (names : List (List ℕ)) (name : List ℕ) → is_among names name ≡ false → (rest : List Spelled) → new_name_at names ((Value, name) ∷ rest) ≡ Ok (name, rest)
unfolding new_name_at kind_at
new_back names name e rest = rw e refl

typed_arg : (names : List (List ℕ)) (name : List ℕ) (t : WrittenType) (declared : Option (ℤ × ℤ)) → is_among names name ≡ false → IsEncrypted t → IsDeclared declared → (rest : List Spelled) → stands Sign (codes "{") rest ≡ false → arg_at names ((Value, name) ∷ (Sign, codes ":") ∷ type_tokens t (declared_tokens declared rest)) ≡ Ok ((names ++ name ∷ [], record { ty = t; declared = declared }), rest)
unfolding arg_at sign_at role_at kind_at
typed_arg names name (types.Eint width) declared e t d rest f =
    rw (new_back names name e ((Sign, codes ":") ∷ type_tokens (types.Eint width) (declared_tokens declared rest)), etype_back width t (declared_tokens declared rest), declared_back declared d rest f) refl
typed_arg names name (types.Int bits) declared e t d rest f = absurd t
typed_arg names name (types.Tensor count bits) declared e t d rest f = absurd t

arg_back : (names : List (List ℕ)) (name : List ℕ) (arg : Arg) → is_among names name ≡ false → IsArgument arg → (rest : List Spelled) → stands Sign (codes "{") rest ≡ false → arg_at names ((Value, name) ∷ (Sign, codes ":") ∷ type_tokens arg.ty (declared_tokens arg.declared rest)) ≡ Ok ((names ++ name ∷ [], arg), rest)
arg_back names name arg e h rest f = typed_arg names name arg.ty arg.declared e h.0 h.1 rest f

-- what stands behind an argument opens no dict
abbrev Closed : List Spelled → Type 0
Closed rest = stands Sign (codes "{") rest ≡ false

next_arg_back : (args place : ℕ) (found : List Arg) (arg : Arg) → IsShort args → place < args → IsArgument arg → (rest : List Spelled) → Closed rest → next_arg_at (names_to args place, found) (arg_tokens place arg rest) ≡ Ok ((names_to args (suc place), found ++ arg ∷ []), rest)
unfolding next_arg_at
next_arg_back args place found arg few lt h rest f =
    let name : value_text args place ≡ 37 ∷ 97 ∷ 114 ∷ 103 ∷ decimal place = argument_name args place lt in
    let fresh : is_among (names_to args place) (37 ∷ 97 ∷ 114 ∷ 103 ∷ decimal place) ≡ false = subst (λ t. is_among (names_to args place) t ≡ false) name (name_is_new args place (omega (arith, few, lt))) in
    rw (arg_back (names_to args place) (37 ∷ 97 ∷ 114 ∷ 103 ∷ decimal place) arg fresh h rest f, name) refl

args_go : (args place : ℕ) (found more : List Arg) → IsShort args → place + length more ≡ args → AllByRecursion IsArgument more → GoesWhere Closed next_arg_at arg_tokens place (names_to args place, found) more (names_to args args, found ++ more)
args_go args place found [] few e all = let same : place ≡ args = omega (arith, e) in ap (λ n. (names_to args n, found)) same ∙ ap (λ l. (names_to args args, l)) (sym (append-nil found))
args_go args place found (arg ∷ more) few e all =
    let one_more : suc place ≡ place + 1 = omega arith in
    let behind : GoesWhere Closed next_arg_at arg_tokens (place + 1) (names_to args (place + 1), found ++ arg ∷ []) more (names_to args args, (found ++ arg ∷ []) ++ more) = args_go args (place + 1) (found ++ arg ∷ []) more few (omega (arith, e)) all.1 in (
      (names_to args (suc place), found ++ arg ∷ []),
      λ rest f. next_arg_back args place found arg few (omega (arith, e)) all.0 rest f,
      subst (λ (n : ℕ). GoesWhere Closed next_arg_at arg_tokens (place + 1) (names_to args n, found ++ arg ∷ []) more (names_to args args, found ++ arg ∷ more)) (sym one_more)
          (subst (λ (l : List Arg). GoesWhere Closed next_arg_at arg_tokens (place + 1) (names_to args (place + 1), found ++ arg ∷ []) more (names_to args args, l)) (append_assoc found (arg ∷ []) more) behind),
    )

pub args_back : (args : List Arg) → IsShort (length args) → AllByRecursion IsArgument args → (rest : List Spelled) → args_at ([], []) ((Sign, codes "(") ∷ listed_tokens arg_tokens 0 args ((Sign, codes ")") ∷ rest)) ≡ Ok ((names_to (length args) (length args), args), rest)
unfolding args_at sign_at role_at kind_at
args_back args few all rest =
    ap (λ r. r >>= λ (found : (List (List ℕ) × List Arg) × List Spelled). sign_at (codes ")") found.1 >>= λ close. Ok (found.0, close.1))
    (maybe_where Closed (codes ")") next_arg_at arg_tokens 0 ([], []) args (names_to (length args) (length args), args) ((Sign, codes ")") ∷ rest) (args_go (length args) 0 [] args few (omega arith) all) (λ tokens. refl) refl (λ p x more. arg_longer x more) (λ p x more. refl) refl refl)
  where
    declared_longer : (declared : Option (ℤ × ℤ)) (more : List Spelled) → length more ≤ length (declared_tokens declared more)
    declared_longer None more = omega arith
    declared_longer (Some range) more = omega arith

    arg_longer : (arg : Arg) (more : List Spelled) → length more < suc (suc (length (type_tokens arg.ty (declared_tokens arg.declared more))))
    arg_longer arg more = let a = declared_longer arg.declared more in let b = type_longer 0 arg.ty (declared_tokens arg.declared more) in omega (arith, a, b)
