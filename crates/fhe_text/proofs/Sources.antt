-- What the reader gives for all tokens against the tokens in their roles.
use Rattle.std.proofs.Common.{◌≡◌, ℕ, ◌==◌, ◌≤◌, Bool, false, List, [], ◌∷◌, ◌++◌, length, cond, map, refl, sym, ap, ◌∙◌, subst, codes, arith, Option, Some, None, Result, Ok, Err}
use Rattle.std.specs.List.{list_all, list_any}
use Rattle.std.proofs.lemmas.Bool.{cond_both, cond-false, ne_eqb, or_from}
use Rattle.std.proofs.lemmas.List.{append-nil, append_assoc}
use Rattle.refusals.specs.Reading.{◌>>=◌}
use Rattle.mlir_lex.specs.declared.TokenKind.TheVariants.{Word}
use Rattle.mlir_lex.specs.declared.Token.{Token}
use Rattle.mlir_lex.specs.declared.LexFault.{LexFault}
use Rattle.mlir_lex.specs.Tokens.{AreTokensOf}
use Rattle.mlir_lex.specs.Reading.{tokens_of}
use Rattle.mlir_lex.specs.Laws.{TokenLaws}
use Rattle.fhe_text.specs.declared.source.WrittenType.{WrittenType}
use Rattle.fhe_text.specs.declared.source.Source.{Source}
use Rattle.fhe_text.specs.declared.fault.Wrong.{Wrong}
use Rattle.fhe_text.specs.declared.fault.TextKind.{TextKind}
use Rattle.fhe_text.specs.declared.fault.TextKind.TheVariants as kinds
use Rattle.fhe_text.specs.Patterns.{Pattern, token, IsWhole, ◌▹◌}
use Rattle.fhe_text.specs.Roles.{Spelled, Place, of_function, of_return, Role, word, sign, function_name}
use Rattle.fhe_text.specs.Faults.{spelled}
use Rattle.fhe_text.specs.Grammar.{Production, func, program}
use Rattle.fhe_text.specs.Conditions.{Part, defines, texts_in, names_of, is_argument, is_statement}
use Rattle.fhe_text.specs.Program.{types_in, value_number, args_in, statements_in, is_returned, source_of, roles_in}
use Rattle.fhe_text.specs.Reading.{can_be_nothing, Way, way_of, ways, wrong_end, behind_token, parts_from, source_or_fault, program_of}
use Rattle.fhe_text.specs.Descent.{Read, wrong_at, stands, module_at, unit_at, source_at, finished}
use Rattle.fhe_text.proofs.Going.{ReadsAs, IsReadBy, plain_token, then_read, value_read, fit_read}
use Rattle.fhe_text.proofs.Choosing.{begins_one, second_read, word_apart}
use Rattle.fhe_text.proofs.Adding.{Adds, adds_both, adds_all, all_quiet, no_role, no_texts, quiet_texts, quiet_types, writes}
use Rattle.fhe_text.proofs.TypeReads.{sign_read}
use Rattle.fhe_text.proofs.DictReads.{any_both}
use Rattle.fhe_text.proofs.ArgumentReads.{args_none}
use Rattle.fhe_text.proofs.StatementReads.{statements_none}
use Rattle.fhe_text.proofs.FuncReads.{of_source, others_alone, Beside, IsFunc, func_read}

-- parts that no source is read off around those of the function
func_is : (source : Source) (front parts rest : List Part) → IsFunc source parts → Beside front → Beside rest → source ≡ source_of (front ++ (parts ++ rest))
unfolding source_of
func_is source front parts rest h f r =
    sym (ap (λ l. record { args = l; results = types_in of_function all; body = statements_in (names_of all) all; returned = map (value_number (names_of all)) (texts_in is_returned all); returned_types = types_in of_return all }) args_are
    ∙ ap (λ l. record { args = source.args; results = l; body = statements_in (names_of all) all; returned = map (value_number (names_of all)) (texts_in is_returned all); returned_types = types_in of_return all }) (types_are of_function source.results h.adds_results)
    ∙ ap (λ l. record { args = source.args; results = source.results; body = statements_in l all; returned = map (value_number l) (texts_in is_returned all); returned_types = types_in of_return all }) (texts_are defines h.names (λ t. refl) (λ t. refl) refl h.adds_names)
    ∙ ap (λ l. record { args = source.args; results = source.results; body = l; returned = map (value_number h.names) (texts_in is_returned all); returned_types = types_in of_return all }) body_is
    ∙ ap (λ l. record { args = source.args; results = source.results; body = source.body; returned = map (value_number h.names) l; returned_types = types_in of_return all }) (texts_are is_returned h.texts (λ t. refl) (λ t. refl) refl h.adds_texts)
    ∙ ap (λ l. record { args = source.args; results = source.results; body = source.body; returned = l; returned_types = types_in of_return all }) (sym h.numbers_are)
    ∙ ap (λ l. record { args = source.args; results = source.results; body = source.body; returned = source.returned; returned_types = l }) (types_are of_return source.returned_types h.adds_types))
  where
    all : List Part
    all = front ++ (parts ++ rest)

    none : (test : Role → Bool) → ((text : List ℕ) → test (word text) ≡ false) → ((text : List ℕ) → test (sign text) ≡ false) → test function_name ≡ false → (ps : List Part) → Beside ps → list_any test (roles_in ps) ≡ false
    none test w s n ps beside = all_quiet of_source test (roles_in ps) (others_alone test w s n) beside

    texts_are : (test : Role → Bool) (xs : List (List ℕ)) → ((text : List ℕ) → test (word text) ≡ false) → ((text : List ℕ) → test (sign text) ≡ false) → test function_name ≡ false → Adds (texts_in test) parts xs → texts_in test all ≡ xs
    texts_are test xs w s n own =
        (quiet_texts test front (none test w s n front f)).adds (parts ++ rest) ∙ own.adds rest ∙ ap (λ l. xs ++ l) (adds_all (quiet_texts test rest (none test w s n rest r)) refl) ∙ append-nil xs

    types_are : (place : Place) (xs : List WrittenType) → Adds (types_in place) parts xs → types_in place all ≡ xs
    types_are place xs own =
        (quiet_types place front (none (writes place) (λ t. refl) (λ t. refl) refl front f)).adds (parts ++ rest) ∙ own.adds rest
        ∙ ap (λ l. xs ++ l) (adds_all (quiet_types place rest (none (writes place) (λ t. refl) (λ t. refl) refl rest r)) refl) ∙ append-nil xs

    args_are : args_in all ≡ source.args
    args_are = args_none front (parts ++ rest) (none is_argument (λ t. refl) (λ t. refl) refl front f) ∙ h.reads_args rest r

    body_is : statements_in h.names all ≡ source.body
    body_is = statements_none h.names front (parts ++ rest) (none is_statement (λ t. refl) (λ t. refl) refl front f) ∙ h.reads_body rest r

-- the function in a module
abbrev in_module : Production
in_module = token (word (codes "module")) ▹ token (sign (codes "{")) ▹ func ▹ token (sign (codes "}"))

module_read : (tokens : List Spelled) → IsReadBy in_module [] tokens (λ source parts. source ≡ source_of parts) (module_at tokens)
unfolding module_at
module_read tokens =
    then_read (plain_token (word (codes "module")) [] tokens (λ t. refl)) (λ name a wa fa.
    then_read (sign_read (codes "{") a name.1) (λ open_ b wb fb.
    then_read (func_read (a ++ b) open_.1 (unnamed a wa b wb)) (λ source c wc fc.
    value_read (sign_read (codes "}") ((a ++ b) ++ c) source.1) (λ close. (
      source.0,
      refl,
      λ d wd fd.
          func_is source.0 (a ++ b) c d fc (beside_front a wa b wb) (no_role of_source (token (sign (codes "}"))) (roles_in d) refl wd) ∙ ap source_of (append_assoc a b (c ++ d)),
    )))))
  where
    unnamed : (a : List Part) → IsWhole (token (word (codes "module"))) (roles_in a) → (b : List Part) → IsWhole (token (sign (codes "{"))) (roles_in b) → names_of (a ++ b) ≡ []
    unnamed a wa b wb = adds_all (adds_both (no_texts (token (word (codes "module"))) defines a refl wa) (no_texts (token (sign (codes "{"))) defines b refl wb)) refl

    beside_front : (a : List Part) → IsWhole (token (word (codes "module"))) (roles_in a) → (b : List Part) → IsWhole (token (sign (codes "{"))) (roles_in b) → Beside (a ++ b)
    beside_front a wa b wb = any_both of_source a b ∙ or_from _ _ (no_role of_source (token (word (codes "module"))) (roles_in a) refl wa) (no_role of_source (token (sign (codes "{"))) (roles_in b) refl wb)

-- the function, alone or in a module, behind nothing
unit_read : (tokens : List Spelled) → IsReadBy program [] tokens (λ source parts. source ≡ source_of parts) (unit_at tokens)
unfolding unit_at
unit_read tokens =
    second_read (begins_one in_module (word (codes "module")) (λ ts. stands Word (codes "module") ts) refl refl (λ next rest. refl) tokens) refl refl
    (λ e. word_apart (codes "module") func tokens refl e)
    (λ e. module_read tokens)
    (λ e. fit_read (func_read [] tokens refl) (λ source parts whole h. func_is source [] parts [] h refl refl ∙ ap source_of (append-nil parts)))

-- the source of the parts that are read
abbrev pub source_result : Result (List Part) Wrong → Result Source Wrong
source_result (Ok parts) = Ok (source_of parts)
source_result (Err wrong) = Err wrong

-- nothing may stand behind the program
at_end : (source : Source) (parts : List Part) (rest : List Spelled) → source ≡ source_of parts → cond (length rest == 0) (Ok source) (Err (wrong_at kinds.Syntax rest)) ≡ source_result (parts_from [] parts rest)
at_end source parts [] e = ap (λ s. Ok s) e
at_end source parts (next ∷ rest) e = cond-false (length (next ∷ rest) == 0) (Ok source) (Err (wrong_at kinds.Syntax (next ∷ rest))) (ne_eqb (length (next ∷ rest)) 0 (λ f. absurd (omega (arith, f))))

-- the reader gives the source of the tokens in their roles, or their fault
source_read : (tokens : List Spelled) → source_at tokens ≡ source_result (parts_from (program ∷ []) [] tokens)
unfolding source_at
source_read tokens = by_read (unit_at tokens) (unit_read tokens).is_read
  where
    by_read : (r : Read Source) → ReadsAs program [] tokens (λ source parts. source ≡ source_of parts) r → (r >>= λ x. cond (length x.1 == 0) (Ok x.0) (Err (wrong_at kinds.Syntax x.1))) ≡ source_result (parts_from (program ∷ []) [] tokens)
    by_read (Ok x) h = at_end x.0 h.0 x.1 h.3 ∙ sym (ap source_result (h.4 []))
    by_read (Err wrong) h = sym (ap source_result (h []))

-- what is wrong is among the tokens that are left
wrong_within : (patterns : List (Pattern Role)) (before : List Part) (tokens : List Spelled) (wrong : Wrong) → parts_from patterns before tokens ≡ Err wrong → wrong.left ≤ length tokens
wrong_within patterns before [] wrong e =
    cond_both (list_all can_be_nothing patterns) (Ok before) (Err wrong_end) (λ r. r ≡ Err wrong → wrong.left ≤ 0) (λ f g. absurd cc)
    (λ f g. let same : wrong_end ≡ wrong = cc in subst (λ (w : Wrong). w.left ≤ 0) same (omega arith)) e
wrong_within patterns before (next ∷ behind) wrong e =
    by_way (way_of (ways patterns) before next) (λ way. wrong_within way.1 (before ++ (way.0, next) ∷ []) behind wrong) e
  where
    by_way : (found : Result (Way Role) TextKind) → ((way : Way Role) → parts_from way.1 (before ++ (way.0, next) ∷ []) behind ≡ Err wrong → wrong.left ≤ length behind) → behind_token found (λ way. parts_from way.1 (before ++ (way.0, next) ∷ []) behind) (length (next ∷ behind)) ≡ Err wrong → wrong.left ≤ length (next ∷ behind)
    by_way (Ok way) rest f = let fewer : wrong.left ≤ length behind = rest way f in omega (arith, fewer)
    by_way (Err kind) rest f =
        let same : record { left = length (next ∷ behind); kind = kind } ≡ wrong = cc in
        subst (λ (w : Wrong). w.left ≤ length (next ∷ behind)) same (omega arith)

-- so is what the reader finds wrong
pub source_wrong : (tokens : List Spelled) (wrong : Wrong) → source_at tokens ≡ Err wrong → wrong.left ≤ length tokens
source_wrong tokens wrong e = by_parts (parts_from (program ∷ []) [] tokens) refl (sym (source_read tokens) ∙ e)
  where
    by_parts : (r : Result (List Part) Wrong) → parts_from (program ∷ []) [] tokens ≡ r → source_result r ≡ Err wrong → wrong.left ≤ length tokens
    by_parts (Ok parts) f g = absurd cc
    by_parts (Err other) f g = let same : other ≡ wrong = cc in wrong_within (program ∷ []) [] tokens wrong (f ∙ ap (λ w. Err w) same)

-- the reader gives the source or the fault of the bytes whose tokens these are
pub program_is : TokenLaws → (bytes : List ℕ) (tokens : List Token) (stop : Option LexFault) → AreTokensOf bytes tokens stop → program_of bytes ≡ finished bytes tokens stop (source_at (map (spelled bytes) tokens))
unfolding program_of
program_is laws bytes tokens stop h =
    let one = laws.one_reading bytes (tokens_of bytes).0 tokens (tokens_of bytes).1 stop (laws.each_has_reading bytes) h in
    ap (λ ts. source_or_fault bytes ts (tokens_of bytes).1 (parts_from (program ∷ []) [] (map (spelled bytes) ts))) one.0
    ∙ ap (λ s. source_or_fault bytes tokens s (parts_from (program ∷ []) [] (map (spelled bytes) tokens))) one.1
    ∙ by_parts stop (parts_from (program ∷ []) [] (map (spelled bytes) tokens)) ∙ ap (finished bytes tokens stop) (sym (source_read (map (spelled bytes) tokens)))
  where
    by_parts : (stop : Option LexFault) (r : Result (List Part) Wrong) → source_or_fault bytes tokens stop r ≡ finished bytes tokens stop (source_result r)
    by_parts None (Ok parts) = refl
    by_parts (Some s) (Ok parts) = refl
    by_parts None (Err wrong) = refl
    by_parts (Some s) (Err wrong) = refl
