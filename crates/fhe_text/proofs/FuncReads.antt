-- The function against the tokens in their roles.
use Rattle.std.proofs.Common.{◌≡◌, ℕ, Bool, true, false, nat_lt, List, [], ◌∷◌, ◌++◌, length, cond, map, refl, sym, ap, ◌∙◌, subst, inl, inr, codes, Ok, Err}
use Rattle.std.specs.List.{list_any, before_first}
use Rattle.std.proofs.lemmas.Bool.{cond_both, or_from, false≢true}
use Rattle.std.proofs.lemmas.List.{append-nil, append_assoc}
use Rattle.refusals.specs.Reading.{◌>>=◌}
use Rattle.mlir_lex.specs.declared.TokenKind.TheVariants.{Word, Sign}
use Rattle.fhe_text.specs.declared.source.WrittenType.{WrittenType}
use Rattle.fhe_text.specs.declared.source.WrittenType.TheVariants as types
use Rattle.fhe_text.specs.declared.source.Arg.{Arg}
use Rattle.fhe_text.specs.declared.source.Statement.{Statement}
use Rattle.fhe_text.specs.declared.source.Source.{Source}
use Rattle.fhe_text.specs.declared.fault.TextKind.TheVariants as kinds
use Rattle.fhe_text.specs.Patterns.{Pattern, token, many, IsWhole, ◌▹◌}
use Rattle.fhe_text.specs.Roles.{Spelled, of_function, of_return, Role, word, sign, function_name, return_word, returned, has_form}
use Rattle.fhe_text.specs.Grammar.{Production, listed, etype, any_type, arg, result_types, one_statement, return_line, func}
use Rattle.fhe_text.specs.Conditions.{Part, defines, texts_in, names_of, is_argument, is_statement}
use Rattle.fhe_text.specs.Program.{value_number, args_in, statements_in, is_range_low, is_range_high, is_returned, roles_in}
use Rattle.fhe_text.specs.Descent.{Read, wrong_at, kind_at, stands, next_etype_at, etypes_at, result_types_at, next_arg_at, args_at, next_value_at, values_at, return_word_at, return_at, body_at, func_at, role_at}
use Rattle.fhe_text.proofs.Going.{IsReadBy, IsToken, Steps, token_by, plain_token, then_read, value_read}
use Rattle.fhe_text.proofs.Choosing.{begins_one, second_read}
use Rattle.fhe_text.proofs.Adding.{Adds, adds_both, adds_more, adds_all, all_quiet, has_role, no_role, no_texts, no_types, quiet_texts}
use Rattle.fhe_text.proofs.Segments.{before_first_none, any_roles}
use Rattle.fhe_text.proofs.TypeReads.{sign_read, etype_read}
use Rattle.fhe_text.proofs.DictReads.{sign_apart, any_both}
use Rattle.fhe_text.proofs.Listing.{bound_read, listed_read}
use Rattle.fhe_text.proofs.Bracketed.{whole_both, bracketed, bracketed_read}
use Rattle.fhe_text.proofs.ArgumentReads.{EndsArg, args_none, AreArgs, no_args, args_sign, next_arg_read, names_behind}
use Rattle.fhe_text.proofs.ValueReads.{returned_read}
use Rattle.fhe_text.proofs.AppliedReads.{AreValues, no_values, values_sign, values_more, AreTypes, types_read}
use Rattle.fhe_text.proofs.ComputedReads.{of_statement}
use Rattle.fhe_text.proofs.StatementReads.{EndsStatement, statements_none, AreStatements, statements_read}

-- ---- off which roles a source is read

-- a source is read off tokens in the role
abbrev pub of_source : Role → Bool
of_source (word text) = false
of_source (sign text) = false
of_source function_name = false
of_source role = true

-- a test that none of the others passes
pub others_alone : (test : Role → Bool) → ((text : List ℕ) → test (word text) ≡ false) → ((text : List ℕ) → test (sign text) ≡ false) → test function_name ≡ false → (role : Role) → of_source role ≡ false → test role ≡ false
others_alone test w s f (word text) e = w text
others_alone test w s f (sign text) e = s text
others_alone test w s f function_name e = f
others_alone test w s f _ e = absurd (false≢true (sym e))

-- nothing that a source is read off
abbrev pub Beside : List Part → Type 0
Beside parts = list_any of_source (roles_in parts) ≡ false

-- no such role in the pattern, and none beside it
none_beside : (test : Role → Bool) (p : Pattern Role) (parts rest : List Part) → has_role test p ≡ false → ((role : Role) → of_source role ≡ false → test role ≡ false) → IsWhole p (roles_in parts) → Beside rest → list_any test (roles_in (parts ++ rest)) ≡ false
none_beside test p parts rest e quiet whole beside =
    any_both test parts rest ∙ or_from (list_any test (roles_in parts)) (list_any test (roles_in rest)) (no_role test p (roles_in parts) e whole) (all_quiet of_source test (roles_in rest) quiet beside)

-- ---- the types of the results

next_etype_read : (before : List Part) (found : List WrittenType) (so_far : List Part) (tokens : List Spelled) → AreTypes of_function found so_far → IsReadBy (etype of_function) (before ++ so_far) tokens (λ next more. AreTypes of_function next (so_far ++ more)) (next_etype_at found tokens)
unfolding next_etype_at
next_etype_read before found so_far tokens h =
    value_read (etype_read of_function (before ++ so_far) tokens) (λ x. (found ++ types.Eint x.0 ∷ [], refl, λ parts whole a. adds_both h a))

etypes_read : (before : List Part) (tokens : List Spelled) → IsReadBy (listed (etype of_function)) before tokens (AreTypes of_function) (etypes_at tokens)
unfolding etypes_at
etypes_read before tokens =
    listed_read (etype of_function) next_etype_at before [] tokens (AreTypes of_function) (next_etype_read before)
    (λ found so_far comma h wc. adds_more h (no_types (token (sign (codes ","))) of_function comma refl wc)) (record { adds = λ rest. refl })

result_types_read : (before : List Part) (tokens : List Spelled) → IsReadBy result_types before tokens (AreTypes of_function) (result_types_at tokens)
unfolding result_types_at next_etype_at
result_types_read before tokens =
    second_read (begins_one (token (sign (codes "(")) ▹ listed (etype of_function) ▹ token (sign (codes ")"))) (sign (codes "(")) (λ ts. stands Sign (codes "(") ts) refl refl (λ next rest. refl) tokens) refl refl
    (λ e. sign_apart (codes "(") (etype of_function) tokens refl e)
    (λ e. then_read (sign_read (codes "(") before tokens) (λ open_ a wa fa.
    then_read (etypes_read (before ++ a) open_.1) (λ found b wb fb.
    value_read (sign_read (codes ")") ((before ++ a) ++ b) found.1) (λ close. (
      found.0,
      refl,
      λ c wc fc.
          adds_both (no_types (token (sign (codes "("))) of_function a refl wa) (adds_more fb (no_types (token (sign (codes ")"))) of_function c refl wc)),
    )))))
    (λ e. value_read (etype_read of_function before tokens) (λ x. (types.Eint x.0 ∷ [], refl, λ parts whole a. a)))

-- ---- the return

-- the word, where a name is defined
return_word_read : (names : List (List ℕ)) (before : List Part) (tokens : List Spelled) → names_of before ≡ names → IsReadBy (token return_word) before tokens (IsToken return_word) (return_word_at names tokens)
unfolding return_word_at role_at
return_word_read names before tokens same =
    bound_read (kind_at Word tokens) (λ found. cond (has_form return_word found.0) (Ok found) (Err (wrong_at kinds.Syntax tokens))) defined
    (token_by return_word before tokens (IsToken return_word) (λ found. cond (has_form return_word found.0) (Ok found) (Err (wrong_at kinds.Syntax tokens)) >>= defined)
    (λ found rest. cond_both (has_form return_word found.1) (Ok (found.1, rest)) (Err (wrong_at kinds.Syntax tokens)) (λ r. Steps return_word before tokens (IsToken return_word) found rest (r >>= defined))
    (λ e. cond_both (nat_lt 0 (length names)) (Ok (found.1, rest)) (Err (wrong_at kinds.Syntax tokens)) (λ r. Steps return_word before tokens (IsToken return_word) found rest r)
    (λ f. (refl, e, ap (λ (l : List (List ℕ)). nat_lt 0 (length l)) same ∙ f, record { found = found; text_is = refl; parts_are = refl }))
    (λ f. inr (refl, e, ap (λ (l : List (List ℕ)). nat_lt 0 (length l)) same ∙ f)))
    (λ e. inl (refl, e))))
  where
    defined : List ℕ × List Spelled → Read (List ℕ)
    defined found = cond (nat_lt 0 (length names)) (Ok found) (Err (wrong_at kinds.Syntax tokens))

next_returned_read : (names : List (List ℕ)) (before : List Part) → names_of before ≡ names → (found : List ℕ) (so_far : List Part) (tokens : List Spelled) → AreValues is_returned names found so_far → IsReadBy (token returned) (before ++ so_far) tokens (λ next more. AreValues is_returned names next (so_far ++ more)) (next_value_at names found tokens)
unfolding next_value_at
next_returned_read names before same found so_far tokens h =
    value_read (returned_read names (before ++ so_far) tokens (names_behind before so_far names [] same h.no_names ∙ append-nil names))
    (λ x. (found ++ x.0 ∷ [], refl, λ parts whole a. values_more is_returned returned names found x.0 so_far parts refl refl h a))

returned_values_read : (names : List (List ℕ)) (before : List Part) (tokens : List Spelled) → names_of before ≡ names → IsReadBy (listed (token returned)) before tokens (AreValues is_returned names) (values_at names tokens)
unfolding values_at
returned_values_read names before tokens same =
    listed_read (token returned) (next_value_at names) before [] tokens (AreValues is_returned names) (next_returned_read names before same)
    (λ numbers so_far comma h wc. values_sign is_returned names (codes ",") numbers so_far comma refl h wc) (no_values is_returned names)

pub record IsReturn (names : List (List ℕ)) (found : List ℕ × List WrittenType) (parts : List Part) : Type 0 where
  pub texts : List (List ℕ)
  pub numbers_are : found.0 ≡ map (value_number names) texts
  pub adds_texts : Adds (texts_in is_returned) parts texts
  pub adds_types : AreTypes of_return found.1 parts

return_read : (names : List (List ℕ)) (before : List Part) (tokens : List Spelled) → names_of before ≡ names → IsReadBy return_line before tokens (IsReturn names) (return_at names tokens)
unfolding return_at
return_read names before tokens same =
    then_read (return_word_read names before tokens same) (λ name a wa fa.
    then_read (returned_values_read names (before ++ a) name.1 (names_behind before a names [] same (no_texts (token return_word) defines a refl wa) ∙ append-nil names)) (λ values b wb fb.
    then_read (sign_read (codes ":") ((before ++ a) ++ b) values.1) (λ colon c wc fc.
    value_read (types_read of_return (((before ++ a) ++ b) ++ c) colon.1) (λ written. (
      (values.0, written.0),
      refl,
      λ d wd fd. record {
        texts = fb.texts;
        numbers_are = fb.numbers_are;
        adds_texts = adds_both (no_texts (token return_word) is_returned a refl wa) (adds_more fb.adds_texts (adds_both (no_texts (token (sign (codes ":"))) is_returned c refl wc) (no_texts (listed (any_type of_return)) is_returned d refl wd)));
        adds_types = adds_both (no_types (token return_word) of_return a refl wa) (adds_both (no_types (listed (token returned)) of_return b refl wb) (adds_both (no_types (token (sign (codes ":"))) of_return c refl wc) fd));
      },
    )))))

-- ---- the body

abbrev pub body : Production
body = token (sign (codes "{")) ▹ many one_statement ▹ return_line ▹ token (sign (codes "}"))

pub record IsBody (names : List (List ℕ)) (found : List Statement × (List ℕ × List WrittenType)) (parts : List Part) : Type 0 where
  pub new_names : List (List ℕ)
  pub texts : List (List ℕ)
  pub adds_names : Adds (texts_in defines) parts new_names
  pub numbers_are : found.1.0 ≡ map (value_number (names ++ new_names)) texts
  pub adds_texts : Adds (texts_in is_returned) parts texts
  pub adds_types : AreTypes of_return found.1.1 parts
  pub reads_body : (rest : List Part) → Beside rest → statements_in (names ++ new_names) (parts ++ rest) ≡ found.0

-- behind the statements
abbrev body_end : Production
body_end = return_line ▹ token (sign (codes "}"))

body_read : (names : List (List ℕ)) (before : List Part) (tokens : List Spelled) → names_of before ≡ names → IsReadBy body before tokens (IsBody names) (body_at names tokens)
unfolding body_at
body_read names before tokens same =
    then_read (sign_read (codes "{") before tokens) (λ open_ a wa fa.
    then_read (statements_read names [] (before ++ a) open_.1 (opened a wa)) (λ found b wb fb.
    then_read (return_read found.0.0 ((before ++ a) ++ b) found.1 (names_behind (before ++ a) b names fb.new_names (opened a wa) fb.adds_names ∙ sym fb.names_are)) (λ last c wc fc.
    value_read (sign_read (codes "}") (((before ++ a) ++ b) ++ c) last.1) (λ close. (
      (found.0.1, last.0),
      refl,
      λ d wd fd. record {
        new_names = fb.new_names;
        texts = fc.texts;
        adds_names = adds_both (no_texts (token (sign (codes "{"))) defines a refl wa) (adds_more fb.adds_names (no_texts body_end defines (c ++ d) refl (whole_both return_line (token (sign (codes "}"))) c d wc wd)));
        numbers_are = fc.numbers_are ∙ ap (λ l. map (value_number l) fc.texts) fb.names_are;
        adds_texts = adds_both (no_texts (token (sign (codes "{"))) is_returned a refl wa) (adds_both (no_texts (many one_statement) is_returned b refl wb) (adds_more fc.adds_texts (no_texts (token (sign (codes "}"))) is_returned d refl wd)));
        adds_types = adds_both (no_types (token (sign (codes "{"))) of_return a refl wa) (adds_both (no_types (many one_statement) of_return b refl wb) (adds_more fc.adds_types (no_types (token (sign (codes "}"))) of_return d refl wd)));
        reads_body = λ rest beside. reads a wa b found.0 fb (c ++ d) (whole_both return_line (token (sign (codes "}"))) c d wc wd) rest beside;
      },
    )))))
  where
    opened : (a : List Part) → IsWhole (token (sign (codes "{"))) (roles_in a) → names_of (before ++ a) ≡ names
    opened a wa = names_behind before a names [] same (no_texts (token (sign (codes "{"))) defines a refl wa) ∙ append-nil names

    -- no statement stands behind them, and nothing off which one is read
    ends : (rest : List Part) → list_any of_statement (roles_in rest) ≡ false → EndsStatement rest
    ends rest none =
        sym (any_roles of_statement (before_first (λ (p : Part). is_statement p.0) rest))
        ∙ before_first_none (λ (p : Part). is_statement p.0) (λ (p : Part). of_statement p.0) rest (any_roles of_statement rest ∙ none)

    reads : (a : List Part) → IsWhole (token (sign (codes "{"))) (roles_in a) → (b : List Part) (state : List (List ℕ) × List Statement) (fb : AreStatements names [] state b) (tail : List Part) → IsWhole body_end (roles_in tail) → (rest : List Part) → Beside rest
        → statements_in (names ++ fb.new_names) ((a ++ (b ++ tail)) ++ rest) ≡ state.1
    reads a wa b state fb tail wt rest beside =
        ap (statements_in (names ++ fb.new_names)) (append_assoc a (b ++ tail) rest ∙ ap (λ l. a ++ l) (append_assoc b tail rest))
        ∙ statements_none (names ++ fb.new_names) a (b ++ (tail ++ rest)) (no_role is_statement (token (sign (codes "{"))) (roles_in a) refl wa)
        ∙ ap (λ l. statements_in l (b ++ (tail ++ rest))) (sym fb.names_are ∙ sym (append-nil state.0))
        ∙ fb.reads_body [] (tail ++ rest) (ends (tail ++ rest) (none_beside of_statement body_end tail rest refl (others_alone of_statement (λ t. refl) (λ t. refl) refl) wt beside))
        ∙ ap (λ l. fb.new_body ++ l) (ap (statements_in (state.0 ++ [])) (sym (append-nil (tail ++ rest))) ∙ statements_none (state.0 ++ []) (tail ++ rest) [] (none_beside is_statement body_end tail rest refl (others_alone is_statement (λ t. refl) (λ t. refl) refl) wt beside))
        ∙ append-nil fb.new_body ∙ sym fb.body_is

-- ---- the function

-- what the parts spell, whatever stands behind them that no source is read off
pub record IsFunc (source : Source) (parts : List Part) : Type 0 where
  pub names : List (List ℕ)
  pub texts : List (List ℕ)
  pub adds_names : Adds (texts_in defines) parts names
  pub adds_results : AreTypes of_function source.results parts
  pub numbers_are : source.returned ≡ map (value_number names) texts
  pub adds_texts : Adds (texts_in is_returned) parts texts
  pub adds_types : AreTypes of_return source.returned_types parts
  pub reads_args : (rest : List Part) → Beside rest → args_in (parts ++ rest) ≡ source.args
  pub reads_body : (rest : List Part) → Beside rest → statements_in names (parts ++ rest) ≡ source.body

-- behind the arguments
abbrev func_end : Production
func_end = token (sign (codes "->")) ▹ result_types ▹ body

-- no argument stands there, and no range
ends_args : (tail rest : List Part) → IsWhole func_end (roles_in tail) → Beside rest → EndsArg (tail ++ rest)
ends_args tail rest wt beside = record {
  no_low = none is_range_low (none_beside is_range_low func_end tail rest refl (others_alone is_range_low (λ t. refl) (λ t. refl) refl) wt beside);
  no_high = none is_range_high (none_beside is_range_high func_end tail rest refl (others_alone is_range_high (λ t. refl) (λ t. refl) refl) wt beside);
}
  where
    none : (test : Role → Bool) → list_any test (roles_in (tail ++ rest)) ≡ false → texts_in test (before_first (λ (p : Part). is_argument p.0) (tail ++ rest)) ≡ []
    none test e =
        adds_all (quiet_texts test (before_first (λ (p : Part). is_argument p.0) (tail ++ rest)) (sym (any_roles test (before_first (λ (p : Part). is_argument p.0) (tail ++ rest)))
        ∙ before_first_none (λ (p : Part). is_argument p.0) (λ (p : Part). test p.0) (tail ++ rest) (any_roles test (tail ++ rest) ∙ e))) refl

-- the arguments behind the name of the function
reads_all_args : (front m tail rest : List Part) (state : List (List ℕ) × List Arg) → list_any is_argument (roles_in front) ≡ false → AreArgs [] [] state m → IsWhole func_end (roles_in tail) → Beside rest → args_in ((front ++ (m ++ tail)) ++ rest) ≡ state.1
reads_all_args front m tail rest state none h wt beside =
    ap args_in (append_assoc front (m ++ tail) rest ∙ ap (λ l. front ++ l) (append_assoc m tail rest)) ∙ args_none front (m ++ (tail ++ rest)) none
    ∙ h.reads_args (tail ++ rest) (ends_args tail rest wt beside)
    ∙ ap (λ l. h.new_args ++ l) (ap args_in (sym (append-nil (tail ++ rest))) ∙ args_none (tail ++ rest) [] (none_beside is_argument func_end tail rest refl (others_alone is_argument (λ t. refl) (λ t. refl) refl) wt beside))
    ∙ append-nil h.new_args ∙ sym h.args_are

pub func_read : (before : List Part) (tokens : List Spelled) → names_of before ≡ [] → IsReadBy func before tokens IsFunc (func_at tokens)
unfolding func_at args_at
func_read before tokens same =
    then_read (plain_token (word (codes "func.func")) before tokens (λ t. refl)) (λ name a wa fa.
    then_read (plain_token function_name (before ++ a) name.1 (λ t. refl)) (λ symbol b wb fb.
    bracketed_read arg next_arg_at ((before ++ a) ++ b) ([], []) symbol.1 (AreArgs [] []) _ refl refl
    (next_arg_read [] [] ((before ++ a) ++ b) (named a wa b wb)) (λ text state so_far more h whole. args_sign [] [] text state so_far more h whole) (no_args [] []) (λ args m wm fm.
    then_read (sign_read (codes "->") (((before ++ a) ++ b) ++ m) args.1) (λ arrow c wc fc.
    then_read (result_types_read ((((before ++ a) ++ b) ++ m) ++ c) arrow.1) (λ results d wd fd.
    value_read (body_read args.0.0 (((((before ++ a) ++ b) ++ m) ++ c) ++ d) results.1 (all_named a wa b wb m args.0 fm c wc d wd)) (λ found. (
      record { args = args.0.1; results = results.0; body = found.0.0; returned = found.0.1.0; returned_types = found.0.1.1 },
      refl,
      λ e we fe. record {
        names = args.0.0 ++ fe.new_names;
        texts = fe.texts;
        adds_names = subst (λ l. Adds (texts_in defines) (a ++ (b ++ (m ++ (c ++ (d ++ e))))) (l ++ fe.new_names)) (sym fm.names_are)
            (adds_both (no_texts (token (word (codes "func.func"))) defines a refl wa) (adds_both (no_texts (token function_name) defines b refl wb) (adds_both fm.adds_names (adds_both (no_texts (token (sign (codes "->"))) defines c refl wc) (adds_both (no_texts result_types defines d refl wd) fe.adds_names)))));
        adds_results = adds_both (no_types (token (word (codes "func.func"))) of_function a refl wa) (adds_both (no_types (token function_name) of_function b refl wb) (adds_both (no_types (bracketed arg) of_function m refl wm)
            (adds_both (no_types (token (sign (codes "->"))) of_function c refl wc) (adds_more fd (no_types body of_function e refl we)))));
        numbers_are = fe.numbers_are;
        adds_texts = adds_both (no_texts (token (word (codes "func.func"))) is_returned a refl wa) (adds_both (no_texts (token function_name) is_returned b refl wb) (adds_both (no_texts (bracketed arg) is_returned m refl wm)
            (adds_both (no_texts (token (sign (codes "->"))) is_returned c refl wc) (adds_both (no_texts result_types is_returned d refl wd) fe.adds_texts))));
        adds_types = adds_both (no_types (token (word (codes "func.func"))) of_return a refl wa) (adds_both (no_types (token function_name) of_return b refl wb) (adds_both (no_types (bracketed arg) of_return m refl wm)
            (adds_both (no_types (token (sign (codes "->"))) of_return c refl wc) (adds_both (no_types result_types of_return d refl wd) fe.adds_types))));
        reads_args = λ rest beside. ap (λ l. args_in (l ++ rest)) (sym (append_assoc a b (m ++ (c ++ (d ++ e)))))
            ∙ reads_all_args (a ++ b) m (c ++ (d ++ e)) rest args.0 (fronted is_argument a wa b wb refl refl) fm (whole_both (token (sign (codes "->"))) (result_types ▹ body) c (d ++ e) wc (whole_both result_types body d e wd we)) beside;
        reads_body = λ rest beside. skipped (args.0.0 ++ fe.new_names) a (b ++ (m ++ (c ++ (d ++ e)))) rest (no_role is_statement (token (word (codes "func.func"))) (roles_in a) refl wa)
            ∙ skipped (args.0.0 ++ fe.new_names) b (m ++ (c ++ (d ++ e))) rest (no_role is_statement (token function_name) (roles_in b) refl wb)
            ∙ skipped (args.0.0 ++ fe.new_names) m (c ++ (d ++ e)) rest (no_role is_statement (bracketed arg) (roles_in m) refl wm)
            ∙ skipped (args.0.0 ++ fe.new_names) c (d ++ e) rest (no_role is_statement (token (sign (codes "->"))) (roles_in c) refl wc)
            ∙ skipped (args.0.0 ++ fe.new_names) d e rest (no_role is_statement result_types (roles_in d) refl wd) ∙ fe.reads_body rest beside;
      },
    )))))))
  where
    fronted : (test : Role → Bool) (a : List Part) → IsWhole (token (word (codes "func.func"))) (roles_in a) → (b : List Part) → IsWhole (token function_name) (roles_in b) → test (word (codes "func.func")) ≡ false → test function_name ≡ false → list_any test (roles_in (a ++ b)) ≡ false
    fronted test a wa b wb e f = any_both test a b ∙ or_from _ _ (no_role test (token (word (codes "func.func"))) (roles_in a) e wa) (no_role test (token function_name) (roles_in b) f wb)

    named : (a : List Part) → IsWhole (token (word (codes "func.func"))) (roles_in a) → (b : List Part) → IsWhole (token function_name) (roles_in b) → names_of ((before ++ a) ++ b) ≡ []
    named a wa b wb = names_behind (before ++ a) b [] [] (names_behind before a [] [] same (no_texts (token (word (codes "func.func"))) defines a refl wa)) (no_texts (token function_name) defines b refl wb)

    all_named : (a : List Part) → IsWhole (token (word (codes "func.func"))) (roles_in a) → (b : List Part) → IsWhole (token function_name) (roles_in b) → (m : List Part) (state : List (List ℕ) × List Arg) → AreArgs [] [] state m
        → (c : List Part) → IsWhole (token (sign (codes "->"))) (roles_in c) → (d : List Part) → IsWhole result_types (roles_in d) → names_of (((((before ++ a) ++ b) ++ m) ++ c) ++ d) ≡ state.0
    all_named a wa b wb m state h c wc d wd =
        names_behind ((((before ++ a) ++ b) ++ m) ++ c) d state.0 []
        (names_behind (((before ++ a) ++ b) ++ m) c state.0 [] (names_behind ((before ++ a) ++ b) m [] h.new_names (named a wa b wb) h.adds_names ∙ sym h.names_are) (no_texts (token (sign (codes "->"))) defines c refl wc) ∙ append-nil state.0)
        (no_texts result_types defines d refl wd) ∙ append-nil state.0

    skipped : (names : List (List ℕ)) (front parts rest : List Part) → list_any is_statement (roles_in front) ≡ false → statements_in names ((front ++ parts) ++ rest) ≡ statements_in names (parts ++ rest)
    skipped names front parts rest none = ap (statements_in names) (append_assoc front parts rest) ∙ statements_none names front (parts ++ rest) none
