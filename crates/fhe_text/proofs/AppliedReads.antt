-- Operations against the tokens in their roles.
use Rattle.std.proofs.Common.{◌≡◌, ℕ, Bool, true, false, ◌&&◌, List, [], ◌∷◌, ◌++◌, map, refl, sym, ap, ◌∙◌, subst, codes, Ok}
use Rattle.std.specs.Prelude.{unwrap_or}
use Rattle.std.specs.List.{list_all}
use Rattle.std.proofs.lemmas.Bool.{cond-false, and_from}
use Rattle.std.proofs.lemmas.List.{append-nil, append_assoc, map-append}
use Rattle.std.proofs.lemmas.List.Folds.{list_all-append}
use Rattle.refusals.specs.Reading.{◌>>=◌}
use Rattle.mlir_lex.specs.declared.TokenKind.TheVariants.{Sign}
use Rattle.fhe_text.specs.declared.source.WrittenType.{WrittenType}
use Rattle.fhe_text.specs.declared.source.OpName.TheVariants.{AddEint}
use Rattle.fhe_text.specs.declared.source.Statement.{Statement}
use Rattle.fhe_text.specs.declared.source.Statement.TheVariants as statements
use Rattle.fhe_text.specs.Patterns.{Pattern, token, IsWhole, ◌▹◌, optional}
use Rattle.fhe_text.specs.Roles.{Spelled, Place, of_operand, of_operation, Role, sign, operation, operand, operation_entry}
use Rattle.fhe_text.specs.Grammar.{Production, listed, maybe_listed, any_type, dict_entry, operation_dict, operation_result, applied}
use Rattle.fhe_text.specs.Conditions.{Part, op_of, is_among, defines, texts_in, names_of}
use Rattle.fhe_text.specs.Program.{types_in, value_number, is_operation, is_operand, roles_in}
use Rattle.fhe_text.specs.Descent.{Read, stands, sign_at, next_type_at, types_at, op_at, next_value_at, operation_entry_at, operation_dict_at, result_at, operands_at, maybe_types_at, signature_at, applied_at, listed_at, maybe_listed_at}
use Rattle.fhe_text.proofs.Going.{IsReadBy, IsSpelledBy, judged_token, then_read, value_read}
use Rattle.fhe_text.proofs.Choosing.{begins_one, second_read, optional_read}
use Rattle.fhe_text.proofs.Adding.{Adds, adds_both, adds_more, no_texts, no_types, one_text}
use Rattle.fhe_text.proofs.TypeReads.{sign_read, type_read}
use Rattle.fhe_text.proofs.ArgReads.{Any, entry_read}
use Rattle.fhe_text.proofs.DictReads.{sign_apart}
use Rattle.fhe_text.proofs.Listing.{moved_read, listed_read, maybe_read}
use Rattle.fhe_text.proofs.Bracketed.{bracketed, bracketed_read}
use Rattle.fhe_text.proofs.ArgumentReads.{names_behind}
use Rattle.fhe_text.proofs.ValueReads.{IsValue, operand_read}

op_read : (before : List Part) (tokens : List Spelled) → IsReadBy (token operation) before tokens (IsSpelledBy operation op_of) (op_at tokens)
unfolding op_at
op_read before tokens = judged_token operation before tokens op_of (λ t. refl) (λ t. refl)

-- ---- values

-- the numbers of values whose names stand in roles that pass the test
pub record AreValues (test : Role → Bool) (names : List (List ℕ)) (numbers : List ℕ) (parts : List Part) : Type 0 where
  pub texts : List (List ℕ)
  pub numbers_are : numbers ≡ map (value_number names) texts
  pub among : list_all (is_among names) texts ≡ true
  pub adds_texts : Adds (texts_in test) parts texts
  pub no_names : Adds (texts_in defines) parts []

pub no_values : (test : Role → Bool) (names : List (List ℕ)) → AreValues test names [] []
no_values test names = record { texts = []; numbers_are = refl; among = refl; adds_texts = record { adds = λ rest. refl }; no_names = record { adds = λ rest. refl } }

pub values_sign : (test : Role → Bool) (names : List (List ℕ)) (text : List ℕ) (numbers : List ℕ) (so_far more : List Part) → test (sign text) ≡ false → AreValues test names numbers so_far → IsWhole (token (sign text)) (roles_in more) → AreValues test names numbers (so_far ++ more)
values_sign test names text numbers so_far more e h whole = record {
  texts = h.texts;
  numbers_are = h.numbers_are;
  among = h.among;
  adds_texts = adds_more h.adds_texts (no_texts (token (sign text)) test more e whole);
  no_names = adds_more h.no_names (no_texts (token (sign text)) defines more refl whole);
}

pub values_more : (test : Role → Bool) (role : Role) (names : List (List ℕ)) (numbers : List ℕ) (number : ℕ) (so_far parts : List Part) → test role ≡ true → defines role ≡ false → AreValues test names numbers so_far → IsValue role names number parts → AreValues test names (numbers ++ number ∷ []) (so_far ++ parts)
values_more test role names numbers number so_far parts e d h a = record {
  texts = h.texts ++ a.found.1 ∷ [];
  numbers_are = ap (λ l. l ++ number ∷ []) h.numbers_are ∙ ap (λ n. map (value_number names) h.texts ++ n ∷ []) a.number_is ∙ sym (map-append (value_number names) h.texts (a.found.1 ∷ []));
  among = list_all-append (is_among names) h.texts (a.found.1 ∷ []) ∙ and_from (list_all (is_among names) h.texts) (is_among names a.found.1 && true) h.among (and_from (is_among names a.found.1) true a.among refl);
  adds_texts = adds_both h.adds_texts (one_text test role a.found parts e a.parts_are);
  no_names = adds_more h.no_names (record { adds = λ rest. ap (λ ps. texts_in defines (ps ++ rest)) a.parts_are ∙ cond-false (defines role) (a.found.1 ∷ texts_in defines rest) (texts_in defines rest) d });
}

next_operand_read : (names : List (List ℕ)) (own : List ℕ) (before : List Part) → names_of before ≡ names ++ own ∷ [] → (found : List ℕ) (so_far : List Part) (tokens : List Spelled) → AreValues is_operand names found so_far → IsReadBy (token operand) (before ++ so_far) tokens (λ next more. AreValues is_operand names next (so_far ++ more)) (next_value_at names found tokens)
unfolding next_value_at
next_operand_read names own before same found so_far tokens h =
    value_read (operand_read names own (before ++ so_far) tokens (names_behind before so_far (names ++ own ∷ []) [] same h.no_names ∙ append-nil (names ++ own ∷ [])))
    (λ x. (found ++ x.0 ∷ [], refl, λ parts whole a. values_more is_operand operand names found x.0 so_far parts refl refl h a))

-- the operands in brackets, and then another step
operands_read : {B : Type 0} {q : Pattern Role} {Last : B → List Part → Type 0} (names : List (List ℕ)) (own : List ℕ) (before : List Part) (tokens : List Spelled) (next : List ℕ × List Spelled → Read B) → names_of before ≡ names ++ own ∷ []
    → ((x : List ℕ × List Spelled) (parts : List Part) → IsWhole (bracketed (token operand)) (roles_in parts) → AreValues is_operand names x.0 parts → IsReadBy q (before ++ parts) x.1 (λ y more. Last y (parts ++ more)) (next x))
    → IsReadBy (token (sign (codes "(")) ▹ maybe_listed (token operand) ▹ token (sign (codes ")")) ▹ q) before tokens Last (operands_at names tokens >>= next)
unfolding operands_at
operands_read names own before tokens next same behind =
    bracketed_read (token operand) (next_value_at names) before [] tokens (AreValues is_operand names) next refl refl
    (next_operand_read names own before same) (λ text numbers so_far more h whole. values_sign is_operand names text numbers so_far more refl h whole) (no_values is_operand names) behind

-- ---- dicts

operation_entry_read : (before : List Part) (tokens : List Spelled) → IsReadBy (dict_entry operation_entry) before tokens Any (operation_entry_at tt tokens)
unfolding operation_entry_at
operation_entry_read before tokens = entry_read operation_entry before tokens (λ t. refl)

operation_dict_read : (before : List Part) (tokens : List Spelled) → IsReadBy (optional operation_dict) before tokens Any (operation_dict_at tokens)
unfolding operation_dict_at maybe_listed_at
operation_dict_read before tokens =
    optional_read (begins_one operation_dict (sign (codes "{")) (λ ts. stands Sign (codes "{") ts) refl refl (λ next rest. refl) tokens)
    (λ e. then_read (sign_read (codes "{") before tokens) (λ open_ a wa fa.
    maybe_read _ _ (begins_one (token (sign (codes "}"))) (sign (codes "}")) (λ ts. stands Sign (codes "}") ts) refl refl (λ next rest. refl) open_.1) refl refl
    (λ f. sign_apart (codes "}") (listed (dict_entry operation_entry)) open_.1 refl f)
    (value_read (sign_read (codes "}") (before ++ a) open_.1) (λ close. (tt, refl, λ c wc fc. tt)))
    (then_read (listed_read (dict_entry operation_entry) operation_entry_at (before ++ a) tt open_.1 Any (λ state so_far ts h. operation_entry_read ((before ++ a) ++ so_far) ts) (λ state so_far comma h wc. tt) tt)
    (λ found m wm fm. value_read (sign_read (codes "}") ((before ++ a) ++ m) found.1) (λ close. (tt, refl, λ c wc fc. tt))))))
    tt

-- ---- types

-- types at the place
abbrev pub AreTypes : Place → List WrittenType → List Part → Type 0
AreTypes place written parts = Adds (types_in place) parts written

next_type_read : (place : Place) (before : List Part) (found : List WrittenType) (so_far : List Part) (tokens : List Spelled) → AreTypes place found so_far → IsReadBy (any_type place) (before ++ so_far) tokens (λ next more. AreTypes place next (so_far ++ more)) (next_type_at found tokens)
unfolding next_type_at
next_type_read place before found so_far tokens h =
    value_read (type_read place (before ++ so_far) tokens) (λ x. (found ++ x.0 ∷ [], refl, λ parts whole a. adds_both h a))

listed_types_read : (place : Place) (before : List Part) (tokens : List Spelled) → IsReadBy (listed (any_type place)) before tokens (AreTypes place) (listed_at next_type_at [] tokens)
listed_types_read place before tokens =
    listed_read (any_type place) next_type_at before [] tokens (AreTypes place) (next_type_read place before)
    (λ found so_far comma h wc. adds_more h (no_types (token (sign (codes ","))) place comma refl wc)) (record { adds = λ rest. refl })

pub types_read : (place : Place) (before : List Part) (tokens : List Spelled) → IsReadBy (listed (any_type place)) before tokens (AreTypes place) (types_at tokens)
unfolding types_at
types_read place before tokens = listed_types_read place before tokens

result_read : (before : List Part) (tokens : List Spelled) → IsReadBy operation_result before tokens (λ written parts. AreTypes of_operation (written ∷ []) parts) (result_at tokens)
unfolding result_at
result_read before tokens =
    second_read (begins_one (token (sign (codes "(")) ▹ any_type of_operation ▹ token (sign (codes ")"))) (sign (codes "(")) (λ ts. stands Sign (codes "(") ts) refl refl (λ next rest. refl) tokens) refl refl
    (λ e. sign_apart (codes "(") (any_type of_operation) tokens refl e)
    (λ e. then_read (sign_read (codes "(") before tokens) (λ open_ a wa fa.
    then_read (type_read of_operation (before ++ a) open_.1) (λ found b wb fb.
    value_read (sign_read (codes ")") ((before ++ a) ++ b) found.1) (λ close. (
      found.0,
      refl,
      λ c wc fc.
          adds_both (no_types (token (sign (codes "("))) of_operation a refl wa) (adds_more fb (no_types (token (sign (codes ")"))) of_operation c refl wc)),
    )))))
    (λ e. type_read of_operation before tokens)

-- the types of the operands and of the result
pub record IsSignature (found : List WrittenType × WrittenType) (parts : List Part) : Type 0 where
  pub adds_operands : AreTypes of_operand found.0 parts
  pub adds_result : AreTypes of_operation (found.1 ∷ []) parts

abbrev pub arrow_result : Production
arrow_result = token (sign (codes ")")) ▹ token (sign (codes "->")) ▹ operation_result

-- behind the types of the operands
arrow_read : (written : List WrittenType) (front before : List Part) (tokens : List Spelled) → AreTypes of_operand written front → AreTypes of_operation [] front → IsReadBy arrow_result before tokens (λ found more. IsSignature found (front ++ more))
    (sign_at (codes ")") tokens >>= λ close. sign_at (codes "->") close.1 >>= λ arrow. result_at arrow.1 >>= λ result. Ok ((written, result.0), result.1))
arrow_read written front before tokens operands none =
    then_read (sign_read (codes ")") before tokens) (λ close a wa fa.
    then_read (sign_read (codes "->") (before ++ a) close.1) (λ arrow b wb fb.
    value_read (result_read ((before ++ a) ++ b) arrow.1) (λ result. (
      (written, result.0),
      refl,
      λ c wc fc. record {
        adds_operands = adds_more operands (adds_both (no_types (token (sign (codes ")"))) of_operand a refl wa) (adds_both (no_types (token (sign (codes "->"))) of_operand b refl wb) (no_types operation_result of_operand c refl wc)));
        adds_result = adds_both none (adds_both (no_types (token (sign (codes ")"))) of_operation a refl wa) (adds_both (no_types (token (sign (codes "->"))) of_operation b refl wb) fc));
      },
    ))))

abbrev pub signature : Production
signature = token (sign (codes ":")) ▹ token (sign (codes "(")) ▹ maybe_listed (any_type of_operand) ▹ arrow_result

signature_read : (before : List Part) (tokens : List Spelled) → IsReadBy signature before tokens IsSignature (signature_at tokens)
unfolding signature_at maybe_types_at maybe_listed_at
signature_read before tokens =
    then_read (sign_read (codes ":") before tokens) (λ colon a wa fa.
    then_read (sign_read (codes "(") (before ++ a) colon.1) (λ open_ b wb fb.
    maybe_read (listed_at next_type_at [] open_.1) _ (begins_one arrow_result (sign (codes ")")) (λ ts. stands Sign (codes ")") ts) refl refl (λ next rest. refl) open_.1) refl refl
    (λ e. sign_apart (codes ")") (listed (any_type of_operand)) open_.1 refl e)
    (moved_read refl (λ y more f. subst (λ l. IsSignature y l) (append_assoc a b more) f) (arrow_read [] (a ++ b) ((before ++ a) ++ b) open_.1 (opened of_operand a wa b wb) (opened of_operation a wa b wb)))
    (then_read (listed_types_read of_operand ((before ++ a) ++ b) open_.1) (λ found c wc fc.
    moved_read refl (λ y more f. subst (λ l. IsSignature y l) (append_assoc (a ++ b) c more ∙ append_assoc a b (c ++ more)) f)
    (arrow_read found.0 ((a ++ b) ++ c) (((before ++ a) ++ b) ++ c) found.1 (adds_both (opened of_operand a wa b wb) fc) (adds_both (opened of_operation a wa b wb) (no_types (listed (any_type of_operand)) of_operation c refl wc)))))))
  where
    opened : (place : Place) (a : List Part) → IsWhole (token (sign (codes ":"))) (roles_in a) → (b : List Part) → IsWhole (token (sign (codes "("))) (roles_in b) → AreTypes place [] (a ++ b)
    opened place a wa b wb = adds_both (no_types (token (sign (codes ":"))) place a refl wa) (no_types (token (sign (codes "("))) place b refl wb)

-- ---- the operation

pub record IsApplied (names : List (List ℕ)) (s : Statement) (parts : List Part) : Type 0 where
  pub name : List ℕ
  pub texts : List (List ℕ)
  pub written : List WrittenType
  pub result : WrittenType
  pub s_is : s ≡ statements.Op (unwrap_or (op_of name) AddEint) (map (value_number names) texts) written result
  pub among : list_all (is_among names) texts ≡ true
  pub adds_name : Adds (texts_in is_operation) parts (name ∷ [])
  pub adds_texts : Adds (texts_in is_operand) parts texts
  pub adds_written : AreTypes of_operand written parts
  pub adds_result : AreTypes of_operation (result ∷ []) parts

pub applied_read : (names : List (List ℕ)) (own : List ℕ) (before : List Part) (tokens : List Spelled) → names_of before ≡ names ++ own ∷ [] → IsReadBy applied before tokens (IsApplied names) (applied_at names tokens)
unfolding applied_at
applied_read names own before tokens same =
    then_read (op_read before tokens) (λ name a wa fa.
    operands_read names own (before ++ a) name.1 _ (names_behind before a (names ++ own ∷ []) [] same (no_texts (token operation) defines a refl wa) ∙ append-nil (names ++ own ∷ [])) (λ operands m wm fm.
    then_read (operation_dict_read ((before ++ a) ++ m) operands.1) (λ rest d wd fd.
    value_read (signature_read (((before ++ a) ++ m) ++ d) rest.1) (λ found. (
      statements.Op name.0 operands.0 found.0.0 found.0.1,
      refl,
      λ e we fe. record {
        name = fa.found.1;
        texts = fm.texts;
        written = found.0.0;
        result = found.0.1;
        s_is = ap (λ o. statements.Op (unwrap_or o AddEint) operands.0 found.0.0 found.0.1) fa.value_is ∙ ap (λ l. statements.Op (unwrap_or (op_of fa.found.1) AddEint) l found.0.0 found.0.1) fm.numbers_are;
        among = fm.among;
        adds_name = adds_more (one_text is_operation operation fa.found a refl fa.parts_are) (adds_both (no_texts (bracketed (token operand)) is_operation m refl wm) (adds_both (no_texts (optional operation_dict) is_operation d refl wd) (no_texts signature is_operation e refl we)));
        adds_texts = adds_both (no_texts (token operation) is_operand a refl wa) (adds_more fm.adds_texts (adds_both (no_texts (optional operation_dict) is_operand d refl wd) (no_texts signature is_operand e refl we)));
        adds_written = adds_both (no_types (token operation) of_operand a refl wa) (adds_both (no_types (bracketed (token operand)) of_operand m refl wm) (adds_both (no_types (optional operation_dict) of_operand d refl wd) fe.adds_operands));
        adds_result = adds_both (no_types (token operation) of_operation a refl wa) (adds_both (no_types (bracketed (token operand)) of_operation m refl wm) (adds_both (no_types (optional operation_dict) of_operation d refl wd) fe.adds_result));
      },
    )))))
