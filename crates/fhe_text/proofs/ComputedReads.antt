-- What computes a value against the tokens in their roles.
use Rattle.std.proofs.Common.{◌≡◌, ℕ, Bool, true, false, ◌||◌, List, [], ◌∷◌, ◌++◌, map, refl, sym, ap, ◌∙◌, codes}
use Rattle.std.specs.Prelude.{unwrap_or}
use Rattle.std.specs.List.{list_any, list_all, slice_index_or}
use Rattle.std.proofs.lemmas.Bool.{or_parts, and_parts, false≢true}
use Rattle.std.proofs.lemmas.List.{append-nil, append_assoc}
use Rattle.mlir_lex.specs.declared.TokenKind.TheVariants.{Word}
use Rattle.fhe_text.specs.declared.source.WrittenType.{WrittenType}
use Rattle.fhe_text.specs.declared.source.WrittenType.TheVariants as types
use Rattle.fhe_text.specs.declared.source.OpName.TheVariants.{AddEint}
use Rattle.fhe_text.specs.declared.source.Statement.{Statement}
use Rattle.fhe_text.specs.declared.source.Statement.TheVariants as statements
use Rattle.fhe_text.specs.Numbers.{number_of, length_of, itype_of, xtype_of, or_zero}
use Rattle.fhe_text.specs.Patterns.{token, either, IsWhole}
use Rattle.fhe_text.specs.Roles.{Spelled, Place, of_operand, of_operation, Role, word, operation, operand, number, number_type, item, splat, dense_length, dense_cell, width, scalar, tensor_length}
use Rattle.fhe_text.specs.Grammar.{constant, scalar_constant, dense_constant, applied}
use Rattle.fhe_text.specs.Conditions.{Part, op_of, is_among, defines, texts_in, names_of, is_statement, is_item, is_number}
use Rattle.fhe_text.specs.Program.{is_place, types_in, value_number, first_text, entries_of, constant_of, statement_of, is_single_number, is_number_type, is_splat, is_dense_length, is_dense_cell, is_operation, is_operand, roles_in}
use Rattle.fhe_text.specs.Descent.{stands, constant_at, computed_at}
use Rattle.fhe_text.proofs.Going.{IsReadBy, plain_token, then_read, fit_read}
use Rattle.fhe_text.proofs.Choosing.{begins_one, first_read, second_read, word_apart}
use Rattle.fhe_text.proofs.Adding.{Adds, adds_all, all_quiet, no_role, no_texts, quiet_texts, quiet_types, writes}
use Rattle.fhe_text.proofs.Segments.{Since, since_more}
use Rattle.fhe_text.proofs.ValueReads.{number_kept}
use Rattle.fhe_text.proofs.ConstantReads.{IsScalar, scalar_read}
use Rattle.fhe_text.proofs.DenseReads.{Written, IsDense, dense_read}
use Rattle.fhe_text.proofs.AppliedReads.{IsApplied, applied_read}
use Rattle.fhe_text.proofs.DictReads.{any_both}

-- ---- off which roles a statement is read

-- a statement is read off tokens in the role
abbrev pub of_statement : Role → Bool
of_statement operation = true
of_statement operand = true
of_statement number = true
of_statement number_type = true
of_statement item = true
of_statement splat = true
of_statement dense_length = true
of_statement dense_cell = true
of_statement role = writes of_operand role || writes of_operation role

no_operation : (role : Role) → of_statement role ≡ false → is_operation role ≡ false
no_operation operation e = absurd (false≢true (sym e))
no_operation _ e = refl

no_operand : (role : Role) → of_statement role ≡ false → is_operand role ≡ false
no_operand operand e = absurd (false≢true (sym e))
no_operand _ e = refl

no_single : (role : Role) → of_statement role ≡ false → is_single_number role ≡ false
no_single number e = absurd (false≢true (sym e))
no_single _ e = refl

no_number_type : (role : Role) → of_statement role ≡ false → is_number_type role ≡ false
no_number_type number_type e = absurd (false≢true (sym e))
no_number_type _ e = refl

no_item : (role : Role) → of_statement role ≡ false → is_item role ≡ false
no_item item e = absurd (false≢true (sym e))
no_item _ e = refl

no_splat : (role : Role) → of_statement role ≡ false → is_splat role ≡ false
no_splat splat e = absurd (false≢true (sym e))
no_splat _ e = refl

no_dense_length : (role : Role) → of_statement role ≡ false → is_dense_length role ≡ false
no_dense_length dense_length e = absurd (false≢true (sym e))
no_dense_length _ e = refl

no_dense_cell : (role : Role) → of_statement role ≡ false → is_dense_cell role ≡ false
no_dense_cell dense_cell e = absurd (false≢true (sym e))
no_dense_cell _ e = refl

no_operand_type : (role : Role) → of_statement role ≡ false → writes of_operand role ≡ false
no_operand_type (width other) e = (or_parts (is_place of_operand other) (is_place of_operation other) e).0
no_operand_type (scalar other) e = (or_parts (is_place of_operand other) (is_place of_operation other) e).0
no_operand_type (tensor_length other) e = (or_parts (is_place of_operand other) (is_place of_operation other) e).0
no_operand_type _ e = refl

no_result_type : (role : Role) → of_statement role ≡ false → writes of_operation role ≡ false
no_result_type (width other) e = (or_parts (is_place of_operand other) (is_place of_operation other) e).1
no_result_type (scalar other) e = (or_parts (is_place of_operand other) (is_place of_operation other) e).1
no_result_type (tensor_length other) e = (or_parts (is_place of_operand other) (is_place of_operation other) e).1
no_result_type _ e = refl

-- nothing that a statement is read off
abbrev pub Quiet : List Part → Type 0
Quiet parts = list_any of_statement (roles_in parts) ≡ false

-- texts between parts without any
texts_only : (test : Role → Bool) (front parts rest : List Part) (xs : List (List ℕ)) → ((role : Role) → of_statement role ≡ false → test role ≡ false) → Quiet front → Quiet rest → Adds (texts_in test) parts xs → texts_in test (front ++ (parts ++ rest)) ≡ xs
texts_only test front parts rest xs quiet f r own =
    (quiet_texts test front (all_quiet of_statement test (roles_in front) quiet f)).adds (parts ++ rest) ∙ own.adds rest
    ∙ ap (λ l. xs ++ l) (adds_all (quiet_texts test rest (all_quiet of_statement test (roles_in rest) quiet r)) refl) ∙ append-nil xs

types_only : (place : Place) (front parts rest : List Part) (xs : List WrittenType) → ((role : Role) → of_statement role ≡ false → writes place role ≡ false) → Quiet front → Quiet rest → Adds (types_in place) parts xs → types_in place (front ++ (parts ++ rest)) ≡ xs
types_only place front parts rest xs quiet f r own =
    (quiet_types place front (all_quiet of_statement (writes place) (roles_in front) quiet f)).adds (parts ++ rest) ∙ own.adds rest
    ∙ ap (λ l. xs ++ l) (adds_all (quiet_types place rest (all_quiet of_statement (writes place) (roles_in rest) quiet r)) refl) ∙ append-nil xs

-- ---- constants

-- what the parts spell, whatever stands around them that no statement is read off
pub record IsConstant (s : Statement) (parts : List Part) : Type 0 where
  pub reads : (front rest : List Part) → Quiet front → Quiet rest → constant_of (front ++ (parts ++ rest)) (texts_in is_single_number (front ++ (parts ++ rest))) ≡ s

scalar_constant_is : (s : Statement) (parts : List Part) → IsScalar s parts → IsConstant s parts
scalar_constant_is s parts h = record { reads = reads }
  where
    one : Adds (texts_in is_single_number) parts (h.value.1 ∷ [])
    one = record { adds = λ rest. ap (λ ps. texts_in is_single_number (ps ++ rest)) h.parts_are }

    typed : Adds (texts_in is_number_type) parts (h.bits.1 ∷ [])
    typed = record { adds = λ rest. ap (λ ps. texts_in is_number_type (ps ++ rest)) h.parts_are }

    reads : (front rest : List Part) → Quiet front → Quiet rest → constant_of (front ++ (parts ++ rest)) (texts_in is_single_number (front ++ (parts ++ rest))) ≡ s
    reads front rest f r =
        ap (constant_of (front ++ (parts ++ rest))) (texts_only is_single_number front parts rest (h.value.1 ∷ []) no_single f r one)
        ∙ ap (λ l. statements.Int (number_of h.value.1) (or_zero (itype_of (first_text l)))) (texts_only is_number_type front parts rest (h.bits.1 ∷ []) no_number_type f r typed) ∙ sym h.s_is

dense_constant_is : (s : Statement) (parts : List Part) → IsWhole dense_constant (roles_in parts) → IsDense s parts → IsConstant s parts
dense_constant_is s parts whole h = record { reads = reads }
  where
    reads : (front rest : List Part) → Quiet front → Quiet rest → constant_of (front ++ (parts ++ rest)) (texts_in is_single_number (front ++ (parts ++ rest))) ≡ s
    reads front rest f r =
        let all : List Part = front ++ (parts ++ rest) in
        ap (constant_of all) (texts_only is_single_number front parts rest [] no_single f r (no_texts dense_constant is_single_number parts refl whole))
        ∙ ap (λ l. statements.Dense (entries_of l (texts_in is_item all)) (or_zero (length_of (first_text (texts_in is_dense_length all)))) (or_zero (xtype_of (first_text (texts_in is_dense_cell all))))) (texts_only is_splat front parts rest h.splats no_splat f r h.adds_splats)
        ∙ ap (λ l. statements.Dense (entries_of h.splats l) (or_zero (length_of (first_text (texts_in is_dense_length all)))) (or_zero (xtype_of (first_text (texts_in is_dense_cell all))))) (texts_only is_item front parts rest h.items no_item f r h.adds_items)
        ∙ ap (λ l. statements.Dense (entries_of h.splats h.items) (or_zero (length_of (first_text l))) (or_zero (xtype_of (first_text (texts_in is_dense_cell all))))) (texts_only is_dense_length front parts rest (h.length_text ∷ []) no_dense_length f r h.adds_length)
        ∙ ap (λ l. statements.Dense (entries_of h.splats h.items) (or_zero (length_of h.length_text)) (or_zero (xtype_of (first_text l)))) (texts_only is_dense_cell front parts rest (h.cell_text ∷ []) no_dense_cell f r h.adds_cell) ∙ sym h.s_is

-- behind the word, what the constant spells
behind_word : (a b : List Part) (s : Statement) → IsWhole (token (word (codes "arith.constant"))) (roles_in a) → IsConstant s b → IsConstant s (a ++ b)
behind_word a b s wa h = record { reads = reads }
  where
    reads : (front rest : List Part) → Quiet front → Quiet rest → constant_of (front ++ ((a ++ b) ++ rest)) (texts_in is_single_number (front ++ ((a ++ b) ++ rest))) ≡ s
    reads front rest f r =
        ap (λ l. constant_of l (texts_in is_single_number l)) (ap (λ l. front ++ l) (append_assoc a b rest) ∙ sym (append_assoc front a (b ++ rest)))
        ∙ h.reads (front ++ a) rest (any_both of_statement front a ∙ ap (λ x. x || list_any of_statement (roles_in a)) f ∙ no_role of_statement (token (word (codes "arith.constant"))) (roles_in a) refl wa) r

no_number_item : (role : Role) → is_number role ≡ false → is_item role ≡ false
no_number_item item e = absurd (false≢true (sym e))
no_number_item _ e = refl

constant_read : (before mid : List Part) (tokens : List Spelled) → Since is_statement before mid → list_any is_number (roles_in mid) ≡ false → IsReadBy constant before tokens IsConstant (constant_at tokens)
unfolding constant_at
constant_read before mid tokens since none =
    then_read (plain_token (word (codes "arith.constant")) before tokens (λ t. refl)) (λ name a wa fa.
    second_read (begins_one dense_constant (word (codes "dense")) (λ ts. stands Word (codes "dense") ts) refl refl (λ next rest. refl) name.1) refl refl
    (λ e. word_apart (codes "dense") scalar_constant name.1 refl e)
    (λ e. fit_read (dense_read (before ++ a) name.1 (written a wa)) (λ s b wb fb. behind_word a b s wa (dense_constant_is s b wb fb)))
    (λ e. fit_read (scalar_read (before ++ a) (mid ++ a) name.1 (since_more is_statement before mid a since (no_role is_statement (token (word (codes "arith.constant"))) (roles_in a) refl wa)) (quiet a wa)) (λ s b wb fb. behind_word a b s wa (scalar_constant_is s b fb))))
  where
    quiet : (a : List Part) → IsWhole (token (word (codes "arith.constant"))) (roles_in a) → list_any is_number (roles_in (mid ++ a)) ≡ false
    quiet a wa = any_both is_number mid a ∙ ap (λ x. x || list_any is_number (roles_in a)) none ∙ no_role is_number (token (word (codes "arith.constant"))) (roles_in a) refl wa

    written : (a : List Part) → IsWhole (token (word (codes "arith.constant"))) (roles_in a) → Written (before ++ a) [] []
    written a wa = record {
      mid = mid ++ a;
      since = since_more is_statement before mid a since (no_role is_statement (token (word (codes "arith.constant"))) (roles_in a) refl wa);
      adds_items = quiet_texts is_item (mid ++ a) (all_quiet is_number is_item (roles_in (mid ++ a)) no_number_item (quiet a wa));
      adds_numbers = quiet_texts is_number (mid ++ a) (quiet a wa);
    }

-- ---- constants and operations

-- what the parts compute, whatever stands around them that no statement is read off, and whatever names follow
pub record IsComputed (names : List (List ℕ)) (computed : Statement) (parts : List Part) : Type 0 where
  pub no_statement : list_any is_statement (roles_in parts) ≡ false
  pub no_names : Adds (texts_in defines) parts []
  pub reads : (more : List (List ℕ)) (front rest : List Part) → Quiet front → Quiet rest → statement_of (names ++ more) (front ++ (parts ++ rest)) (texts_in is_operation (front ++ (parts ++ rest))) ≡ computed

constant_computed : (names : List (List ℕ)) (s : Statement) (parts : List Part) → IsWhole constant (roles_in parts) → IsConstant s parts → IsComputed names s parts
constant_computed names s parts whole h = record {
  no_statement = no_role is_statement constant (roles_in parts) refl whole;
  no_names = no_texts constant defines parts refl whole;
  reads = λ more front rest f r. ap (statement_of (names ++ more) (front ++ (parts ++ rest))) (texts_only is_operation front parts rest [] no_operation f r (no_texts constant is_operation parts refl whole)) ∙ h.reads front rest f r;
}

-- names behind change no number
numbers_kept : (names more texts : List (List ℕ)) → list_all (is_among names) texts ≡ true → map (value_number (names ++ more)) texts ≡ map (value_number names) texts
numbers_kept names more [] e = refl
numbers_kept names more (text ∷ texts) e =
    let both_among = and_parts (is_among names text) (list_all (is_among names) texts) e in
    ap (λ n. n ∷ map (value_number (names ++ more)) texts) (number_kept names more text both_among.0) ∙ ap (λ l. value_number names text ∷ l) (numbers_kept names more texts both_among.1)

applied_computed : (names : List (List ℕ)) (s : Statement) (parts : List Part) → IsWhole applied (roles_in parts) → IsApplied names s parts → IsComputed names s parts
applied_computed names s parts whole h = record {
  no_statement = no_role is_statement applied (roles_in parts) refl whole;
  no_names = no_texts applied defines parts refl whole;
  reads = reads;
}
  where
    reads : (more : List (List ℕ)) (front rest : List Part) → Quiet front → Quiet rest → statement_of (names ++ more) (front ++ (parts ++ rest)) (texts_in is_operation (front ++ (parts ++ rest))) ≡ s
    reads more front rest f r =
        let all : List Part = front ++ (parts ++ rest) in
        ap (statement_of (names ++ more) all) (texts_only is_operation front parts rest (h.name ∷ []) no_operation f r h.adds_name)
        ∙ ap (λ l. statements.Op (unwrap_or (op_of h.name) AddEint) (map (value_number (names ++ more)) l) (types_in of_operand all) (slice_index_or (types_in of_operation all) 0 (types.Eint 0))) (texts_only is_operand front parts rest h.texts no_operand f r h.adds_texts)
        ∙ ap (λ l. statements.Op (unwrap_or (op_of h.name) AddEint) l (types_in of_operand all) (slice_index_or (types_in of_operation all) 0 (types.Eint 0))) (numbers_kept names more h.texts h.among)
        ∙ ap (λ l. statements.Op (unwrap_or (op_of h.name) AddEint) (map (value_number names) h.texts) l (slice_index_or (types_in of_operation all) 0 (types.Eint 0))) (types_only of_operand front parts rest h.written no_operand_type f r h.adds_written)
        ∙ ap (λ l. statements.Op (unwrap_or (op_of h.name) AddEint) (map (value_number names) h.texts) h.written (slice_index_or l 0 (types.Eint 0))) (types_only of_operation front parts rest (h.result ∷ []) no_result_type f r h.adds_result) ∙ sym h.s_is

-- a constant or an operation, behind the name of its statement
pub computed_read : (names : List (List ℕ)) (own : List ℕ) (before mid : List Part) (tokens : List Spelled) → names_of before ≡ names ++ own ∷ [] → Since is_statement before mid → list_any is_number (roles_in mid) ≡ false → IsReadBy (either constant applied) before tokens (IsComputed names) (computed_at names tokens)
unfolding computed_at
computed_read names own before mid tokens same since none =
    first_read (begins_one constant (word (codes "arith.constant")) (λ ts. stands Word (codes "arith.constant") ts) refl refl (λ next rest. refl) tokens) refl
    (λ e. fit_read (constant_read before mid tokens since none) (λ s parts whole h. constant_computed names s parts whole h))
    (λ e. fit_read (applied_read names own before tokens same) (λ s parts whole h. applied_computed names s parts whole h))
