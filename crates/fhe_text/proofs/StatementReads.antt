-- Statements against the tokens in their roles.
use Rattle.std.proofs.Common.{◌≡◌, ℕ, Bool, true, false, not, ◌&&◌, ◌||◌, List, [], ◌∷◌, ◌++◌, length, cond, refl, sym, ap, ◌∙◌, subst, inr, codes, Ok, Err, arith}
use Rattle.std.specs.List.{list_any, before_first}
use Rattle.std.proofs.lemmas.Bool.{cond_both, cond-false, or_parts}
use Rattle.std.proofs.lemmas.List.{append-nil, append_assoc}
use Rattle.mlir_lex.specs.declared.TokenKind.TheVariants.{Value}
use Rattle.fhe_text.specs.declared.source.Statement.{Statement}
use Rattle.fhe_text.specs.declared.fault.TextKind.TheVariants as kinds
use Rattle.fhe_text.specs.Patterns.{token, many, IsWhole}
use Rattle.fhe_text.specs.Roles.{Spelled, is_kind, sign, statement}
use Rattle.fhe_text.specs.Grammar.{one_statement}
use Rattle.fhe_text.specs.Conditions.{Part, is_among, defines, texts_in, names_of, is_statement, is_number}
use Rattle.fhe_text.specs.Program.{statement_of, statements_in, is_operation, roles_in}
use Rattle.fhe_text.specs.Descent.{wrong_at, kind_stands, new_name_at, statement_at, next_statement_at, statements_at}
use Rattle.fhe_text.proofs.Going.{IsReadBy, IsToken, Steps, token_by, then_read, value_read}
use Rattle.fhe_text.proofs.Choosing.{begins, many_read}
use Rattle.fhe_text.proofs.Adding.{Adds, adds_both, no_role, no_texts}
use Rattle.fhe_text.proofs.Segments.{Since, since_new, since_more, before_first_here, before_first_front, any_roles}
use Rattle.fhe_text.proofs.TypeReads.{sign_read}
use Rattle.fhe_text.proofs.DictReads.{any_both}
use Rattle.fhe_text.proofs.ArgumentReads.{names_behind}
use Rattle.fhe_text.proofs.ComputedReads.{of_statement, IsComputed, computed_read}

-- ---- one statement

-- its name is new
new_statement_read : (names : List (List ℕ)) (before : List Part) (tokens : List Spelled) → names_of before ≡ names → IsReadBy (token statement) before tokens (IsToken statement) (new_name_at names tokens)
unfolding new_name_at
new_statement_read names before tokens same =
    token_by statement before tokens (IsToken statement) (λ name. cond (is_among names name.0) (Err (wrong_at kinds.Name tokens)) (Ok name))
    (λ found rest. cond_both (is_among names found.1) (Err (wrong_at kinds.Name tokens)) (Ok (found.1, rest)) (λ r. Steps statement before tokens (IsToken statement) found rest r)
    (λ e. inr (refl, refl, ap not (ap (λ l. is_among l found.1) same ∙ e)))
    (λ e. (refl, refl, ap not (ap (λ l. is_among l found.1) same ∙ e), record { found = found; text_is = refl; parts_are = refl })))

pub record IsStatement (names : List (List ℕ)) (next : List (List ℕ) × Statement) (parts : List Part) : Type 0 where
  pub found : Spelled
  pub equal : List Part
  pub behind : List Part
  pub parts_are : parts ≡ (statement, found) ∷ (equal ++ behind)
  pub names_are : next.0 ≡ names ++ found.1 ∷ []
  pub equal_is : IsWhole (token (sign (codes "="))) (roles_in equal)
  pub computed : IsComputed names next.1 behind

statement_read : (names : List (List ℕ)) (before : List Part) (tokens : List Spelled) → names_of before ≡ names → IsReadBy one_statement before tokens (IsStatement names) (statement_at names tokens)
unfolding statement_at
statement_read names before tokens same =
    then_read (new_statement_read names before tokens same) (λ name a wa fa.
    then_read (sign_read (codes "=") (before ++ a) name.1) (λ equal b wb fb.
    value_read (computed_read names fa.found.1 ((before ++ a) ++ b) b equal.1 (named a fa b wb) (since a fa b wb) (no_role is_number (token (sign (codes "="))) (roles_in b) refl wb)) (λ computed. (
      (names ++ name.0 ∷ [], computed.0),
      refl,
      λ c wc fc. record {
        found = fa.found;
        equal = b;
        behind = c;
        parts_are = ap (λ l. l ++ (b ++ c)) fa.parts_are;
        names_are = ap (λ t. names ++ t ∷ []) fa.text_is;
        equal_is = wb;
        computed = fc;
      },
    ))))
  where
    since : {text : List ℕ} (a : List Part) → IsToken statement text a → (b : List Part) → IsWhole (token (sign (codes "="))) (roles_in b) → Since is_statement ((before ++ a) ++ b) b
    since a fa b wb =
        since_more is_statement (before ++ a) [] b (subst (λ l. Since is_statement (before ++ l) []) (sym fa.parts_are) (since_new is_statement before (statement, fa.found) refl))
        (no_role is_statement (token (sign (codes "="))) (roles_in b) refl wb)

    one_name : {text : List ℕ} (a : List Part) → (fa : IsToken statement text a) → Adds (texts_in defines) a (fa.found.1 ∷ [])
    one_name a fa = record { adds = λ rest. ap (λ ps. texts_in defines (ps ++ rest)) fa.parts_are }

    named : {text : List ℕ} (a : List Part) → (fa : IsToken statement text a) → (b : List Part) → IsWhole (token (sign (codes "="))) (roles_in b) → names_of ((before ++ a) ++ b) ≡ names ++ fa.found.1 ∷ []
    named a fa b wb =
        names_behind (before ++ a) b (names ++ fa.found.1 ∷ []) [] (names_behind before a names (fa.found.1 ∷ []) same (one_name a fa)) (no_texts (token (sign (codes "="))) defines b refl wb) ∙ append-nil (names ++ fa.found.1 ∷ [])

-- ---- statements

-- nothing that a statement is read off stands before the next one
abbrev pub EndsStatement : List Part → Type 0
EndsStatement rest = list_any of_statement (roles_in (before_first (λ (p : Part). is_statement p.0) rest)) ≡ false

-- no statement, no entry of the list
pub statements_none : (names : List (List ℕ)) (parts rest : List Part) → list_any is_statement (roles_in parts) ≡ false → statements_in names (parts ++ rest) ≡ statements_in names rest
statements_none names [] rest e = refl
statements_none names (part ∷ parts) rest e =
    let both_none = or_parts (is_statement part.0) (list_any is_statement (roles_in parts)) e in
    cond-false (is_statement part.0) _ (statements_in names (parts ++ rest)) both_none.0 ∙ statements_none names parts rest both_none.1

-- the statements behind others, with their names: each is read with the names behind it too
pub record AreStatements (names : List (List ℕ)) (body : List Statement) (state : List (List ℕ) × List Statement) (parts : List Part) : Type 0 where
  pub new_names : List (List ℕ)
  pub new_body : List Statement
  pub names_are : state.0 ≡ names ++ new_names
  pub body_is : state.1 ≡ body ++ new_body
  pub adds_names : Adds (texts_in defines) parts new_names
  pub reads_body : (more : List (List ℕ)) (rest : List Part) → EndsStatement rest → statements_in (state.0 ++ more) (parts ++ rest) ≡ new_body ++ statements_in (state.0 ++ more) rest

no_statements : (names : List (List ℕ)) (body : List Statement) → AreStatements names body (names, body) []
no_statements names body = record { new_names = []; new_body = []; names_are = sym (append-nil names); body_is = sym (append-nil body); adds_names = record { adds = λ rest. refl }; reads_body = λ more rest ends. refl }

-- the next statement ends the one before it
next_ends : (names : List (List ℕ)) (next : List (List ℕ) × Statement) (parts rest : List Part) → IsStatement names next parts → EndsStatement (parts ++ rest)
next_ends names next parts rest h =
    ap (λ ps. list_any of_statement (roles_in (before_first (λ (p : Part). is_statement p.0) (ps ++ rest)))) h.parts_are
    ∙ ap (λ ps. list_any of_statement (roles_in ps)) (before_first_here (λ (p : Part). is_statement p.0) (statement, h.found) ((h.equal ++ h.behind) ++ rest) refl)

-- what one statement is read as, with any names behind its own
statement_is : (names : List (List ℕ)) (next : List (List ℕ) × Statement) (parts rest : List Part) (more : List (List ℕ)) → IsStatement names next parts → EndsStatement rest → statements_in (names ++ more) (parts ++ rest) ≡ next.1 ∷ statements_in (names ++ more) rest
statement_is names next parts rest more h ends =
    ap (λ ps. statements_in (names ++ more) (ps ++ rest)) h.parts_are
    ∙ ap (λ l. statement_of (names ++ more) l (texts_in is_operation l) ∷ statements_in (names ++ more) ((h.equal ++ h.behind) ++ rest)) own_is
    ∙ ap (λ s. s ∷ statements_in (names ++ more) ((h.equal ++ h.behind) ++ rest)) (h.computed.reads more h.equal own (no_role of_statement (token (sign (codes "="))) (roles_in h.equal) refl h.equal_is) ends)
    ∙ ap (λ l. next.1 ∷ l) (statements_none (names ++ more) (h.equal ++ h.behind) rest quiet)
  where
    own : List Part
    own = before_first (λ (p : Part). is_statement p.0) rest

    quiet : list_any is_statement (roles_in (h.equal ++ h.behind)) ≡ false
    quiet = any_both is_statement h.equal h.behind ∙ ap (λ b. b || list_any is_statement (roles_in h.behind)) (no_role is_statement (token (sign (codes "="))) (roles_in h.equal) refl h.equal_is) ∙ h.computed.no_statement

    own_is : before_first (λ (p : Part). is_statement p.0) ((h.equal ++ h.behind) ++ rest) ≡ h.equal ++ (h.behind ++ own)
    own_is = before_first_front (λ (p : Part). is_statement p.0) (h.equal ++ h.behind) rest (any_roles is_statement (h.equal ++ h.behind) ∙ quiet) ∙ append_assoc h.equal h.behind own

-- a statement adds its name
adds_statement_name : (names : List (List ℕ)) (next : List (List ℕ) × Statement) (parts : List Part) (a : IsStatement names next parts) → Adds (texts_in defines) parts (a.found.1 ∷ [])
adds_statement_name names next parts a = record {
  adds = λ rest. ap (λ ps. texts_in defines (ps ++ rest)) a.parts_are ∙ ap (λ l. a.found.1 ∷ l) ((adds_both (no_texts (token (sign (codes "="))) defines a.equal refl a.equal_is) a.computed.no_names).adds rest);
}

statements_more : (names : List (List ℕ)) (body : List Statement) (state next : List (List ℕ) × List Statement) (one : List (List ℕ) × Statement) (parts more : List Part) → next ≡ (one.0, state.1 ++ one.1 ∷ []) → AreStatements names body state parts → IsStatement state.0 one more → AreStatements names body next (parts ++ more)
statements_more names body state next one parts more e h a = record {
  new_names = h.new_names ++ a.found.1 ∷ [];
  new_body = h.new_body ++ one.1 ∷ [];
  names_are = named ∙ ap (λ l. l ++ a.found.1 ∷ []) h.names_are ∙ append_assoc names h.new_names (a.found.1 ∷ []);
  body_is = ap (λ (s : List (List ℕ) × List Statement). s.1) e ∙ ap (λ l. l ++ one.1 ∷ []) h.body_is ∙ append_assoc body h.new_body (one.1 ∷ []);
  adds_names = adds_both h.adds_names (adds_statement_name state.0 one more a);
  reads_body = λ others rest ends. ap (λ l. statements_in (l ++ others) ((parts ++ more) ++ rest)) named
      ∙ ap (λ l. statements_in l ((parts ++ more) ++ rest)) (append_assoc state.0 (a.found.1 ∷ []) others) ∙ ap (statements_in (state.0 ++ (a.found.1 ∷ others))) (append_assoc parts more rest)
      ∙ h.reads_body (a.found.1 ∷ others) (more ++ rest) (next_ends state.0 one more rest a)
      ∙ ap (λ l. h.new_body ++ l) (statement_is state.0 one more rest (a.found.1 ∷ others) a ends) ∙ sym (append_assoc h.new_body (one.1 ∷ []) (statements_in (state.0 ++ (a.found.1 ∷ others)) rest))
      ∙ ap (λ l. (h.new_body ++ one.1 ∷ []) ++ statements_in l rest) (sym (append_assoc state.0 (a.found.1 ∷ []) others))
      ∙ ap (λ l. (h.new_body ++ one.1 ∷ []) ++ statements_in (l ++ others) rest) (sym named);
}
  where
    named : next.0 ≡ state.0 ++ a.found.1 ∷ []
    named = ap (λ (s : List (List ℕ) × List Statement). s.0) e ∙ a.names_are

next_statement_read : (names : List (List ℕ)) (body : List Statement) (before : List Part) → names_of before ≡ names → (state : List (List ℕ) × List Statement) (so_far : List Part) (tokens : List Spelled) → AreStatements names body state so_far → IsReadBy one_statement (before ++ so_far) tokens (λ next more. AreStatements names body next (so_far ++ more)) (next_statement_at state tokens)
unfolding next_statement_at
next_statement_read names body before same state so_far tokens h =
    value_read (statement_read state.0 (before ++ so_far) tokens (names_behind before so_far names h.new_names same h.adds_names ∙ sym h.names_are))
    (λ x. ((x.0.0, state.1 ++ x.0.1 ∷ []), refl, λ parts whole a. statements_more names body state (x.0.0, state.1 ++ x.0.1 ∷ []) x.0 so_far parts refl h a))

-- the statements, as many as stand there
pub statements_read : (names : List (List ℕ)) (body : List Statement) (before : List Part) (tokens : List Spelled) → names_of before ≡ names → IsReadBy (many one_statement) before tokens (AreStatements names body) (statements_at (names, body) tokens)
unfolding statements_at
statements_read names body before tokens same =
    many_read one_statement (λ ts. kind_stands Value ts) next_statement_at (length tokens) before (names, body) tokens (AreStatements names body) refl
    (begins_value) (λ state so_far ts e h. next_statement_read names body before same state so_far ts h) (omega arith) (no_statements names body)
  where
    by_kind : (b : Bool) → ((b && true) || false) ≡ b
    by_kind true = refl
    by_kind false = refl

    begins_value : (ts : List Spelled) → begins one_statement ts ≡ kind_stands Value ts
    begins_value [] = refl
    begins_value (next ∷ rest) = by_kind (is_kind Value next.0)
