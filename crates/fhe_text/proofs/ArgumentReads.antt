-- Arguments against the tokens in their roles.
use Rattle.std.proofs.Common.{◌≡◌, ℕ, false, not, ◌||◌, List, [], ◌∷◌, ◌++◌, cond, refl, sym, ap, ◌∙◌, subst, inr, codes, Ok, Err}
use Rattle.std.specs.List.{list_any, before_first, slice_index_or}
use Rattle.std.proofs.lemmas.Bool.{cond_both, cond-true, cond-false, or_parts}
use Rattle.std.proofs.lemmas.List.{append-nil, append_assoc}
use Rattle.mlir_lex.specs.declared.TokenKind.TheVariants.{Sign}
use Rattle.fhe_text.specs.declared.source.WrittenType.TheVariants as types
use Rattle.fhe_text.specs.declared.source.Arg.{Arg}
use Rattle.fhe_text.specs.declared.fault.TextKind.TheVariants as kinds
use Rattle.fhe_text.specs.Patterns.{Pattern, token, IsWhole, optional}
use Rattle.fhe_text.specs.Roles.{Spelled, of_argument, Role, sign, argument}
use Rattle.fhe_text.specs.Grammar.{etype, arg, argument_dict}
use Rattle.fhe_text.specs.Conditions.{Part, is_among, defines, texts_in, names_of, is_argument, is_range_word}
use Rattle.fhe_text.specs.Program.{types_in, range_of, arg_of, args_in, is_range_low, is_range_high, roles_in}
use Rattle.fhe_text.specs.Descent.{wrong_at, stands, new_name_at, declared_at, arg_at, next_arg_at}
use Rattle.fhe_text.proofs.Going.{IsReadBy, IsToken, Steps, token_by, then_read, value_read}
use Rattle.fhe_text.proofs.Choosing.{begins_one, optional_read}
use Rattle.fhe_text.proofs.Adding.{Adds, adds_both, adds_more, has_role, no_role, no_texts, no_types}
use Rattle.fhe_text.proofs.Segments.{Since, since_new, since_more, before_first_here, before_first_front, any_roles}
use Rattle.fhe_text.proofs.TypeReads.{sign_read, etype_read}
use Rattle.fhe_text.proofs.DictReads.{Ranges, no_ranges, ranges_behind, TellsRange, tells_range, argument_dict_read, any_both}

-- ---- the name

-- a name that is new behind those before it
new_argument_read : (names : List (List ℕ)) (before : List Part) (tokens : List Spelled) → names_of before ≡ names → IsReadBy (token argument) before tokens (IsToken argument) (new_name_at names tokens)
unfolding new_name_at
new_argument_read names before tokens same =
    token_by argument before tokens (IsToken argument) (λ name. cond (is_among names name.0) (Err (wrong_at kinds.Name tokens)) (Ok name))
    (λ found rest. cond_both (is_among names found.1) (Err (wrong_at kinds.Name tokens)) (Ok (found.1, rest)) (λ r. Steps argument before tokens (IsToken argument) found rest r)
    (λ e. inr (refl, refl, ap not (ap (λ l. is_among l found.1) same ∙ e)))
    (λ e. (refl, refl, ap not (ap (λ l. is_among l found.1) same ∙ e), record { found = found; text_is = refl; parts_are = refl })))

-- ---- one argument

pub record IsArg (names : List (List ℕ)) (next : List (List ℕ) × Arg) (parts : List Part) : Type 0 where
  pub found : Spelled
  pub behind : List Part
  pub parts_are : parts ≡ (argument, found) ∷ behind
  pub names_are : next.0 ≡ names ++ found.1 ∷ []
  pub adds_type : Adds (types_in of_argument) behind (next.1.ty ∷ [])
  pub ranges : Ranges next.1.declared behind
  pub no_names : Adds (texts_in defines) behind []

declared_read : (before : List Part) (tokens : List Spelled) → TellsRange before → IsReadBy (optional argument_dict) before tokens Ranges (declared_at tokens)
unfolding declared_at
declared_read before tokens tells =
    optional_read (begins_one argument_dict (sign (codes "{")) (λ ts. stands Sign (codes "{") ts) refl refl (λ next rest. refl) tokens)
    (λ e. argument_dict_read before tokens tells) no_ranges

arg_read : (names : List (List ℕ)) (before : List Part) (tokens : List Spelled) → names_of before ≡ names → IsReadBy arg before tokens (IsArg names) (arg_at names tokens)
unfolding arg_at
arg_read names before tokens same =
    then_read (new_argument_read names before tokens same) (λ name a wa fa.
    then_read (sign_read (codes ":") (before ++ a) name.1) (λ colon b wb fb.
    then_read (etype_read of_argument ((before ++ a) ++ b) colon.1) (λ bits c wc fc.
    value_read (declared_read (((before ++ a) ++ b) ++ c) bits.1 (tells a fa b wb c wc)) (λ declared. (
      (names ++ name.0 ∷ [], record { ty = types.Eint bits.0; declared = declared.0 }),
      refl,
      λ d wd fd. record {
        found = fa.found;
        behind = b ++ (c ++ d);
        parts_are = ap (λ l. l ++ (b ++ (c ++ d))) fa.parts_are;
        names_are = ap (λ t. names ++ t ∷ []) fa.text_is;
        adds_type = adds_both (no_types (token (sign (codes ":"))) of_argument b refl wb) (adds_both fc (no_types (optional argument_dict) of_argument d refl wd));
        ranges = ranges_behind declared.0 b (c ++ d) (token (sign (codes ":"))) refl refl refl refl wb (ranges_behind declared.0 c d (etype of_argument) refl refl refl refl wc fd);
        no_names = adds_both (no_texts (token (sign (codes ":"))) defines b refl wb) (adds_both (no_texts (etype of_argument) defines c refl wc) (no_texts (optional argument_dict) defines d refl wd));
      },
    )))))
  where
    tells : {text : List ℕ} (a : List Part) → IsToken argument text a → (b : List Part) → IsWhole (token (sign (codes ":"))) (roles_in b) → (c : List Part) → IsWhole (etype of_argument) (roles_in c) → TellsRange (((before ++ a) ++ b) ++ c)
    tells a fa b wb c wc =
        let new : Since is_argument (before ++ a) [] = subst (λ l. Since is_argument (before ++ l) []) (sym fa.parts_are) (since_new is_argument before (argument, fa.found) refl) in
        let colon : Since is_argument ((before ++ a) ++ b) b = since_more is_argument (before ++ a) [] b new (no_role is_argument (token (sign (codes ":"))) (roles_in b) refl wb) in
        let typed : Since is_argument (((before ++ a) ++ b) ++ c) (b ++ c) = since_more is_argument ((before ++ a) ++ b) b c colon (no_role is_argument (etype of_argument) (roles_in c) refl wc) in
        tells_range (((before ++ a) ++ b) ++ c) (b ++ c) typed
        (any_both is_range_word b c ∙ ap (λ x. x || list_any is_range_word (roles_in c)) (no_role is_range_word (token (sign (codes ":"))) (roles_in b) refl wb) ∙ no_role is_range_word (etype of_argument) (roles_in c) refl wc)

-- ---- arguments

-- no range stands before the next argument
pub record EndsArg (rest : List Part) : Type 0 where
  pub no_low : texts_in is_range_low (before_first (λ (p : Part). is_argument p.0) rest) ≡ []
  pub no_high : texts_in is_range_high (before_first (λ (p : Part). is_argument p.0) rest) ≡ []

-- no argument, no entry of the list of arguments
pub args_none : (parts rest : List Part) → list_any is_argument (roles_in parts) ≡ false → args_in (parts ++ rest) ≡ args_in rest
args_none [] rest e = refl
args_none (part ∷ parts) rest e =
    let both_none = or_parts (is_argument part.0) (list_any is_argument (roles_in parts)) e in
    cond-false (is_argument part.0) (arg_of (before_first (λ (p : Part). is_argument p.0) (parts ++ rest)) ∷ args_in (parts ++ rest)) (args_in (parts ++ rest)) both_none.0 ∙ args_none parts rest both_none.1

-- the argument that these parts spell, with what ends it behind them
arg_is : (names : List (List ℕ)) (next : List (List ℕ) × Arg) (parts rest : List Part) → IsArg names next parts → EndsArg rest → args_in (parts ++ rest) ≡ next.1 ∷ args_in rest
arg_is names next parts rest h ends =
    ap (λ ps. args_in (ps ++ rest)) h.parts_are
    ∙ ap (λ own. arg_of own ∷ args_in (h.behind ++ rest)) (before_first_front (λ (p : Part). is_argument p.0) h.behind rest (any_roles is_argument h.behind ∙ h.ranges.quiet))
    ∙ ap (λ l. arg_of (h.behind ++ own) ∷ l) (args_none h.behind rest h.ranges.quiet)
    ∙ ap (λ l. record { ty = slice_index_or l 0 (types.Eint 0); declared = range_of (texts_in is_range_low (h.behind ++ own)) (texts_in is_range_high (h.behind ++ own)) } ∷ args_in rest) (h.adds_type.adds own)
    ∙ ap (λ l. record { ty = next.1.ty; declared = range_of l (texts_in is_range_high (h.behind ++ own)) } ∷ args_in rest) (h.ranges.adds_lows.adds own ∙ ap (λ l. h.ranges.lows ++ l) ends.no_low ∙ append-nil h.ranges.lows)
    ∙ ap (λ l. record { ty = next.1.ty; declared = range_of h.ranges.lows l } ∷ args_in rest) (h.ranges.adds_highs.adds own ∙ ap (λ l. h.ranges.highs ++ l) ends.no_high ∙ append-nil h.ranges.highs)
    ∙ ap (λ d. record { ty = next.1.ty; declared = d } ∷ args_in rest) h.ranges.declared_is
  where
    own : List Part
    own = before_first (λ (p : Part). is_argument p.0) rest

-- behind parts without an argument and without a range, what ends an argument still does
pub ends_more : (p : Pattern Role) (parts rest : List Part) → has_role is_argument p ≡ false → has_role is_range_low p ≡ false → has_role is_range_high p ≡ false → IsWhole p (roles_in parts) → EndsArg rest → EndsArg (parts ++ rest)
ends_more p parts rest arg low high whole ends = record {
  no_low = ap (texts_in is_range_low) front ∙ (no_texts p is_range_low parts low whole).adds (before_first (λ (p : Part). is_argument p.0) rest) ∙ ends.no_low;
  no_high = ap (texts_in is_range_high) front ∙ (no_texts p is_range_high parts high whole).adds (before_first (λ (p : Part). is_argument p.0) rest) ∙ ends.no_high;
}
  where
    front : before_first (λ (p : Part). is_argument p.0) (parts ++ rest) ≡ parts ++ before_first (λ (p : Part). is_argument p.0) rest
    front = before_first_front (λ (p : Part). is_argument p.0) parts rest (any_roles is_argument parts ∙ no_role is_argument p (roles_in parts) arg whole)

-- the next argument ends the one before it
ends_here : (names : List (List ℕ)) (next : List (List ℕ) × Arg) (parts rest : List Part) → IsArg names next parts → EndsArg (parts ++ rest)
ends_here names next parts rest h = record {
  no_low = ap (λ ps. texts_in is_range_low (before_first (λ (p : Part). is_argument p.0) (ps ++ rest))) h.parts_are ∙ ap (texts_in is_range_low) here;
  no_high = ap (λ ps. texts_in is_range_high (before_first (λ (p : Part). is_argument p.0) (ps ++ rest))) h.parts_are ∙ ap (texts_in is_range_high) here;
}
  where
    here : before_first (λ (p : Part). is_argument p.0) ((argument, h.found) ∷ (h.behind ++ rest)) ≡ []
    here = before_first_here (λ (p : Part). is_argument p.0) (argument, h.found) (h.behind ++ rest) refl

-- the arguments behind others, with their names
pub record AreArgs (names : List (List ℕ)) (args : List Arg) (state : List (List ℕ) × List Arg) (parts : List Part) : Type 0 where
  pub new_names : List (List ℕ)
  pub new_args : List Arg
  pub names_are : state.0 ≡ names ++ new_names
  pub args_are : state.1 ≡ args ++ new_args
  pub adds_names : Adds (texts_in defines) parts new_names
  pub reads_args : (rest : List Part) → EndsArg rest → args_in (parts ++ rest) ≡ new_args ++ args_in rest

pub no_args : (names : List (List ℕ)) (args : List Arg) → AreArgs names args (names, args) []
no_args names args = record { new_names = []; new_args = []; names_are = sym (append-nil names); args_are = sym (append-nil args); adds_names = record { adds = λ rest. refl }; reads_args = λ rest ends. refl }

pub args_sign : (names : List (List ℕ)) (args : List Arg) (text : List ℕ) (state : List (List ℕ) × List Arg) (parts more : List Part) → AreArgs names args state parts → IsWhole (token (sign text)) (roles_in more) → AreArgs names args state (parts ++ more)
args_sign names args text state parts more h whole = record {
  new_names = h.new_names;
  new_args = h.new_args;
  names_are = h.names_are;
  args_are = h.args_are;
  adds_names = adds_more h.adds_names (no_texts (token (sign text)) defines more refl whole);
  reads_args = λ rest ends. ap args_in (append_assoc parts more rest) ∙ h.reads_args (more ++ rest) (ends_more (token (sign text)) more rest refl refl refl whole ends)
      ∙ ap (λ l. h.new_args ++ l) (args_none more rest (no_role is_argument (token (sign text)) (roles_in more) refl whole));
}

-- an argument adds its name
adds_name : (names : List (List ℕ)) (next : List (List ℕ) × Arg) (parts : List Part) (a : IsArg names next parts) → Adds (texts_in defines) parts (a.found.1 ∷ [])
adds_name names next parts a = record { adds = λ rest. ap (λ ps. texts_in defines (ps ++ rest)) a.parts_are ∙ ap (λ l. a.found.1 ∷ l) (a.no_names.adds rest) }

args_more : (names : List (List ℕ)) (args : List Arg) (state next : List (List ℕ) × List Arg) (one : List (List ℕ) × Arg) (parts more : List Part) → next ≡ (one.0, state.1 ++ one.1 ∷ []) → AreArgs names args state parts → IsArg state.0 one more → AreArgs names args next (parts ++ more)
args_more names args state next one parts more e h a = record {
  new_names = h.new_names ++ a.found.1 ∷ [];
  new_args = h.new_args ++ one.1 ∷ [];
  names_are = ap (λ (s : List (List ℕ) × List Arg). s.0) e ∙ a.names_are ∙ ap (λ l. l ++ a.found.1 ∷ []) h.names_are ∙ append_assoc names h.new_names (a.found.1 ∷ []);
  args_are = ap (λ (s : List (List ℕ) × List Arg). s.1) e ∙ ap (λ l. l ++ one.1 ∷ []) h.args_are ∙ append_assoc args h.new_args (one.1 ∷ []);
  adds_names = adds_both h.adds_names (adds_name state.0 one more a);
  reads_args = λ rest ends. ap args_in (append_assoc parts more rest) ∙ h.reads_args (more ++ rest) (ends_here state.0 one more rest a)
      ∙ ap (λ l. h.new_args ++ l) (arg_is state.0 one more rest a ends) ∙ sym (append_assoc h.new_args (one.1 ∷ []) (args_in rest));
}

-- the names behind others
pub names_behind : (before parts : List Part) (names new_names : List (List ℕ)) → names_of before ≡ names → Adds (texts_in defines) parts new_names → names_of (before ++ parts) ≡ names ++ new_names
names_behind before parts names new_names e h = texts_both before parts ∙ ap (λ l. l ++ texts_in defines parts) e ∙ ap (λ l. names ++ l) (ap (texts_in defines) (sym (append-nil parts)) ∙ h.adds [] ∙ append-nil new_names)
  where
    texts_both : (p q : List Part) → texts_in defines (p ++ q) ≡ texts_in defines p ++ texts_in defines q
    texts_both [] q = refl
    texts_both (part ∷ p) q =
        cond_both (defines part.0) (part.1.1 ∷ texts_in defines (p ++ q)) (texts_in defines (p ++ q)) (λ l. l ≡ cond (defines part.0) (part.1.1 ∷ texts_in defines p) (texts_in defines p) ++ texts_in defines q)
        (λ e. ap (λ l. part.1.1 ∷ l) (texts_both p q) ∙ sym (ap (λ l. l ++ texts_in defines q) (cond-true (defines part.0) (part.1.1 ∷ texts_in defines p) (texts_in defines p) e)))
        (λ e. texts_both p q ∙ sym (ap (λ l. l ++ texts_in defines q) (cond-false (defines part.0) (part.1.1 ∷ texts_in defines p) (texts_in defines p) e)))

pub next_arg_read : (names : List (List ℕ)) (args : List Arg) (before : List Part) → names_of before ≡ names → (state : List (List ℕ) × List Arg) (so_far : List Part) (tokens : List Spelled) → AreArgs names args state so_far → IsReadBy arg (before ++ so_far) tokens (λ next more. AreArgs names args next (so_far ++ more)) (next_arg_at state tokens)
unfolding next_arg_at
next_arg_read names args before same state so_far tokens h =
    value_read (arg_read state.0 (before ++ so_far) tokens (names_behind before so_far names h.new_names same h.adds_names ∙ sym h.names_are))
    (λ x. ((x.0.0, state.1 ++ x.0.1 ∷ []), refl, λ parts whole a. args_more names args state (x.0.0, state.1 ++ x.0.1 ∷ []) x.0 so_far parts refl h a))
