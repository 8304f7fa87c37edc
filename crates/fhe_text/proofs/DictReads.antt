-- The dict of an argument against the tokens in their roles.
use Rattle.std.proofs.Common.{◌≡◌, ℕ, Bool, true, false, not, ◌&&◌, ◌||◌, List, [], ◌∷◌, ◌++◌, cond, refl, sym, ap, ◌∙◌, subst, codes, ℤ, Option, Some, None, Ok, Err}
use Rattle.std.specs.Prelude.{is_none, is_some}
use Rattle.std.specs.List.{list_any, list_all}
use Rattle.std.proofs.lemmas.Bool.{and_parts, false≢true}
use Rattle.std.proofs.lemmas.List.{append-nil, append_assoc, map-append}
use Rattle.std.proofs.lemmas.List.Folds.{list_any-append}
use Rattle.refusals.specs.Reading.{◌>>=◌}
use Rattle.mlir_lex.specs.declared.TokenKind.{TokenKind}
use Rattle.mlir_lex.specs.declared.TokenKind.TheVariants.{Word, Int, Value, Symbol, TypeName, Text, Sign}
use Rattle.fhe_text.specs.declared.fault.TextKind.TheVariants as kinds
use Rattle.fhe_text.specs.Numbers.{number_of}
use Rattle.fhe_text.specs.Patterns.{Pattern, token, either, IsWhole}
use Rattle.fhe_text.specs.Roles.{Spelled, Role, sign, range_word, argument_entry, kind_of, has_form, is_kind}
use Rattle.fhe_text.specs.Grammar.{listed, range, dict_entry, argument_dict}
use Rattle.fhe_text.specs.Conditions.{Part, meets, texts_in, is_argument, is_range_word}
use Rattle.fhe_text.specs.Program.{is_range_low, is_range_high, range_of, roles_in}
use Rattle.fhe_text.specs.Descent.{wrong_at, stands, range_at, argument_entry_at, maybe_listed_at, argument_dict_at}
use Rattle.fhe_text.proofs.Plain.{firsts}
use Rattle.fhe_text.proofs.Going.{IsReadBy, then_read, value_read, any_role, refused_token}
use Rattle.fhe_text.proofs.Choosing.{begins, begins_one, first_read}
use Rattle.fhe_text.proofs.Adding.{Adds, adds_both, adds_more, has_role, no_role, no_texts}
use Rattle.fhe_text.proofs.Segments.{Since, since_more, since_behind, any_roles}
use Rattle.fhe_text.proofs.TypeReads.{sign_read}
use Rattle.fhe_text.proofs.ArgReads.{IsRange, range_read, entry_read}
use Rattle.fhe_text.proofs.Listing.{moved_read, listed_read, maybe_read}

-- ---- signs

-- tokens in the role are no signs
abbrev pub no_sign : Role → Bool
no_sign role = not (is_kind (kind_of role) Sign)

is_sign : (kind : TokenKind) → is_kind Sign kind ≡ true → kind ≡ Sign
is_sign Sign e = refl
is_sign Word e = absurd (false≢true e)
is_sign Int e = absurd (false≢true e)
is_sign Value e = absurd (false≢true e)
is_sign Symbol e = absurd (false≢true e)
is_sign TypeName e = absurd (false≢true e)
is_sign Text e = absurd (false≢true e)

not_is : (b : Bool) → not b ≡ true → b ≡ false
not_is true e = absurd (false≢true e)
not_is false e = refl

no_role_fits : (roles : List Role) (next : Spelled) → next.0 ≡ Sign → list_all no_sign roles ≡ true → any_role roles next ≡ false
no_role_fits [] next e h = refl
no_role_fits (role ∷ roles) next e h =
    let parts = and_parts (no_sign role) (list_all no_sign roles) h in
    let kind : is_kind (kind_of role) next.0 ≡ false = ap (is_kind (kind_of role)) e ∙ not_is (is_kind (kind_of role) Sign) parts.0 in
    ap (λ b. (b && has_form role next.1) || any_role roles next) kind ∙ no_role_fits roles next e parts.1

-- a sign begins no pattern whose first roles are no signs
pub sign_apart : (text : List ℕ) (p : Pattern Role) (tokens : List Spelled) → list_all no_sign (firsts p) ≡ true → stands Sign text tokens ≡ true → begins p tokens ≡ false
sign_apart text p [] h e = refl
sign_apart text p (next ∷ rest) h e = no_role_fits (firsts p) next (is_sign next.0 (and_parts (is_kind Sign next.0) _ e).0) h

-- ---- the range of a dict, so far

or_false : (b : Bool) → (b || false) ≡ b
or_false true = refl
or_false false = refl

or_true : (b : Bool) → (b || true) ≡ true
or_true true = refl
or_true false = refl

pub any_both : (test : Role → Bool) (p q : List Part) → list_any test (roles_in (p ++ q)) ≡ (list_any test (roles_in p) || list_any test (roles_in q))
any_both test p q = ap (λ l. list_any test l) (map-append (λ (part : Part). part.0) p q) ∙ list_any-append test (roles_in p) (roles_in q)

pub record Ranges (declared : Option (ℤ × ℤ)) (parts : List Part) : Type 0 where
  pub lows : List (List ℕ)
  pub highs : List (List ℕ)
  pub declared_is : range_of lows highs ≡ declared
  pub adds_lows : Adds (texts_in is_range_low) parts lows
  pub adds_highs : Adds (texts_in is_range_high) parts highs
  pub one : is_some declared ≡ list_any is_range_word (roles_in parts)
  pub empty : declared ≡ None → (lows ≡ []) × (highs ≡ [])
  pub quiet : list_any is_argument (roles_in parts) ≡ false

pub no_ranges : Ranges None []
no_ranges = record { lows = []; highs = []; declared_is = refl; adds_lows = record { adds = λ rest. refl }; adds_highs = record { adds = λ rest. refl }; one = refl; empty = λ e. (refl, refl); quiet = refl }

-- behind parts without a range
pub ranges_more : (declared : Option (ℤ × ℤ)) (so_far parts : List Part) (p : Pattern Role) → has_role is_range_low p ≡ false → has_role is_range_high p ≡ false → has_role is_range_word p ≡ false → has_role is_argument p ≡ false → IsWhole p (roles_in parts) → Ranges declared so_far → Ranges declared (so_far ++ parts)
ranges_more declared so_far parts p low high found arg whole h = record {
  lows = h.lows;
  highs = h.highs;
  declared_is = h.declared_is;
  adds_lows = adds_more h.adds_lows (no_texts p is_range_low parts low whole);
  adds_highs = adds_more h.adds_highs (no_texts p is_range_high parts high whole);
  one = h.one ∙ sym (any_both is_range_word so_far parts ∙ ap (λ b. list_any is_range_word (roles_in so_far) || b) (no_role is_range_word p (roles_in parts) found whole) ∙ or_false (list_any is_range_word (roles_in so_far)));
  empty = h.empty;
  quiet = any_both is_argument so_far parts ∙ ap (λ b. b || list_any is_argument (roles_in parts)) h.quiet ∙ no_role is_argument p (roles_in parts) arg whole;
}

-- in front of them
pub ranges_behind : (declared : Option (ℤ × ℤ)) (parts so_far : List Part) (p : Pattern Role) → has_role is_range_low p ≡ false → has_role is_range_high p ≡ false → has_role is_range_word p ≡ false → has_role is_argument p ≡ false → IsWhole p (roles_in parts) → Ranges declared so_far → Ranges declared (parts ++ so_far)
ranges_behind declared parts so_far p low high found arg whole h = record {
  lows = h.lows;
  highs = h.highs;
  declared_is = h.declared_is;
  adds_lows = adds_both (no_texts p is_range_low parts low whole) h.adds_lows;
  adds_highs = adds_both (no_texts p is_range_high parts high whole) h.adds_highs;
  one = h.one ∙ sym (any_both is_range_word parts so_far ∙ ap (λ b. b || list_any is_range_word (roles_in so_far)) (no_role is_range_word p (roles_in parts) found whole));
  empty = h.empty;
  quiet = any_both is_argument parts so_far ∙ ap (λ b. b || list_any is_argument (roles_in so_far)) (no_role is_argument p (roles_in parts) arg whole) ∙ h.quiet;
}

-- behind a range
ranges_range : (found : ℤ × ℤ) (so_far parts : List Part) → IsWhole range (roles_in parts) → IsRange found parts → Ranges None so_far → Ranges (Some found) (so_far ++ parts)
ranges_range found so_far parts whole r h =
    let none = h.empty refl in
    record {
      lows = r.low ∷ [];
      highs = r.high ∷ [];
      declared_is = ap (λ z. Some (z, number_of r.high)) r.low_is ∙ ap (λ z. Some (found.0, z)) r.high_is;
      adds_lows = adds_both (subst (λ l. Adds (texts_in is_range_low) so_far l) none.0 h.adds_lows) r.lows;
      adds_highs = adds_both (subst (λ l. Adds (texts_in is_range_high) so_far l) none.1 h.adds_highs) r.highs;
      one = sym (any_both is_range_word so_far parts ∙ ap (λ b. list_any is_range_word (roles_in so_far) || b) word_there ∙ or_true (list_any is_range_word (roles_in so_far)));
      empty = λ e. absurd cc;
      quiet = any_both is_argument so_far parts ∙ ap (λ b. b || list_any is_argument (roles_in parts)) h.quiet ∙ no_role is_argument range (roles_in parts) refl whole;
    }
  where
    word_there : list_any is_range_word (roles_in parts) ≡ true
    word_there = ap (λ l. list_any is_range_word l) whole.2 ∙ ap (λ l. list_any is_range_word (l ++ whole.1)) whole.3

-- ---- entries

-- whether a range may stand behind these parts of a dict
abbrev pub TellsRange : List Part → Type 0
TellsRange before =
    (so_far : List Part) → list_any is_argument (roles_in so_far) ≡ false → (text : List ℕ) → meets (before ++ so_far) range_word text ≡ not (list_any is_range_word (roles_in so_far))

-- behind an argument without a range
pub tells_range : (before mid : List Part) → Since is_argument before mid → list_any is_range_word (roles_in mid) ≡ false → TellsRange before
tells_range before mid since none so_far quiet text =
    ap not (ap (λ l. list_any (λ (part : Part). is_range_word part.0) l) (since_behind is_argument (before ++ so_far) (mid ++ so_far) (since_more is_argument before mid so_far since quiet))
    ∙ any_roles is_range_word (mid ++ so_far) ∙ any_both is_range_word mid so_far ∙ ap (λ b. b || list_any is_range_word (roles_in so_far)) none)

second_range : (before : List Part) (tokens : List Spelled) (Fit : Option (ℤ × ℤ) → List Part → Type 0) → ((text : List ℕ) → meets before range_word text ≡ false) → stands Word (codes "fhec.range") tokens ≡ true → IsReadBy range before tokens Fit (Err (wrong_at kinds.Syntax tokens))
second_range before [] Fit refuses e = absurd (false≢true e)
second_range before (next ∷ behind) Fit refuses e = record { is_read = λ others. refused_token range_word _ others before next behind e (refuses next.1) }

pub argument_entry_read : (before : List Part) → TellsRange before → (declared : Option (ℤ × ℤ)) (so_far : List Part) (tokens : List Spelled) → Ranges declared so_far → IsReadBy (either range (dict_entry argument_entry)) (before ++ so_far) tokens (λ next more. Ranges next (so_far ++ more)) (argument_entry_at declared tokens)
unfolding argument_entry_at
argument_entry_read before tells declared so_far tokens h =
    first_read (begins_one range range_word (λ ts. stands Word (codes "fhec.range") ts) refl refl (λ next rest. refl) tokens) refl
    (λ e. a_range declared h e)
    (λ e. value_read (entry_read argument_entry (before ++ so_far) tokens (λ t. refl)) (λ x. (declared, refl, λ parts whole f. ranges_more declared so_far parts (dict_entry argument_entry) refl refl refl refl whole h)))
  where
    a_range : (declared : Option (ℤ × ℤ)) → Ranges declared so_far → stands Word (codes "fhec.range") tokens ≡ true → IsReadBy range (before ++ so_far) tokens (λ next more. Ranges next (so_far ++ more)) (cond (is_none declared) (range_at tokens >>= λ x. Ok (Some x.0, x.1)) (Err (wrong_at kinds.Syntax tokens)))
    a_range None h e = value_read (range_read (before ++ so_far) tokens (λ t. tells so_far h.quiet t ∙ ap not (sym h.one))) (λ x. (Some x.0, refl, λ parts whole r. ranges_range x.0 so_far parts whole r h))
    a_range (Some r) h e = second_range (before ++ so_far) tokens (λ next more. Ranges next (so_far ++ more)) (λ t. tells so_far h.quiet t ∙ ap not (sym h.one)) e

-- ---- the dict

pub argument_dict_read : (before : List Part) (tokens : List Spelled) → TellsRange before → IsReadBy argument_dict before tokens Ranges (argument_dict_at tokens)
unfolding argument_dict_at maybe_listed_at
argument_dict_read before tokens tells =
    then_read (sign_read (codes "{") before tokens) (λ open_ a wa fa.
    maybe_read _ _ (begins_one (token (sign (codes "}"))) (sign (codes "}")) (λ ts. stands Sign (codes "}") ts) refl refl (λ next rest. refl) open_.1) refl refl
    (λ e. sign_apart (codes "}") (listed (either range (dict_entry argument_entry))) open_.1 refl e)
    (value_read (sign_read (codes "}") (before ++ a) open_.1) (λ close. (None, refl, λ c wc fc. closed None a c wc (opened a wa))))
    (then_read (listed_read (either range (dict_entry argument_entry)) argument_entry_at (before ++ a) None open_.1 (λ declared so_far. Ranges declared (a ++ so_far))
    (λ declared so_far ts h. moved_read (sym (append_assoc before a so_far)) (λ next more r. subst (λ l. Ranges next l) (append_assoc a so_far more) r) (argument_entry_read before tells declared (a ++ so_far) ts h))
    (λ declared so_far comma h wc. subst (λ l. Ranges declared l) (append_assoc a so_far comma) (ranges_more declared (a ++ so_far) comma (token (sign (codes ","))) refl refl refl refl wc h))
    (subst (λ l. Ranges None l) (sym (append-nil a)) (opened a wa)))
    (λ declared m wm fm. value_read (sign_read (codes "}") ((before ++ a) ++ m) declared.1) (λ close. (declared.0, refl, λ c wc fc. subst (λ l. Ranges declared.0 l) (append_assoc a m c) (closed declared.0 (a ++ m) c wc fm))))))
  where
    opened : (a : List Part) → IsWhole (token (sign (codes "{"))) (roles_in a) → Ranges None a
    opened a wa = ranges_more None [] a (token (sign (codes "{"))) refl refl refl refl wa no_ranges

    closed : (declared : Option (ℤ × ℤ)) (parts c : List Part) → IsWhole (token (sign (codes "}"))) (roles_in c) → Ranges declared parts → Ranges declared (parts ++ c)
    closed declared parts c wc h = ranges_more declared parts c (token (sign (codes "}"))) refl refl refl refl wc h
