-- Constants against the tokens in their roles.
use Rattle.std.proofs.Common.{◌≡◌, ℕ, Bool, true, false, ◌&&◌, List, [], ◌∷◌, ◌++◌, cond, map, refl, sym, ap, ◌∙◌, inl, inr, codes, ℤ, Option, Some, None, Ok, Err}
use Rattle.std.specs.Prelude.{is_some}
use Rattle.std.specs.List.{list_any}
use Rattle.std.proofs.lemmas.Bool.{cond_both}
use Rattle.refusals.specs.Reading.{◌>>=◌}
use Rattle.mlir_lex.specs.declared.TokenKind.TheVariants.{Word}
use Rattle.fhe_text.specs.declared.source.Statement.{Statement}
use Rattle.fhe_text.specs.declared.source.Statement.TheVariants as statements
use Rattle.fhe_text.specs.declared.fault.TextKind.TheVariants as kinds
use Rattle.fhe_text.specs.Numbers.{number_of, fits_bits, signed_of, itype_of, or_zero}
use Rattle.fhe_text.specs.Patterns.{token, IsWhole}
use Rattle.fhe_text.specs.Roles.{Spelled, sign, number, number_type}
use Rattle.fhe_text.specs.Grammar.{scalar_constant}
use Rattle.fhe_text.specs.Conditions.{Part, meets, texts_in, all_fit, numbers_before, is_number, is_statement}
use Rattle.fhe_text.specs.Program.{roles_in}
use Rattle.fhe_text.specs.Descent.{Read, wrong_at, kind_at, some_or, itype_at, number_at, scalar_constant_at}
use Rattle.fhe_text.proofs.Going.{IsReadBy, IsSpelledBy, Steps, token_by, formed_token, then_read, fit_read}
use Rattle.fhe_text.proofs.Adding.{Adds, adds_both, adds_more, adds_all, quiet_texts, one_text, no_role, no_texts}
use Rattle.fhe_text.proofs.Segments.{Since, since_more, since_behind}
use Rattle.fhe_text.proofs.TypeReads.{sign_read}
use Rattle.fhe_text.proofs.ArgReads.{signed_is}
use Rattle.fhe_text.proofs.Listing.{bound_read}

-- ---- a number of so many bits

number_read : (before : List Part) (tokens : List Spelled) → IsReadBy (token number) before tokens (IsSpelledBy number (signed_of 64)) (number_at tokens)
unfolding number_at
number_read before tokens = formed_token number before tokens (signed_of 64) (λ t. refl) (λ t. refl)

-- the constant of this number and of the bits that hold it
abbrev pub HoldsNumber : ℤ → Statement → List Part → Type 0
HoldsNumber value s parts = (bits : ℕ) × (s ≡ statements.Int value bits) × IsSpelledBy number_type itype_of bits parts

abbrev pub held : ℤ → List Spelled → ℕ × List Spelled → Read Statement
held value tokens bits = cond (fits_bits bits.0 value) (Ok (statements.Int value bits.0, bits.1)) (Err (wrong_at kinds.Constant tokens))

and_true : (b : Bool) → (b && true) ≡ b
and_true true = refl
and_true false = refl

holds : (before : List Part) (value : ℤ) (found : Spelled) (bits : ℕ) (b : Bool) → numbers_before before ≡ value ∷ [] → itype_of found.1 ≡ Some bits → fits_bits bits value ≡ b → meets before number_type found.1 ≡ b
holds before value found bits b same e f =
    ap (λ o. all_fit (or_zero o) (numbers_before before)) e ∙ ap (λ l. all_fit bits l) same ∙ ap (λ x. x && true) f ∙ and_true b

-- an itype that holds the number before it
holding_type_read : (before : List Part) (tokens : List Spelled) (value : ℤ) → numbers_before before ≡ value ∷ [] → IsReadBy (token number_type) before tokens (HoldsNumber value) (itype_at tokens >>= held value tokens)
unfolding itype_at
holding_type_read before tokens value same =
    bound_read (kind_at Word tokens) (λ found. some_or (itype_of found.0) found.1 (wrong_at kinds.Syntax tokens)) (held value tokens)
    (token_by number_type before tokens (HoldsNumber value) (λ found. some_or (itype_of found.0) found.1 (wrong_at kinds.Syntax tokens) >>= held value tokens)
    (λ found rest. by_type found rest (itype_of found.1) refl))
  where
    by_type : (found : Spelled) (rest : List Spelled) (o : Option ℕ) → itype_of found.1 ≡ o → Steps number_type before tokens (HoldsNumber value) found rest (some_or o rest (wrong_at kinds.Syntax tokens) >>= held value tokens)
    by_type found rest None e = inl (refl, ap is_some e)
    by_type found rest (Some bits) e =
        cond_both (fits_bits bits value) (Ok (statements.Int value bits, rest)) (Err (wrong_at kinds.Constant tokens)) (λ r. Steps number_type before tokens (HoldsNumber value) found rest r)
        (λ f. (refl, ap is_some e, holds before value found bits true same e f, (bits, refl, record { found = found; value_is = sym e; parts_are = refl })))
        (λ f. inr (refl, ap is_some e, holds before value found bits false same e f))

-- a number and the type that holds it
pub record IsScalar (s : Statement) (parts : List Part) : Type 0 where
  pub value : Spelled
  pub bits : Spelled
  pub colon : Spelled
  pub parts_are : parts ≡ (number, value) ∷ (sign (codes ":"), colon) ∷ (number_type, bits) ∷ []
  pub s_is : s ≡ statements.Int (number_of value.1) (or_zero (itype_of bits.1))

-- behind a statement's name and parts without a number
pub scalar_read : (before mid : List Part) (tokens : List Spelled) → Since is_statement before mid → list_any is_number (roles_in mid) ≡ false → IsReadBy scalar_constant before tokens IsScalar (scalar_constant_at tokens)
unfolding scalar_constant_at
scalar_read before mid tokens since none =
    then_read (number_read before tokens) (λ value a wa fa.
    then_read (sign_read (codes ":") (before ++ a) value.1) (λ colon b wb fb.
    fit_read (holding_type_read ((before ++ a) ++ b) colon.1 value.0 (numbers a value.0 fa b wb))
    (λ s c whole h. record {
      value = fa.found;
      bits = h.2.found;
      colon = fb.found;
      parts_are = three a b c _ _ _ fa.parts_are fb.parts_are h.2.parts_are;
      s_is = h.1 ∙ ap (λ z. statements.Int z h.0) (sym (signed_is 64 fa.found.1 value.0 fa.value_is)) ∙ ap (λ o. statements.Int (number_of fa.found.1) (or_zero o)) h.2.value_is;
    })))
  where
    three : (a b c : List Part) (p q r : Part) → a ≡ p ∷ [] → b ≡ q ∷ [] → c ≡ r ∷ [] → a ++ (b ++ c) ≡ p ∷ q ∷ r ∷ []
    three a b c p q r ha hb hc = rw (ha, hb, hc) refl

    numbers : (a : List Part) (value : ℤ) → IsSpelledBy number (signed_of 64) value a → (b : List Part) → IsWhole (token (sign (codes ":"))) (roles_in b) → numbers_before ((before ++ a) ++ b) ≡ value ∷ []
    numbers a value fa b wb =
        let first : Since is_statement (before ++ a) (mid ++ a) = since_more is_statement before mid a since (ap (λ ps. list_any is_statement (roles_in ps)) fa.parts_are) in
        let second : Since is_statement ((before ++ a) ++ b) ((mid ++ a) ++ b) = since_more is_statement (before ++ a) (mid ++ a) b first (no_role is_statement (token (sign (codes ":"))) (roles_in b) refl wb) in
        let adds : Adds (texts_in is_number) ((mid ++ a) ++ b) (fa.found.1 ∷ []) = adds_more (adds_both (quiet_texts is_number mid none) (one_text is_number number fa.found a refl fa.parts_are)) (no_texts (token (sign (codes ":"))) is_number b refl wb) in
        ap (λ own. map number_of (texts_in is_number own)) (since_behind is_statement ((before ++ a) ++ b) ((mid ++ a) ++ b) second)
        ∙ ap (map number_of) (adds_all adds refl) ∙ ap (λ z. z ∷ []) (signed_is 64 fa.found.1 value fa.value_is)
