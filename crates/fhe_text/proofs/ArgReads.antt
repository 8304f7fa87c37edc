-- The reader's productions of dicts and arguments against the tokens in their roles.
use Rattle.std.proofs.Common.{◌≡◌, ℕ, true, List, [], ◌∷◌, ◌++◌, refl, sym, ap, codes, ℤ, Some, None}
use Rattle.std.specs.Prelude.{unwrap_or}
use Rattle.std.proofs.lemmas.Bool.{cond_both}
use Rattle.mlir_lex.specs.declared.TokenKind.TheVariants.{Sign}
use Rattle.fhe_text.specs.Numbers.{number_of, fits_bits, signed_of}
use Rattle.fhe_text.specs.Patterns.{token, ◌▹◌, optional}
use Rattle.fhe_text.specs.Roles.{Spelled, Role, sign, range_word, range_low, range_high, entry_value, entry_type}
use Rattle.fhe_text.specs.Grammar.{range, dict_entry}
use Rattle.fhe_text.specs.Conditions.{Part, meets, texts_in}
use Rattle.fhe_text.specs.Program.{is_range_low, is_range_high}
use Rattle.fhe_text.specs.Descent.{stands, range_end_at, range_at, entry_type_at, entry_value_at, entry_at}
use Rattle.fhe_text.proofs.Going.{IsReadBy, IsSpelledBy, plain_token, judged_token, then_read, value_read}
use Rattle.fhe_text.proofs.Choosing.{begins_one, optional_read}
use Rattle.fhe_text.proofs.Adding.{Adds}
use Rattle.fhe_text.proofs.TypeReads.{sign_read}

-- parts of which no more is known than their roles
abbrev pub Any : {A : Type 0} → A → List Part → Type 0
Any x parts = Unit {0}

-- ---- ranges

some_is : {A : Type 0} (x y : A) → Some x ≡ Some y → x ≡ y
some_is x y e = ap (λ o. unwrap_or o x) e

-- a number that so many bits hold is the number that the bytes spell
pub signed_is : (bits : ℕ) (text : List ℕ) (z : ℤ) → Some z ≡ signed_of bits text → number_of text ≡ z
signed_is bits text z e =
    cond_both (fits_bits bits (number_of text)) (Some (number_of text)) None (λ o. Some z ≡ o → number_of text ≡ z)
    (λ f g. sym (some_is z (number_of text) g)) (λ f g. absurd cc) e

-- the ends of a range
pub record IsRange (found : ℤ × ℤ) (parts : List Part) : Type 0 where
  pub low : List ℕ
  pub high : List ℕ
  pub low_is : number_of low ≡ found.0
  pub high_is : number_of high ≡ found.1
  pub lows : Adds (texts_in is_range_low) parts (low ∷ [])
  pub highs : Adds (texts_in is_range_high) parts (high ∷ [])

low_read : (before : List Part) (tokens : List Spelled) → IsReadBy (token range_low) before tokens (IsSpelledBy range_low (signed_of 128)) (range_end_at tokens)
unfolding range_end_at
low_read before tokens = judged_token range_low before tokens (signed_of 128) (λ t. refl) (λ t. refl)

high_read : (before : List Part) (tokens : List Spelled) → IsReadBy (token range_high) before tokens (IsSpelledBy range_high (signed_of 128)) (range_end_at tokens)
unfolding range_end_at
high_read before tokens = judged_token range_high before tokens (signed_of 128) (λ t. refl) (λ t. refl)

-- seven parts, each one
seven : (a b c d e f g : List Part) (p q r s t u v : Part) → a ≡ p ∷ [] → b ≡ q ∷ [] → c ≡ r ∷ [] → d ≡ s ∷ [] → e ≡ t ∷ [] → f ≡ u ∷ [] → g ≡ v ∷ [] → a ++ (b ++ (c ++ (d ++ (e ++ (f ++ g))))) ≡ p ∷ q ∷ r ∷ s ∷ t ∷ u ∷ v ∷ []
seven a b c d e f g p q r s t u v ha hb hc hd he hf hg = rw (ha, hb, hc, hd, he, hf, hg) refl

pub range_read : (before : List Part) (tokens : List Spelled) → ((text : List ℕ) → meets before range_word text ≡ true) → IsReadBy range before tokens IsRange (range_at tokens)
unfolding range_at
range_read before tokens ok =
    then_read (plain_token range_word before tokens ok) (λ name a wa fa.
    then_read (sign_read (codes "=") (before ++ a) name.1) (λ equal b wb fb.
    then_read (sign_read (codes "[") ((before ++ a) ++ b) equal.1) (λ open_ c wc fc.
    then_read (low_read (((before ++ a) ++ b) ++ c) open_.1) (λ low d wd fd.
    then_read (sign_read (codes ",") ((((before ++ a) ++ b) ++ c) ++ d) low.1) (λ comma e we fe.
    then_read (high_read (((((before ++ a) ++ b) ++ c) ++ d) ++ e) comma.1) (λ high f wf ff.
    value_read (sign_read (codes "]") ((((((before ++ a) ++ b) ++ c) ++ d) ++ e) ++ f) high.1) (λ close. (
      (low.0, high.0),
      refl,
      λ g wg fg.
          let all = seven a b c d e f g _ _ _ _ _ _ _ fa.parts_are fb.parts_are fc.parts_are fd.parts_are fe.parts_are ff.parts_are fg.parts_are in
          record {
            low = fd.found.1;
            high = ff.found.1;
            low_is = signed_is 128 fd.found.1 low.0 fd.value_is;
            high_is = signed_is 128 ff.found.1 high.0 ff.value_is;
            lows = record { adds = λ rest. ap (λ ps. texts_in is_range_low (ps ++ rest)) all };
            highs = record { adds = λ rest. ap (λ ps. texts_in is_range_high (ps ++ rest)) all };
          },
    ))))))))

-- ---- entries

entry_type_read : (before : List Part) (tokens : List Spelled) → IsReadBy (optional (token (sign (codes ":")) ▹ token entry_type)) before tokens Any (entry_type_at tokens)
unfolding entry_type_at
entry_type_read before tokens =
    optional_read (begins_one (token (sign (codes ":")) ▹ token entry_type) (sign (codes ":")) (λ ts. stands Sign (codes ":") ts) refl refl (λ next rest. refl) tokens)
    (λ e. then_read (sign_read (codes ":") before tokens) (λ colon a wa fa. value_read (plain_token entry_type (before ++ a) colon.1 (λ t. refl)) (λ name. (tt, refl, λ b wb fb. tt))))
    tt

entry_value_read : (before : List Part) (tokens : List Spelled) → IsReadBy (token (sign (codes "=")) ▹ token entry_value ▹ optional (token (sign (codes ":")) ▹ token entry_type)) before tokens Any (entry_value_at tokens)
unfolding entry_value_at
entry_value_read before tokens =
    then_read (sign_read (codes "=") before tokens) (λ equal a wa fa.
    then_read (plain_token entry_value (before ++ a) equal.1 (λ t. refl)) (λ value b wb fb.
    entry_type_read ((before ++ a) ++ b) value.1))

-- an entry, of which nothing is kept
pub entry_read : (role : Role) (before : List Part) (tokens : List Spelled) → ((text : List ℕ) → meets before role text ≡ true) → IsReadBy (dict_entry role) before tokens Any (entry_at role tokens)
unfolding entry_at
entry_read role before tokens ok =
    then_read (plain_token role before tokens ok) (λ name a wa fa. entry_value_read (before ++ a) name.1)
