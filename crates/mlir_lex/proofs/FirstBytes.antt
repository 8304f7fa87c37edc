-- The kind of a token shows in its first byte, and for a `-` in the byte behind it.
use Rattle.std.proofs.Common.{◌≡◌, ℕ, zero, suc, Bool, true, false, cond, ◌==◌, ◌&&◌, List, [], ◌∷◌, take, refl, ap, sym, subst, inl, inr, ◌⊎◌, arith, codes, Option, Some, None}
use Rattle.std.specs.Char.{is_ascii_digit}
use Rattle.std.specs.List.{list_all, list_any}
use Rattle.std.proofs.lemmas.Bool.{cond_both, and_parts, or_cases, cond-true, eqb-true, false≢true}
use Rattle.std.proofs.lemmas.Bool.Decides.{nat_tests}
use Rattle.mlir_lex.specs.declared.TokenKind.{TokenKind}
use Rattle.mlir_lex.specs.declared.TokenKind.TheVariants.{Word, Int, Value, Symbol, TypeName, Text, Sign}
use Rattle.mlir_lex.specs.Spellings.{begins_word, is_sign, is_word, is_digits, is_int, is_sign_text, is_value_name, is_closed, is_marked, spells}
use Rattle.mlir_lex.specs.Lengths.{kind_of_first, starts_with_digit}

-- what holds of each sign of one byte
abbrev OfEach : (ℕ → Type 0) → List ℕ → Type 0
OfEach P [] = Unit {0}
OfEach P (x ∷ xs) = P x × OfEach P xs

-- what holds of each number of a list holds of one that is found in it
found : (P : ℕ → Type 0) (xs : List ℕ) (b : ℕ) → list_any (λ x. x == b) xs ≡ true → OfEach P xs → P b
found P [] b h all = absurd (false≢true h)
found P (x ∷ xs) b h all =
    elim (or_cases (x == b) (list_any (λ y. y == b) xs) h) [ inl e ↦ subst P (eqb-true x b e) all.0 | inr e ↦ found P xs b e all.1 ]

-- a letter or `_` is no digit
word_is_no_digit : (b : ℕ) → begins_word b ≡ true → is_ascii_digit b ≡ false
word_is_no_digit b h = grind (arith, nat_tests)

-- a spelling is not empty
pub spells-empty : (kind : TokenKind) → spells kind [] ≡ false
spells-empty Word = refl
spells-empty Int = refl
spells-empty Value = refl
spells-empty Symbol = refl
spells-empty TypeName = refl
spells-empty Text = refl
spells-empty Sign = refl

-- the first byte of a marked spelling is the mark
pub marked_first : (mark : ℕ) (belongs : List ℕ → Bool) (b : ℕ) (bs : List ℕ) → is_marked mark belongs (b ∷ bs) ≡ true → mark ≡ b
marked_first mark belongs b bs h = sym (eqb-true b mark (and_parts (b == mark) (belongs bs) h).0)

-- a word's first byte gives its kind
word_kind : (b : ℕ) (d : Bool) → begins_word b ≡ true → kind_of_first b d ≡ Some Word
word_kind b d h = rw (word_is_no_digit b h) (cond-true (begins_word b) (Some Word) _ h)

-- so does the byte behind a `-`
digits_follow : (n : ℕ) (bs : List ℕ) → is_digits (take n bs) ≡ true → starts_with_digit bs ≡ true
digits_follow zero bs h = absurd (false≢true h)
digits_follow (suc n) [] h = absurd (false≢true h)
digits_follow (suc n) (c ∷ cs) h = (and_parts (is_ascii_digit c) (list_all is_ascii_digit (take n cs)) h).0

int_kind : (n b : ℕ) (bs : List ℕ) → is_int (b ∷ take n bs) ≡ true → kind_of_first b (starts_with_digit bs) ≡ Some Int
int_kind n b bs h =
    elim (or_cases (is_digits (b ∷ take n bs)) (b == 45 && is_digits (take n bs)) h) [
      | inl e ↦ cond-true (is_ascii_digit b) (Some Int) _ (and_parts (is_ascii_digit b) (list_all is_ascii_digit (take n bs)) e).0
      | inr e ↦
          let parts = and_parts (b == 45) (is_digits (take n bs)) e in
          subst (λ (x : ℕ). kind_of_first x (starts_with_digit bs) ≡ Some Int) (sym (eqb-true b 45 parts.0)) (ap (λ t. Some (cond t Int Sign)) (digits_follow n bs parts.1))
    ]

-- and a sign's bytes
one_sign_kind : (b : ℕ) (d : Bool) → is_sign b ≡ true → kind_of_first b d ≡ Some Sign
one_sign_kind b d h =
    found (λ x. kind_of_first x d ≡ Some Sign) (codes "(){}[]<>,:=") b h (refl, (refl, (refl, (refl, (refl, (refl, (refl, (refl, (refl, (refl, (refl, tt)))))))))))

arrow_kind : (b c : ℕ) (cs : List ℕ) → (b == 45 && c == 62) ≡ true → kind_of_first b (starts_with_digit (c ∷ cs)) ≡ Some Sign
arrow_kind b c cs h =
    let parts = and_parts (b == 45) (c == 62) h in
    subst (λ (x : ℕ). kind_of_first x (is_ascii_digit c) ≡ Some Sign) (sym (eqb-true b 45 parts.0)) (subst (λ (y : ℕ). kind_of_first 45 (is_ascii_digit y) ≡ Some Sign) (sym (eqb-true c 62 parts.1)) refl)

sign_kind : (n b : ℕ) (bs : List ℕ) → is_sign_text (b ∷ take n bs) ≡ true → kind_of_first b (starts_with_digit bs) ≡ Some Sign
sign_kind zero b bs h = one_sign_kind b (starts_with_digit bs) h
sign_kind (suc n) b [] h = one_sign_kind b false h
sign_kind (suc zero) b (c ∷ cs) h = arrow_kind b c cs h
sign_kind (suc (suc n)) b (c ∷ []) h = arrow_kind b c [] h
sign_kind (suc (suc n)) b (c ∷ d ∷ ds) h = absurd (false≢true h)

-- the first byte of a spelling tells its kind
pub kind_of_spelling : (kind : TokenKind) (n b : ℕ) (bs : List ℕ) → spells kind (b ∷ take n bs) ≡ true → kind_of_first b (starts_with_digit bs) ≡ Some kind
kind_of_spelling Word n b bs h = word_kind b (starts_with_digit bs) (and_parts (begins_word b) _ h).0
kind_of_spelling Int n b bs h = int_kind n b bs h
kind_of_spelling Value n b bs h = subst (λ (x : ℕ). kind_of_first x (starts_with_digit bs) ≡ Some Value) (marked_first 37 is_value_name b (take n bs) h) refl
kind_of_spelling Symbol n b bs h = subst (λ (x : ℕ). kind_of_first x (starts_with_digit bs) ≡ Some Symbol) (marked_first 64 is_word b (take n bs) h) refl
kind_of_spelling TypeName n b bs h = subst (λ (x : ℕ). kind_of_first x (starts_with_digit bs) ≡ Some TypeName) (marked_first 33 is_word b (take n bs) h) refl
kind_of_spelling Text n b bs h = subst (λ (x : ℕ). kind_of_first x (starts_with_digit bs) ≡ Some Text) (marked_first 34 is_closed b (take n bs) h) refl
kind_of_spelling Sign n b bs h = sign_kind n b bs h

-- what the kind that is told by the first byte says of that byte
abbrev pub BeginsAs : TokenKind → ℕ → Bool → Type 0
BeginsAs Word b d = begins_word b ≡ true
BeginsAs Int b d = (is_ascii_digit b ≡ true) ⊎ ((b ≡ 45) × (d ≡ true))
BeginsAs Value b d = b ≡ 37
BeginsAs Symbol b d = b ≡ 64
BeginsAs TypeName b d = b ≡ 33
BeginsAs Text b d = b ≡ 34
BeginsAs Sign b d = (is_sign b ≡ true) ⊎ (b ≡ 45)

abbrev pub IfBegins : Option TokenKind → ℕ → Bool → Type 0
IfBegins None b d = Unit {0}
IfBegins (Some kind) b d = BeginsAs kind b d

pub kind_of_first_begins : (b : ℕ) (d : Bool) → IfBegins (kind_of_first b d) b d
kind_of_first_begins b d =
    let P : Option TokenKind → Type 0 = λ o. IfBegins o b d in
    cond_both (is_ascii_digit b) _ _ P (λ e. inl e) (λ _.
    cond_both (begins_word b) _ _ P (λ e. e) (λ _.
    cond_both (b == 37) _ _ P (λ e. eqb-true b 37 e) (λ _.
    cond_both (b == 64) _ _ P (λ e. eqb-true b 64 e) (λ _.
    cond_both (b == 33) _ _ P (λ e. eqb-true b 33 e) (λ _.
    cond_both (b == 34) _ _ P (λ e. eqb-true b 34 e) (λ _.
    cond_both (is_sign b) _ _ P (λ e. inl e) (λ _.
    cond_both (b == 45) _ _ P (λ e. dash_begins b d (eqb-true b 45 e)) (λ _. tt))))))))
  where
    dash_begins : (b : ℕ) (d : Bool) → b ≡ 45 → BeginsAs (cond d Int Sign) b d
    dash_begins b true e = inr (e, refl)
    dash_begins b false e = inr e
