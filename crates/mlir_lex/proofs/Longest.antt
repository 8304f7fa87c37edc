-- The token that a lexer finds at the front is the longest spelling there.
use Rattle.std.proofs.Common.{◌≡◌, ℕ, zero, suc, ◌+◌, ◌≤◌, ◌<◌, true, false, ◌==◌, ◌&&◌, List, [], ◌∷◌, length, take, get_or, refl, sym, ◌∙◌, subst, inl, inr, arith, Option, Some, None, add-one, one-add}
use Rattle.std.specs.Char.{is_ascii_digit}
use Rattle.std.specs.List.{list_all, prefix_len}
use Rattle.std.proofs.lemmas.Bool.{cond_both, and_parts, and_from, or_left, or_right, or_cases, cond-true, eqb-true, eq-eqb, false≢true}
use Rattle.std.proofs.lemmas.Bool.Decides.{nat_tests}
use Rattle.std.proofs.lemmas.List.Sums.{prefix_len-le-length}
use Rattle.mlir_lex.specs.declared.TokenKind.{TokenKind}
use Rattle.mlir_lex.specs.declared.TokenKind.TheVariants.{Word, Int, Value, Symbol, TypeName, Text, Sign}
use Rattle.mlir_lex.specs.Spellings.{begins_word, continues_word, continues_value, is_text_byte, is_sign, is_word, is_digits, is_int, is_value_name, is_closed, is_sign_text, spells}
use Rattle.mlir_lex.specs.Lengths.{kind_of_first, starts_with_digit, marked_length, word_length, closed_length, token_length}
use Rattle.mlir_lex.specs.Tokens.{StartsWith, StartsWithLongest, StartsNoToken}
use Rattle.mlir_lex.proofs.Fronts.{list_all-prefix_len, prefix_len_longest}
use Rattle.mlir_lex.proofs.FirstBytes.{spells-empty, kind_of_spelling, BeginsAs, IfBegins, kind_of_first_begins}

-- no spelling of a length is longer than it, and none is empty
record AtMost (n m : ℕ) : Type 0 where
  pub within : m ≤ n
  pub some_bytes : 0 < m

-- a mark and what follows it
marked_at_most : (n m : ℕ) → AtMost n m → suc m ≤ marked_length n
marked_at_most n m h =
    let within : m ≤ n = h.within in
    let some_bytes : 0 < m = h.some_bytes in
    cond_both (n == 0) 0 (n + 1) (λ k. suc m ≤ k) (λ e. absurd (omega (arith, eqb-true n 0 e))) (λ e. omega arith)

word_at_most : (bs : List ℕ) (m : ℕ) → m ≤ length bs → is_word (take m bs) ≡ true → AtMost (word_length bs) m
word_at_most bs zero h e = absurd (false≢true e)
word_at_most [] (suc m) h e = absurd (false≢true e)
word_at_most (b ∷ bs) (suc m) h e =
    let parts = and_parts (begins_word b) (list_all continues_word (take m bs)) e in
    let rest : m ≤ prefix_len continues_word bs = prefix_len_longest continues_word bs m (omega arith) parts.1 in
    record { within = rw (parts.0) (omega arith); some_bytes = omega arith }

value_at_most : (bs : List ℕ) (m : ℕ) → m ≤ length bs → is_value_name (take m bs) ≡ true → AtMost (prefix_len continues_value bs) m
value_at_most bs zero h e = absurd (false≢true e)
value_at_most [] (suc m) h e = absurd (false≢true e)
value_at_most (b ∷ bs) (suc m) h e = record { within = prefix_len_longest continues_value (b ∷ bs) (suc m) h e; some_bytes = omega arith }

-- a text byte is no quote
quote_is_no_text : (b : ℕ) → (b == 34) ≡ true → is_text_byte b ≡ false
quote_is_no_text b h = subst (λ (x : ℕ). is_text_byte x ≡ false) (sym (eqb-true b 34 h)) refl

-- the place of the quote that closes
pub closes_at : (bs : List ℕ) (m : ℕ) → m ≤ length bs → is_closed (take m bs) ≡ true → (m ≡ prefix_len is_text_byte bs + 1) × ((get_or bs (prefix_len is_text_byte bs) 0 == 34) ≡ true)
closes_at bs zero h e = absurd (false≢true e)
closes_at [] (suc m) h e = absurd (false≢true e)
closes_at (b ∷ bs) (suc zero) h e = rw (quote_is_no_text b e) (refl, e)
closes_at (b ∷ []) (suc (suc m)) h e = absurd (omega arith)
closes_at (b ∷ c ∷ bs) (suc (suc m)) h e =
    let parts = and_parts (is_text_byte b) (is_closed (c ∷ take m bs)) e in
    let rest = closes_at (c ∷ bs) (suc m) (omega arith) parts.1 in
    let place : prefix_len is_text_byte (b ∷ c ∷ bs) ≡ suc (prefix_len is_text_byte (c ∷ bs)) = cond-true (is_text_byte b) (1 + prefix_len is_text_byte (c ∷ bs)) 0 parts.0 ∙ one-add (prefix_len is_text_byte (c ∷ bs)) in
    subst (λ (n : ℕ). (suc (suc m) ≡ n + 1) × ((get_or (b ∷ c ∷ bs) n 0 == 34) ≡ true)) (sym place) (omega (arith, rest.0), rest.1)

closed_at_most : (bs : List ℕ) (m : ℕ) → m ≤ length bs → is_closed (take m bs) ≡ true → AtMost (closed_length bs) m
closed_at_most bs m h e =
    let found = closes_at bs m h e in
    record { within = rw (found.1) (omega (arith, found.0)); some_bytes = omega (arith, found.0) }

digits_at_most : (bs : List ℕ) (m : ℕ) → m ≤ length bs → is_digits (take m bs) ≡ true → m ≤ prefix_len is_ascii_digit bs
digits_at_most bs zero h e = absurd (false≢true e)
digits_at_most [] (suc m) h e = absurd (false≢true e)
digits_at_most (b ∷ bs) (suc m) h e = prefix_len_longest is_ascii_digit (b ∷ bs) (suc m) h e

-- a sign of one byte is no `-`
pub sign_is_no_dash : (b : ℕ) → is_sign b ≡ true → (b == 45) ≡ false
sign_is_no_dash b h = grind (arith, nat_tests)

one_sign_at_most : (b : ℕ) (bs : List ℕ) → is_sign b ≡ true → 1 ≤ token_length Sign b bs
one_sign_at_most b bs h = rw (sign_is_no_dash b h) (omega arith)

arrow_at_most : (b c : ℕ) (cs : List ℕ) → (b == 45 && c == 62) ≡ true → 2 ≤ token_length Sign b (c ∷ cs)
arrow_at_most b c cs h = let parts = and_parts (b == 45) (c == 62) h in rw (parts.0) (rw (parts.1) (omega arith))

sign_at_most : (m b : ℕ) (bs : List ℕ) → m ≤ length bs → is_sign_text (b ∷ take m bs) ≡ true → suc m ≤ token_length Sign b bs
sign_at_most zero b bs h e = one_sign_at_most b bs e
sign_at_most (suc m) b [] h e = absurd (omega arith)
sign_at_most (suc zero) b (c ∷ cs) h e = arrow_at_most b c cs e
sign_at_most (suc (suc m)) b (c ∷ []) h e = absurd (omega arith)
sign_at_most (suc (suc m)) b (c ∷ d ∷ ds) h e = absurd (false≢true e)

-- a front that is spelled in a kind is no longer than the kind's length
pub token_at_most : (kind : TokenKind) (m b : ℕ) (bs : List ℕ) → m ≤ length bs → spells kind (b ∷ take m bs) ≡ true → suc m ≤ token_length kind b bs
token_at_most Word m b bs h e =
    let rest : m ≤ prefix_len continues_word bs = prefix_len_longest continues_word bs m h (and_parts (begins_word b) (list_all continues_word (take m bs)) e).1 in
    omega arith
token_at_most Int m b bs h e =
    let rest : m ≤ prefix_len is_ascii_digit bs =
    elim (or_cases (is_digits (b ∷ take m bs)) (b == 45 && is_digits (take m bs)) e) [
      | inl d ↦ prefix_len_longest is_ascii_digit bs m h (and_parts (is_ascii_digit b) (list_all is_ascii_digit (take m bs)) d).1
      | inr d ↦ digits_at_most bs m h (and_parts (b == 45) (is_digits (take m bs)) d).1
    ] in
    omega arith
token_at_most Value m b bs h e = marked_at_most (prefix_len continues_value bs) m (value_at_most bs m h (and_parts (b == 37) (is_value_name (take m bs)) e).1)
token_at_most Symbol m b bs h e = marked_at_most (word_length bs) m (word_at_most bs m h (and_parts (b == 64) (is_word (take m bs)) e).1)
token_at_most TypeName m b bs h e = marked_at_most (word_length bs) m (word_at_most bs m h (and_parts (b == 33) (is_word (take m bs)) e).1)
token_at_most Text m b bs h e = marked_at_most (closed_length bs) m (closed_at_most bs m h (and_parts (b == 34) (is_closed (take m bs)) e).1)
token_at_most Sign m b bs h e = sign_at_most m b bs h e

-- the front of the kind's length is a spelling, where there is one

-- bytes after the first, as many as n says
abbrev Behind : TokenKind → ℕ → List ℕ → ℕ → Type 0
Behind kind b bs n = (n ≤ length bs) × (spells kind (b ∷ take n bs) ≡ true)

-- a token of the kind and the length starts with the byte
abbrev Spelled : TokenKind → ℕ → List ℕ → ℕ → Type 0
Spelled kind b bs n = 0 < n → StartsWith kind n (b ∷ bs)

spelled_one_more : (kind : TokenKind) (b : ℕ) (bs : List ℕ) (n : ℕ) → Behind kind b bs n → StartsWith kind (1 + n) (b ∷ bs)
spelled_one_more kind b bs n h = subst (λ (k : ℕ). StartsWith kind k (b ∷ bs)) (sym (one-add n)) (omega (arith, h.0), h.1)

spelled_mark : (kind : TokenKind) (b : ℕ) (bs : List ℕ) (n : ℕ) → (0 < n → Behind kind b bs n) → Spelled kind b bs (marked_length n)
spelled_mark kind b bs n h =
    cond_both (n == 0) 0 (n + 1) (λ k. 0 < k → StartsWith kind k (b ∷ bs)) (λ e l. absurd (omega arith))
    (λ e l. subst (λ (k : ℕ). StartsWith kind k (b ∷ bs)) (omega arith) (spelled_one_more kind b bs n (h (above_zero n e))))
  where
    above_zero : (n : ℕ) → (n == 0) ≡ false → 0 < n
    above_zero n e = grind (arith, nat_tests)

word_spelled : (bs : List ℕ) → 0 < word_length bs → StartsWith Word (word_length bs) bs
word_spelled [] h = absurd (omega arith)
word_spelled (b ∷ bs) h =
    cond_both (begins_word b) (1 + prefix_len continues_word bs) 0 (λ k. 0 < k → StartsWith Word k (b ∷ bs))
    (λ e l. spelled_one_more Word b bs (prefix_len continues_word bs) (prefix_len-le-length continues_word bs, and_from (begins_word b) _ e (list_all-prefix_len continues_word bs)))
    (λ e l. absurd (omega arith))
    h

name_of_all : (n : ℕ) (bs : List ℕ) → 0 < n → n ≤ length bs → list_all continues_value (take n bs) ≡ true → is_value_name (take n bs) ≡ true
name_of_all zero bs l h e = absurd (omega arith)
name_of_all (suc n) [] l h e = absurd (omega arith)
name_of_all (suc n) (b ∷ bs) l h e = e

digits_of_all : (n : ℕ) (bs : List ℕ) → 0 < n → n ≤ length bs → list_all is_ascii_digit (take n bs) ≡ true → is_digits (take n bs) ≡ true
digits_of_all zero bs l h e = absurd (omega arith)
digits_of_all (suc n) [] l h e = absurd (omega arith)
digits_of_all (suc n) (b ∷ bs) l h e = e

some_digits : (bs : List ℕ) → starts_with_digit bs ≡ true → 0 < prefix_len is_ascii_digit bs
some_digits [] h = absurd (false≢true h)
some_digits (b ∷ bs) h = rw h (omega arith)

-- where a quote follows the bytes of a text, it closes them
closed_from : (bs : List ℕ) → (get_or bs (prefix_len is_text_byte bs) 0 == 34) ≡ true → (suc (prefix_len is_text_byte bs) ≤ length bs) × (is_closed (take (suc (prefix_len is_text_byte bs)) bs) ≡ true)
closed_from [] h = absurd (false≢true h)
closed_from (b ∷ []) h =
    cond_both (is_text_byte b) 1 0 (λ n. (get_or (b ∷ []) n 0 == 34) ≡ true → (suc n ≤ 1) × (is_closed (take (suc n) (b ∷ [])) ≡ true))
    (λ e g. absurd (false≢true g)) (λ e g. (omega arith, g)) h
closed_from (b ∷ c ∷ bs) h =
    cond_both (is_text_byte b) (1 + prefix_len is_text_byte (c ∷ bs)) 0 (λ n. (get_or (b ∷ c ∷ bs) n 0 == 34) ≡ true → (suc n ≤ suc (suc (length bs))) × (is_closed (take (suc n) (b ∷ c ∷ bs)) ≡ true))
    (λ e. subst (λ (n : ℕ). (get_or (b ∷ c ∷ bs) n 0 == 34) ≡ true → (suc n ≤ suc (suc (length bs))) × (is_closed (take (suc n) (b ∷ c ∷ bs)) ≡ true))
    (sym (one-add (prefix_len is_text_byte (c ∷ bs))))
    (λ g. let rest = closed_from (c ∷ bs) g in (omega (arith, rest.0), and_from (is_text_byte b) _ e rest.1)))
    (λ e g. (omega arith, g))
    h

closed_spelled : (bs : List ℕ) → 0 < closed_length bs → (closed_length bs ≤ length bs) × (is_closed (take (closed_length bs) bs) ≡ true)
closed_spelled bs h =
    cond_both (get_or bs (prefix_len is_text_byte bs) 0 == 34) (prefix_len is_text_byte bs + 1) 0 (λ n. 0 < n → (n ≤ length bs) × (is_closed (take n bs) ≡ true))
    (λ e l. subst (λ (n : ℕ). (n ≤ length bs) × (is_closed (take n bs) ≡ true)) (sym (add-one (prefix_len is_text_byte bs))) (closed_from bs e))
    (λ e l. absurd (omega arith))
    h

int_spelled : (b : ℕ) (bs : List ℕ) → BeginsAs Int b (starts_with_digit bs) → is_int (b ∷ take (prefix_len is_ascii_digit bs) bs) ≡ true
int_spelled b bs (inl e) = or_left (is_digits (b ∷ take (prefix_len is_ascii_digit bs) bs)) _ (and_from (is_ascii_digit b) _ e (list_all-prefix_len is_ascii_digit bs))
int_spelled b bs (inr (e, d)) =
    or_right (is_digits (b ∷ take (prefix_len is_ascii_digit bs) bs)) _
    (and_from (b == 45) _ (eq-eqb b 45 e) (digits_of_all (prefix_len is_ascii_digit bs) bs (some_digits bs d) (prefix_len-le-length is_ascii_digit bs) (list_all-prefix_len is_ascii_digit bs)))

arrow_spelled : (bs : List ℕ) → Spelled Sign 45 bs (token_length Sign 45 bs)
arrow_spelled [] l = absurd (omega arith)
arrow_spelled (c ∷ cs) l =
    cond_both (c == 62) 2 0 (λ k. 0 < k → StartsWith Sign k (45 ∷ c ∷ cs)) (λ e l. (omega arith, e)) (λ e l. absurd (omega arith)) l

sign_spelled : (b : ℕ) (bs : List ℕ) → BeginsAs Sign b (starts_with_digit bs) → Spelled Sign b bs (token_length Sign b bs)
sign_spelled b bs (inl e) l = rw (sign_is_no_dash b e) (omega arith, e)
sign_spelled b bs (inr e) l = subst (λ (x : ℕ). Spelled Sign x bs (token_length Sign x bs)) (sym e) (arrow_spelled bs) l

-- the length of a kind is that of a spelling
pub token_spelled : (kind : TokenKind) (b : ℕ) (bs : List ℕ) → BeginsAs kind b (starts_with_digit bs) → Spelled kind b bs (token_length kind b bs)
token_spelled Word b bs h l = spelled_one_more Word b bs (prefix_len continues_word bs) (prefix_len-le-length continues_word bs, and_from (begins_word b) _ h (list_all-prefix_len continues_word bs))
token_spelled Int b bs h l = spelled_one_more Int b bs (prefix_len is_ascii_digit bs) (prefix_len-le-length is_ascii_digit bs, int_spelled b bs h)
token_spelled Value b bs h l =
    spelled_mark Value b bs (prefix_len continues_value bs)
    (λ some. (prefix_len-le-length continues_value bs, and_from (b == 37) _ (eq-eqb b 37 h) (name_of_all (prefix_len continues_value bs) bs some (prefix_len-le-length continues_value bs) (list_all-prefix_len continues_value bs))))
    l
token_spelled Symbol b bs h l =
    spelled_mark Symbol b bs (word_length bs) (λ some. let word = word_spelled bs some in (word.0, and_from (b == 64) _ (eq-eqb b 64 h) word.1)) l
token_spelled TypeName b bs h l =
    spelled_mark TypeName b bs (word_length bs) (λ some. let word = word_spelled bs some in (word.0, and_from (b == 33) _ (eq-eqb b 33 h) word.1)) l
token_spelled Text b bs h l =
    spelled_mark Text b bs (closed_length bs) (λ some. let closed = closed_spelled bs some in (closed.0, and_from (b == 34) _ (eq-eqb b 34 h) closed.1)) l
token_spelled Sign b bs h l = sign_spelled b bs h l

-- a spelling is not empty
pub starts_with_nothing : (kind : TokenKind) (bytes : List ℕ) → StartsWith kind 0 bytes → ⊥
starts_with_nothing kind bytes h = false≢true (sym (spells-empty kind) ∙ h.1)

-- no token starts at the end
pub no_token_at_end : StartsNoToken []
no_token_at_end kind zero h = starts_with_nothing kind [] h
no_token_at_end kind (suc n) h = absurd (omega (arith, h.0))

-- the kind of each spelling at the front is told by the first byte
pub kind_of_start : (kind : TokenKind) (n b : ℕ) (bs : List ℕ) → StartsWith kind n (b ∷ bs) → kind_of_first b (starts_with_digit bs) ≡ Some kind
kind_of_start kind zero b bs h = absurd (starts_with_nothing kind (b ∷ bs) h)
kind_of_start kind (suc n) b bs h = kind_of_spelling kind n b bs h.1

start_at_most : (kind : TokenKind) (n b : ℕ) (bs : List ℕ) → StartsWith kind n (b ∷ bs) → n ≤ token_length kind b bs
start_at_most kind zero b bs h = omega arith
start_at_most kind (suc n) b bs h = token_at_most kind n b bs (omega (arith, h.0)) h.1

-- spellings of two kinds never stand at one place
pub kinds_agree : (bytes : List ℕ) (kind other : TokenKind) (n m : ℕ) → StartsWith kind n bytes → StartsWith other m bytes → kind ≡ other
kinds_agree [] kind other n m h g = absurd (no_token_at_end kind n h)
kinds_agree (b ∷ bs) kind other n m h g = same (kind_of_start kind n b bs h) (kind_of_start other m b bs g)
  where
    same : {o : Option TokenKind} {k l : TokenKind} → o ≡ Some k → o ≡ Some l → k ≡ l
    same e f = cc

-- where the first byte tells a kind and a token of it stands there, it is the longest of all
pub first_is_longest : (kind : TokenKind) (b : ℕ) (bs : List ℕ) → kind_of_first b (starts_with_digit bs) ≡ Some kind → 0 < token_length kind b bs → StartsWithLongest kind (token_length kind b bs) (b ∷ bs)
first_is_longest kind b bs e l =
    let begins : BeginsAs kind b (starts_with_digit bs) = subst (λ (o : Option TokenKind). IfBegins o b (starts_with_digit bs)) e (kind_of_first_begins b (starts_with_digit bs)) in
    let here : StartsWith kind (token_length kind b bs) (b ∷ bs) = token_spelled kind b bs begins l in
    (here, λ other m h. subst (λ (k : TokenKind). m ≤ token_length k b bs) (kinds_agree (b ∷ bs) other kind m (token_length kind b bs) h here) (start_at_most other m b bs h))

-- where the first byte tells no kind, none starts
pub no_kind_no_token : (b : ℕ) (bs : List ℕ) → kind_of_first b (starts_with_digit bs) ≡ None → StartsNoToken (b ∷ bs)
no_kind_no_token b bs e kind n h = let told = kind_of_start kind n b bs h in cc

-- nor where no token of the kind stands there
pub no_length_no_token : (kind : TokenKind) (b : ℕ) (bs : List ℕ) → kind_of_first b (starts_with_digit bs) ≡ Some kind → token_length kind b bs ≡ 0 → StartsNoToken (b ∷ bs)
no_length_no_token kind b bs e none other zero h = starts_with_nothing other (b ∷ bs) h
no_length_no_token kind b bs e none other (suc n) h =
    let told : kind_of_first b (starts_with_digit bs) ≡ Some other = kind_of_start other (suc n) b bs h in
    let same : other ≡ kind = cc in
    let short : suc n ≤ token_length other b bs = start_at_most other (suc n) b bs h in
    let long : suc n ≤ token_length kind b bs = subst (λ (k : TokenKind). suc n ≤ token_length k b bs) same short in
    absurd (omega (arith, long, none))
