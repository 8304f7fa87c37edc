-- What holds of each value that a step of the reader gives, and of the numbers that it reads.
use Rattle.std.proofs.Common.{◌≡◌, ℕ, zero, suc, ◌+◌, ◌-◌, ◌*◌, ◌^◌, ◌≤◌, Bool, true, false, ◌&&◌, cond, eqb, List, [], ◌∷◌, ◌++◌, length, refl, subst, arith, codes, ℤ, pos, negsuc, Some, None, Option, Ok, Err}
use Rattle.std.specs.Prelude.{nat_le, unsigned_abs}
use Rattle.std.specs.Char.{is_ascii_digit}
use Rattle.std.specs.Int.{is_in_range}
use Rattle.std.specs.List.{AllByRecursion}
use Rattle.std.proofs.lemmas.Bool.{and_parts, cond_both, leb-true, false≢true}
use Rattle.std.proofs.lemmas.Bool.Decides.{nat_tests}
use Rattle.refusals.specs.Reading.{◌>>=◌}
use Rattle.mlir_lex.specs.declared.TokenKind.TheVariants.{Sign}
use Rattle.fhe_text.specs.declared.fault.Wrong.{Wrong}
use Rattle.fhe_text.specs.Roles.{Spelled}
use Rattle.fhe_text.specs.Numbers.{number_of, is_between, natural_between, width_of, length_of, bits_of, itype_of, xtype_of, fits_bits, signed_of, AreBits}
use Rattle.fhe_text.specs.Spellable.{IsWidth, IsLength}
use Rattle.fhe_text.specs.Descent.{Read, stands, some_or, sign_at, many_at, behind_comma_at, listed_at, maybe_listed_at}

-- the value that a step gives, where it gives one, is such a value
abbrev pub GivesSuch : {A : Type 0} → (A → Type 0) → Read A → Type 0
GivesSuch Such (Ok x) = Such x.0
GivesSuch Such (Err wrong) = Unit {0}

pub record Keeps {A : Type 0} (Such : A → Type 0) (read : Read A) : Type 0 where
  pub kept : GivesSuch Such read

-- any value
abbrev pub Anything : {A : Type 0} → A → Type 0
Anything x = Unit {0}

pub any_kept : {A : Type 0} (read : Read A) → Keeps Anything read
any_kept (Ok x) = record { kept = tt }
any_kept (Err wrong) = record { kept = tt }

pub value_kept : {A : Type 0} {Such : A → Type 0} (x : A) (rest : List Spelled) → Such x → Keeps Such (Ok (x, rest))
value_kept x rest h = record { kept = h }

pub refused_kept : {A : Type 0} {Such : A → Type 0} (wrong : Wrong) → Keeps Such (Err wrong)
refused_kept wrong = record { kept = tt }

then_gives : {A B : Type 0} (First : A → Type 0) (Such : B → Type 0) (read : Read A) (next : A × List Spelled → Read B) → GivesSuch First read → ((x : A × List Spelled) → First x.0 → Keeps Such (next x)) → GivesSuch Such (read >>= next)
then_gives First Such (Ok x) next h k = (k x h).kept
then_gives First Such (Err wrong) next h k = tt

-- one step, and then another
pub then_kept : {A B : Type 0} {First : A → Type 0} {Such : B → Type 0} {read : Read A} {next : A × List Spelled → Read B} → Keeps First read → ((x : A × List Spelled) → First x.0 → Keeps Such (next x)) → Keeps Such (read >>= next)
then_kept {A} {B} {First} {Such} {read} {next} h k = record { kept = then_gives First Such read next h.kept k }

-- a step of which nothing is asked, and then another
pub after_kept : {A B : Type 0} {Such : B → Type 0} {next : A × List Spelled → Read B} (read : Read A) → ((x : A × List Spelled) → Keeps Such (next x)) → Keeps Such (read >>= next)
after_kept read k = then_kept (any_kept read) (λ x h. k x)

pub cond_kept : {A : Type 0} {Such : A → Type 0} (test : Bool) (read other : Read A) → (test ≡ true → Keeps Such read) → (test ≡ false → Keeps Such other) → Keeps Such (cond test read other)
cond_kept {A} {Such} test read other h k = cond_both test read other (λ r. Keeps Such r) h k

pub some_kept : {A : Type 0} {Such : A → Type 0} (found : Option A) (rest : List Spelled) (wrong : Wrong) → ((x : A) → found ≡ Some x → Such x) → Keeps Such (some_or found rest wrong)
some_kept (Some x) rest wrong h = record { kept = h x refl }
some_kept None rest wrong h = record { kept = tt }

pub weaker_kept : {A : Type 0} {Such Other : A → Type 0} {read : Read A} → ((x : A) → Such x → Other x) → Keeps Such read → Keeps Other read
weaker_kept {A} {Such} {Other} {read} h k = record { kept = by_read read k.kept }
  where
    by_read : (r : Read A) → GivesSuch Such r → GivesSuch Other r
    by_read (Ok x) g = h x.0 g
    by_read (Err wrong) g = tt

-- ---- loops

pub many_kept : {S : Type 0} {Such : S → Type 0} (test : List Spelled → Bool) (step : S → List Spelled → Read S) → ((s : S) (tokens : List Spelled) → Such s → Keeps Such (step s tokens)) → (most : ℕ) (state : S) (tokens : List Spelled) → Such state → Keeps Such (many_at test step most state tokens)
unfolding many_at
many_kept test step one zero state tokens h = value_kept state tokens h
many_kept test step one (suc most) state tokens h =
    cond_kept (test tokens) (step state tokens >>= λ next. many_at test step most next.0 next.1) (Ok (state, tokens))
    (λ e. then_kept (one state tokens h) (λ x g. many_kept test step one most x.0 x.1 g)) (λ e. value_kept state tokens h)

comma_kept : {S : Type 0} {Such : S → Type 0} (item : S → List Spelled → Read S) → ((s : S) (tokens : List Spelled) → Such s → Keeps Such (item s tokens)) → (s : S) (tokens : List Spelled) → Such s → Keeps Such (behind_comma_at item s tokens)
unfolding behind_comma_at
comma_kept item one s tokens h = after_kept (sign_at (codes ",") tokens) (λ comma. one s comma.1 h)

pub listed_kept : {S : Type 0} {First Such : S → Type 0} (item : S → List Spelled → Read S) → ((s : S) (tokens : List Spelled) → First s → Keeps Such (item s tokens)) → ((s : S) → Such s → First s) → (state : S) (tokens : List Spelled) → First state → Keeps Such (listed_at item state tokens)
unfolding listed_at
listed_kept item one weak state tokens h =
    then_kept (one state tokens h) (λ first g. many_kept (stands Sign (codes ",")) (behind_comma_at item) (comma_kept item (λ s more k. one s more (weak s k))) (length first.1) first.0 first.1 g)

pub maybe_kept : {S : Type 0} {Such : S → Type 0} (close : List ℕ) (item : S → List Spelled → Read S) → ((s : S) (tokens : List Spelled) → Such s → Keeps Such (item s tokens)) → (state : S) (tokens : List Spelled) → Such state → Keeps Such (maybe_listed_at close item state tokens)
unfolding maybe_listed_at
maybe_kept close item one state tokens h =
    cond_kept (stands Sign close tokens) (Ok (state, tokens)) (listed_at item state tokens) (λ e. value_kept state tokens h) (λ e. listed_kept item one (λ s g. g) state tokens h)

-- ---- lists that grow by one

pub all_push : {X : Type 0} (Holds : X → Type 0) (xs : List X) (x : X) → AllByRecursion Holds xs → Holds x → AllByRecursion Holds (xs ++ x ∷ [])
all_push Holds [] x all h = (h, tt)
all_push Holds (y ∷ xs) x all h = (all.0, all_push Holds xs x all.1 h)

-- ---- numbers

-- what a test lets through
taken : {A : Type 0} (test : Bool) (y x : A) → cond test (Some y) None ≡ Some x → (test ≡ true) × (y ≡ x)
taken true y x e = (refl, cc)
taken false y x e = absurd cc

between_pos : (least most : ℕ) (z : ℤ) → is_between (pos least) (pos most) z ≡ true → (least ≤ unsigned_abs z) × (unsigned_abs z ≤ most)
between_pos least most (pos n) e = let parts = and_parts (nat_le least n) (nat_le n most) e in (leb-true least n parts.0, leb-true n most parts.1)
between_pos least most (negsuc n) e = absurd (false≢true e)

natural_taken : (least most : ℕ) (text : List ℕ) (n : ℕ) → natural_between least most text ≡ Some n → (least ≤ n) × (n ≤ most)
natural_taken least most text n e =
    let t = taken (is_between (pos least) (pos most) (number_of text)) (unsigned_abs (number_of text)) n e in
    subst (λ (k : ℕ). (least ≤ k) × (k ≤ most)) t.1 (between_pos least most (number_of text) t.0)

none_is_some : {A : Type 0} (x : A) → None ≡ Some x → ⊥
none_is_some x e = absurd cc

held_or_none : {A : Type 0} (test : Bool) (found : Option A) (x : A) → cond test found None ≡ Some x → found ≡ Some x
held_or_none true found x e = e
held_or_none false found x e = absurd (none_is_some x e)

pub width_taken : (text : List ℕ) (n : ℕ) → width_of text ≡ Some n → IsWidth n
width_taken text n e =
    let t = natural_taken 1 (10 ^ 9 - 1) text n (held_or_none (nat_le (length text) 9) (natural_between 1 (10 ^ 9 - 1) text) n e) in
    (t.0, omega (arith, t.1))

pub length_taken : (text : List ℕ) (n : ℕ) → length_of text ≡ Some n → IsLength n
length_taken text n e = natural_taken 1 (2 ^ 31) text n e

one_digit : (a n : ℕ) → is_in_range 49 57 a ≡ true → a - 48 ≡ n → AreBits n
one_digit a n range e = (grind (arith, nat_tests), grind (arith, nat_tests))

two_digits : (a b n : ℕ) → is_in_range 49 57 a ≡ true → nat_le (10 * (a - 48) + (b - 48)) 64 ≡ true → 10 * (a - 48) + (b - 48) ≡ n → AreBits n
two_digits a b n range most e =
    let top : 10 * (a - 48) + (b - 48) ≤ 64 = leb-true (10 * (a - 48) + (b - 48)) 64 most in
    let low : 49 ≤ a = grind (arith, nat_tests) in
    (omega (arith, low, e), omega (arith, top, e))

bits_taken : (text : List ℕ) (n : ℕ) → bits_of text ≡ Some n → AreBits n
bits_taken [] n e = absurd cc
bits_taken (a ∷ []) n e = let t = taken (is_in_range 49 57 a) (a - 48) n e in one_digit a n t.0 t.1
bits_taken (a ∷ b ∷ []) n e =
    let t = taken (is_in_range 49 57 a && (is_ascii_digit b && nat_le (10 * (a - 48) + (b - 48)) 64)) (10 * (a - 48) + (b - 48)) n e in
    let first = and_parts (is_in_range 49 57 a) (is_ascii_digit b && nat_le (10 * (a - 48) + (b - 48)) 64) t.0 in
    let second = and_parts (is_ascii_digit b) (nat_le (10 * (a - 48) + (b - 48)) 64) first.1 in
    two_digits a b n first.0 second.1 t.1
bits_taken (a ∷ b ∷ c ∷ text) n e = absurd cc

pub itype_taken : (text : List ℕ) (n : ℕ) → itype_of text ≡ Some n → AreBits n
itype_taken [] n e = absurd cc
itype_taken (b ∷ text) n e = bits_taken text n (held_or_none (eqb b 105) (bits_of text) n e)

pub xtype_taken : (text : List ℕ) (n : ℕ) → xtype_of text ≡ Some n → AreBits n
xtype_taken [] n e = absurd cc
xtype_taken (b ∷ text) n e = itype_taken text n (held_or_none (eqb b 120) (itype_of text) n e)

pub signed_taken : (bits : ℕ) (text : List ℕ) (z : ℤ) → signed_of bits text ≡ Some z → fits_bits bits z ≡ true
signed_taken bits text z e =
    let t = taken (fits_bits bits (number_of text)) (number_of text) z e in
    subst (λ (y : ℤ). fits_bits bits y ≡ true) t.1 t.0
