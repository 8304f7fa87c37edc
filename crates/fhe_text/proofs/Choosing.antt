-- The reader's choices and lists against the tokens in their roles.
use Rattle.std.proofs.Common.{◌≡◌, ℕ, zero, suc, ◌+◌, ◌<◌, ◌≤◌, Bool, true, false, ◌&&◌, ◌||◌, List, [], ◌∷◌, ◌++◌, length, cond, refl, sym, ap, ◌∙◌, subst, inl, inr, arith, Ok, Err}
use Rattle.std.specs.List.{list_all}
use Rattle.std.proofs.lemmas.Bool.{cond_both, or_from, and_parts, false_from_ne_true, false≢true}
use Rattle.std.proofs.lemmas.List.{append-nil, append_assoc, map-append, length-append}
use Rattle.refusals.specs.Reading.{◌>>=◌}
use Rattle.mlir_lex.specs.declared.TokenKind.TheVariants.{Word}
use Rattle.fhe_text.specs.Patterns.{Pattern, either, many, IsWhole, optional}
use Rattle.fhe_text.specs.Roles.{Spelled, Role, word, fits}
use Rattle.fhe_text.specs.Conditions.{Part}
use Rattle.fhe_text.specs.Program.{tokens_in, roles_in}
use Rattle.fhe_text.specs.Reading.{can_be_nothing, wrong_end, parts_from}
use Rattle.fhe_text.specs.Descent.{Read, stands, many_at}
use Rattle.fhe_text.proofs.Whole.{whole_nothing}
use Rattle.fhe_text.proofs.Plain.{firsts, apart, apart_excludes}
use Rattle.fhe_text.proofs.Going.{ReadsAs, IsReadBy, any_role, either_left, either_right, either_only, optional_some, optional_none, many_more, many_done}

-- the first token may stand first in the pattern
abbrev pub begins : Pattern Role → List Spelled → Bool
begins p [] = false
begins p (next ∷ rest) = any_role (firsts p) next

or_false : (b : Bool) → (b || false) ≡ b
or_false true = refl
or_false false = refl

-- a test of the one role that may stand first
pub begins_one : (p : Pattern Role) (role : Role) (test : List Spelled → Bool) → firsts p ≡ role ∷ [] → test [] ≡ false → ((next : Spelled) (rest : List Spelled) → test (next ∷ rest) ≡ fits role next) → (tokens : List Spelled) → begins p tokens ≡ test tokens
begins_one p role test one none same [] = sym none
begins_one p role test one none same (next ∷ rest) = ap (λ roles. any_role roles next) one ∙ or_false (fits role next) ∙ sym (same next rest)

-- where a token fits a role, it fits none that is apart from it
none_fits : (role : Role) (roles : List Role) (next : Spelled) → fits role next ≡ true → list_all (apart role) roles ≡ true → any_role roles next ≡ false
none_fits role [] next e h = refl
none_fits role (one ∷ roles) next e h =
    let parts = and_parts (apart role one) (list_all (apart role) roles) h in
    or_from (fits one next) (any_role roles next) (false_from_ne_true (fits one next) (λ f. apart_excludes role one next parts.0 e f)) (none_fits role roles next e parts.1)

-- a word begins no pattern whose first roles are apart from it
pub word_apart : (text : List ℕ) (p : Pattern Role) (tokens : List Spelled) → list_all (apart (word text)) (firsts p) ≡ true → stands Word text tokens ≡ true → begins p tokens ≡ false
word_apart text p [] h e = refl
word_apart text p (next ∷ rest) h e = none_fits (word text) (firsts p) next e h

-- ---- a read at the same tokens

-- what is read where the pattern is, and the others behind it, is what is read where another is
pub reads_from : {A : Type 0} (p q : Pattern Role) (before : List Part) (tokens : List Spelled) (Fit : A → List Part → Type 0) (read : Read A) → ((roles : List Role) → IsWhole p roles → IsWhole q roles) → ((others : List (Pattern Role)) → parts_from (q ∷ others) before tokens ≡ parts_from (p ∷ others) before tokens) → ReadsAs p before tokens Fit read → ReadsAs q before tokens Fit read
reads_from p q before tokens Fit (Ok x) whole same h = (h.0, h.1, whole (roles_in h.0) h.2, h.3, λ others. same others ∙ h.4 others)
reads_from p q before tokens Fit (Err wrong) whole same h = λ others. same others ∙ h others

-- ---- either

left_same : (p q : Pattern Role) (before : List Part) (tokens : List Spelled) → begins p tokens ≡ true → (others : List (Pattern Role)) → parts_from (either p q ∷ others) before tokens ≡ parts_from (p ∷ others) before tokens
left_same p q before [] e others = absurd (false≢true e)
left_same p q before (next ∷ behind) e others = either_left p q others before next behind e

right_same : (p q : Pattern Role) (before : List Part) (tokens : List Spelled) → can_be_nothing p ≡ false → begins p tokens ≡ false → (others : List (Pattern Role)) → parts_from (either p q ∷ others) before tokens ≡ parts_from (q ∷ others) before tokens
right_same p q before [] n e others = ap (λ b. cond ((b || can_be_nothing q) && list_all can_be_nothing others) (Ok before) (Err wrong_end)) n
right_same p q before (next ∷ behind) n e others = either_right p q others before next behind n e

only_same : (p q : Pattern Role) (before : List Part) (tokens : List Spelled) → can_be_nothing p ≡ false → can_be_nothing q ≡ false → begins q tokens ≡ false → (others : List (Pattern Role)) → parts_from (either p q ∷ others) before tokens ≡ parts_from (p ∷ others) before tokens
only_same p q before [] n m e others =
    ap (λ b. cond ((can_be_nothing p || b) && list_all can_be_nothing others) (Ok before) (Err wrong_end)) m
    ∙ ap (λ b. cond ((b || false) && list_all can_be_nothing others) (Ok before) (Err wrong_end)) n
    ∙ sym (ap (λ b. cond (b && list_all can_be_nothing others) (Ok before) (Err wrong_end)) n)
only_same p q before (next ∷ behind) n m e others = either_only p q others before next behind n m e

-- the first where the token begins it, and else the second
pub first_read : {A : Type 0} {p q : Pattern Role} {before : List Part} {tokens : List Spelled} {Fit : A → List Part → Type 0} {test : Bool} {one other : Read A} → begins p tokens ≡ test → can_be_nothing p ≡ false → (test ≡ true → IsReadBy p before tokens Fit one) → (test ≡ false → IsReadBy q before tokens Fit other) → IsReadBy (either p q) before tokens Fit (cond test one other)
first_read {A} {p} {q} {before} {tokens} {Fit} {test} {one} {other} same n first other_ = record {
  is_read =
      cond_both test one other (λ r. ReadsAs (either p q) before tokens Fit r)
      (λ e. reads_from p (either p q) before tokens Fit one (λ roles w. inl w) (left_same p q before tokens (same ∙ e)) (first e).is_read)
      (λ e. reads_from q (either p q) before tokens Fit other (λ roles w. inr w) (right_same p q before tokens n (same ∙ e)) (other_ e).is_read);
}

-- the second where the token begins it and not the first, and else the first
pub second_read : {A : Type 0} {p q : Pattern Role} {before : List Part} {tokens : List Spelled} {Fit : A → List Part → Type 0} {test : Bool} {one other : Read A} → begins q tokens ≡ test → can_be_nothing p ≡ false → can_be_nothing q ≡ false → (test ≡ true → begins p tokens ≡ false) → (test ≡ true → IsReadBy q before tokens Fit one) → (test ≡ false → IsReadBy p before tokens Fit other) → IsReadBy (either p q) before tokens Fit (cond test one other)
second_read {A} {p} {q} {before} {tokens} {Fit} {test} {one} {other} same n m apart first other_ = record {
  is_read =
      cond_both test one other (λ r. ReadsAs (either p q) before tokens Fit r)
      (λ e. reads_from q (either p q) before tokens Fit one (λ roles w. inr w) (right_same p q before tokens n (apart e)) (first e).is_read)
      (λ e. reads_from p (either p q) before tokens Fit other (λ roles w. inl w) (only_same p q before tokens n m (same ∙ e)) (other_ e).is_read);
}

-- ---- what may stand or not

some_same : (p : Pattern Role) (before : List Part) (tokens : List Spelled) → begins p tokens ≡ true → (others : List (Pattern Role)) → parts_from (optional p ∷ others) before tokens ≡ parts_from (p ∷ others) before tokens
some_same p before [] e others = absurd (false≢true e)
some_same p before (next ∷ behind) e others = optional_some p others before next behind e

pub none_same : (p : Pattern Role) (before : List Part) (tokens : List Spelled) → begins p tokens ≡ false → (others : List (Pattern Role)) → parts_from (optional p ∷ others) before tokens ≡ parts_from others before tokens
none_same p before [] e others = refl
none_same p before (next ∷ behind) e others = optional_none p others before next behind e

-- what the token begins, and else nothing
pub optional_read : {A : Type 0} {p : Pattern Role} {before : List Part} {tokens : List Spelled} {Fit : A → List Part → Type 0} {test : Bool} {one : Read A} {x : A} → begins p tokens ≡ test → (test ≡ true → IsReadBy p before tokens Fit one) → Fit x [] → IsReadBy (optional p) before tokens Fit (cond test one (Ok (x, tokens)))
optional_read {A} {p} {before} {tokens} {Fit} {test} {one} {x} same first fit = record {
  is_read =
      cond_both test one (Ok (x, tokens)) (λ r. ReadsAs (optional p) before tokens Fit r)
      (λ e. reads_from p (optional p) before tokens Fit one (λ roles w. inr w) (some_same p before tokens (same ∙ e)) (first e).is_read)
      (λ e. ([], refl, inl refl, fit, λ others. none_same p before tokens (same ∙ e) others ∙ ap (λ l. parts_from others l tokens) (sym (append-nil before))));
}

-- ---- many

more_same : (p : Pattern Role) (before : List Part) (tokens : List Spelled) → begins p tokens ≡ true → (others : List (Pattern Role)) → parts_from (many p ∷ others) before tokens ≡ parts_from (p ∷ many p ∷ others) before tokens
more_same p before [] e others = absurd (false≢true e)
more_same p before (next ∷ behind) e others = many_more p others before next behind e

done_same : (p : Pattern Role) (before : List Part) (tokens : List Spelled) → begins p tokens ≡ false → (others : List (Pattern Role)) → parts_from (many p ∷ others) before tokens ≡ parts_from others before tokens
done_same p before [] e others = refl
done_same p before (next ∷ behind) e others = many_done p others before next behind e

-- a pattern of at least a token has parts
some_parts : (p : Pattern Role) (parts : List Part) → can_be_nothing p ≡ false → IsWhole p (roles_in parts) → 0 < length (tokens_in parts)
some_parts p [] n w = absurd (false≢true (sym n ∙ whole_nothing p [] refl w))
some_parts p (part ∷ parts) n w = omega arith

many_end : {S : Type 0} (p : Pattern Role) (before : List Part) (state : S) (tokens : List Spelled) (Fit : S → List Part → Type 0) → begins p tokens ≡ false → Fit state [] → ReadsAs (many p) before tokens Fit (Ok (state, tokens))
many_end p before state tokens Fit e fit = ([], refl, ([], refl, tt), fit, λ others. done_same p before tokens e others ∙ ap (λ l. parts_from others l tokens) (sym (append-nil before)))

many_then : {S : Type 0} (p : Pattern Role) (before : List Part) (tokens rest : List Spelled) (parts : List Part) (Fit : S → List Part → Type 0) (read : Read S) → tokens ≡ tokens_in parts ++ rest → IsWhole p (roles_in parts) → ((others : List (Pattern Role)) → parts_from (many p ∷ others) before tokens ≡ parts_from (many p ∷ others) (before ++ parts) rest) → ReadsAs (many p) (before ++ parts) rest (λ y more. Fit y (parts ++ more)) read → ReadsAs (many p) before tokens Fit read
many_then p before tokens rest parts Fit (Ok y) there whole step h = (
  parts ++ h.0,
  there ∙ ap (λ l. tokens_in parts ++ l) h.1 ∙ sym (append_assoc (tokens_in parts) (tokens_in h.0) y.1) ∙ ap (λ l. l ++ y.1) (sym (map-append (λ (part : Part). part.1) parts h.0)),
  (roles_in parts ∷ h.2.0, map-append (λ (part : Part). part.0) parts h.0 ∙ ap (λ l. roles_in parts ++ l) h.2.1, (whole, h.2.2)),
  h.3,
  λ others. step others ∙ h.4 others ∙ ap (λ l. parts_from others l y.1) (append_assoc before parts h.0),
)
many_then p before tokens rest parts Fit (Err wrong) there whole step h = λ others. step others ∙ h others

-- one more, and then the others
many_one : {S : Type 0} (p : Pattern Role) (before : List Part) (tokens : List Spelled) (First Fit : S → List Part → Type 0) (read : Read S) (next : S × List Spelled → Read S) → begins p tokens ≡ true → ReadsAs p before tokens First read → ((x : S × List Spelled) (parts : List Part) → tokens ≡ tokens_in parts ++ x.1 → IsWhole p (roles_in parts) → First x.0 parts → ReadsAs (many p) (before ++ parts) x.1 (λ y more. Fit y (parts ++ more)) (next x)) → ReadsAs (many p) before tokens Fit (read >>= next)
many_one p before tokens First Fit (Ok x) next e h k = many_then p before tokens x.1 h.0 Fit (next x) h.1 h.2 (λ others. more_same p before tokens e others ∙ h.4 (many p ∷ others)) (k x h.0 h.1 h.2 h.3)
many_one p before tokens First Fit (Err wrong) next e h k = λ others. more_same p before tokens e others ∙ h (many p ∷ others)

-- fewer are left
fewer : (tokens rest : List Spelled) (parts : List Part) (most : ℕ) → tokens ≡ tokens_in parts ++ rest → 0 < length (tokens_in parts) → length tokens ≤ suc most → length rest ≤ most
fewer tokens rest parts most there some enough =
    let long : length tokens ≡ length (tokens_in parts) + length rest = ap (λ (l : List Spelled). length l) there ∙ length-append (tokens_in parts) rest in
    omega (arith, long, some, enough)

-- the state fits the parts so far
many_steps : {S : Type 0} (p : Pattern Role) (test : List Spelled → Bool) (step : S → List Spelled → Read S) (most : ℕ) (before so_far : List Part) (state : S) (tokens : List Spelled) (Fit : S → List Part → Type 0) → can_be_nothing p ≡ false → ((tokens : List Spelled) → begins p tokens ≡ test tokens) → ((state : S) (so_far : List Part) (tokens : List Spelled) → test tokens ≡ true → Fit state so_far → IsReadBy p (before ++ so_far) tokens (λ next more. Fit next (so_far ++ more)) (step state tokens)) → length tokens ≤ most → Fit state so_far → ReadsAs (many p) (before ++ so_far) tokens (λ next more. Fit next (so_far ++ more)) (many_at test step most state tokens)
unfolding many_at
many_steps p test step zero before so_far state [] Fit n same one enough fit =
    many_end p (before ++ so_far) state [] (λ next more. Fit next (so_far ++ more)) refl (subst (λ l. Fit state l) (sym (append-nil so_far)) fit)
many_steps p test step zero before so_far state (next ∷ behind) Fit n same one enough fit = absurd (omega (arith, enough))
many_steps {S} p test step (suc most) before so_far state tokens Fit n same one enough fit =
    cond_both (test tokens) (step state tokens >>= λ next. many_at test step most next.0 next.1) (Ok (state, tokens)) (λ r. ReadsAs (many p) (before ++ so_far) tokens (λ next more. Fit next (so_far ++ more)) r)
    (λ e. many_one p (before ++ so_far) tokens (λ next more. Fit next (so_far ++ more)) (λ next more. Fit next (so_far ++ more)) (step state tokens) (λ next. many_at test step most next.0 next.1) (same tokens ∙ e) (one state so_far tokens e fit).is_read
    (λ x parts there whole first. again x parts (many_steps p test step most before (so_far ++ parts) x.0 x.1 Fit n same one (fewer tokens x.1 parts most there (some_parts p parts n whole) enough) first)))
    (λ e. many_end p (before ++ so_far) state tokens (λ next more. Fit next (so_far ++ more)) (same tokens ∙ e) (subst (λ l. Fit state l) (sym (append-nil so_far)) fit))
  where
    reads_moved : {A : Type 0} (p : Pattern Role) (before there : List Part) (tokens : List Spelled) (First Fit : A → List Part → Type 0) (read : Read A) → before ≡ there → ((x : A) (parts : List Part) → First x parts → Fit x parts) → ReadsAs p before tokens First read → ReadsAs p there tokens Fit read
    reads_moved p before there tokens First Fit (Ok x) e k h = (h.0, h.1, h.2, k x.0 h.0 h.3, λ others. ap (λ l. parts_from (p ∷ others) l tokens) (sym e) ∙ h.4 others ∙ ap (λ l. parts_from others (l ++ h.0) x.1) e)
    reads_moved p before there tokens First Fit (Err wrong) e k h = λ others. ap (λ l. parts_from (p ∷ others) l tokens) (sym e) ∙ h others

    again : (x : S × List Spelled) (parts : List Part) → ReadsAs (many p) (before ++ (so_far ++ parts)) x.1 (λ next more. Fit next ((so_far ++ parts) ++ more)) (many_at test step most x.0 x.1) → ReadsAs (many p) ((before ++ so_far) ++ parts) x.1 (λ next more. Fit next (so_far ++ (parts ++ more))) (many_at test step most x.0 x.1)
    again x parts h = reads_moved (many p) (before ++ (so_far ++ parts)) ((before ++ so_far) ++ parts) x.1 (λ next more. Fit next ((so_far ++ parts) ++ more)) (λ next more. Fit next (so_far ++ (parts ++ more))) (many_at test step most x.0 x.1) (sym (append_assoc before so_far parts)) (λ next more fit. subst (λ l. Fit next l) (append_assoc so_far parts more) fit) h

-- as many as stand there
pub many_read : {S : Type 0} (p : Pattern Role) (test : List Spelled → Bool) (step : S → List Spelled → Read S) (most : ℕ) (before : List Part) (state : S) (tokens : List Spelled) (Fit : S → List Part → Type 0) → can_be_nothing p ≡ false → ((tokens : List Spelled) → begins p tokens ≡ test tokens) → ((state : S) (so_far : List Part) (tokens : List Spelled) → test tokens ≡ true → Fit state so_far → IsReadBy p (before ++ so_far) tokens (λ next more. Fit next (so_far ++ more)) (step state tokens)) → length tokens ≤ most → Fit state [] → IsReadBy (many p) before tokens Fit (many_at test step most state tokens)
many_read p test step most before state tokens Fit n same one enough fit = record {
  is_read =
      subst (λ l. ReadsAs (many p) l tokens Fit (many_at test step most state tokens)) (append-nil before) (many_steps p test step most before [] state tokens Fit n same one enough fit);
}
