-- Lists of the reader against the tokens in their roles, and steps within a step.
use Rattle.std.proofs.Common.{◌≡◌, Bool, true, false, ◌&&◌, List, [], ◌∷◌, ◌++◌, length, cond, refl, sym, ap, ◌∙◌, subst, inl, inr, arith, codes, Ok, Err}
use Rattle.std.specs.List.{list_all}
use Rattle.std.proofs.lemmas.Bool.{cond_both}
use Rattle.std.proofs.lemmas.List.{append-nil, append_assoc}
use Rattle.refusals.specs.Reading.{◌>>=◌}
use Rattle.mlir_lex.specs.declared.TokenKind.TheVariants.{Sign}
use Rattle.fhe_text.specs.Patterns.{Pattern, token, both, IsWhole, optional, ◌▹◌}
use Rattle.fhe_text.specs.Grammar.{listed}
use Rattle.fhe_text.specs.Roles.{Spelled, Role, sign}
use Rattle.fhe_text.specs.Conditions.{Part}
use Rattle.fhe_text.specs.Program.{roles_in}
use Rattle.fhe_text.specs.Reading.{can_be_nothing, wrong_end, parts_from}
use Rattle.fhe_text.specs.Descent.{Read, stands, behind_comma_at, listed_at}
use Rattle.fhe_text.proofs.Going.{ReadsAs, IsReadBy, then_read, both_is, optional_only}
use Rattle.fhe_text.proofs.Choosing.{begins, begins_one, many_read, reads_from, none_same}
use Rattle.fhe_text.proofs.TypeReads.{sign_read}

-- ---- behind the same parts, grouped in another way

reads_moved : {A : Type 0} (p : Pattern Role) (before there : List Part) (tokens : List Spelled) (First Fit : A → List Part → Type 0) (read : Read A) → before ≡ there → ((x : A) (parts : List Part) → First x parts → Fit x parts) → ReadsAs p before tokens First read → ReadsAs p there tokens Fit read
reads_moved p before there tokens First Fit (Ok x) e k h = (h.0, h.1, h.2, k x.0 h.0 h.3, λ others. ap (λ l. parts_from (p ∷ others) l tokens) (sym e) ∙ h.4 others ∙ ap (λ l. parts_from others (l ++ h.0) x.1) e)
reads_moved p before there tokens First Fit (Err wrong) e k h = λ others. ap (λ l. parts_from (p ∷ others) l tokens) (sym e) ∙ h others

pub moved_read : {A : Type 0} {p : Pattern Role} {before there : List Part} {tokens : List Spelled} {First Fit : A → List Part → Type 0} {read : Read A} → before ≡ there → ((x : A) (parts : List Part) → First x parts → Fit x parts) → IsReadBy p before tokens First read → IsReadBy p there tokens Fit read
moved_read {A} {p} {before} {there} {tokens} {First} {Fit} {read} e k h = record { is_read = reads_moved p before there tokens First Fit read e k h.is_read }

-- ---- lists

-- one or more with `,` between: each fits with those before it, and a comma changes nothing
pub listed_read : {S : Type 0} (entry : Pattern Role) (item : S → List Spelled → Read S) (before : List Part) (state : S) (tokens : List Spelled) (Fit : S → List Part → Type 0) → ((state : S) (so_far : List Part) (tokens : List Spelled) → Fit state so_far → IsReadBy entry (before ++ so_far) tokens (λ next more. Fit next (so_far ++ more)) (item state tokens)) → ((state : S) (so_far comma : List Part) → Fit state so_far → IsWhole (token (sign (codes ","))) (roles_in comma) → Fit state (so_far ++ comma)) → Fit state [] → IsReadBy (listed entry) before tokens Fit (listed_at item state tokens)
unfolding listed_at behind_comma_at
listed_read {S} entry item before state tokens Fit one comma_fits fit =
    then_read first (λ x parts whole fits. many_read (token (sign (codes ",")) ▹ entry) (λ ts. stands Sign (codes ",") ts) (behind_comma_at item) (length x.1) (before ++ parts) x.0 x.1 (λ next more. Fit next (parts ++ more)) refl
    (begins_one (token (sign (codes ",")) ▹ entry) (sign (codes ",")) (λ ts. stands Sign (codes ",") ts) refl refl (λ next rest. refl))
    (λ next so_far ts e fits. moved_read (sym (append_assoc before parts so_far)) (λ y more f. subst (λ l. Fit y l) (append_assoc parts so_far more) f) (behind_comma next (parts ++ so_far) ts fits))
    (omega arith) (subst (λ l. Fit x.0 l) (sym (append-nil parts)) fits))
  where
    first : IsReadBy entry before tokens Fit (item state tokens)
    first = moved_read (append-nil before) (λ x parts f. f) (one state [] tokens fit)

    behind_comma : (state : S) (so_far : List Part) (tokens : List Spelled) → Fit state so_far → IsReadBy (token (sign (codes ",")) ▹ entry) (before ++ so_far) tokens (λ next more. Fit next (so_far ++ more)) (behind_comma_at item state tokens)
    behind_comma state so_far tokens fits =
        then_read (sign_read (codes ",") (before ++ so_far) tokens) (λ comma a wa fa.
        moved_read (sym (append_assoc before so_far a)) (λ y more f. subst (λ l. Fit y l) (append_assoc so_far a more) f)
        (one state (so_far ++ a) comma.1 (comma_fits state so_far a fits wa)))

-- ---- none or more before a sign

only_reads : {A : Type 0} (p q : Pattern Role) (before : List Part) (tokens : List Spelled) (Fit : A → List Part → Type 0) (read : Read A) → can_be_nothing p ≡ false → can_be_nothing q ≡ false → begins q tokens ≡ false → ReadsAs (both p q) before tokens Fit read → ReadsAs (both (optional p) q) before tokens Fit read
only_reads p q before tokens Fit read n m e h =
    reads_from (both p q) (both (optional p) q) before tokens Fit read (λ roles w. (w.0, w.1, w.2, inr w.3, w.4))
    (λ others. both_is (optional p) q others before tokens ∙ only_same p q before tokens n m e others ∙ sym (both_is p q others before tokens)) h
  where
    only_same : (p q : Pattern Role) (before : List Part) (tokens : List Spelled) → can_be_nothing p ≡ false → can_be_nothing q ≡ false → begins q tokens ≡ false → (others : List (Pattern Role)) → parts_from (optional p ∷ q ∷ others) before tokens ≡ parts_from (p ∷ q ∷ others) before tokens
    only_same p q before [] n m e others =
        ap (λ b. cond (b && list_all can_be_nothing others) (Ok before) (Err wrong_end)) m ∙ sym (ap (λ b. cond (b && (can_be_nothing q && list_all can_be_nothing others)) (Ok before) (Err wrong_end)) n)
    only_same p q before (next ∷ behind) n m e others = optional_only p q others before next behind n m e

none_reads : {A : Type 0} (p q : Pattern Role) (before : List Part) (tokens : List Spelled) (Fit : A → List Part → Type 0) (read : Read A) → begins p tokens ≡ false → ReadsAs q before tokens Fit read → ReadsAs (both (optional p) q) before tokens Fit read
none_reads p q before tokens Fit read e h =
    reads_from q (both (optional p) q) before tokens Fit read (λ roles w. ([], roles, refl, inl refl, w))
    (λ others. both_is (optional p) q others before tokens ∙ none_same p before tokens e (q ∷ others)) h

-- what stands before `q`, unless `q` begins at once
pub maybe_read : {A B : Type 0} {p q : Pattern Role} {before : List Part} {tokens : List Spelled} {Fit : B → List Part → Type 0} {test : Bool} {x : A} (read : Read A) (next : A × List Spelled → Read B) → begins q tokens ≡ test → can_be_nothing p ≡ false → can_be_nothing q ≡ false → (test ≡ true → begins p tokens ≡ false) → IsReadBy q before tokens Fit (next (x, tokens)) → IsReadBy (both p q) before tokens Fit (read >>= next) → IsReadBy (both (optional p) q) before tokens Fit (cond test (Ok (x, tokens)) read >>= next)
maybe_read {A} {B} {p} {q} {before} {tokens} {Fit} {test} {x} read next same n m apart empty some = record {
  is_read =
      cond_both test (Ok (x, tokens)) read (λ r. ReadsAs (both (optional p) q) before tokens Fit (r >>= next))
      (λ e. none_reads p q before tokens Fit (next (x, tokens)) (apart e) empty.is_read)
      (λ e. only_reads p q before tokens Fit (read >>= next) n m (same ∙ e) some.is_read);
}

-- ---- steps within a step

bound : {A B C : Type 0} (read : Read A) (f : A × List Spelled → Read B) (g : B × List Spelled → Read C) → (read >>= f) >>= g ≡ read >>= (λ x. f x >>= g)
bound (Ok x) f g = refl
bound (Err wrong) f g = refl

-- the steps of a step, and those behind it, one after another
pub bound_read : {A B C : Type 0} {p : Pattern Role} {before : List Part} {tokens : List Spelled} {Fit : C → List Part → Type 0} (read : Read A) (f : A × List Spelled → Read B) (g : B × List Spelled → Read C) → IsReadBy p before tokens Fit (read >>= (λ x. f x >>= g)) → IsReadBy p before tokens Fit ((read >>= f) >>= g)
bound_read {A} {B} {C} {p} {before} {tokens} {Fit} read f g h = subst (λ r. IsReadBy p before tokens Fit r) (sym (bound read f g)) h
