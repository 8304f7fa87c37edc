-- Loops over what stands as often as a test lets, and over what stands between commas.
use Rattle.std.proofs.Common.{◌≡◌, ℕ, zero, suc, ◌<◌, ◌≤◌, Bool, true, false, List, [], ◌∷◌, length, refl, sym, ap, ◌∙◌, subst, arith, codes, Ok}
use Rattle.std.proofs.lemmas.List.{length-map}
use Rattle.std.proofs.lemmas.Bool.{cond-true, cond-false, false≢true}
use Rattle.refusals.specs.Reading.{◌>>=◌, Refuses}
use Rattle.refusals.specs.declared.refusal.Refusal.{Refusal}
use Rattle.refusals.specs.declared.refusal.Refusal.TheVariants.{Fault, Memory}
use Rattle.mlir_lex.specs.declared.TokenKind.TheVariants.{Sign}
use Rattle.fhe_text.specs.declared.fault.Wrong.{Wrong}
use Rattle.fhe_text.specs.declared.rest.Rest.{Rest}
use Rattle.fhe_text.specs.Roles.{Spelled}
use Rattle.fhe_text.specs.Rest.{pieces, IsBehind}
use Rattle.fhe_text.specs.Faults.{spelled}
use Rattle.fhe_text.specs.Descent.{Read, stands, many_at, behind_comma_at, listed_at}

-- behind so many steps, what is left gives what the whole does
pub record IsGoing {S : Type 0} (test : List Spelled → Bool) (step : S → List Spelled → Read S) (state : S) (after : Rest) (target : Read S) : Type 0 where
  pub most : ℕ
  pub enough : length after.tokens.now ≤ most
  pub reads : many_at test step most state (pieces after) ≡ target

-- one step, and the others
abbrev on_step : {S : Type 0} → (List Spelled → Bool) → (S → List Spelled → Read S) → ℕ → S → List Spelled → Read S
on_step test step most state tokens = step state tokens >>= λ next. many_at test step most next.0 next.1

no_step : {S : Type 0} (test : List Spelled → Bool) (step : S → List Spelled → Read S) (most : ℕ) (state : S) (tokens : List Spelled) → test tokens ≡ false → many_at test step most state tokens ≡ Ok (state, tokens)
unfolding many_at
no_step test step zero state tokens e = refl
no_step test step (suc most) state tokens e = cond-false (test tokens) (on_step test step most state tokens) (Ok (state, tokens)) e

a_step : {S : Type 0} (test : List Spelled → Bool) (step : S → List Spelled → Read S) (most : ℕ) (state : S) (tokens : List Spelled) → test tokens ≡ true → many_at test step (suc most) state tokens ≡ on_step test step most state tokens
unfolding many_at
a_step test step most state tokens e = cond-true (test tokens) (on_step test step most state tokens) (Ok (state, tokens)) e

-- before the first step
pub going_first : {S : Type 0} (test : List Spelled → Bool) (step : S → List Spelled → Read S) (state : S) (rest : Rest) → IsGoing test step state rest (many_at test step (length (pieces rest)) state (pieces rest))
going_first test step state rest = record { most = length (pieces rest); enough = omega (arith, length-map rest.tokens.now (spelled rest.bytes.now)); reads = refl }

-- at the end
pub going_end : {S : Type 0} (test : List Spelled → Bool) (step : S → List Spelled → Read S) (state : S) (after : Rest) (target : Read S) → IsGoing test step state after target → test (pieces after) ≡ false → target ≡ Ok (state, pieces after)
going_end test step state after target going e = sym going.reads ∙ no_step test step going.most state (pieces after) e

-- some tokens stand where a test of the first passes
abbrev pub NeedsSome : (List Spelled → Bool) → Type 0
NeedsSome test = test [] ≡ false

some_left : (test : List Spelled → Bool) (tokens : List Spelled) → NeedsSome test → test tokens ≡ true → 0 < length tokens
some_left test [] none e = absurd (false≢true (sym none ∙ e))
some_left test (next ∷ tokens) none e = omega arith

step_left : {S : Type 0} (test : List Spelled → Bool) (step : S → List Spelled → Read S) (most : ℕ) (state : S) (after : Rest) (target : Read S) → NeedsSome test → length after.tokens.now ≤ most → many_at test step most state (pieces after) ≡ target → test (pieces after) ≡ true → (m : ℕ) × (most ≡ suc m) × (on_step test step m state (pieces after) ≡ target)
step_left test step zero state after target none enough reads e =
    let some : 0 < length (pieces after) = some_left test (pieces after) none e in
    absurd (omega (arith, length-map after.tokens.now (spelled after.bytes.now)))
step_left test step (suc most) state after target none enough reads e = (most, refl, sym (a_step test step most state (pieces after) e) ∙ reads)

-- behind one more
pub going_more : {S : Type 0} (test : List Spelled → Bool) (step : S → List Spelled → Read S) (state more : S) (after then_ : Rest) (target : Read S) → NeedsSome test → IsGoing test step state after target → test (pieces after) ≡ true → step state (pieces after) ≡ Ok (more, pieces then_) → IsBehind after then_ → IsGoing test step more then_ target
going_more test step state more after then_ target none going e read behind =
    let on = step_left test step going.most state after target none going.enough going.reads e in
    record {
      most = on.0;
      enough = omega (arith, going.enough, on.1);
      reads = sym (ap (λ r. r >>= λ n. many_at test step on.0 n.0 n.1) read) ∙ on.2;
    }

-- where no further one is read
pub going_refused : {S : Type 0} (test : List Spelled → Bool) (step : S → List Spelled → Read S) (state : S) (after : Rest) (refusal : Refusal Wrong) (target : Read S) → NeedsSome test → IsGoing test step state after target → test (pieces after) ≡ true → Refuses refusal (step state (pieces after)) → Refuses refusal target
going_refused test step state after (Fault wrong) target none going e read =
    let on = step_left test step going.most state after target none going.enough going.reads e in
    sym on.2 ∙ ap (λ r. r >>= λ n. many_at test step on.0 n.0 n.1) read
going_refused test step state after Memory target none going e read = tt

-- ---- lists

-- a comma stands there
abbrev pub comma_stands : List Spelled → Bool
comma_stands tokens = stands Sign (codes ",") tokens

-- behind so much of a list, what is left gives what the whole does
pub record IsLeft {S : Type 0} (item : S → List Spelled → Read S) (state : S) (after whole : Rest) (target : Read S) : Type 0 where
  pub going : IsGoing comma_stands (behind_comma_at item) state after target
  pub behind : IsBehind whole after

-- behind the first of a list
pub left_first : {S : Type 0} (item : S → List Spelled → Read S) (state first : S) (whole after : Rest) → item state (pieces whole) ≡ Ok (first, pieces after) → IsBehind whole after → IsLeft item first after whole (listed_at item state (pieces whole))
unfolding listed_at
left_first item state first whole after e behind = record {
  going = subst (λ target. IsGoing comma_stands (behind_comma_at item) first after target) (sym (ap (λ r. r >>= λ x. many_at comma_stands (behind_comma_at item) (length x.1) x.0 x.1) e)) (going_first comma_stands (behind_comma_at item) first after);
  behind = behind;
}

-- at its end
pub left_end : {S : Type 0} (item : S → List Spelled → Read S) (state : S) (after whole : Rest) (target : Read S) → IsLeft item state after whole target → stands Sign (codes ",") (pieces after) ≡ false → target ≡ Ok (state, pieces after)
left_end item state after whole target left e = going_end comma_stands (behind_comma_at item) state after target left.going e

-- behind one more
pub left_more : {S : Type 0} (item : S → List Spelled → Read S) (state more : S) (after then_ whole : Rest) (target : Read S) → IsLeft item state after whole target → stands Sign (codes ",") (pieces after) ≡ true → behind_comma_at item state (pieces after) ≡ Ok (more, pieces then_) → IsBehind after then_ → IsLeft item more then_ whole target
left_more item state more after then_ whole target left e read behind = record {
  going = going_more comma_stands (behind_comma_at item) state more after then_ target refl left.going e read behind;
  behind = omega (arith, left.behind);
}

-- where no further one is read
pub left_refused : {S : Type 0} (item : S → List Spelled → Read S) (state : S) (after whole : Rest) (refusal : Refusal Wrong) (target : Read S) → IsLeft item state after whole target → stands Sign (codes ",") (pieces after) ≡ true → Refuses refusal (behind_comma_at item state (pieces after)) → Refuses refusal target
left_refused item state after whole refusal target left e read = going_refused comma_stands (behind_comma_at item) state after refusal target refl left.going e read

-- nor the first
pub first_refused : {S : Type 0} (item : S → List Spelled → Read S) (state : S) (tokens : List Spelled) (refusal : Refusal Wrong) → Refuses refusal (item state tokens) → Refuses refusal (listed_at item state tokens)
unfolding listed_at
first_refused item state tokens (Fault wrong) read = ap (λ r. r >>= λ x. many_at comma_stands (behind_comma_at item) (length x.1) x.0 x.1) read
first_refused item state tokens Memory read = tt
