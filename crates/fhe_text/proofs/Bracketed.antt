-- Lists of the reader in brackets, with what stands behind them.
use Rattle.std.proofs.Common.{◌≡◌, ℕ, true, false, List, [], ◌++◌, cond, refl, sym, ap, ◌∙◌, subst, inl, inr, codes, Ok}
use Rattle.std.specs.List.{list_all}
use Rattle.std.proofs.lemmas.List.{append-nil, append_assoc, map-append}
use Rattle.refusals.specs.Reading.{◌>>=◌}
use Rattle.mlir_lex.specs.declared.TokenKind.TheVariants.{Sign}
use Rattle.fhe_text.specs.Patterns.{Pattern, token, both, IsWhole, ◌▹◌}
use Rattle.fhe_text.specs.Roles.{Spelled, Role, sign}
use Rattle.fhe_text.specs.Grammar.{Production, listed, maybe_listed}
use Rattle.fhe_text.specs.Conditions.{Part}
use Rattle.fhe_text.specs.Program.{roles_in}
use Rattle.fhe_text.specs.Reading.{can_be_nothing}
use Rattle.fhe_text.specs.Descent.{Read, stands, sign_at, listed_at, maybe_listed_at}
use Rattle.fhe_text.proofs.Plain.{firsts}
use Rattle.fhe_text.proofs.Going.{IsReadBy, then_read}
use Rattle.fhe_text.proofs.Choosing.{begins_one}
use Rattle.fhe_text.proofs.TypeReads.{sign_read}
use Rattle.fhe_text.proofs.DictReads.{no_sign, sign_apart}
use Rattle.fhe_text.proofs.Listing.{moved_read, bound_read, maybe_read, listed_read}

-- both are whole
pub whole_both : (p q : Pattern Role) (a b : List Part) → IsWhole p (roles_in a) → IsWhole q (roles_in b) → IsWhole (both p q) (roles_in (a ++ b))
whole_both p q a b wa wb = (roles_in a, roles_in b, map-append (λ (part : Part). part.0) a b, wa, wb)

-- none or more in brackets
abbrev pub bracketed : Production → Production
bracketed entry = token (sign (codes "(")) ▹ maybe_listed entry ▹ token (sign (codes ")"))

-- the `)`
abbrev pub closing : {S : Type 0} → S × List Spelled → Read S
closing found = sign_at (codes ")") found.1 >>= λ close. Ok (found.0, close.1)

-- entries in brackets, and then another step: each fits with those before it, and a sign changes nothing
pub bracketed_read : {S B : Type 0} {q : Pattern Role} {Last : B → List Part → Type 0} (entry : Production) (item : S → List Spelled → Read S) (before : List Part) (state : S) (tokens : List Spelled) (Fit : S → List Part → Type 0) (next : S × List Spelled → Read B)
    → list_all no_sign (firsts (listed entry)) ≡ true → can_be_nothing (listed entry) ≡ false
    → ((state : S) (so_far : List Part) (tokens : List Spelled) → Fit state so_far → IsReadBy entry (before ++ so_far) tokens (λ next more. Fit next (so_far ++ more)) (item state tokens))
    → ((text : List ℕ) (state : S) (so_far more : List Part) → Fit state so_far → IsWhole (token (sign text)) (roles_in more) → Fit state (so_far ++ more))
    → Fit state []
    → ((x : S × List Spelled) (parts : List Part) → IsWhole (bracketed entry) (roles_in parts) → Fit x.0 parts → IsReadBy q (before ++ parts) x.1 (λ y more. Last y (parts ++ more)) (next x))
    → IsReadBy (token (sign (codes "(")) ▹ maybe_listed entry ▹ token (sign (codes ")")) ▹ q) before tokens Last ((sign_at (codes "(") tokens >>= λ open_. maybe_listed_at (codes ")") item state open_.1 >>= λ found. closing found) >>= next)
unfolding maybe_listed_at
bracketed_read {S} {B} {q} {Last} entry item before state tokens Fit next signless some one signs fit behind =
    bound_read (sign_at (codes "(") tokens) (λ open_. cond (stands Sign (codes ")") open_.1) (Ok (state, open_.1)) (listed_at item state open_.1) >>= λ found. closing found) next
    (then_read (sign_read (codes "(") before tokens) (λ open_ a wa fa.
    bound_read (cond (stands Sign (codes ")") open_.1) (Ok (state, open_.1)) (listed_at item state open_.1)) (λ found. closing found) next
    (maybe_read (listed_at item state open_.1) (λ found. closing found >>= next)
    (begins_one (token (sign (codes ")")) ▹ q) (sign (codes ")")) (λ ts. stands Sign (codes ")") ts) refl refl (λ n rest. refl) open_.1) some refl
    (λ e. sign_apart (codes ")") (listed entry) open_.1 signless e)
    (moved_read (append-nil (before ++ a)) (λ y more l. l) (closed a wa [] (inl refl) (state, open_.1) (subst (λ l. Fit state l) (sym (append-nil a)) (opened a wa))))
    (then_read (entries a wa open_.1) (λ found m wm fm. closed a wa m (inr wm) found fm)))))
  where
    opened : (a : List Part) → IsWhole (token (sign (codes "("))) (roles_in a) → Fit state a
    opened a wa = signs (codes "(") state [] a fit wa

    entries : (a : List Part) → IsWhole (token (sign (codes "("))) (roles_in a) → (ts : List Spelled) → IsReadBy (listed entry) (before ++ a) ts (λ s so_far. Fit s (a ++ so_far)) (listed_at item state ts)
    entries a wa ts =
        listed_read entry item (before ++ a) state ts (λ s so_far. Fit s (a ++ so_far))
        (λ s so_far ts h. moved_read (sym (append_assoc before a so_far)) (λ y more f. subst (λ l. Fit y l) (append_assoc a so_far more) f) (one s (a ++ so_far) ts h))
        (λ s so_far comma h wc. subst (λ l. Fit s l) (append_assoc a so_far comma) (signs (codes ",") s (a ++ so_far) comma h wc))
        (subst (λ l. Fit state l) (sym (append-nil a)) (opened a wa))

    closed : (a : List Part) → IsWhole (token (sign (codes "("))) (roles_in a) → (m : List Part) → IsWhole (maybe_listed entry) (roles_in m) → (x : S × List Spelled) → Fit x.0 (a ++ m) → IsReadBy (token (sign (codes ")")) ▹ q) ((before ++ a) ++ m) x.1 (λ y more. Last y (a ++ (m ++ more))) (closing x >>= next)
    closed a wa m wm x fm =
        bound_read (sign_at (codes ")") x.1) (λ close. Ok (x.0, close.1)) next
        (then_read (sign_read (codes ")") ((before ++ a) ++ m) x.1) (λ close c wc fc.
        moved_read (sym (append_assoc (before ++ a) m c ∙ append_assoc before a (m ++ c)))
        (λ y more l. subst (λ ps. Last y ps) (append_assoc a (m ++ c) more ∙ ap (λ ps. a ++ ps) (append_assoc m c more)) l)
        (behind (x.0, close.1) (a ++ (m ++ c)) (whole_both (token (sign (codes "("))) (maybe_listed entry ▹ token (sign (codes ")"))) a (m ++ c) wa (whole_both (maybe_listed entry) (token (sign (codes ")"))) m c wm wc)) (subst (λ ps. Fit x.0 ps) (append_assoc a m c) (signs (codes ")") x.0 (a ++ m) c fm wc)))))
