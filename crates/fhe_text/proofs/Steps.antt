-- The reader's loops over tokens that are written one after another.
use Rattle.std.proofs.Common.{◌≡◌, ℕ, zero, suc, ◌+◌, ◌<◌, ◌≤◌, Bool, true, false, List, [], ◌∷◌, ◌++◌, length, refl, sym, ap, ◌∙◌, subst, arith, codes, Ok}
use Rattle.std.specs.List.{AllByRecursion}
use Rattle.std.proofs.lemmas.Bool.{cond-true, cond-false}
use Rattle.std.proofs.lemmas.List.{append-nil, append_assoc}
use Rattle.refusals.specs.Reading.{◌>>=◌}
use Rattle.mlir_lex.specs.declared.TokenKind.TheVariants.{Sign}
use Rattle.fhe_text.specs.Roles.{Spelled}
use Rattle.fhe_text.specs.Descent.{Read, stands, kind_at, role_at, sign_at, many_at, behind_comma_at, listed_at, maybe_listed_at}
use Rattle.fhe_text.proofs.PrintedTokens.{Writing, all_tokens, behind_comma, listed_tokens}

-- a step of the reader goes from the state through all of these, written from the place on, to the last state
-- where what stands behind may follow
abbrev pub GoesWhere : {S X : Type 0} → (List Spelled → Type 0) → (S → List Spelled → Read S) → Writing X → ℕ → S → List X → S → Type 0
GoesWhere Follow step write place state [] last = state ≡ last
GoesWhere {S} Follow step write place state (x ∷ xs) last =
    (next : S) × ((rest : List Spelled) → Follow rest → step state (write place x rest) ≡ Ok (next, rest)) × GoesWhere Follow step write (place + 1) next xs last

-- anything may follow
abbrev pub Any : List Spelled → Type 0
Any rest = Unit {0}

abbrev pub Goes : {S X : Type 0} → (S → List Spelled → Read S) → Writing X → ℕ → S → List X → S → Type 0
Goes step write place state xs last = GoesWhere Any step write place state xs last

-- each is written as a token at least
abbrev pub IsLonger : {X : Type 0} → Writing X → Type 0
IsLonger {X} write = (place : ℕ) (x : X) (rest : List Spelled) → length rest < length (write place x rest)

-- and passes the test of a loop
abbrev pub Passes : {X : Type 0} → Writing X → (List Spelled → Bool) → Bool → Type 0
Passes {X} write test b = (place : ℕ) (x : X) (rest : List Spelled) → test (write place x rest) ≡ b

enough_tokens : {X : Type 0} (write : Writing X) → IsLonger write → (place : ℕ) (xs : List X) (rest : List Spelled) → length xs ≤ length (all_tokens write place xs rest)
enough_tokens write longer place [] rest = omega arith
enough_tokens write longer place (x ∷ xs) rest =
    let behind : length xs ≤ length (all_tokens write (place + 1) xs rest) = enough_tokens write longer (place + 1) xs rest in
    let more : length (all_tokens write (place + 1) xs rest) < length (write place x (all_tokens write (place + 1) xs rest)) = longer place x (all_tokens write (place + 1) xs rest) in
    omega (arith, behind, more)

all_longer : {X : Type 0} (write : Writing X) → IsLonger write → (place : ℕ) (xs : List X) (rest : List Spelled) → length rest ≤ length (all_tokens write place xs rest)
all_longer write longer place [] rest = omega arith
all_longer write longer place (x ∷ xs) rest =
    let behind : length rest ≤ length (all_tokens write (place + 1) xs rest) = all_longer write longer (place + 1) xs rest in
    let more : length (all_tokens write (place + 1) xs rest) < length (write place x (all_tokens write (place + 1) xs rest)) = longer place x (all_tokens write (place + 1) xs rest) in
    omega (arith, behind, more)

comma_longer : {X : Type 0} (write : Writing X) → IsLonger write → IsLonger (behind_comma write)
comma_longer write longer place x rest = let shorter : length rest < length (write place x rest) = longer place x rest in omega (arith, shorter)

pub listed_longer : {X : Type 0} (write : Writing X) → IsLonger write → (place : ℕ) (xs : List X) (rest : List Spelled) → length rest ≤ length (listed_tokens write place xs rest)
listed_longer write longer place [] rest = omega arith
listed_longer write longer place (x ∷ xs) rest =
    let behind : length rest ≤ length (all_tokens (behind_comma write) (place + 1) xs rest) = all_longer (behind_comma write) (comma_longer write longer) (place + 1) xs rest in
    let more : length (all_tokens (behind_comma write) (place + 1) xs rest) < length (write place x (all_tokens (behind_comma write) (place + 1) xs rest)) = longer place x (all_tokens (behind_comma write) (place + 1) xs rest) in
    omega (arith, behind, more)

-- ---- as many as stand there

many_none : {S : Type 0} (test : List Spelled → Bool) (step : S → List Spelled → Read S) (most : ℕ) (state : S) (rest : List Spelled) → test rest ≡ false → many_at test step most state rest ≡ Ok (state, rest)
unfolding many_at
many_none test step zero state rest e = refl
many_none test step (suc most) state rest e = cond-false (test rest) (step state rest >>= λ next. many_at test step most next.0 next.1) (Ok (state, rest)) e

many_one : {S : Type 0} (test : List Spelled → Bool) (step : S → List Spelled → Read S) (most : ℕ) (state next : S) (tokens rest : List Spelled) → test tokens ≡ true → step state tokens ≡ Ok (next, rest) → many_at test step (suc most) state tokens ≡ many_at test step most next rest
unfolding many_at
many_one test step most state next tokens rest e s =
    cond-true (test tokens) (step state tokens >>= λ n. many_at test step most n.0 n.1) (Ok (state, tokens)) e
    ∙ ap (λ r. r >>= λ n. many_at test step most n.0 n.1) s

-- what is written of more of them may follow
abbrev pub MayFollow : {X : Type 0} → Writing X → (List Spelled → Type 0) → Type 0
MayFollow {X} write Follow = (place : ℕ) (x : X) (rest : List Spelled) → Follow (write place x rest)

all_follow : {X : Type 0} (write : Writing X) (Follow : List Spelled → Type 0) → MayFollow write Follow → (place : ℕ) (xs : List X) (rest : List Spelled) → Follow rest → Follow (all_tokens write place xs rest)
all_follow write Follow may place [] rest f = f
all_follow write Follow may place (x ∷ xs) rest f = may place x (all_tokens write (place + 1) xs rest)

many_goes : {S X : Type 0} (Follow : List Spelled → Type 0) (test : List Spelled → Bool) (step : S → List Spelled → Read S) (write : Writing X) (place most : ℕ) (state : S) (xs : List X) (last : S) (rest : List Spelled) → GoesWhere Follow step write place state xs last → MayFollow write Follow → Follow rest → Passes write test true → test rest ≡ false → length xs ≤ most → many_at test step most state (all_tokens write place xs rest) ≡ Ok (last, rest)
many_goes Follow test step write place most state [] last rest goes may f passes e le = many_none test step most state rest e ∙ ap (λ s. Ok (s, rest)) goes
many_goes Follow test step write place zero state (x ∷ xs) last rest goes may f passes e le = absurd (omega (arith, le))
many_goes Follow test step write place (suc most) state (x ∷ xs) last rest goes may f passes e le =
    many_one test step most state goes.0 (write place x (all_tokens write (place + 1) xs rest)) (all_tokens write (place + 1) xs rest) (passes place x (all_tokens write (place + 1) xs rest)) (goes.1 (all_tokens write (place + 1) xs rest) (all_follow write Follow may (place + 1) xs rest f))
    ∙ many_goes Follow test step write (place + 1) most goes.0 xs last rest goes.2 may f passes e (omega (arith, le))

-- a loop over all tokens has steps enough
all_where : {S X : Type 0} (Follow : List Spelled → Type 0) (test : List Spelled → Bool) (step : S → List Spelled → Read S) (write : Writing X) (place : ℕ) (state : S) (xs : List X) (last : S) (rest : List Spelled) → GoesWhere Follow step write place state xs last → MayFollow write Follow → Follow rest → IsLonger write → Passes write test true → test rest ≡ false → many_at test step (length (all_tokens write place xs rest)) state (all_tokens write place xs rest) ≡ Ok (last, rest)
all_where Follow test step write place state xs last rest goes may f longer passes e =
    many_goes Follow test step write place (length (all_tokens write place xs rest)) state xs last rest goes may f passes e (enough_tokens write longer place xs rest)

pub all_goes : {S X : Type 0} (test : List Spelled → Bool) (step : S → List Spelled → Read S) (write : Writing X) (place : ℕ) (state : S) (xs : List X) (last : S) (rest : List Spelled) → Goes step write place state xs last → IsLonger write → Passes write test true → test rest ≡ false → many_at test step (length (all_tokens write place xs rest)) state (all_tokens write place xs rest) ≡ Ok (last, rest)
all_goes test step write place state xs last rest goes longer passes e =
    all_where Any test step write place state xs last rest goes (λ p x more. tt) tt longer passes e

-- ---- with `,` between

comma_step : {S : Type 0} (item : S → List Spelled → Read S) (state : S) (rest : List Spelled) → behind_comma_at item state ((Sign, codes ",") ∷ rest) ≡ item state rest
unfolding behind_comma_at sign_at role_at kind_at
comma_step item state rest = refl

comma_goes : {S X : Type 0} (Follow : List Spelled → Type 0) (item : S → List Spelled → Read S) (write : Writing X) (place : ℕ) (state : S) (xs : List X) (last : S) → GoesWhere Follow item write place state xs last → GoesWhere Follow (behind_comma_at item) (behind_comma write) place state xs last
comma_goes Follow item write place state [] last goes = goes
comma_goes Follow item write place state (x ∷ xs) last goes =
    (goes.0, λ rest f. comma_step item state (write place x rest) ∙ goes.1 rest f, comma_goes Follow item write (place + 1) goes.0 xs last goes.2)

listed_first : {S : Type 0} (item : S → List Spelled → Read S) (state next : S) (tokens rest : List Spelled) → item state tokens ≡ Ok (next, rest) → listed_at item state tokens ≡ many_at (stands Sign (codes ",")) (behind_comma_at item) (length rest) next rest
unfolding listed_at
listed_first item state next tokens rest e = ap (λ r. r >>= λ first. many_at (stands Sign (codes ",")) (behind_comma_at item) (length first.1) first.0 first.1) e

-- more of a list may follow
abbrev pub CommaFollows : (List Spelled → Type 0) → Type 0
CommaFollows Follow = (tokens : List Spelled) → Follow ((Sign, codes ",") ∷ tokens)

-- one or more
pub listed_where : {S X : Type 0} (Follow : List Spelled → Type 0) (item : S → List Spelled → Read S) (write : Writing X) (place : ℕ) (state : S) (x : X) (xs : List X) (last : S) (rest : List Spelled) → GoesWhere Follow item write place state (x ∷ xs) last → CommaFollows Follow → Follow rest → IsLonger write → stands Sign (codes ",") rest ≡ false → listed_at item state (listed_tokens write place (x ∷ xs) rest) ≡ Ok (last, rest)
listed_where Follow item write place state x xs last rest goes may f longer e =
    let behind : List Spelled = all_tokens (behind_comma write) (place + 1) xs rest in
    listed_first item state goes.0 (write place x behind) behind (goes.1 behind (all_follow (behind_comma write) Follow (λ p y more. may (write p y more)) (place + 1) xs rest f))
    ∙ all_where Follow (stands Sign (codes ",")) (behind_comma_at item) (behind_comma write) (place + 1) goes.0 xs last rest (comma_goes Follow item write (place + 1) goes.0 xs last goes.2)
    (λ p y more. may (write p y more)) f (comma_longer write longer) (λ p y more. refl) e

pub listed_goes : {S X : Type 0} (item : S → List Spelled → Read S) (write : Writing X) (place : ℕ) (state : S) (x : X) (xs : List X) (last : S) (rest : List Spelled) → Goes item write place state (x ∷ xs) last → IsLonger write → stands Sign (codes ",") rest ≡ false → listed_at item state (listed_tokens write place (x ∷ xs) rest) ≡ Ok (last, rest)
listed_goes item write place state x xs last rest goes longer e = listed_where Any item write place state x xs last rest goes (λ tokens. tt) tt longer e

maybe_none : {S : Type 0} (close : List ℕ) (item : S → List Spelled → Read S) (state : S) (rest : List Spelled) → stands Sign close rest ≡ true → maybe_listed_at close item state rest ≡ Ok (state, rest)
unfolding maybe_listed_at
maybe_none close item state rest e = cond-true (stands Sign close rest) (Ok (state, rest)) (listed_at item state rest) e

maybe_some : {S : Type 0} (close : List ℕ) (item : S → List Spelled → Read S) (state : S) (tokens : List Spelled) → stands Sign close tokens ≡ false → maybe_listed_at close item state tokens ≡ listed_at item state tokens
unfolding maybe_listed_at
maybe_some close item state tokens e = cond-false (stands Sign close tokens) (Ok (state, tokens)) (listed_at item state tokens) e

-- none or more, before the sign
pub maybe_where : {S X : Type 0} (Follow : List Spelled → Type 0) (close : List ℕ) (item : S → List Spelled → Read S) (write : Writing X) (place : ℕ) (state : S) (xs : List X) (last : S) (rest : List Spelled) → GoesWhere Follow item write place state xs last → CommaFollows Follow → Follow rest → IsLonger write → Passes write (stands Sign close) false → stands Sign close rest ≡ true → stands Sign (codes ",") rest ≡ false → maybe_listed_at close item state (listed_tokens write place xs rest) ≡ Ok (last, rest)
maybe_where Follow close item write place state [] last rest goes may f longer passes c e = maybe_none close item state rest c ∙ ap (λ s. Ok (s, rest)) goes
maybe_where Follow close item write place state (x ∷ xs) last rest goes may f longer passes c e =
    maybe_some close item state (listed_tokens write place (x ∷ xs) rest) (passes place x (all_tokens (behind_comma write) (place + 1) xs rest))
    ∙ listed_where Follow item write place state x xs last rest goes may f longer e

pub maybe_goes : {S X : Type 0} (close : List ℕ) (item : S → List Spelled → Read S) (write : Writing X) (place : ℕ) (state : S) (xs : List X) (last : S) (rest : List Spelled) → Goes item write place state xs last → IsLonger write → Passes write (stands Sign close) false → stands Sign close rest ≡ true → stands Sign (codes ",") rest ≡ false → maybe_listed_at close item state (listed_tokens write place xs rest) ≡ Ok (last, rest)
maybe_goes close item write place state xs last rest goes longer passes c e = maybe_where Any close item write place state xs last rest goes (λ tokens. tt) tt longer passes c e

-- ---- steps that put each value behind those before

pub appends_goes : {X : Type 0} (item : List X → List Spelled → Read (List X)) (write : X → List Spelled → List Spelled) (Holds : X → Type 0) → ((found : List X) (x : X) → Holds x → (rest : List Spelled) → item found (write x rest) ≡ Ok (found ++ x ∷ [], rest)) → (place : ℕ) (found xs : List X) → AllByRecursion Holds xs → Goes item (λ p. write) place found xs (found ++ xs)
appends_goes item write Holds one place found [] all = sym (append-nil found)
appends_goes {X} item write Holds one place found (x ∷ xs) all = (
  found ++ x ∷ [],
  λ rest f. one found x all.0 rest,
  subst (λ (l : List X). Goes item (λ p. write) (place + 1) (found ++ x ∷ []) xs l) (append_assoc found (x ∷ []) xs) (appends_goes item write Holds one (place + 1) (found ++ x ∷ []) xs all.1),
)
