-- What is written behind one more of a list.
use Rattle.std.proofs.Common.{◌≡◌, ℕ, zero, suc, ◌+◌, ◌<◌, nat_lt, List, [], ◌∷◌, ◌++◌, length, get_or, take, sym, ap, ◌∙◌, arith}
use Rattle.std.specs.List.{flat_map, join_by}
use Rattle.std.proofs.lemmas.Bool.{cond-true, lt-ltb}
use Rattle.std.proofs.lemmas.List.{append-nil, append_assoc}
use Rattle.fhe_text.specs.declared.source.Arg.{Arg}
use Rattle.fhe_text.specs.declared.source.Statement.{Statement}
use Rattle.fhe_text.specs.Printing.{comma, comma_before, statement_line, statements_text, arg_text, more_args_text, args_text}

comma_suc : (i : ℕ) → comma_before (suc i) ≡ comma
comma_suc i = cond-true (nat_lt 0 (suc i)) comma [] (lt-ltb 0 (suc i) (omega arith))

flat_suc : {X : Type 0} (g : X → List ℕ) (xs : List X) (i : ℕ) (d : X) → i < length xs → flat_map g (take i xs) ++ g (get_or xs i d) ≡ flat_map g (take (suc i) xs)
flat_suc g [] i d lt = absurd (omega (arith, lt))
flat_suc g (x ∷ xs) zero d lt = sym (append-nil (g x))
flat_suc g (x ∷ xs) (suc i) d lt = append_assoc (g x) (flat_map g (take i xs)) (g (get_or xs i d)) ∙ ap (λ l. g x ++ l) (flat_suc g xs i d (omega (arith, lt)))

joined_suc : {X : Type 0} (f : X → List ℕ) (xs : List X) (i : ℕ) (d : X) → i < length xs → (join_by f comma (take i xs) ++ comma_before i) ++ f (get_or xs i d) ≡ join_by f comma (take (suc i) xs)
joined_suc f [] i d lt = absurd (omega (arith, lt))
joined_suc f (x ∷ xs) zero d lt = sym (append-nil (f x))
joined_suc f (x ∷ xs) (suc i) d lt =
    ap (λ between. ((f x ++ flat_map (λ y. comma ++ f y) (take i xs)) ++ between) ++ f (get_or xs i d)) (comma_suc i)
    ∙ append_assoc (f x ++ flat_map (λ y. comma ++ f y) (take i xs)) comma (f (get_or xs i d)) ∙ append_assoc (f x) (flat_map (λ y. comma ++ f y) (take i xs)) (comma ++ f (get_or xs i d))
    ∙ ap (λ l. f x ++ l) (flat_suc (λ y. comma ++ f y) xs i d (omega (arith, lt)))

-- one more with a comma before it
pub joined_more : {X : Type 0} (f : X → List ℕ) (start : List ℕ) (xs : List X) (i : ℕ) (d : X) → i < length xs → ((start ++ join_by f comma (take i xs)) ++ comma_before i) ++ f (get_or xs i d) ≡ start ++ join_by f comma (take (i + 1) xs)
joined_more f start xs i d lt =
    let more : suc i ≡ i + 1 = omega arith in
    ap (λ l. l ++ f (get_or xs i d)) (append_assoc start (join_by f comma (take i xs)) (comma_before i)) ∙ append_assoc start (join_by f comma (take i xs) ++ comma_before i) (f (get_or xs i d))
    ∙ ap (λ l. start ++ l) (joined_suc f xs i d lt ∙ ap (λ n. join_by f comma (take n xs)) more)

-- one statement more
statements_suc : (args place : ℕ) (body : List Statement) (i : ℕ) (d : Statement) → i < length body → statements_text args place (take i body) ++ statement_line args (place + i) (get_or body i d) ≡ statements_text args place (take (suc i) body)
statements_suc args place [] i d lt = absurd (omega (arith, lt))
statements_suc args place (s ∷ body) zero d lt = let same : place + 0 ≡ place = omega arith in ap (λ n. statement_line args n s) same ∙ sym (append-nil (statement_line args place s))
statements_suc args place (s ∷ body) (suc i) d lt =
    let same : place + suc i ≡ (place + 1) + i = omega arith in
    append_assoc (statement_line args place s) (statements_text args (place + 1) (take i body)) (statement_line args (place + suc i) (get_or body i d))
    ∙ ap (λ n. statement_line args place s ++ (statements_text args (place + 1) (take i body) ++ statement_line args n (get_or body i d))) same
    ∙ ap (λ l. statement_line args place s ++ l) (statements_suc args (place + 1) body i d (omega (arith, lt)))

pub statements_more : (args : ℕ) (start : List ℕ) (body : List Statement) (i : ℕ) (d : Statement) → i < length body → (start ++ statements_text args 0 (take i body)) ++ statement_line args i (get_or body i d) ≡ start ++ statements_text args 0 (take (i + 1) body)
statements_more args start body i d lt =
    let more : suc i ≡ i + 1 = omega arith in
    let same : i ≡ 0 + i = omega arith in
    append_assoc start (statements_text args 0 (take i body)) (statement_line args i (get_or body i d))
    ∙ ap (λ l. start ++ l) (ap (λ n. statements_text args 0 (take i body) ++ statement_line args n (get_or body i d)) same ∙ statements_suc args 0 body i d lt ∙ ap (λ n. statements_text args 0 (take n body)) more)

-- one argument more
more_args_suc : (place : ℕ) (args : List Arg) (i : ℕ) (d : Arg) → i < length args → more_args_text place (take i args) ++ (comma ++ arg_text (place + i) (get_or args i d)) ≡ more_args_text place (take (suc i) args)
more_args_suc place [] i d lt = absurd (omega (arith, lt))
more_args_suc place (a ∷ args) zero d lt =
    let same : place + 0 ≡ place = omega arith in
    ap (λ n. comma ++ arg_text n a) same ∙ ap (λ l. comma ++ l) (sym (append-nil (arg_text place a)))
more_args_suc place (a ∷ args) (suc i) d lt =
    let same : place + suc i ≡ (place + 1) + i = omega arith in
    append_assoc comma (arg_text place a ++ more_args_text (place + 1) (take i args)) (comma ++ arg_text (place + suc i) (get_or args i d))
    ∙ ap (λ l. comma ++ l) (append_assoc (arg_text place a) (more_args_text (place + 1) (take i args)) (comma ++ arg_text (place + suc i) (get_or args i d))
    ∙ ap (λ n. arg_text place a ++ (more_args_text (place + 1) (take i args) ++ (comma ++ arg_text n (get_or args i d)))) same
    ∙ ap (λ l. arg_text place a ++ l) (more_args_suc (place + 1) args i d (omega (arith, lt))))

args_suc : (args : List Arg) (i : ℕ) (d : Arg) → i < length args → (args_text (take i args) ++ comma_before i) ++ arg_text i (get_or args i d) ≡ args_text (take (suc i) args)
args_suc [] i d lt = absurd (omega (arith, lt))
args_suc (a ∷ args) zero d lt = sym (append-nil (arg_text 0 a))
args_suc (a ∷ args) (suc i) d lt =
    ap (λ between. ((arg_text 0 a ++ more_args_text 1 (take i args)) ++ between) ++ arg_text (suc i) (get_or args i d)) (comma_suc i)
    ∙ append_assoc (arg_text 0 a ++ more_args_text 1 (take i args)) comma (arg_text (suc i) (get_or args i d))
    ∙ append_assoc (arg_text 0 a) (more_args_text 1 (take i args)) (comma ++ arg_text (suc i) (get_or args i d))
    ∙ ap (λ l. arg_text 0 a ++ l) (let same : suc i ≡ 1 + i = omega arith in ap (λ n. more_args_text 1 (take i args) ++ (comma ++ arg_text n (get_or args i d))) same ∙ more_args_suc 1 args i d (omega (arith, lt)))

pub args_more : (start : List ℕ) (args : List Arg) (i : ℕ) (d : Arg) → i < length args → ((start ++ args_text (take i args)) ++ comma_before i) ++ arg_text i (get_or args i d) ≡ start ++ args_text (take (i + 1) args)
args_more start args i d lt =
    let more : suc i ≡ i + 1 = omega arith in
    ap (λ l. l ++ arg_text i (get_or args i d)) (append_assoc start (args_text (take i args)) (comma_before i)) ∙ append_assoc start (args_text (take i args) ++ comma_before i) (arg_text i (get_or args i d))
    ∙ ap (λ l. start ++ l) (args_suc args i d lt ∙ ap (λ n. args_text (take n args)) more)
