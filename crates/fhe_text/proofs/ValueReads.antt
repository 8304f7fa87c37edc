-- Names of values against the tokens in their roles.
use Rattle.std.proofs.Common.{◌≡◌, ℕ, suc, ◌+◌, ◌-◌, Bool, true, false, not, ◌||◌, nat_lt, List, [], ◌∷◌, ◌++◌, length, take, cond, refl, sym, ap, ◌∙◌, inl, inr, arith, Some, None}
use Rattle.std.specs.Prelude.{is_some, unwrap_or}
use Rattle.std.specs.List.{list_any, prefix_len, position}
use Rattle.std.specs.Str.{bytes_eq}
use Rattle.std.proofs.lemmas.Bool.{cond_both, cond-false, cases_Bool, false≢true}
use Rattle.std.proofs.lemmas.Bool.Decides.{nat_tests}
use Rattle.std.proofs.lemmas.List.{length-append}
use Rattle.fhe_text.specs.Patterns.{token}
use Rattle.fhe_text.specs.Roles.{Spelled, Role, operand, returned}
use Rattle.fhe_text.specs.Conditions.{Part, is_among, names_of}
use Rattle.fhe_text.specs.Program.{value_number}
use Rattle.fhe_text.specs.Descent.{number_among, known_name_at}
use Rattle.fhe_text.proofs.Going.{IsReadBy, IsSpelledBy, judged_token, fit_read}

-- ---- places in a list

one_more : (b : Bool) (n len : ℕ) (r : Bool) → r ≡ nat_lt n len → (b || r) ≡ nat_lt (cond (not b) (1 + n) 0) (suc len)
one_more true n len r e = grind (arith, nat_tests)
one_more false n len r e = e ∙ grind (arith, nat_tests)

any_before_end : {X : Type 0} (test : X → Bool) (xs : List X) → list_any test xs ≡ nat_lt (prefix_len (λ x. not (test x)) xs) (length xs)
any_before_end test [] = refl
any_before_end test (x ∷ xs) = one_more (test x) (prefix_len (λ y. not (test y)) xs) (length xs) (list_any test xs) (any_before_end test xs)

-- a place is found where one passes
any_position : {X : Type 0} (test : X → Bool) (xs : List X) → list_any test xs ≡ is_some (position test xs)
any_position test xs = any_before_end test xs ∙ sym (some_where (nat_lt (prefix_len (λ x. not (test x)) xs) (length xs)) (prefix_len (λ x. not (test x)) xs))
  where
    some_where : (b : Bool) (n : ℕ) → is_some (cond b (Some n) None) ≡ b
    some_where true n = refl
    some_where false n = refl

-- and it is that of the first that does
position_is : {X : Type 0} (test : X → Bool) (xs : List X) (n : ℕ) → Some n ≡ position test xs → n ≡ prefix_len (λ x. not (test x)) xs
position_is test xs n e =
    cond_both (nat_lt (prefix_len (λ x. not (test x)) xs) (length xs)) (Some (prefix_len (λ x. not (test x)) xs)) None (λ o. Some n ≡ o → n ≡ prefix_len (λ x. not (test x)) xs)
    (λ f g. ap (λ o. unwrap_or o n) g) (λ f g. absurd cc) e

-- names behind do not change it
first_kept : {X : Type 0} (test : X → Bool) (xs ys : List X) → list_any test xs ≡ true → prefix_len (λ x. not (test x)) (xs ++ ys) ≡ prefix_len (λ x. not (test x)) xs
first_kept test [] ys e = absurd (false≢true e)
first_kept test (x ∷ xs) ys e =
    elim (cases_Bool (test x)) [
      | inl f ↦ cond-false (not (test x)) _ 0 (ap not f) ∙ sym (cond-false (not (test x)) (1 + prefix_len (λ y. not (test y)) xs) 0 (ap not f))
      | inr f ↦ ap (λ n. cond (not (test x)) (1 + n) 0) (first_kept test xs ys (sym (ap (λ b. b || list_any test xs) f) ∙ e))
    ]

pub number_kept : (names more : List (List ℕ)) (name : List ℕ) → is_among names name ≡ true → value_number (names ++ more) name ≡ value_number names name
number_kept names more name e = first_kept (bytes_eq name) names more e

-- ---- names

take_front : {X : Type 0} (xs ys : List X) → take (length xs) (xs ++ ys) ≡ xs
take_front [] ys = refl
take_front (x ∷ xs) ys = ap (λ l. x ∷ l) (take_front xs ys)

all_but_last : {X : Type 0} (xs : List X) (x : X) → take (length (xs ++ x ∷ []) - 1) (xs ++ x ∷ []) ≡ xs
all_but_last xs x =
    let long : length (xs ++ x ∷ []) ≡ length xs + 1 = length-append xs (x ∷ []) in
    let count : length (xs ++ x ∷ []) - 1 ≡ length xs = omega (arith, long) in
    ap (λ n. take n (xs ++ x ∷ [])) count ∙ take_front xs (x ∷ [])

-- the number of a value whose name is among the names
pub record IsValue (role : Role) (names : List (List ℕ)) (number : ℕ) (parts : List Part) : Type 0 where
  pub found : Spelled
  pub parts_are : parts ≡ (role, found) ∷ []
  pub among : is_among names found.1 ≡ true
  pub number_is : number ≡ value_number names found.1

value_from : (role : Role) (names : List (List ℕ)) (number : ℕ) (parts : List Part) → IsSpelledBy role (number_among names) number parts → IsValue role names number parts
value_from role names number parts h = record {
  found = h.found;
  parts_are = h.parts_are;
  among = any_position (bytes_eq h.found.1) names ∙ sym (ap is_some h.value_is);
  number_is = position_is (bytes_eq h.found.1) names number h.value_is;
}

-- an operand: the last name that stands before it is its own statement's
pub operand_read : (names : List (List ℕ)) (own : List ℕ) (before : List Part) (tokens : List Spelled) → names_of before ≡ names ++ own ∷ [] → IsReadBy (token operand) before tokens (IsValue operand names) (known_name_at names tokens)
unfolding known_name_at
operand_read names own before tokens same =
    fit_read (judged_token operand before tokens (number_among names) (λ t. refl)
    (λ t. ap (λ l. is_among l t) (ap (λ (l : List (List ℕ)). take (length l - 1) l) same ∙ all_but_last names own) ∙ any_position (bytes_eq t) names))
    (λ n parts whole h. value_from operand names n parts h)

-- a returned value
pub returned_read : (names : List (List ℕ)) (before : List Part) (tokens : List Spelled) → names_of before ≡ names → IsReadBy (token returned) before tokens (IsValue returned names) (known_name_at names tokens)
unfolding known_name_at
returned_read names before tokens same =
    fit_read (judged_token returned before tokens (number_among names) (λ t. refl) (λ t. ap (λ l. is_among l t) same ∙ any_position (bytes_eq t) names))
    (λ n parts whole h. value_from returned names n parts h)
