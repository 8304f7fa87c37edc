-- The names of values as they are printed: each value has its own.
use Rattle.std.proofs.Common.{◌≡◌, ℕ, zero, suc, ◌+◌, ◌-◌, ◌<◌, ◌≤◌, Bool, true, false, cond, nat_lt, ◌||◌, List, [], ◌∷◌, ◌++◌, length, get_or, refl, sym, ap, ◌∙◌, inl, inr, arith, codes, Some, None, length-append}
use Rattle.std.specs.Fmt.{decimal}
use Rattle.std.specs.List.{list_any, position, position_or_len}
use Rattle.std.specs.Str.{bytes_eq}
use Rattle.std.proofs.lemmas.Bool.{cond-true, cond-false, cases_lt, lt-ltb, le-ltb, false_from_ne_true, or_from}
use Rattle.std.proofs.Math.Seq.{get_or-append_right}
use Rattle.std.proofs.lemmas.List.{get_or_append_left}
use Rattle.std.proofs.lemmas.List.Sums.{position_or_len_is}
use Rattle.std.proofs.lemmas.Slice.Eq.{bytes_eq-Decides}
use Rattle.fhe_text.specs.Conditions.{is_among}
use Rattle.fhe_text.specs.Printing.{value_text}
use Rattle.fhe_text.proofs.Decimals.{IsShort, decimal_apart, decimal_no_letter}

-- the names of so many values, in order
abbrev pub names_to : ℕ → ℕ → List (List ℕ)
names_to args zero = []
names_to args (suc n) = names_to args n ++ value_text args n ∷ []

pub argument_name : (args place : ℕ) → place < args → value_text args place ≡ 37 ∷ 97 ∷ 114 ∷ 103 ∷ decimal place
argument_name args place lt = cond-true (nat_lt place args) (codes "%arg" ++ decimal place) (codes "%" ++ decimal (place - args)) (lt-ltb place args lt)

statement_text_is : (args value : ℕ) → args ≤ value → value_text args value ≡ 37 ∷ decimal (value - args)
statement_text_is args value le = cond-false (nat_lt value args) (codes "%arg" ++ decimal value) (codes "%" ++ decimal (value - args)) (le-ltb value args le)

pub statement_name : (args place : ℕ) → value_text args (args + place) ≡ 37 ∷ decimal place
statement_name args place = statement_text_is args (args + place) (omega arith) ∙ ap (λ n. 37 ∷ decimal n) (omega arith)

-- ---- two names

behind_mark : (x y : List ℕ) → 37 ∷ x ≡ 37 ∷ y → x ≡ y
behind_mark x y e = cc

behind_letters : (x y : List ℕ) → 37 ∷ 97 ∷ 114 ∷ 103 ∷ x ≡ 37 ∷ 97 ∷ 114 ∷ 103 ∷ y → x ≡ y
behind_letters x y e = cc

mixed : (n m : ℕ) → IsShort m → 37 ∷ 97 ∷ 114 ∷ 103 ∷ decimal n ≡ 37 ∷ decimal m → ⊥
mixed n m few e = decimal_no_letter m 97 (114 ∷ 103 ∷ decimal n) few (omega arith) (sym (behind_mark (97 ∷ 114 ∷ 103 ∷ decimal n) (decimal m) e))

pub names_apart : (args value other : ℕ) → IsShort value → IsShort other → value_text args value ≡ value_text args other → value ≡ other
names_apart args value other few more e =
    elim (cases_lt value args) [
      | inl lt ↦ elim (cases_lt other args) [
        | inl gt ↦ decimal_apart value other few more (behind_letters (decimal value) (decimal other) (sym (argument_name args value lt) ∙ e ∙ argument_name args other gt))
        | inr le ↦ absurd (mixed value (other - args) (omega (arith, more)) (sym (argument_name args value lt) ∙ e ∙ statement_text_is args other le))
      ]
      | inr ge ↦ elim (cases_lt other args) [
        | inl gt ↦ absurd (mixed other (value - args) (omega (arith, few)) (sym (argument_name args other gt) ∙ sym e ∙ statement_text_is args value ge))
        | inr le ↦
            let same : value - args ≡ other - args = decimal_apart (value - args) (other - args) (omega (arith, few)) (omega (arith, more)) (behind_mark (decimal (value - args)) (decimal (other - args)) (sym (statement_text_is args value ge) ∙ e ∙ statement_text_is args other le)) in
            omega (arith, same, ge, le)
      ]
    ]

not_same : (args value other : ℕ) → IsShort value → IsShort other → (value ≡ other → ⊥) → bytes_eq (value_text args value) (value_text args other) ≡ false
not_same args value other few more apart =
    false_from_ne_true (bytes_eq (value_text args value) (value_text args other)) (λ e. apart (names_apart args value other few more ((bytes_eq-Decides (value_text args value) (value_text args other)).0 e)))

-- ---- the list of names

pub names_count : (args n : ℕ) → length (names_to args n) ≡ n
names_count args zero = refl
names_count args (suc n) = let before : length (names_to args n) ≡ n = names_count args n in omega (arith, before, length-append (names_to args n) (value_text args n ∷ []))

any_push : (test : List ℕ → Bool) (xs : List (List ℕ)) (x : List ℕ) → list_any test xs ≡ false → test x ≡ false → list_any test (xs ++ x ∷ []) ≡ false
any_push test [] x none e = or_from (test x) false e refl
any_push test (y ∷ xs) x none e =
    let parts = split_or (test y) (list_any test xs) none in
    or_from (test y) (list_any test (xs ++ x ∷ [])) parts.0 (any_push test xs x parts.1 e)
  where
    split_or : (a b : Bool) → (a || b) ≡ false → (a ≡ false) × (b ≡ false)
    split_or true b f = absurd cc
    split_or false b f = (refl, f)

not_among : (args n value : ℕ) → IsShort value → n ≤ value → is_among (names_to args n) (value_text args value) ≡ false
not_among args zero value few le = refl
not_among args (suc n) value few le =
    any_push (bytes_eq (value_text args value)) (names_to args n) (value_text args n) (not_among args n value few (omega (arith, le)))
    (not_same args value n few (omega (arith, few, le)) (λ e. absurd (omega (arith, le, e))))

-- the next name is new
pub name_is_new : (args n : ℕ) → IsShort n → is_among (names_to args n) (value_text args n) ≡ false
name_is_new args n few = not_among args n n few (omega arith)

name_at : (args n k : ℕ) → k < n → get_or (names_to args n) k [] ≡ value_text args k
name_at args zero k lt = absurd (omega (arith, lt))
name_at args (suc n) k lt =
    let before : length (names_to args n) ≡ n = names_count args n in
    elim (cases_lt k n) [
      | inl here ↦ get_or_append_left (names_to args n) (value_text args n ∷ []) [] k (omega (arith, here, before)) ∙ name_at args n k here
      | inr last ↦
          let same : k ≡ n = omega (arith, lt, last) in
          let zero_place : k - length (names_to args n) ≡ 0 = omega (arith, same, before) in
          get_or-append_right (names_to args n) (value_text args n ∷ []) k [] (omega (arith, same, before))
          ∙ ap (λ i. get_or (value_text args n ∷ []) i []) zero_place ∙ ap (value_text args) (sym same)
    ]

-- a value is found by its name
pub value_found : (args n value : ℕ) → IsShort n → value < n → position (bytes_eq (value_text args value)) (names_to args n) ≡ Some value
value_found args n value few lt =
    let count : length (names_to args n) ≡ n = names_count args n in
    let there : position_or_len (bytes_eq (value_text args value)) (names_to args n) ≡ value =
    position_or_len_is (bytes_eq (value_text args value)) (names_to args n) value [] (omega (arith, count, lt))
    (λ k before. ap (bytes_eq (value_text args value)) (name_at args n k (omega (arith, before, lt))) ∙ not_same args value k (omega (arith, few, lt)) (omega (arith, few, lt, before)) (λ e. absurd (omega (arith, before, e))))
    (λ within. ap (bytes_eq (value_text args value)) (name_at args n value lt) ∙ (bytes_eq-Decides (value_text args value) (value_text args value)).1 refl) in
    ap (λ i. cond (nat_lt i (length (names_to args n))) (Some i) None) there
    ∙ cond-true (nat_lt value (length (names_to args n))) (Some value) None (lt-ltb value (length (names_to args n)) (omega (arith, count, lt)))
