-- What stands behind the last part in a role, and before the next one.
use Rattle.std.proofs.Common.{◌≡◌, suc, ◌+◌, ◌-◌, Bool, true, false, not, ◌||◌, List, [], ◌∷◌, ◌++◌, length, take, drop, cond, refl, sym, ap, ◌∙◌, arith}
use Rattle.std.specs.Prelude.{reverse}
use Rattle.std.specs.List.{list_any, prefix_len, suffix_len, after_last, before_first}
use Rattle.std.proofs.lemmas.Bool.{cond-true, cond-false, or_parts, cond_both}
use Rattle.std.proofs.lemmas.List.{append_assoc, length-append, reverse-append, map-append}
use Rattle.std.proofs.lemmas.List.Folds.{list_any-append}
use Rattle.fhe_text.specs.Roles.{Role}
use Rattle.fhe_text.specs.Conditions.{Part, behind_last}
use Rattle.fhe_text.specs.Program.{roles_in}

module _ {X : Type 0} (test : X → Bool) where
  -- ---- behind the last

  neither : (a b : Bool) → a ≡ false → b ≡ false → (a || b) ≡ false
  neither a b e f = ap (λ x. x || b) e ∙ f

  none_reverse : (xs : List X) → list_any test xs ≡ false → list_any test (reverse xs) ≡ false
  none_reverse [] e = refl
  none_reverse (x ∷ xs) e =
      let parts = or_parts (test x) (list_any test xs) e in
      ap (λ l. list_any test l) (reverse-append (x ∷ []) xs) ∙ list_any-append test (reverse xs) (x ∷ [])
      ∙ neither (list_any test (reverse xs)) (test x || false) (none_reverse xs parts.1) (ap (λ b. b || false) parts.0)

  through : (xs ys : List X) (x : X) → list_any test xs ≡ false → test x ≡ true → prefix_len (λ y. not (test y)) (xs ++ x ∷ ys) ≡ length xs
  through [] ys x e f = cond-false (not (test x)) (1 + prefix_len (λ y. not (test y)) ys) 0 (ap not f)
  through (y ∷ xs) ys x e f =
      let parts = or_parts (test y) (list_any test xs) e in
      let rest : prefix_len (λ y. not (test y)) (xs ++ x ∷ ys) ≡ length xs = through xs ys x parts.1 f in
      cond-true (not (test y)) (1 + prefix_len (λ y. not (test y)) (xs ++ x ∷ ys)) 0 (ap not parts.0) ∙ omega (arith, rest)

  -- it has as many elements as stand behind it
  suffix_behind : (xs ys : List X) (x : X) → list_any test ys ≡ false → test x ≡ true → suffix_len (λ y. not (test y)) (xs ++ x ∷ ys) ≡ length ys
  suffix_behind xs ys x e f =
      ap (λ l. prefix_len (λ y. not (test y)) l) (reverse-append xs (x ∷ ys) ∙ ap (λ l. l ++ reverse xs) (reverse-append (x ∷ []) ys) ∙ append_assoc (reverse ys) (x ∷ []) (reverse xs))
      ∙ through (reverse ys) (reverse xs) x (none_reverse ys e) f ∙ length_reverse ys
    where
      length_reverse : (ys : List X) → length (reverse ys) ≡ length ys
      length_reverse [] = refl
      length_reverse (y ∷ ys) =
          let long : length (reverse ys ++ y ∷ []) ≡ length (reverse ys) + 1 = length-append (reverse ys) (y ∷ []) in
          let rest : length (reverse ys) ≡ length ys = length_reverse ys in
          ap (λ (l : List X). length l) (reverse-append (y ∷ []) ys) ∙ omega (arith, long, rest)

  drop_front : (xs ys : List X) → drop (length xs) (xs ++ ys) ≡ ys
  drop_front [] ys = refl
  drop_front (x ∷ xs) ys = drop_front xs ys

  pub after_last_is : (xs ys : List X) (x : X) → list_any test ys ≡ false → test x ≡ true → after_last test (xs ++ x ∷ ys) ≡ ys
  after_last_is xs ys x e f =
      let behind : suffix_len (λ y. not (test y)) (xs ++ x ∷ ys) ≡ length ys = suffix_behind xs ys x e f in
      let long : length ((xs ++ x ∷ []) ++ ys) ≡ length (xs ++ x ∷ []) + length ys = length-append (xs ++ x ∷ []) ys in
      let same : (xs ++ x ∷ []) ++ ys ≡ xs ++ x ∷ ys = append_assoc xs (x ∷ []) ys in
      let total : length (xs ++ x ∷ ys) ≡ length (xs ++ x ∷ []) + length ys = ap (λ (l : List X). length l) (sym same) ∙ long in
      let count : length (xs ++ x ∷ ys) - suffix_len (λ y. not (test y)) (xs ++ x ∷ ys) ≡ length (xs ++ x ∷ []) = omega (arith, behind, total) in
      ap (λ n. drop n (xs ++ x ∷ ys)) count ∙ ap (λ l. drop (length (xs ++ x ∷ [])) l) (sym same) ∙ drop_front (xs ++ x ∷ []) ys

  -- ---- before the first

  pub before_first_here : (x : X) (xs : List X) → test x ≡ true → before_first test (x ∷ xs) ≡ []
  before_first_here x xs e = ap (λ n. take n (x ∷ xs)) (cond-false (not (test x)) (1 + prefix_len (λ y. not (test y)) xs) 0 (ap not e))

  pub before_first_skip : (x : X) (xs : List X) → test x ≡ false → before_first test (x ∷ xs) ≡ x ∷ before_first test xs
  before_first_skip x xs e =
      let more : 1 + prefix_len (λ y. not (test y)) xs ≡ suc (prefix_len (λ y. not (test y)) xs) = omega arith in
      ap (λ n. take n (x ∷ xs)) (cond-true (not (test x)) (1 + prefix_len (λ y. not (test y)) xs) 0 (ap not e) ∙ more)

  -- what does not pass stands before it
  pub before_first_front : (xs ys : List X) → list_any test xs ≡ false → before_first test (xs ++ ys) ≡ xs ++ before_first test ys
  before_first_front [] ys e = refl
  before_first_front (x ∷ xs) ys e =
      let parts = or_parts (test x) (list_any test xs) e in
      before_first_skip x (xs ++ ys) parts.0 ∙ ap (λ l. x ∷ l) (before_first_front xs ys parts.1)

  -- another test that none passes, none before the first passes
  pub before_first_none : (other : X → Bool) (xs : List X) → list_any other xs ≡ false → list_any other (before_first test xs) ≡ false
  before_first_none other [] e = refl
  before_first_none other (x ∷ xs) e =
      let parts = or_parts (other x) (list_any other xs) e in
      cond_both (test x) true false (λ b. test x ≡ b → list_any other (before_first test (x ∷ xs)) ≡ false)
      (λ f g. ap (λ l. list_any other l) (before_first_here x xs g))
      (λ f g. ap (λ l. list_any other l) (before_first_skip x xs g) ∙ neither (other x) (list_any other (before_first test xs)) parts.0 (before_first_none other xs parts.1))
      (by_test (test x))
    where
      by_test : (b : Bool) → b ≡ cond b true false
      by_test true = refl
      by_test false = refl

-- roles and parts
pub any_roles : (test : Role → Bool) (parts : List Part) → list_any (λ (part : Part). test part.0) parts ≡ list_any test (roles_in parts)
any_roles test [] = refl
any_roles test (part ∷ parts) = ap (λ b. test part.0 || b) (any_roles test parts)

pub behind_last_is : (test : Role → Bool) (before more : List Part) (part : Part) → list_any test (roles_in more) ≡ false → test part.0 ≡ true → behind_last test (before ++ part ∷ more) ≡ more
behind_last_is test before more part e f = after_last_is (λ (p : Part). test p.0) before more part (any_roles test more ∙ e) f

-- the last part in such a role, and what stands behind it
pub record Since (test : Role → Bool) (before mid : List Part) : Type 0 where
  pub front : List Part
  pub part : Part
  pub before_is : before ≡ front ++ part ∷ mid
  pub is_such : test part.0 ≡ true
  pub none : list_any test (roles_in mid) ≡ false

-- behind a part in such a role
pub since_new : (test : Role → Bool) (before : List Part) (part : Part) → test part.0 ≡ true → Since test (before ++ part ∷ []) []
since_new test before part e = record { front = before; part = part; before_is = refl; is_such = e; none = refl }

-- and behind others
pub since_more : (test : Role → Bool) (before mid more : List Part) → Since test before mid → list_any test (roles_in more) ≡ false → Since test (before ++ more) (mid ++ more)
since_more test before mid more h e = record {
  front = h.front;
  part = h.part;
  before_is = ap (λ l. l ++ more) h.before_is ∙ append_assoc h.front (h.part ∷ mid) more;
  is_such = h.is_such;
  none = ap (λ l. list_any test l) (map-append (λ (part : Part). part.0) mid more) ∙ list_any-append test (roles_in mid) (roles_in more)
      ∙ neither test (list_any test (roles_in mid)) (list_any test (roles_in more)) h.none e;
}

pub since_behind : (test : Role → Bool) (before mid : List Part) → Since test before mid → behind_last test before ≡ mid
since_behind test before mid h = ap (behind_last test) h.before_is ∙ behind_last_is test h.front mid h.part h.none h.is_such
