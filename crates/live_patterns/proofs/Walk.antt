-- The patterns are gone through in order, and each one is dropped or kept.
use Rattle.std.proofs.Common.{◌≡◌, ℕ, ◌+◌, ◌<◌, Bool, true, false, ◌||◌, List, [], ◌∷◌, ◌++◌, length, get_or, refl, sym, ap, ◌∙◌, subst, arith, inl, inr, ℤ}
use Prim.Native.Nat.{zero, suc}
use Rattle.std.specs.Prelude.{◌==◌}
use Rattle.std.specs.List.{AllByRecursion, list_any}
use Rattle.std.proofs.Math.Bool.{or-false}
use Rattle.std.proofs.lemmas.Bool.{cases_Bool, cases_order, eqb-true, eq-eqb, ne_eqb, false≢true, true≢false, or_left, or_right}
use Rattle.std.proofs.lemmas.List.{append-nil, append_assoc, length_push, get_or_append_left, map-append, length-map}
use Rattle.std.proofs.lemmas.List.Folds.{list_any-append}
use Rattle.std.proofs.lemmas.List.Elements.{recursion_from_All}
use Rattle.ir_core.specs.Graph.{place_of, numbers_of}
use Rattle.ap_level.specs.declared.level.ApOp.{ApOp}
use Rattle.ap_level.specs.declared.level.ApOp.TheVariants.{Input, Look, Out}
use Rattle.ap_level.specs.Operations.{operands_of, is_look}
use Rattle.ap_level.specs.Rules.{IsLeafAt, IsTerm, is_user_of}
use Rattle.forms.specs.Terms.{leaves_of}
use Rattle.live_patterns.specs.Found.{KeepsFoundRule, KeepFoundRules, IsNarrow, AreNarrow}
use Rattle.live_patterns.specs.Live.{is_used, is_live, with_live, kept_before}

-- ---- numbers among those that stay

-- one of these has the number
abbrev pub is_there : ℕ → List (ℕ × ApOp) → Bool
is_there number kept = list_any (λ entry. entry.0 == number) kept

-- the one with a number stands at its place among all, which is among the first ones
pub record IsPlaced (all done : List (ℕ × ApOp)) (number : ℕ) : Type 0 where
  pub below : place_of all number < length done
  pub at : get_or (numbers_of done) (place_of all number) 0 ≡ number

-- so do the operands of an operation
abbrev pub ArePlaced : List (ℕ × ApOp) → List (ℕ × ApOp) → ApOp → Type 0
ArePlaced all done op = AllByRecursion (IsPlaced all done) (operands_of op)

placed_first : (entry : ℕ × ApOp) (done more : List (ℕ × ApOp)) (number : ℕ) → (entry.0 == number) ≡ true → IsPlaced ((entry ∷ done) ++ more) (entry ∷ done) number
placed_first entry done more number is =
    let place : place_of ((entry ∷ done) ++ more) number ≡ 0 = rw is refl in
    record {
      below = omega (arith, place);
      at = ap (λ n. get_or (numbers_of (entry ∷ done)) n 0) place ∙ eqb-true entry.0 number is;
    }

placed_later : (entry : ℕ × ApOp) (done more : List (ℕ × ApOp)) (number : ℕ) → (entry.0 == number) ≡ false → IsPlaced (done ++ more) done number → IsPlaced ((entry ∷ done) ++ more) (entry ∷ done) number
placed_later entry done more number is_not placed =
    let place : place_of ((entry ∷ done) ++ more) number ≡ suc (place_of (done ++ more) number) = rw is_not (omega arith) in
    record {
      below = omega (arith, place, placed.below);
      at = ap (λ n. get_or (numbers_of (entry ∷ done)) n 0) place ∙ placed.at;
    }

placed_there : (done more : List (ℕ × ApOp)) (number : ℕ) → is_there number done ≡ true → IsPlaced (done ++ more) done number
placed_there [] more number there = absurd (false≢true there)
placed_there (entry ∷ done) more number there = elim (cases_Bool (entry.0 == number)) [
  | inl is ↦ placed_first entry done more number is
  | inr is_not ↦
      let rest : is_there number done ≡ true = sym (ap (λ b. b || is_there number done) is_not) ∙ there in
      placed_later entry done more number is_not (placed_there done more number rest)
]

pub numbers_push : (done : List (ℕ × ApOp)) (entry : ℕ × ApOp) → numbers_of (done ++ entry ∷ []) ≡ numbers_of done ++ entry.0 ∷ []
numbers_push done entry = map-append (λ (e : ℕ × ApOp). e.0) done (entry ∷ [])

pub length-numbers : (done : List (ℕ × ApOp)) → length (numbers_of done) ≡ length done
length-numbers done = length-map done (λ (e : ℕ × ApOp). e.0)

pub placed_longer : (all done : List (ℕ × ApOp)) (entry : ℕ × ApOp) (number : ℕ) → IsPlaced all done number → IsPlaced all (done ++ entry ∷ []) number
placed_longer all done entry number placed = record {
  below = omega (arith, placed.below, length_push done entry);
  at =
      ap (λ l. get_or l (place_of all number) 0) (numbers_push done entry)
      ∙ get_or_append_left (numbers_of done) (entry.0 ∷ []) 0 (place_of all number) (omega (arith, placed.below, length-numbers done))
      ∙ placed.at;
}

-- the number of an operation is nowhere before it
not_before : (done more : List (ℕ × ApOp)) (entry : ℕ × ApOp) → AllByRecursion (λ (e : ℕ × ApOp). e.0 < entry.0) done → place_of (done ++ entry ∷ more) entry.0 ≡ length done
not_before [] more entry below = let is : (entry.0 == entry.0) ≡ true = eq-eqb entry.0 entry.0 refl in rw is refl
not_before (first ∷ done) more entry below =
    let is_not : (first.0 == entry.0) ≡ false = ne_eqb first.0 entry.0 (λ e. omega (arith, e, below.0)) in
    let rest = not_before done more entry below.1 in
    rw is_not (omega (arith, rest))

-- ---- what is used later is kept

-- the numbers below this one that those behind use are among those kept so far
abbrev AreKept : ℕ → List (ℕ × ApOp) → List (ℕ × ApOp) → Type 0
AreKept number done later = (operand : ℕ) → operand < number → is_used operand later ≡ true → is_there operand done ≡ true

there_push : (number : ℕ) (done : List (ℕ × ApOp)) (entry : ℕ × ApOp) → is_there number (done ++ entry ∷ []) ≡ (is_there number done || (entry.0 == number))
there_push number done entry =
    list_any-append (λ (e : ℕ × ApOp). e.0 == number) done (entry ∷ []) ∙ ap (λ b. is_there number done || b) (or-false (entry.0 == number))

kept_more : (number : ℕ) (op : ApOp) (done later : List (ℕ × ApOp)) → AreKept number done ((number, op) ∷ later) → AreKept (number + 1) (done ++ (number, op) ∷ []) later
kept_more number op done later are operand below used = elim (cases_order operand number) [
  | inl same ↦
      let here : (number == operand) ≡ true = eq-eqb number operand (sym same) in
      there_push operand done (number, op) ∙ or_right (is_there operand done) (number == operand) here
  | inr order ↦ elim order [
    | inl less ↦
        let there : is_there operand done ≡ true = are operand less (or_right (is_user_of operand op) (is_used operand later) used) in
        there_push operand done (number, op) ∙ or_left (is_there operand done) (number == operand) there
    | inr more ↦ absurd (omega (arith, more, below))
  ]
]

kept_without : (number : ℕ) (done later : List (ℕ × ApOp)) → is_used number later ≡ false → AreKept number done later → AreKept (number + 1) done later
kept_without number done later unused are operand below used = elim (cases_order operand number) [
  | inl same ↦ absurd (true≢false (sym used ∙ ap (λ n. is_used n later) same ∙ unused))
  | inr order ↦ elim order [
    | inl less ↦ are operand less used
    | inr more ↦ absurd (omega (arith, more, below))
  ]
]

-- ---- operands stand earlier

leaf_below : (operations : List ApOp) (place : ℕ) → IsLeafAt operations place → place < length operations
leaf_below [] place at = absurd at
leaf_below (op ∷ operations) zero at = omega arith
leaf_below (op ∷ operations) (suc place) at = omega (arith, leaf_below operations place at)

pub terms_below : (earlier : List ApOp) (terms : List (ℕ × ℤ)) → AllByRecursion (IsTerm earlier) terms → AllByRecursion (λ o. o < length earlier) (leaves_of terms)
terms_below earlier [] each = tt
terms_below earlier (t ∷ terms) each = (leaf_below earlier t.0 each.0.leaf, terms_below earlier terms each.1)

pub operands_below : (earlier : List ApOp) (op : ApOp) → KeepsFoundRule earlier op → AllByRecursion (λ o. o < length earlier) (operands_of op)
operands_below earlier (Input lo hi) rule = tt
operands_below earlier (Look constant terms entries) rule = terms_below earlier terms (recursion_from_All (IsTerm earlier) terms rule.form.each)
operands_below earlier (Out constant terms) rule = terms_below earlier terms (recursion_from_All (IsTerm earlier) terms rule.form.each)

-- an operand of an operation is used by it
each_used : (operands : List ℕ) (before : List ℕ) (Q : ℕ → Type 0) → ((o : ℕ) → list_any (λ operand. operand == o) (before ++ operands) ≡ true → Q o) → AllByRecursion Q operands
each_used [] before Q all = tt
each_used (o ∷ operands) before Q all =
    let here : (o == o) ≡ true = eq-eqb o o refl in
    let first : list_any (λ operand. operand == o) (before ++ o ∷ operands) ≡ true
    = list_any-append (λ operand. operand == o) before (o ∷ operands) ∙ or_right (list_any (λ operand. operand == o) before) (list_any (λ operand. operand == o) (o ∷ operands)) (or_left (o == o) (list_any (λ operand. operand == o) operands) here) in
    (all o first, each_used operands (before ++ o ∷ []) Q (λ n used. all n (sym (ap (list_any (λ operand. operand == n)) (append_assoc before (o ∷ []) operands)) ∙ used)))

both : {A : Type 0} (P Q R : A → Type 0) → ((x : A) → P x → Q x → R x) → (xs : List A) → AllByRecursion P xs → AllByRecursion Q xs → AllByRecursion R xs
both P Q R join [] ps qs = tt
both P Q R join (x ∷ xs) ps qs = (join x ps.0 qs.0, both P Q R join xs ps.1 qs.1)

operands_placed : (earlier : List ApOp) (done later : List (ℕ × ApOp)) (op : ApOp) → KeepsFoundRule earlier op → AreKept (length earlier) done ((length earlier, op) ∷ later)
    → ArePlaced (done ++ (length earlier, op) ∷ later) done op
operands_placed earlier done later op rule are =
    both (λ o. o < length earlier) (λ o. is_user_of o op ≡ true) (IsPlaced (done ++ (length earlier, op) ∷ later) done)
    (λ o below used. placed_there done ((length earlier, op) ∷ later) o (are o below (or_left (is_user_of o op) (is_used o later) used)))
    (operands_of op) (operands_below earlier op rule) (each_used (operands_of op) [] (λ o. is_user_of o op ≡ true) (λ o used. used))

-- ---- the walk

-- an operation that is kept: its operands are among those kept before, and where it is a look-up, another one uses it
pub record IsKept (all done : List (ℕ × ApOp)) (earlier : List ApOp) (op : ApOp) : Type 0 where
  pub operands : ArePlaced all done op
  pub used : is_look op ≡ true → is_used (length earlier) all ≡ true
  pub place : AllByRecursion (λ (e : ℕ × ApOp). e.0 < length earlier) done → place_of all (length earlier) ≡ length done
  pub rule : KeepsFoundRule earlier op
  pub narrow : IsNarrow earlier op

-- what holds at the start, and is kept by each step
pub record IsSteady (all : List (ℕ × ApOp)) (Holds : List ApOp → List (ℕ × ApOp) → Type 0) : Type 0 where
  pub dropped : (earlier : List ApOp) (done : List (ℕ × ApOp)) (op : ApOp) → is_look op ≡ true → KeepsFoundRule earlier op → Holds earlier done → Holds (earlier ++ op ∷ []) done
  pub kept : (earlier : List ApOp) (done : List (ℕ × ApOp)) (op : ApOp) → IsKept all done earlier op → Holds earlier done → Holds (earlier ++ op ∷ []) (done ++ (length earlier, op) ∷ [])

used_in_all : (number : ℕ) (done later : List (ℕ × ApOp)) (entry : ℕ × ApOp) → is_used number later ≡ true → is_used number (done ++ entry ∷ later) ≡ true
used_in_all number done later entry used =
    list_any-append (λ (e : ℕ × ApOp). is_user_of number e.1) done (entry ∷ later) ∙ or_right (is_used number done) (is_used number (entry ∷ later)) (or_right (is_user_of number entry.1) (is_used number later) used)

live_look : (number : ℕ) (op : ApOp) (later : List (ℕ × ApOp)) → is_live number op later ≡ true → is_look op ≡ true → is_used number later ≡ true
live_look number (Input lo hi) later live is = absurd (false≢true is)
live_look number (Look constant terms entries) later live is = live
live_look number (Out constant terms) later live is = absurd (false≢true is)

dead_look : (number : ℕ) (op : ApOp) (later : List (ℕ × ApOp)) → is_live number op later ≡ false → (is_look op ≡ true) × (is_used number later ≡ false)
dead_look number (Input lo hi) later dead = absurd (true≢false dead)
dead_look number (Look constant terms entries) later dead = (refl, dead)
dead_look number (Out constant terms) later dead = absurd (true≢false dead)

is_kept : (earlier : List ApOp) (done later all : List (ℕ × ApOp)) (op : ApOp) → KeepsFoundRule earlier op → IsNarrow earlier op → is_live (length earlier) op later ≡ true
    → AreKept (length earlier) done ((length earlier, op) ∷ later) → all ≡ done ++ (length earlier, op) ∷ later → IsKept all done earlier op
is_kept earlier done later all op rule narrow live are whole = record {
  operands = subst (λ l. ArePlaced l done op) (sym whole) (operands_placed earlier done later op rule are);
  used = λ is. ap (is_used (length earlier)) whole ∙ used_in_all (length earlier) done later (length earlier, op) (live_look (length earlier) op later live is);
  place = λ below. ap (λ l. place_of l (length earlier)) whole ∙ not_before done later (length earlier, op) below;
  rule = rule;
  narrow = narrow;
}

longer_by_one : (earlier : List ApOp) (op : ApOp) → length earlier + 1 ≡ length (earlier ++ op ∷ [])
longer_by_one earlier op = sym (length_push earlier op)

walk_from : (all : List (ℕ × ApOp)) (Holds : List ApOp → List (ℕ × ApOp) → Type 0) → IsSteady all Holds → (earlier rest : List ApOp) (done : List (ℕ × ApOp)) (number : ℕ) → number ≡ length earlier
    → KeepFoundRules earlier rest → AreNarrow earlier rest → all ≡ done ++ kept_before number rest [] → AreKept number done (kept_before number rest []) → Holds earlier done → Holds (earlier ++ rest) all
walk_from all Holds steady earlier [] done number same rules narrow whole are holds =
    subst (λ l. Holds l all) (sym (append-nil earlier)) (subst (Holds earlier) (sym (append-nil done) ∙ sym whole) holds)
walk_from all Holds steady earlier (op ∷ rest) done number same rules narrow whole are holds =
    let later = kept_before (number + 1) rest [] in
    let next : number + 1 ≡ length (earlier ++ op ∷ []) = ap (λ n. n + 1) same ∙ longer_by_one earlier op in
    let back : (earlier ++ op ∷ []) ++ rest ≡ earlier ++ op ∷ rest = append_assoc earlier (op ∷ []) rest in
    elim (cases_Bool (is_live number op later)) [
      | inl live ↦
          let stays : with_live number op later ≡ (number, op) ∷ later = rw live refl in
          let entry : (number, op) ≡ (length earlier, op) = ap (λ n. (n, op)) same in
          let are' : AreKept number done ((number, op) ∷ later) = subst (AreKept number done) stays are in
          let whole' : all ≡ done ++ (number, op) ∷ later = whole ∙ ap (λ l. done ++ l) stays in
          let is : IsKept all done earlier op = is_kept earlier done later all op rules.0 narrow.0
          (subst (λ n. is_live n op later ≡ true) same live) (subst (λ n. AreKept n done ((n, op) ∷ later)) same are') (whole' ∙ ap (λ e. done ++ e ∷ later) entry) in
          let step : Holds (earlier ++ op ∷ []) (done ++ (number, op) ∷ []) = subst (λ e. Holds (earlier ++ op ∷ []) (done ++ e ∷ [])) (sym entry) (steady.kept earlier done op is holds) in
          subst (λ l. Holds l all) back
          (walk_from all Holds steady (earlier ++ op ∷ []) rest (done ++ (number, op) ∷ []) (number + 1) next rules.1 narrow.1 (whole' ∙ sym (append_assoc done ((number, op) ∷ []) later)) (kept_more number op done later are') step)
      | inr dead ↦
          let goes : with_live number op later ≡ later = rw dead refl in
          let look = dead_look number op later dead in
          subst (λ l. Holds l all) back
          (walk_from all Holds steady (earlier ++ op ∷ []) rest done (number + 1) next rules.1 narrow.1 (whole ∙ ap (λ l. done ++ l) goes) (kept_without number done later look.1 (subst (AreKept number done) goes are))
          (steady.dropped earlier done op look.0 rules.0 holds))
    ]

pub walk : (operations : List ApOp) (Holds : List ApOp → List (ℕ × ApOp) → Type 0) → KeepFoundRules [] operations → AreNarrow [] operations → IsSteady (kept_before 0 operations []) Holds → Holds [] []
    → Holds operations (kept_before 0 operations [])
walk operations Holds rules narrow steady start =
    walk_from (kept_before 0 operations []) Holds steady [] operations [] 0 refl rules narrow refl (λ operand below used. absurd (omega (arith, below))) start
