-- A form that stays keeps its rule, and no two look-ups become one.
use Rattle.std.proofs.Common.{◌≡◌, ℕ, ◌+◌, ◌<◌, ◌≤◌, true, ◌||◌, List, [], ◌∷◌, length, map, drop, get_or, refl, sym, ap, ◌∙◌, subst, arith, inl, inr, ℤ}
use Prim.Native.Nat.{zero, suc}
use Rattle.std.specs.Prelude.{Some, slice_get, AllPairs, IsSomeAnd, IsTrue, Contains, ◌==◌}
use Rattle.std.specs.List.{AllByRecursion, list_any}
use Rattle.std.proofs.lemmas.Bool.{cases_Bool, cases_order, eqb-true, eq-eqb, false≢true, or_left, or_right}
use Rattle.std.proofs.lemmas.List.{length-map}
use Rattle.std.proofs.lemmas.List.Elements.{All-from_recursion, recursion_from_All}
use Rattle.std.proofs.lemmas.Option.{slice_get_within, get_or_from_slice_get}
use Rattle.forms.specs.Forms.{AreRising}
use Rattle.forms.specs.Terms.{leaves_of, terms_on}
use Rattle.ir_core.specs.Graph.{place_of, numbers_of}
use Rattle.ap_level.specs.declared.level.ApOp.{ApOp}
use Rattle.ap_level.specs.declared.level.ApOp.TheVariants.{Input, Look, Out}
use Rattle.ap_level.specs.Operations.{operands_of, is_look, is_leaf}
use Rattle.ap_level.specs.PutOperands.{put_is_read}
use Rattle.ap_level.specs.Rules.{IsLeafAt, IsTerm, IsForm, is_user_of}
use Rattle.live_patterns.specs.Live.{renumbered, in_places, is_used}
use Rattle.live_patterns.proofs.Walk.{IsPlaced, ArePlaced, length-numbers}

-- the terms under the new numbers of their leaves
abbrev pub moved_terms : (ℕ → ℕ) → List (ℕ × ℤ) → List (ℕ × ℤ)
moved_terms numbering terms = terms_on terms (map numbering (leaves_of terms))

-- what stands in the patterns so far
abbrev pub StandsThere : List ApOp → ℕ × ApOp → Type 0
StandsThere earlier e = slice_get earlier e.0 ≡ Some e.1

-- ---- leaves

leaf_renumbered : (numbering : ℕ → ℕ) (op : ApOp) → is_leaf (renumbered numbering op) ≡ is_leaf op
leaf_renumbered numbering (Input lo hi) = refl
leaf_renumbered numbering (Look constant terms entries) = refl
leaf_renumbered numbering (Out constant terms) = refl

leaf_at : (numbering : ℕ → ℕ) (earlier : List ApOp) (done : List (ℕ × ApOp)) (place number : ℕ) → AllByRecursion (StandsThere earlier) done → place < length done → get_or (numbers_of done) place 0 ≡ number → IsLeafAt earlier number
    → IsLeafAt (map (λ (e : ℕ × ApOp). renumbered numbering e.1) done) place
leaf_at numbering earlier [] place number at below is leaf = absurd (omega arith)
leaf_at numbering earlier (e ∷ done) zero number at below is leaf =
    let here : slice_get earlier number ≡ Some e.1 = sym (ap (slice_get earlier) is) ∙ at.0 in
    let one : IsTrue (is_leaf e.1) = subst (λ found. IsSomeAnd found (λ op. IsTrue (is_leaf op))) here leaf in
    leaf_renumbered numbering e.1 ∙ one
leaf_at numbering earlier (e ∷ done) (suc place) number at below is leaf = leaf_at numbering earlier done place number at.1 (omega arith) is leaf

pub leaf_moved : (all : List (ℕ × ApOp)) (earlier : List ApOp) (done : List (ℕ × ApOp)) (number : ℕ) → AllByRecursion (StandsThere earlier) done → IsPlaced all done number → IsLeafAt earlier number → IsLeafAt (in_places all done) (place_of all number)
leaf_moved all earlier done number at placed leaf = leaf_at (place_of all) earlier done (place_of all number) number at placed.below placed.at leaf

terms_moved : (all : List (ℕ × ApOp)) (earlier : List ApOp) (done : List (ℕ × ApOp)) (terms : List (ℕ × ℤ)) → AllByRecursion (StandsThere earlier) done → AllByRecursion (IsPlaced all done) (leaves_of terms) → AllByRecursion (IsTerm earlier) terms
    → AllByRecursion (IsTerm (in_places all done)) (moved_terms (place_of all) terms)
terms_moved all earlier done [] at placed each = tt
terms_moved all earlier done (t ∷ terms) at placed each =
    (record { leaf = leaf_moved all earlier done t.0 at placed.0 each.0.leaf; weight = each.0.weight; size = each.0.size }, terms_moved all earlier done terms at placed.1 each.1)

-- ---- the order of leaves

order_stays : (all done : List (ℕ × ApOp)) (first second : ℕ) → AllPairs (λ a b. a < b) (numbers_of done) → IsPlaced all done first → IsPlaced all done second → first < second → place_of all first < place_of all second
order_stays all done first second rising one two lt =
    let p = place_of all first in
    let q = place_of all second in
    elim (cases_order p q) [
      | inl same ↦ absurd (omega (arith, lt, one.at, two.at, ap (λ n. get_or (numbers_of done) n 0) same))
      | inr order ↦ elim order [
        | inl less ↦ less
        | inr more ↦ absurd (omega (arith, lt, one.at, two.at, rising q p 0 more (omega (arith, one.below, length-numbers done))))
      ]
    ]

rising_moved : (all done : List (ℕ × ApOp)) (low least : ℕ) (terms : List (ℕ × ℤ)) → AllPairs (λ a b. a < b) (numbers_of done) → AreRising low terms → AllByRecursion (IsPlaced all done) (leaves_of terms)
    → ((o : ℕ) → IsPlaced all done o → low ≤ o → least ≤ place_of all o) → AreRising least (moved_terms (place_of all) terms)
rising_moved all done low least [] rising are placed bound = tt
rising_moved all done low least (t ∷ terms) rising are placed bound =
    let next : (o : ℕ) → IsPlaced all done o → t.0 + 1 ≤ o → place_of all t.0 + 1 ≤ place_of all o = λ o is le. omega (arith, order_stays all done t.0 o rising placed.0 is (omega (arith, le))) in
    (bound t.0 placed.0 are.0, rising_moved all done (t.0 + 1) (place_of all t.0 + 1) terms rising are.1 placed.1 next)

pub form_moved : (all : List (ℕ × ApOp)) (earlier : List ApOp) (done : List (ℕ × ApOp)) (constant : ℤ) (terms : List (ℕ × ℤ)) → AllByRecursion (StandsThere earlier) done → AllPairs (λ a b. a < b) (numbers_of done)
    → AllByRecursion (IsPlaced all done) (leaves_of terms) → IsForm earlier constant terms → IsForm (in_places all done) constant (moved_terms (place_of all) terms)
form_moved all earlier done constant terms at rising placed form = record {
  size = form.size;
  each = All-from_recursion (IsTerm (in_places all done)) (moved_terms (place_of all) terms) (terms_moved all earlier done terms at placed (recursion_from_All (IsTerm earlier) terms form.each));
  rising = rising_moved all done 0 0 terms rising form.rising placed (λ o is le. omega arith);
}

-- ---- no two become one

same_pair : (t u : ℕ × ℤ) → t.0 ≡ u.0 → t.1 ≡ u.1 → t ≡ u
same_pair t u first second = ap (λ n. (n, t.1)) first ∙ ap (λ z. (u.0, z)) second

same_terms : (all done : List (ℕ × ApOp)) (terms others : List (ℕ × ℤ)) → AllByRecursion (IsPlaced all done) (leaves_of terms) → AllByRecursion (IsPlaced all done) (leaves_of others)
    → moved_terms (place_of all) terms ≡ moved_terms (place_of all) others → terms ≡ others
same_terms all done [] [] placed other_placed same = refl
same_terms all done [] (u ∷ others) placed other_placed same = absurd (omega (arith, ap length same))
same_terms all done (t ∷ terms) [] placed other_placed same = absurd (omega (arith, ap length same))
same_terms all done (t ∷ terms) (u ∷ others) placed other_placed same =
    let place : place_of all t.0 ≡ place_of all u.0 = ap (λ (l : List (ℕ × ℤ)). (get_or l 0 t).0) same in
    let weight : t.1 ≡ u.1 = ap (λ (l : List (ℕ × ℤ)). (get_or l 0 t).1) same in
    let leaf : t.0 ≡ u.0 = sym placed.0.at ∙ ap (λ n. get_or (numbers_of done) n 0) place ∙ other_placed.0.at in
    let rest : terms ≡ others = same_terms all done terms others placed.1 other_placed.1 (ap (drop 1) same) in
    ap (λ l. t ∷ l) rest ∙ ap (λ x. x ∷ others) (same_pair t u leaf weight)

abbrev constant_of : ApOp → ℤ
constant_of (Input lo hi) = lo
constant_of (Look constant terms entries) = constant
constant_of (Out constant terms) = constant

abbrev entries_of : ApOp → List ℤ
entries_of (Input lo hi) = []
entries_of (Look constant terms entries) = entries
entries_of (Out constant terms) = []

abbrev terms_of : ApOp → List (ℕ × ℤ)
terms_of (Input lo hi) = []
terms_of (Look constant terms entries) = terms
terms_of (Out constant terms) = terms

same_look : (all done : List (ℕ × ApOp)) (op : ApOp) (constant : ℤ) (terms : List (ℕ × ℤ)) (entries : List ℤ) → ArePlaced all done op → AllByRecursion (IsPlaced all done) (leaves_of terms)
    → renumbered (place_of all) op ≡ Look constant (moved_terms (place_of all) terms) entries → op ≡ Look constant terms entries
same_look all done (Input lo hi) constant terms entries placed other_placed same = absurd (false≢true (ap is_look same))
same_look all done (Out c ts) constant terms entries placed other_placed same = absurd (false≢true (ap is_look same))
same_look all done (Look c ts es) constant terms entries placed other_placed same =
    ap (λ z. Look z ts es) (ap constant_of same)
    ∙ ap (λ l. Look constant l es) (same_terms all done ts terms placed other_placed (ap terms_of same))
    ∙ ap (λ l. Look constant terms l) (ap entries_of same)

found_again : (all done rest : List (ℕ × ApOp)) (earlier : List ApOp) (place : ℕ) (constant : ℤ) (terms : List (ℕ × ℤ)) (entries : List ℤ) → AllByRecursion (StandsThere earlier) rest → AllByRecursion (λ e. ArePlaced all done e.1) rest
    → AllByRecursion (IsPlaced all done) (leaves_of terms) → place < length rest → get_or (in_places all rest) place (Look constant (moved_terms (place_of all) terms) entries) ≡ Look constant (moved_terms (place_of all) terms) entries
    → Contains earlier (Look constant terms entries)
found_again all done [] earlier place constant terms entries at are placed below same = absurd (omega arith)
found_again all done (e ∷ rest) earlier zero constant terms entries at are placed below same =
    let is : e.1 ≡ Look constant terms entries = same_look all done e.1 constant terms entries are.0 placed same in
    let here : slice_get earlier e.0 ≡ Some (Look constant terms entries) = at.0 ∙ ap (λ op. Some op) is in
    (e.0, slice_get_within earlier e.0 (Look constant terms entries) here, get_or_from_slice_get earlier e.0 (Look constant terms entries) (Look constant terms entries) here)
found_again all done (e ∷ rest) earlier (suc place) constant terms entries at are placed below same = found_again all done rest earlier place constant terms entries at.1 are.1 placed (omega arith) same

pub still_new : (all done : List (ℕ × ApOp)) (earlier : List ApOp) (constant : ℤ) (terms : List (ℕ × ℤ)) (entries : List ℤ) → AllByRecursion (StandsThere earlier) done → AllByRecursion (λ e. ArePlaced all done e.1) done
    → AllByRecursion (IsPlaced all done) (leaves_of terms) → ¬ Contains earlier (Look constant terms entries) → ¬ Contains (in_places all done) (Look constant (moved_terms (place_of all) terms) entries)
still_new all done earlier constant terms entries at are placed new there =
    new (found_again all done done earlier there.0 constant terms entries at are placed (omega (arith, there.1, length-map done (λ (e : ℕ × ApOp). renumbered (place_of all) e.1))) there.2)

-- ---- users

user_in : (numbering : ℕ → ℕ) (number : ℕ) (operands : List ℕ) → list_any (λ o. o == number) operands ≡ true → list_any (λ o. o == numbering number) (map numbering operands) ≡ true
user_in numbering number [] used = absurd (false≢true used)
user_in numbering number (o ∷ operands) used = elim (cases_Bool (o == number)) [
  | inl is ↦ or_left (numbering o == numbering number) (list_any (λ x. x == numbering number) (map numbering operands)) (eq-eqb (numbering o) (numbering number) (ap numbering (eqb-true o number is)))
  | inr is_not ↦
      let rest : list_any (λ x. x == number) operands ≡ true = sym (ap (λ b. b || list_any (λ x. x == number) operands) is_not) ∙ used in
      or_right (numbering o == numbering number) (list_any (λ x. x == numbering number) (map numbering operands)) (user_in numbering number operands rest)
]

user_moved : (numbering : ℕ → ℕ) (number : ℕ) (op : ApOp) → is_user_of number op ≡ true → is_user_of (numbering number) (renumbered numbering op) ≡ true
user_moved numbering number op used =
    ap (list_any (λ o. o == numbering number)) (put_is_read op (map numbering (operands_of op)) (length-map (operands_of op) numbering)) ∙ user_in numbering number (operands_of op) used

pub used_moved : (numbering : ℕ → ℕ) (number : ℕ) (operations : List (ℕ × ApOp)) → is_used number operations ≡ true → list_any (is_user_of (numbering number)) (map (λ (e : ℕ × ApOp). renumbered numbering e.1) operations) ≡ true
used_moved numbering number [] used = absurd (false≢true used)
used_moved numbering number (e ∷ operations) used =
    let first = is_user_of (numbering number) (renumbered numbering e.1) in
    let others = list_any (is_user_of (numbering number)) (map (λ (x : ℕ × ApOp). renumbered numbering x.1) operations) in
    elim (cases_Bool (is_user_of number e.1)) [
      | inl is ↦ or_left first others (user_moved numbering number e.1 is)
      | inr is_not ↦
          let rest : is_used number operations ≡ true = sym (ap (λ b. b || is_used number operations) is_not) ∙ used in
          or_right first others (used_moved numbering number operations rest)
    ]
