-- Which operations stay, from the last to the first.
use Rattle.std.proofs.Common.{◌≡◌, ℕ, ◌+◌, ◌<◌, ◌≤◌, Bool, true, false, ◌||◌, List, [], ◌∷◌, ◌++◌, length, get_or, replicate, All, refl, sym, ap, ◌∙◌, subst, arith, inl, inr}
use Rattle.std.specs.Prelude.{reverse}
use Rattle.std.proofs.lemmas.Bool.{cases_lt}
use Rattle.std.proofs.lemmas.List.{reverse-append, get_or-replicate, get_or_past, length-replicate, length_push}
use Rattle.ap_level.specs.declared.level.ApOp.{ApOp}
use Rattle.ap_level.specs.Operations.{operands_of}
use Rattle.ap_level.specs.Rules.{is_user_of}
use Rattle.live_patterns.specs.Live.{is_used, is_live, with_live, kept_before}
use Rattle.live_patterns.specs.Renumbering.{AreMarks, HaveEarlier}

-- ---- one operation from the end

last_kept : (number : ℕ) (operations : List ApOp) (op : ApOp) (later : List (ℕ × ApOp))
    → kept_before number (operations ++ op ∷ []) later ≡ kept_before number operations (with_live (number + length operations) op later)
last_kept number [] op later = ap (λ n. with_live n op later) (omega arith)
last_kept number (first ∷ operations) op later =
    ap (with_live number first)
    (last_kept (number + 1) operations op later ∙ ap (λ n. kept_before (number + 1) operations (with_live n op later)) (omega arith))

-- what the last operation changes does not change the whole
pub whole_stays : (operations rest : List ApOp) (op : ApOp) (later whole : List (ℕ × ApOp)) → operations ≡ rest ++ op ∷ [] → kept_before 0 operations later ≡ whole
    → kept_before 0 rest (with_live (length rest) op later) ≡ whole
whole_stays operations rest op later whole split same =
    ap (λ n. kept_before 0 rest (with_live n op later)) (omega arith) ∙ sym (last_kept 0 rest op later) ∙ sym (ap (λ l. kept_before 0 l later) split) ∙ same

-- ---- marks

either_way : (a b : Bool) → (a || b) ≡ (b || a)
either_way true true = refl
either_way true false = refl
either_way false true = refl
either_way false false = refl

pub marked_more : (used marked : List Bool) (number : ℕ) (op : ApOp) (later : List (ℕ × ApOp)) → AreMarks used later
    → ((n : ℕ) → get_or marked n false ≡ (get_or used n false || is_user_of n op)) → AreMarks marked ((number, op) ∷ later)
marked_more used marked number op later are so = λ n.
    so n ∙ ap (λ b. b || is_user_of n op) (are n) ∙ either_way (is_used n later) (is_user_of n op)

pub no_marks : (count : ℕ) → AreMarks (replicate count false) []
no_marks count = λ n. elim (cases_lt n count) [
  | inl lt ↦ get_or-replicate count n false false lt
  | inr ge ↦ get_or_past (replicate count false) n false (omega (arith, length-replicate count false, ge))
]

-- ---- operands

earlier_parts : (number : ℕ) (operations : List ApOp) (op : ApOp) → HaveEarlier number (operations ++ op ∷ [])
    → HaveEarlier number operations × All (λ operand. operand < number + length operations) (operands_of op)
earlier_parts number [] op have = (tt, λ k d lt. omega (arith, have.0 k d lt))
earlier_parts number (first ∷ operations) op have =
    let rest = earlier_parts (number + 1) operations op have.1 in
    ((have.0, rest.0), λ k d lt. omega (arith, rest.1 k d lt))

pub earlier_rest : (operations rest : List ApOp) (op : ApOp) → operations ≡ rest ++ op ∷ [] → HaveEarlier 0 operations → HaveEarlier 0 rest
earlier_rest operations rest op split have = (earlier_parts 0 rest op (subst (HaveEarlier 0) split have)).0

pub earlier_last : (operations rest : List ApOp) (op : ApOp) (count : ℕ) → operations ≡ rest ++ op ∷ [] → HaveEarlier 0 operations → length operations ≤ count
    → All (λ operand. operand < count) (operands_of op)
earlier_last operations rest op count split have few = λ k d lt.
    omega (arith, (earlier_parts 0 rest op (subst (HaveEarlier 0) split have)).1 k d lt, ap length split, length_push rest op, few)

pub last_first : (kept : List (ℕ × ApOp)) (entry : ℕ × ApOp) → reverse (kept ++ entry ∷ []) ≡ entry ∷ reverse kept
last_first kept entry = reverse-append kept (entry ∷ [])

-- ---- one operation that stays, and one that goes

pub stays : (number : ℕ) (op : ApOp) (kept more : List (ℕ × ApOp)) → more ≡ kept ++ (number, op) ∷ [] → is_live number op (reverse kept) ≡ true
    → reverse more ≡ with_live number op (reverse kept)
stays number op kept more same is =
    let live : with_live number op (reverse kept) ≡ (number, op) ∷ reverse kept = rw is refl in
    ap reverse same ∙ last_first kept (number, op) ∙ sym live

pub goes : (number : ℕ) (op : ApOp) (kept : List (ℕ × ApOp)) → is_live number op (reverse kept) ≡ false
    → reverse kept ≡ with_live number op (reverse kept)
goes number op kept is_not =
    let gone : with_live number op (reverse kept) ≡ reverse kept = rw is_not refl in
    sym gone
