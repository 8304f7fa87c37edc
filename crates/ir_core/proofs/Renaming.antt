-- a walk that puts one value for another in the operands of an operation
use Rattle.std.proofs.Common.{◌≡◌, ◌≢◌, ℕ, ◌+◌, ◌<◌, List, ◌++◌, length, get_or, map, take, drop, set, sym, refl, ap, ◌∙◌, inl, inr, arith, eq-eqb}
use Rattle.std.proofs.lemmas.Bool.Decides.{eqb_tells}
use Rattle.std.proofs.lemmas.List.{length-map, length-append, take-append-drop, length-set, set-get_or, get_or_default}
use Rattle.std.proofs.lemmas.List.Edits.{map_over_more}
use Rattle.ir_core.specs.Graph.{renamed}

-- another value stays
stays_renamed : (from to x : ℕ) → x ≢ from → renamed from to x ≡ x
stays_renamed from to x differs = elim (eqb_tells x from) [ inl same ↦ absurd (differs same.1) | inr other ↦ rw other.0 refl ]

-- the operands so far renamed, and the others as they were
abbrev pub renamed_below : ℕ → ℕ → ℕ → List ℕ → List ℕ
renamed_below from to at operands = map (renamed from to) (take at operands) ++ drop at operands

length-renamed_below : (from to at : ℕ) (operands : List ℕ) → length (renamed_below from to at operands) ≡ length operands
length-renamed_below from to at operands =
    omega (arith, length-append (map (renamed from to) (take at operands)) (drop at operands), length-map (take at operands) (renamed from to), length-append (take at operands) (drop at operands), ap length (take-append-drop at operands))

-- what the operand at a place becomes
pub renamed_more : (from to at : ℕ) (operands : List ℕ) (x : ℕ) → at < length operands → x ≡ get_or (renamed_below from to at operands) at x → set (renamed_below from to at operands) at (renamed from to x) ≡ renamed_below from to (at + 1) operands
renamed_more from to at operands x within read = map_over_more (renamed from to) operands (renamed_below from to at operands) at x within refl read

-- the operands that stand once some are renamed
pub operands_read : {Op : Type 0} (operands : Op → List ℕ) (with_operands : Op → List ℕ → Op) (put_is_read : (op : Op) (values : List ℕ) → length values ≡ length (operands op) → operands (with_operands op values) ≡ values) (from to at : ℕ) (first op : Op) → op ≡ with_operands first (renamed_below from to at (operands first)) → operands op ≡ renamed_below from to at (operands first)
operands_read operands with_operands put_is_read from to at first op so_far =
    ap operands so_far ∙ put_is_read first _ (length-renamed_below from to at (operands first))

-- an operand that holds the value is written
pub renamed_hit : {Op : Type 0} (operands : Op → List ℕ) (with_operands : Op → List ℕ → Op) (put_is_read : (op : Op) (values : List ℕ) → length values ≡ length (operands op) → operands (with_operands op values) ≡ values) (last_put_stays : (op : Op) (before after : List ℕ) → length before ≡ length (operands op) → length after ≡ length (operands op) → with_operands (with_operands op before) after ≡ with_operands op after) (from to at : ℕ) (first op next : Op) → at < length (operands first) → op ≡ with_operands first (renamed_below from to at (operands first)) → get_or (operands op) at 0 ≡ from → next ≡ with_operands op (set (operands op) at to) → next ≡ with_operands first (renamed_below from to (at + 1) (operands first))
renamed_hit operands with_operands put_is_read last_put_stays from to at first op next within so_far hit write =
    let old = operands first in
    let list = renamed_below from to at old in
    let same_length : length list ≡ length old = length-renamed_below from to at old in
    let held : operands op ≡ list = operands_read operands with_operands put_is_read from to at first op so_far in
    let read : from ≡ get_or list at from = sym (sym (ap (λ l. get_or l at 0) held) ∙ hit) ∙ get_or_default list at 0 from (omega arith) in
    let put : renamed from to from ≡ to = rw (eq-eqb from from refl) refl in
    let written : set list at to ≡ renamed_below from to (at + 1) old = ap (set list at) (sym put) ∙ renamed_more from to at old from within read in
    write ∙ ap (λ l. with_operands op (set l at to)) held ∙ ap (λ o. with_operands o (set list at to)) so_far
    ∙ last_put_stays first list (set list at to) same_length (length-set list at to ∙ same_length) ∙ ap (with_operands first) written

-- an operand that holds another value stays
pub renamed_miss : {Op : Type 0} (operands : Op → List ℕ) (with_operands : Op → List ℕ → Op) (put_is_read : (op : Op) (values : List ℕ) → length values ≡ length (operands op) → operands (with_operands op values) ≡ values) (from to at : ℕ) (first op : Op) → at < length (operands first) → op ≡ with_operands first (renamed_below from to at (operands first)) → get_or (operands op) at 0 ≢ from → op ≡ with_operands first (renamed_below from to (at + 1) (operands first))
renamed_miss operands with_operands put_is_read from to at first op within so_far miss =
    let old = operands first in
    let list = renamed_below from to at old in
    let same_length : length list ≡ length old = length-renamed_below from to at old in
    let held : operands op ≡ list = operands_read operands with_operands put_is_read from to at first op so_far in
    let x = get_or list at 0 in
    let read : x ≡ get_or list at x = get_or_default list at 0 x (omega arith) in
    let differs : x ≢ from = λ same. miss (ap (λ l. get_or l at 0) held ∙ same) in
    let stays : renamed from to x ≡ x = stays_renamed from to x differs in
    let written : list ≡ renamed_below from to (at + 1) old = sym (set-get_or list at 0) ∙ ap (set list at) (sym stays) ∙ renamed_more from to at old x within read in
    so_far ∙ ap (with_operands first) written
