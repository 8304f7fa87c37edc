-- Counting operations of a kind up to the one with a number.
use Rattle.std.proofs.Common.{◌≡◌, ℕ, zero, suc, ◌+◌, ◌-◌, ◌<◌, ◌≤◌, Bool, true, false, cond, List, [], ◌∷◌, length, drop, get_or, Option, sym, ap, refl, ◌∙◌, arith}
use Rattle.std.specs.Prelude.{slice_get, Some}
use Rattle.std.proofs.lemmas.List.{drop_more, drop_all}
use Rattle.std.proofs.lemmas.Option.{slice_get_within, get_or_from_slice_get}
use Rattle.tfhe_level.specs.declared.level.TfheOp.{TfheOp}
use Rattle.circuit_file.specs.Circuit.{place_among}

-- the operations from a place on begin with the one there
begins : (ops : List TfheOp) (place : ℕ) (op : TfheOp) → slice_get ops place ≡ Some op → drop place ops ≡ op ∷ drop (place + 1) ops
begins ops place op is = drop_more ops place op (slice_get_within ops place op is) ∙ ap (λ x. x ∷ drop (place + 1) ops) (get_or_from_slice_get ops place op op is)

other_first : (kind : TfheOp → Bool) (op : TfheOp) (ops : List TfheOp) (count : ℕ) → kind op ≡ false → place_among kind (op ∷ ops) count ≡ suc (place_among kind ops count)
other_first kind op ops zero e = rw e refl
other_first kind op ops (suc count) e = rw e refl

-- one that is not of the kind
pub passed : (kind : TfheOp → Bool) (ops : List TfheOp) (place left whole : ℕ) (op : TfheOp) → slice_get ops place ≡ Some op → kind op ≡ false
    → whole ≡ place + place_among kind (drop place ops) left → whole ≡ place + 1 + place_among kind (drop (place + 1) ops) left
passed kind ops place left whole op is e so_far =
    let next = ap (λ os. place_among kind os left) (begins ops place op is) ∙ other_first kind op (drop (place + 1) ops) left e in
    omega (arith, so_far, next)

counted_first : (kind : TfheOp → Bool) (op : TfheOp) (ops : List TfheOp) (count : ℕ) → kind op ≡ true → 1 ≤ count → place_among kind (op ∷ ops) count ≡ suc (place_among kind ops (count - 1))
counted_first kind op ops zero e some = absurd (omega (arith, some))
counted_first kind op ops (suc count) e some =
    let less : suc count - 1 ≡ count = omega arith in
    rw (less, e) refl

-- one of the kind before the one with the number
pub counted : (kind : TfheOp → Bool) (ops : List TfheOp) (place left whole : ℕ) (op : TfheOp) → slice_get ops place ≡ Some op → kind op ≡ true → 1 ≤ left
    → whole ≡ place + place_among kind (drop place ops) left → whole ≡ place + 1 + place_among kind (drop (place + 1) ops) (left - 1)
counted kind ops place left whole op is e some so_far =
    let next = ap (λ os. place_among kind os left) (begins ops place op is) ∙ counted_first kind op (drop (place + 1) ops) left e some in
    omega (arith, so_far, next)

-- the one with the number
pub reached : (kind : TfheOp → Bool) (ops : List TfheOp) (place left whole : ℕ) (op : TfheOp) → slice_get ops place ≡ Some op → kind op ≡ true → left ≡ 0
    → whole ≡ place + place_among kind (drop place ops) left → place ≡ whole
reached kind ops place left whole op is e none so_far =
    let here : place_among kind (op ∷ drop (place + 1) ops) 0 ≡ 0 = rw e refl in
    let next = ap (λ n. place_among kind (drop place ops) n) none ∙ ap (λ os. place_among kind os 0) (begins ops place op is) ∙ here in
    omega (arith, so_far, next)

-- there is none
pub not_reached : (kind : TfheOp → Bool) (ops : List TfheOp) (place left whole : ℕ) → length ops ≤ place → place ≤ length ops
    → whole ≡ place + place_among kind (drop place ops) left → length ops ≡ whole
not_reached kind ops place left whole ge le so_far =
    let next : place_among kind (drop place ops) left ≡ 0 = ap (λ os. place_among kind os left) (drop_all place ops ge) in
    omega (arith, so_far, next)

most_first : (test : Bool) (n a b : ℕ) → a ≤ n → b ≤ n → cond test (suc a) (suc b) ≤ suc n
most_first true n a b first second = omega (arith, first)
most_first false n a b first second = omega (arith, second)

most_zero : (test : Bool) (n b : ℕ) → b ≤ n → cond test 0 (suc b) ≤ suc n
most_zero true n b le = omega arith
most_zero false n b le = omega (arith, le)

pub place_most : (kind : TfheOp → Bool) (ops : List TfheOp) (count : ℕ) → place_among kind ops count ≤ length ops
place_most kind [] count = omega arith
place_most kind (op ∷ ops) zero = most_zero (kind op) (length ops) (place_among kind ops zero) (place_most kind ops zero)
place_most kind (op ∷ ops) (suc count) = most_first (kind op) (length ops) (place_among kind ops count) (place_among kind ops (suc count)) (place_most kind ops count) (place_most kind ops (suc count))
