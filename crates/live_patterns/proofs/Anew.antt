-- Operands that are numbered anew one after the other.
use Rattle.std.proofs.Common.{◌≡◌, ℕ, ◌+◌, ◌<◌, List, ◌++◌, length, map, take, drop, set, get_or, refl, ap, ◌∙◌, arith}
use Rattle.std.proofs.lemmas.List.{length-map, length-append, take-append-drop, length-set, get_or_at, length-take-le, drop_more}
use Rattle.std.proofs.lemmas.List.Edits.{map_over_more}
use Rattle.ap_level.specs.declared.level.ApOp.{ApOp}
use Rattle.ap_level.specs.Operations.{operands_of, with_operands}
use Rattle.ap_level.specs.PutOperands.{put_is_read, last_put_stays}

-- the first operands are numbered anew
abbrev pub anew_below : (ℕ → ℕ) → ℕ → List ℕ → List ℕ
anew_below numbering at operands = map numbering (take at operands) ++ drop at operands

pub length-anew_below : (numbering : ℕ → ℕ) (at : ℕ) (operands : List ℕ) → length (anew_below numbering at operands) ≡ length operands
length-anew_below numbering at operands =
    omega (arith, length-append (map numbering (take at operands)) (drop at operands), length-map (take at operands) numbering, length-append (take at operands) (drop at operands), ap length (take-append-drop at operands))

pub operands_anew : (numbering : ℕ → ℕ) (at : ℕ) (first op : ApOp) → op ≡ with_operands first (anew_below numbering at (operands_of first)) → operands_of op ≡ anew_below numbering at (operands_of first)
operands_anew numbering at first op so = ap operands_of so ∙ put_is_read first (anew_below numbering at (operands_of first)) (length-anew_below numbering at (operands_of first))

pub operand_is_old : (numbering : ℕ → ℕ) (at : ℕ) (operands : List ℕ) (d : ℕ) → at < length operands → get_or (anew_below numbering at operands) at d ≡ get_or operands at d
operand_is_old numbering at operands d below =
    ap (λ l. get_or (map numbering (take at operands) ++ l) at d) (drop_more operands at d below)
    ∙ get_or_at (map numbering (take at operands)) (get_or operands at d) (drop (at + 1) operands) d at (length-map (take at operands) numbering ∙ length-take-le at operands (omega (arith, below)))

pub one_anew : (numbering : ℕ → ℕ) (at number : ℕ) (first op next : ApOp) → at < length (operands_of first) → op ≡ with_operands first (anew_below numbering at (operands_of first))
    → number ≡ get_or (operands_of op) at number → next ≡ with_operands op (set (operands_of op) at (numbering number))
    → next ≡ with_operands first (anew_below numbering (at + 1) (operands_of first))
one_anew numbering at number first op next below so read write =
    let old = operands_of first in
    let list = anew_below numbering at old in
    let held : operands_of op ≡ list = operands_anew numbering at first op so in
    let same_length : length list ≡ length old = length-anew_below numbering at old in
    let read' : number ≡ get_or list at number = read ∙ ap (λ l. get_or l at number) held in
    let written : set list at (numbering number) ≡ anew_below numbering (at + 1) old = map_over_more numbering old list at number below refl read' in
    write ∙ ap (λ l. with_operands op (set l at (numbering number))) held ∙ ap (λ o. with_operands o (set list at (numbering number))) so
    ∙ last_put_stays first list (set list at (numbering number)) same_length (length-set list at (numbering number) ∙ same_length) ∙ ap (with_operands first) written

-- an operand that is there stays there
pub still_there : (numbering : ℕ → ℕ) (at : ℕ) (first op : ApOp) → at < length (operands_of first) → op ≡ with_operands first (anew_below numbering at (operands_of first)) → at < length (operands_of op)
still_there numbering at first op below so = omega (arith, below, ap length (operands_anew numbering at first op so), length-anew_below numbering at (operands_of first))
