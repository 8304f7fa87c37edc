use Rattle.std.proofs.Common.{◌≡◌, ◌+◌, ◌++◌, List, ℕ, length, take, drop, sym, ◌≤◌, subst, arith}
use Rattle.glwe_core.specs.Glwe.{extracted_mask}
use Rattle.glwe_core.proofs.ExtractionLoops.{part_set}
use Rattle.glwe_core.proofs.extraction.extract_part.Goals as goal

pub returns : goal.returns
returns c =
    let words = c.coeffs-words.result.now in
    let P : List ℕ → Type 0 = λ part. c.loop-i.out ≡ take c.args.at c.args.out.now ++ extracted_mask part ++ drop (c.args.at + length part) c.args.out.now in
    subst P c.coeffs-words.ensures
    (part_set c.loop-i.out c.args.out.now words c.args.at (subst (λ part. c.args.at + length part ≤ length c.args.out.now) (sym c.coeffs-words.ensures) c.requires.room) c.loop-i.invariant.long
    (λ k h. c.loop-i.invariant.done k (omega arith)) c.loop-i.invariant.before (λ k h. c.loop-i.invariant.after k (omega arith)))
