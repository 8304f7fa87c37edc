use Rattle.std.proofs.Common.{[], ◌∷◌, ◌≡◌, ◌<◌, ◌%◌, ◌^◌, ℕ, List, get_or, arith, refl, ◌∙◌}
use borrow.Author.Count.{below_none, below_more}
use Rattle.negacyclic.proofs.Polynomials.{at}
use Rattle.negacyclic.proofs.Pairs.{pairs}
use Rattle.negacyclic.proofs.Halves.{is_full}
use Rattle.negacyclic.proofs.Joins.{four_rows}
use Rattle.negacyclic.proofs.karatsuba.set_product_of_eight.Goals as goal

pub returns : goal.returns
returns c =
    let p : ℕ → ℕ = at c.args.a.now in
    let q : ℕ → ℕ = at c.args.b.now in
    let words : List ℕ = c.four_sum-x0.result ∷ c.four_sum-x1.result ∷ c.four_sum-x2.result ∷ c.four_sum-x3.result ∷ c.four_sum-x4-2.result ∷ c.four_sum-x5-2.result ∷ c.four_sum-x6-2.result ∷ c.four_sum-x7-2.result ∷ c.four_sum-x8-2.result ∷ c.four_sum-x9-2.result ∷ c.four_sum-x10-2.result ∷ c.four_sum-x11.result ∷ c.four_sum-x12.result ∷ c.four_sum-x13.result ∷ c.four_sum-x14.result ∷ 0 ∷ [] in
    let Right : ℕ → Type 0 = λ s. get_or words s 0 ≡ pairs 8 p q s % 2 ^ 64 in
    let r0 : (s : ℕ) → s < 1 → Right s = below_more Right 0 (below_none Right) (omega (arith, c.four_sum-x0.ensures)) in
    let r1 : (s : ℕ) → s < 2 → Right s = below_more Right 1 r0 (omega (arith, c.four_sum-x1.ensures)) in
    let r2 : (s : ℕ) → s < 3 → Right s = below_more Right 2 r1 (omega (arith, c.four_sum-x2.ensures)) in
    let r3 : (s : ℕ) → s < 4 → Right s = below_more Right 3 r2 (omega (arith, c.four_sum-x3.ensures)) in
    let r4 : (s : ℕ) → s < 5 → Right s = below_more Right 4 r3 (omega (arith, c.four_sum-x4.ensures, c.four_sum-x4-2.ensures)) in
    let r5 : (s : ℕ) → s < 6 → Right s = below_more Right 5 r4 (omega (arith, c.four_sum-x5.ensures, c.four_sum-x5-2.ensures)) in
    let r6 : (s : ℕ) → s < 7 → Right s = below_more Right 6 r5 (omega (arith, c.four_sum-x6.ensures, c.four_sum-x6-2.ensures)) in
    let r7 : (s : ℕ) → s < 8 → Right s = below_more Right 7 r6 (omega (arith, c.four_sum-x7.ensures, c.four_sum-x7-2.ensures)) in
    let r8 : (s : ℕ) → s < 9 → Right s = below_more Right 8 r7 (omega (arith, c.four_sum-x8.ensures, c.four_sum-x8-2.ensures)) in
    let r9 : (s : ℕ) → s < 10 → Right s = below_more Right 9 r8 (omega (arith, c.four_sum-x9.ensures, c.four_sum-x9-2.ensures)) in
    let r10 : (s : ℕ) → s < 11 → Right s = below_more Right 10 r9 (omega (arith, c.four_sum-x10.ensures, c.four_sum-x10-2.ensures)) in
    let r11 : (s : ℕ) → s < 12 → Right s = below_more Right 11 r10 (omega (arith, c.four_sum-x11.ensures)) in
    let r12 : (s : ℕ) → s < 13 → Right s = below_more Right 12 r11 (omega (arith, c.four_sum-x12.ensures)) in
    let r13 : (s : ℕ) → s < 14 → Right s = below_more Right 13 r12 (omega (arith, c.four_sum-x13.ensures)) in
    let r14 : (s : ℕ) → s < 15 → Right s = below_more Right 14 r13 (omega (arith, c.four_sum-x14.ensures)) in
    four_rows _ _ _ _ _ _ _ _ c.set_four.ensures c.set_four-2.ensures c.set_four-3.ensures c.set_four-4.ensures
    ∙ is_full 8 words c.args.a.now c.args.b.now refl c.requires.first c.requires.second (below_more Right 15 r14 (omega arith))
