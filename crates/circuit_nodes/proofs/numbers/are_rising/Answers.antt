use Rattle.std.proofs.Common.{◌≡◌, ◌+◌, ◌≤◌, ◌<◌, ◌∷◌, [], List, ℕ, ℤ, drop, get_or, length, true, false, cond, leb, ◌&&◌, ap, sym, ◌∙◌, pos, arith}
use Rattle.std.proofs.lemmas.Bool.{le-leb, lt-leb}
use Rattle.std.proofs.lemmas.List.{drop_more, drop_all}
use Rattle.circuit_nodes.specs.Tests.{are_rising}
use Rattle.circuit_nodes.proofs.numbers.are_rising.Goals as goal

abbrev none : ℕ × ℤ
none = (0, pos 0)

pub returns-then-from-low : goal.returns-then-from-low
unfolding are_rising
returns-then-from-low c =
    let term = get_or c.args.terms.now c.loop-term.term-index none in
    let below : term.0 < c.loop-term.low = omega (arith, c.from.ensures, c.if-from-low.true) in
    sym (c.loop-term.invariant ∙ ap (λ ts. are_rising c.loop-term.low ts) (drop_more c.args.terms.now c.loop-term.term-index none c.loop-term-test.true) ∙ ap (λ t. t && are_rising (term.0 + 1) (drop (c.loop-term.term-index + 1) c.args.terms.now)) (lt-leb c.loop-term.low term.0 below))

pub loop-term-preserved : goal.loop-term-preserved
unfolding are_rising
loop-term-preserved c =
    let term = get_or c.args.terms.now c.loop-term.term-index none in
    let above : c.loop-term.low ≤ term.0 = omega (arith, c.from.ensures, c.if-from-low.false) in
    let next : c.from-low.result ≡ term.0 = c.from-low.ensures in
    let rest = drop (c.loop-term.term-index + 1) c.args.terms.now in
    let first : are_rising c.loop-term.low (term ∷ rest) ≡ are_rising (term.0 + 1) rest = ap (λ t. t && are_rising (term.0 + 1) rest) (le-leb c.loop-term.low term.0 above) in
    c.loop-term.invariant ∙ ap (λ ts. are_rising c.loop-term.low ts) (drop_more c.args.terms.now c.loop-term.term-index none c.loop-term-test.true) ∙ first ∙ ap (λ n. are_rising (n + 1) rest) (sym next)

pub returns : goal.returns
unfolding are_rising
returns c = sym (c.loop-term.invariant ∙ ap (λ ts. are_rising c.loop-term.low ts) (drop_all c.loop-term.term-index c.args.terms.now (omega (arith, c.loop-term-test.false))))
