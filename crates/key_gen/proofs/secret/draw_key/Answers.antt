use Rattle.std.proofs.Common.{◌%◌, set, true, ap, ◌∙◌}
use Rattle.seed_stream.specs.Draws.{stream_at, next_draw, after_draw}
use Rattle.key_gen.proofs.Bits.{none_drawn, drawn_more}
use Rattle.key_gen.proofs.secret.draw_key.Goals as goal

pub loop-init : goal.loop-init
loop-init g c = (c.in_ok-bits.ensures.items_if_clones_equal (λ y same. same) ∙ none_drawn c.args.dim, c.known.ensures ∙ ap (stream_at c.args.stream.key) c.requires.start)

pub loop-preserved : goal.loop-preserved
loop-preserved g c =
    let key = c.args.stream.key in
    let i = c.loop.counter in
    let d = next_draw c.loop.stream in
    let drawn = ap next_draw c.loop.invariant.1 ∙ c.laws.ensures.value key i in (
      ap (λ place. set c.loop.bits.items place true) c.next_below-place.ensures.value ∙ ap (λ m. set c.loop.bits.items (d % m) true) c.from.ensures ∙ ap (λ bits. set bits (d % c.args.dim) true) c.loop.invariant.0 ∙ drawn_more key c.args.dim i d drawn,
      c.next_below-place.ensures.next ∙ ap after_draw c.loop.invariant.1 ∙ c.laws.ensures.after key i,
    )
