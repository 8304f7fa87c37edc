use Rattle.std.proofs.Common.{◌+◌, take, ap, sym, ◌∙◌, arith}
use Rattle.std.specs.Prelude.{count_by}
use Rattle.std.proofs.lemmas.List.{length-take-le}
use Rattle.cost_cert.specs.Check.{is_line_feed}
use Rattle.cost_cert.proofs.Prefixes.{taken, short}
use Rattle.cost_cert.proofs.check.line_after.Goals as goal

pub slice_bounds-line_feeds-end : goal.slice_bounds-line_feeds-end
slice_bounds-line_feeds-end c =
    let text = c.args.text.now in
    let bytes = c.args.bytes.now in
    sym (length-take-le c.args.same text (omega (arith, c.requires.same, (short text bytes).0)))

pub line_feeds-requires : goal.line_feeds-requires
line_feeds-requires c =
    let text = c.args.text.now in
    let bytes = c.args.bytes.now in
    omega (arith, c.requires.length, c.requires.same, (short text bytes).1, length-take-le c.args.same text (omega (arith, c.requires.same, (short text bytes).0)))

pub returns : goal.returns
returns c =
    let text = c.args.text.now in
    let bytes = c.args.bytes.now in
    ap (λ n. n + 1) (c.line_feeds.ensures.count ∙ ap (λ n. count_by is_line_feed (take n text)) c.requires.same ∙ ap (λ t. count_by is_line_feed t) (taken text bytes))
