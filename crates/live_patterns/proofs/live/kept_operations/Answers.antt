use Rattle.std.proofs.Common.{◌≡◌, ◌+◌, ◌++◌, ◌∷◌, [], length, ap, ◌∙◌, arith}
use Rattle.std.specs.Prelude.{reverse}
use Rattle.std.proofs.lemmas.List.{length_push}
use Rattle.live_patterns.specs.Live.{kept_before, kept_of, with_live}
use Rattle.live_patterns.proofs.Marks.{whole_stays, earlier_rest, earlier_last}
use Rattle.live_patterns.proofs.live.kept_operations.Goals as goal

pub keep_if_live-requires-clause-earlier : goal.keep_if_live-requires-clause-earlier
keep_if_live-requires-clause-earlier c =
    earlier_last c.loop-op.operations.items c.pop.new.self.items c.in-Some.op (length c.loop-op.used.items) c.in-Some.ensures.items c.loop-op.invariant.earlier c.loop-op.invariant.count

pub loop-op-preserved : goal.loop-op-preserved
loop-op-preserved c =
    let before = c.loop-op.invariant in
    let rest = c.pop.new.self.items in
    let split : c.loop-op.operations.items ≡ rest ++ c.in-Some.op ∷ [] = c.in-Some.ensures.items in
    let shorter : length rest + 1 ≡ length c.loop-op.operations.items = omega (arith, ap length split, length_push rest c.in-Some.op) in
    let number : c.len-in-Some.result ≡ length rest = c.len-in-Some.ensures ∙ c.pop.new.self.ok.0 in
    record {
      whole =
          ap (kept_before 0 rest) c.in_ok-keep_if_live.ensures.kept
          ∙ ap (λ n. kept_before 0 rest (with_live n c.in-Some.op (reverse c.loop-op.kept.items))) number
          ∙ whole_stays c.loop-op.operations.items rest c.in-Some.op (reverse c.loop-op.kept.items) (kept_of c.args.operations.items) split before.whole;
      marks = c.in_ok-keep_if_live.ensures.marks;
      count = omega (arith, before.count, shorter, c.keep_if_live.ensures.length);
      few = omega (arith, before.few, shorter);
      earlier = earlier_rest c.loop-op.operations.items rest c.in-Some.op split before.earlier;
    }
