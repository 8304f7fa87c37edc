use Rattle.std.proofs.Common.{◌≡◌, ℕ, ◌∷◌, [], length, sym, ap, ◌∙◌, subst, arith}
use Rattle.std.specs.Prelude.{reverse}
use Rattle.std.proofs.lemmas.List.{nil_from_length}
use Rattle.ap_level.specs.declared.level.ApOp.{ApOp}
use Rattle.ap_level.specs.Patterns.{patterns_of}
use Rattle.ap_level.specs.Rules.{ArePatterns, message_ranges}
use Rattle.forms.specs.Ranges.{IsLeastWidth}
use Rattle.live_patterns.specs.Found.{found_patterns}
use Rattle.live_patterns.specs.Live.{kept_of}
use Rattle.live_patterns.specs.Renumbering.{HaveEarlier}
use Rattle.live_patterns.proofs.Marks.{last_first}
use Rattle.live_patterns.proofs.Keeping.{rules_stay}
use Rattle.live_patterns.proofs.Small.{have_earlier, few_found}
use Rattle.live_patterns.proofs.Steps.{IsUnderway, start, can_put, step, all_done}
use Rattle.live_patterns.proofs.renumbering.kept.Goals as goal

pub kept_operations-requires-clause-earlier : goal.kept_operations-requires-clause-earlier
kept_operations-requires-clause-earlier c = subst (HaveEarlier 0) (sym c.in_ok-operations.ensures) (have_earlier (found_patterns c.args.patterns) c.requires.rules)

pub kept_operations-requires-clause-few : goal.kept_operations-requires-clause-few
kept_operations-requires-clause-few c = omega (arith, ap length c.in_ok-operations.ensures, few_found (found_patterns c.args.patterns) c.requires.rules)

pub loop-number-init : goal.loop-number-init
loop-number-init c =
    let found = found_patterns c.args.patterns in
    let r = c.in_ok-renumbering.renumbering in
    let made = c.in_ok-renumbering.ensures in
    let all = kept_of found in
    let left : reverse c.in_ok-kept.kept.items ≡ all = c.in_ok-kept.ensures ∙ ap kept_of c.in_ok-operations.ensures in
    let long : length r.places.items ≡ length found = made.places ∙ c.len.ensures ∙ c.in_ok-operations.operations.ok.0 ∙ ap length c.in_ok-operations.ensures in
    let first : IsUnderway all all [] r.places.items [] 1 = start found r.places.items c.requires long in
    let second : IsUnderway all all (patterns_of r.program) r.places.items r.ranges.items r.program.width
    = subst (λ w. IsUnderway all all (patterns_of r.program) r.places.items r.ranges.items w) (sym made.width)
    (subst (λ l. IsUnderway all all (patterns_of r.program) r.places.items l 1) (sym made.ranges)
    (subst (λ l. IsUnderway all all l r.places.items [] 1) (sym made.patterns) first)) in
    record {
      graph = made.placed;
      underway = subst (λ l. IsUnderway all l (patterns_of r.program) r.places.items r.ranges.items r.program.width) (sym left) second;
    }

pub put-requires-clause-can : goal.put-requires-clause-can
put-requires-clause-can c =
    let all = kept_of (found_patterns c.args.patterns) in
    let r = c.loop-number.renumbering in
    let rest = c.pop.new.self.items in
    let entry : ℕ × ApOp = (c.in-Some.number, c.in-Some.op) in
    let left : reverse c.loop-number.kept.items ≡ entry ∷ reverse rest = ap reverse c.in-Some.ensures.items ∙ last_first rest entry in
    let is = subst (λ l. IsUnderway all l (patterns_of r.program) r.places.items r.ranges.items r.program.width) left c.loop-number.invariant.underway in
    can_put all (reverse rest) entry (patterns_of r.program) r.places.items r.ranges.items r.program.width is

pub loop-number-preserved : goal.loop-number-preserved
loop-number-preserved c =
    let all = kept_of (found_patterns c.args.patterns) in
    let r = c.loop-number.renumbering in
    let next = c.put.new.self in
    let rest = c.pop.new.self.items in
    let entry : ℕ × ApOp = (c.in-Some.number, c.in-Some.op) in
    let left : reverse c.loop-number.kept.items ≡ entry ∷ reverse rest = ap reverse c.in-Some.ensures.items ∙ last_first rest entry in
    let is = subst (λ l. IsUnderway all l (patterns_of r.program) r.places.items r.ranges.items r.program.width) left c.loop-number.invariant.underway in
    record {
      graph = c.in_ok-put.ensures.placed;
      underway =
          step all (reverse rest) entry (patterns_of r.program) (patterns_of next.program) r.places.items next.places.items r.ranges.items next.ranges.items r.program.width next.program.width is
          c.in_ok-put.ensures.patterns c.in_ok-put.ensures.places c.in_ok-put.ensures.ranges c.in_ok-put.ensures.width;
    }

pub returns-clause-rules : goal.returns-clause-rules
returns-clause-rules c =
    let found = found_patterns c.args.patterns in
    let all = kept_of found in
    let program = c.loop-number.renumbering.program in
    let empty : c.loop-number.kept.items ≡ [] = nil_from_length c.loop-number.kept.items (sym c.loop-number.kept.ok.0 ∙ c.in_default.ensures.cases.0) in
    let is = subst (λ l. IsUnderway all (reverse l) (patterns_of program) c.loop-number.renumbering.places.items c.loop-number.renumbering.ranges.items program.width) empty c.loop-number.invariant.underway in
    let end = all_done all (patterns_of program) c.loop-number.renumbering.places.items c.loop-number.renumbering.ranges.items program.width is in
    record {
      placed = c.loop-number.invariant.graph;
      patterns = subst ArePatterns (sym end.0) (rules_stay found c.requires);
      width = subst (λ l. IsLeastWidth (message_ranges l) program.width) (sym end.0) end.1;
    }
