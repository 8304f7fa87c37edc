use Rattle.std.proofs.Common.{ℤ, ◌+ℤ◌, ◌*ℤ◌, ap, ◌∙◌, arith, w64, to_z, of_z}
use Rattle.std.proofs.lemmas.Int.{to_z-of_z}
use Rattle.linear_forms.proofs.Sizes.{sum_back}
use Rattle.linear_forms.proofs.Ring.{weighted_same}
use Rattle.linear_forms.proofs.combining.weighted.Goals as goal

pub returns-clause-sum : goal.returns-clause-sum
returns-clause-sum c =
    sum_back c.times.result c.times-2.result (omega (arith, c.times.ensures.size)) (omega (arith, c.times-2.ensures.size))
    ∙ ap (λ (x : ℤ). x +ℤ c.times-2.result) c.times.ensures.product
    ∙ ap (λ (x : ℤ). to_z w64 (of_z w64 c.args.factor) *ℤ to_z w64 (of_z w64 c.args.number) +ℤ x) c.times-2.ensures.product
    ∙ weighted_same (to_z w64 (of_z w64 c.args.factor)) c.args.factor (to_z w64 (of_z w64 c.args.number)) c.args.number
    (to_z w64 (of_z w64 c.args.other_factor)) c.args.other_factor (to_z w64 (of_z w64 c.args.other)) c.args.other
    (to_z-of_z w64 c.args.factor c.ranges.factor) (to_z-of_z w64 c.args.number c.ranges.number)
    (to_z-of_z w64 c.args.other_factor c.ranges.other_factor) (to_z-of_z w64 c.args.other c.ranges.other)
