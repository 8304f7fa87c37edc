use Rattle.std.proofs.Common.{◌≡◌, ◌+◌, ◌-◌, ◌<◌, ◌/◌, ◌%◌, ◌^◌, arith, ap, sym, subst, ◌∙◌}
use Rattle.word_ring.proofs.RoundingParts.{switched_is, switched_small}
use Rattle.word_ring.specs.Rounding.{mod_switched}
use Rattle.word_ring.proofs.rounding.mod_switch.Goals as goal

pub returns : goal.returns
returns c =
    let half : c.half_step.result ≡ 2 ^ (62 - c.args.log_n) = c.half_step.ensures ∙ ap (λ k. 2 ^ k) (omega arith) in
    ap (λ h. (c.args.w + h) % 2 ^ 64 / 2 ^ (63 - c.args.log_n)) half ∙ switched_is c.args.w c.args.log_n c.requires.high

pub overflow_cast-result-2 : goal.overflow_cast-result-2
overflow_cast-result-2 c = let small : mod_switched c.args.w c.args.log_n < 2 ^ 32 = switched_small c.args.w c.args.log_n c.requires.high in
    record { fits = subst (λ x. x < 2 ^ 32) (sym (returns c)) small }
