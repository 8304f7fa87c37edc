use Rattle.std.proofs.Common.{◌≡◌, ◌^◌, ◌≤◌, sym, ◌∙◌, arith}
use Rattle.std.proofs.lemmas.Bool.{ne_eqb, le-ltb}
use Rattle.std.proofs.Math.Pow.{pow_mono}
use Rattle.fhe_level.proofs.rows.is_power.Goals as goal

pub returns-else-exponent-lt32 : goal.returns-else-exponent-lt32
returns-else-exponent-lt32 c =
    let most : 2 ^ 32 ≤ 2 ^ c.args.exponent = pow_mono {i = 32} {j = c.args.exponent} (omega arith) in
    le-ltb c.args.exponent 32 c.if-exponent-lt32.false ∙ sym (ne_eqb c.args.number (2 ^ c.args.exponent) (λ same. absurd (omega arith)))
