use Rattle.std.proofs.Common.{arith, sym, subst, ◌∙◌, ◌+◌, ◌*◌, ◌^◌, ◌≡◌, ◌≤◌, ap, replicate, List, ℕ}
use Rattle.std.proofs.Math.Nat.{pow-le-pow_right}
use Rattle.ggsw_core.specs.Ggsw.{IsGgsw}
use Rattle.ggsw_core.proofs.Rows.{zero_is_ggsw}
use Rattle.ggsw_core.proofs.ggsw.Ggsw.new.Goals as goal

pub invariant_of-result : goal.invariant_of-result
invariant_of-result c =
    let whole : c.loop-row._row ≡ (c.args.k + 1) * c.args.level = omega arith in
    let least : 2 ^ 1 ≤ 2 ^ c.args.log_n = pow-le-pow_right (omega arith) c.requires.one_or_more in
    let most : 2 ^ c.args.log_n ≤ 2 ^ 13 = pow-le-pow_right (omega arith) c.requires.thirteen_or_less in
    let P : List (List (List ℕ)) → Type 0 = λ rows. IsGgsw (record { base = c.args.base; level = c.args.level; rows = rows }) in
    subst P (sym (c.loop-row.invariant ∙ ap (λ m. replicate m (replicate (c.args.k + 1) (replicate (2 ^ c.args.log_n) 0))) whole))
    (zero_is_ggsw (c.args.k + 1) (2 ^ c.args.log_n) c.args.base c.args.level (omega arith) (omega arith) (omega arith) (omega arith) (record { some_bits = c.requires.some_bits; some_digits = c.requires.some_digits; fits = c.requires.fits }))
