use Rattle.std.proofs.Common.{◌≡◌, ◌≤◌, ℕ, ◌+◌, ◌-◌, ◌*◌, ◌/◌, ◌%◌, ◌^◌, arith, ap, sym, subst, ◌∙◌, w64, FitsSigned, to_z, of_z}
use Rattle.std.specs.Prelude.{pos, ◌-ℤ◌}
use Rattle.std.proofs.lemmas.Nat.{one_shl}
use Rattle.gadget_decomp.proofs.Machine.{place_fits, base_fits, field_is, field_small, half_small, difference_fits, difference_is}
use Rattle.gadget_decomp.proofs.digits.digit.Goals as goal

pub overflow_sub-result-2 : goal.overflow_sub-result-2
overflow_sub-result-2 c =
    let y : ℕ = (c.args.word + c.args.halves) % 2 ^ 64 / 2 ^ (64 - c.args.base * c.args.t) in
    let fits : c.args.base ≤ 63 = base_fits c.args.base c.args.t c.requires.first (place_fits c.args.base c.args.level c.args.t c.requires.fits c.requires.last) in
    let half : 1 * 2 ^ (c.args.base - 1) % 2 ^ 64 ≡ 2 ^ (c.args.base - 1) = one_shl (c.args.base - 1) 64 (omega arith) in
    subst (λ n. FitsSigned w64 (to_z w64 n -ℤ to_z w64 (1 * 2 ^ (c.args.base - 1) % 2 ^ 64))) (sym (field_is y c.args.base fits))
    (subst (λ h. FitsSigned w64 (to_z w64 (y % 2 ^ c.args.base) -ℤ to_z w64 h)) (sym half)
    (difference_fits (y % 2 ^ c.args.base) (2 ^ (c.args.base - 1)) (field_small y c.args.base fits) (half_small c.args.base fits)))

pub returns : goal.returns
returns c =
    let y : ℕ = (c.args.word + c.args.halves) % 2 ^ 64 / 2 ^ (64 - c.args.base * c.args.t) in
    let fits : c.args.base ≤ 63 = base_fits c.args.base c.args.t c.requires.first (place_fits c.args.base c.args.level c.args.t c.requires.fits c.requires.last) in
    let half : 1 * 2 ^ (c.args.base - 1) % 2 ^ 64 ≡ 2 ^ (c.args.base - 1) = one_shl (c.args.base - 1) 64 (omega arith) in
    ap (λ n. to_z w64 (of_z w64 (to_z w64 n -ℤ to_z w64 (1 * 2 ^ (c.args.base - 1) % 2 ^ 64)))) (field_is y c.args.base fits)
    ∙ ap (λ h. to_z w64 (of_z w64 (to_z w64 (y % 2 ^ c.args.base) -ℤ to_z w64 h))) half
    ∙ difference_is (y % 2 ^ c.args.base) (2 ^ (c.args.base - 1)) (field_small y c.args.base fits) (half_small c.args.base fits)
    ∙ ap (λ halves. pos ((c.args.word + halves) % 2 ^ 64 / 2 ^ (64 - c.args.base * c.args.t) % 2 ^ c.args.base) -ℤ pos (2 ^ (c.args.base - 1))) c.requires.given
