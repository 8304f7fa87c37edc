use Rattle.std.proofs.Common.{◌≡◌, ◌+◌, ◌^◌, ℕ, List, replicate, sym, subst, refl}
use Rattle.std.specs.List.{All}
use Rattle.std.proofs.lemmas.List.Elements.{All-replicate}
use Rattle.ggsw_core.specs.Ggsw.{GgswRows, row_lengths, zero_ggsw}
use Rattle.blind_rotate.proofs.Steps.{zero_row_lengths}
use Rattle.blind_rotate.proofs.key.BootKey.new.Goals as goal

pub invariant_of-result : goal.invariant_of-result
invariant_of-result c =
    let k : ℕ = c.args.k in
    let n : ℕ = 2 ^ c.args.log_n in
    let zero : GgswRows = zero_ggsw (k + 1) n c.args.base c.args.level in
    let some : ℕ = c.loop-bit._bit in
    let zeros = sym c.loop-bit.invariant.zeros in
    let Lengths : List GgswRows → Type 0 = λ gs. All (λ g. row_lengths g ≡ replicate (k + 1) n) gs in
    let Bases : List GgswRows → Type 0 = λ gs. All (λ g. g.base ≡ c.args.base) gs in
    let Levels : List GgswRows → Type 0 = λ gs. All (λ g. g.level ≡ c.args.level) gs in
    record {
      ciphertexts = c.loop-bit.invariant.ciphertexts;
      lengths = subst Lengths zeros (All-replicate (λ g. row_lengths g ≡ replicate (k + 1) n) some zero (zero_row_lengths k n c.args.base c.args.level c.requires.some_digits));
      bases = subst Bases zeros (All-replicate (λ (g : GgswRows). g.base ≡ c.args.base) some zero refl);
      levels = subst Levels zeros (All-replicate (λ (g : GgswRows). g.level ≡ c.args.level) some zero refl);
    }
