use Rattle.std.proofs.Common.{◌≡◌, ◌+◌, ℕ, List, length, replicate, sym, subst, ap, ◌∙◌, arith}
use Rattle.std.proofs.lemmas.List.{length-replicate}
use Rattle.std.proofs.lemmas.List.Elements.{All-replicate}
use Rattle.word_ring.specs.Rows.{AllOfLength}
use Rattle.key_switch.proofs.key.SwitchKey.new.Goals as goal

pub invariant_of-result : goal.invariant_of-result
invariant_of-result c =
    let zero : List ℕ = replicate (c.args.small_dim + 1) 0 in
    record {
      gadget = record { some_bits = c.requires.some_bits; some_digits = c.requires.some_digits; fits = c.requires.fits };
      count = ap length c.loop.invariant ∙ length-replicate c.loop.counter zero ∙ omega arith;
      long = subst (AllOfLength (c.args.small_dim + 1)) (sym c.loop.invariant) (All-replicate (λ row. length row ≡ c.args.small_dim + 1) c.loop.counter zero (length-replicate {A = ℕ} (c.args.small_dim + 1) 0));
    }
