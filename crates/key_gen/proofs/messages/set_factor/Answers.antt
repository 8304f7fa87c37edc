use Rattle.std.proofs.Common.{◌≡◌, ℕ, ◌*◌, ◌/◌, length, map, take, drop, sym, ap, arith, ◌∙◌}
use Rattle.word_ring.specs.Words.{word_negation}
use Rattle.lwe_core.specs.Secret.{bit_words}
use Rattle.key_gen.proofs.Factors.{polynomial_inside, polynomial_length, mask_factor, body_factor}
use Rattle.key_gen.proofs.messages.set_factor.Goals as goal

pub overflow_mul-j : goal.overflow_mul-j
overflow_mul-j c =
    let k = c.args.k in
    let j = c.args.j in
    let n = length c.args.out.now in
    let flat = c.args.key.now in
    let long : c.len.result / k ≡ n = polynomial_length k n j c.len.result flat c.if-j-k.true c.len.ensures c.requires.key in
    let place : j * (c.len.result / k) ≡ j * n = ap (λ (m : ℕ). j * m) long in
    omega (arith, place, polynomial_inside k n j flat c.if-j-k.true c.requires.key, c.len.ensures, c.len.type_inv)

pub set_minus_bits-requires : goal.set_minus_bits-requires
set_minus_bits-requires c =
    let k = c.args.k in
    let j = c.args.j in
    let n = length c.args.out.now in
    let flat = c.args.key.now in
    let long : c.len.result / k ≡ n = polynomial_length k n j c.len.result flat c.if-j-k.true c.len.ensures c.requires.key in
    let place : j * (c.len.result / k) ≡ j * n = ap (λ (m : ℕ). j * m) long in
    omega (arith, place, polynomial_inside k n j flat c.if-j-k.true c.requires.key)

pub returns-then-j-k-clause-factor : goal.returns-then-j-k-clause-factor
returns-then-j-k-clause-factor c =
    let k = c.args.k in
    let j = c.args.j in
    let n = length c.args.out.now in
    let flat = c.args.key.now in
    let long : c.len.result / k ≡ n = polynomial_length k n j c.len.result flat c.if-j-k.true c.len.ensures c.requires.key in
    c.set_minus_bits.ensures.bits ∙ ap (λ (m : ℕ). map word_negation (bit_words (take n (drop (j * m) flat)))) long ∙ sym (mask_factor k n j flat c.if-j-k.true)

pub returns-else-j-k-clause-factor : goal.returns-else-j-k-clause-factor
returns-else-j-k-clause-factor c =
    c.set_one.ensures.one ∙ sym (body_factor c.args.k (length c.args.out.now) c.args.j c.args.key.now (omega (arith, c.if-j-k.false, c.requires.part)))
