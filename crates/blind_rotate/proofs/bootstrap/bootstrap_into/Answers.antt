use Rattle.std.proofs.Common.{◌≡◌, ◌+◌, ◌*◌, ◌^◌, ◌≤◌, ℕ, sym, subst, ap, ◌∙◌, length}
use Rattle.blind_rotate.specs.BootKey.{GlweShape}
use Rattle.blind_rotate.specs.Noise.{ReadsTest, LooksUp}
use Rattle.blind_rotate.proofs.Steps.{whole_bootstrap, extracted_length}
use Rattle.blind_rotate.proofs.bootstrap.bootstrap_into.Goals as goal

pub returns-clause-words : goal.returns-clause-words
returns-clause-words c =
    let k : ℕ = c.room.inside.k in
    let log_n : ℕ = c.room.inside.log_n in
    let shape = c.requires.key ∙ sym c.room.view_is in
    whole_bootstrap c.args.key.now k log_n c.word.result c.room.inside.acc c.start.new.acc c.rotate_blindly.new.acc c.ggsws.result.now c.args.test.now c.args.c.now c.words.result.now c.extract_into.new.out
    shape c.room.invariant.0 (cc) c.ggsws.ensures c.words.ensures c.start.ensures.words c.rotate_blindly.ensures.words (cc)

pub returns-clause-near : goal.returns-clause-near
returns-clause-near c =
    let log_n = ap (λ (s : GlweShape). s.log_n) c.requires.key in
    subst (ReadsTest c.args.key.now c.args.test.now c.args.c.now) (sym (returns-clause-words c))
    (c.laws.ensures.bootstraps.bootstrapped_near c.args.key.now c.args.test.now c.args.c.now (c.requires.test ∙ ap (λ l. 2 ^ l) (sym log_n)) c.requires.small)

pub returns-clause-entry : goal.returns-clause-entry
returns-clause-entry c =
    let log_n = ap (λ (s : GlweShape). s.log_n) c.requires.key in
    let high : c.args.room.now.log_n ≤ 13 = subst (λ (s : GlweShape). s.log_n ≤ 13) c.room.view_is c.room.invariant.5 in
    subst (LooksUp c.args.key.now c.args.test.now c.args.c.now) (sym (returns-clause-words c))
    (c.laws.ensures.bootstraps.bootstrapped_entry c.args.key.now c.args.test.now c.args.c.now (subst (λ l. l ≤ 13) (sym log_n) high) (c.requires.test ∙ ap (λ l. 2 ^ l) (sym log_n)) c.requires.small)

pub returns-clause-dim : goal.returns-clause-dim
returns-clause-dim c =
    let k : ℕ = c.room.inside.k in
    let n : ℕ = 2 ^ c.room.inside.log_n in
    let lengths = c.rotate_blindly.ensures.shape ∙ c.start.ensures.shape ∙ c.room.invariant.0 in
    let big : length c.args.out.now ≡ k * n + 1 = subst (λ (s : GlweShape). length c.args.out.now ≡ s.k * 2 ^ s.log_n + 1) (sym c.room.view_is) c.requires.big in
    ap length c.extract_into.ensures ∙ extracted_length c.laws-2.ensures.extraction c.rotate_blindly.new.acc k n lengths ∙ sym big
