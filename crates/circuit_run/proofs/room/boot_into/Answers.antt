use Rattle.std.proofs.Common.{◌+◌, ◌*◌, ◌^◌, ◌∙◌, ap}
use Rattle.lut_encode.specs.TestPolynomial.{test_polynomial}
use Rattle.blind_rotate.specs.BootKey.{GlweShape}
use Rattle.blind_rotate.specs.Bootstrap.{bootstrapped}
use Rattle.circuit_run.proofs.room.boot_into.Goals as goal

pub bootstrap_into-requires-clause-test : goal.bootstrap_into-requires-clause-test
bootstrap_into-requires-clause-test c = c.test_into.ensures.length ∙ c.requires.test ∙ ap (λ (s : GlweShape). 2 ^ s.log_n) c.requires.key

pub bootstrap_into-requires-clause-big : goal.bootstrap_into-requires-clause-big
bootstrap_into-requires-clause-big c = c.requires.big ∙ ap (λ (s : GlweShape). s.k * 2 ^ s.log_n + 1) c.requires.key

pub returns-clause-words : goal.returns-clause-words
returns-clause-words c =
    c.bootstrap_into.ensures.words
    ∙ ap (λ test. bootstrapped c.args.key.now test c.args.c.now)
    (c.test_into.ensures.words ∙ ap (λ n. test_polynomial c.args.entries.now n c.args.width) c.requires.test)
