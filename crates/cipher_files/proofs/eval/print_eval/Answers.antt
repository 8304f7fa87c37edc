use Rattle.cipher_files.specs.EvalFile.{EvalRows, eval_rows, IsEvalFile}
use Rattle.cipher_files.proofs.eval.print_eval.Goals as goal

pub returns-clause-valid : goal.returns-clause-valid
returns-clause-valid c = record { params = c.requires.params; switch = c.requires.switch; boot = c.requires.boot; switch_words = c.in_ok-out.ensures.switch_words; boot_words = c.in_ok-out.ensures.boot_words }

pub returns-clause-size : goal.returns-clause-size
returns-clause-size c =
    let keys : EvalRows = eval_rows c.args.switch.now c.args.boot.now in
    let is : IsEvalFile c.args.params.now keys = record { params = c.requires.params; switch = c.requires.switch; boot = c.requires.boot; switch_words = c.in_ok-out.ensures.switch_words; boot_words = c.in_ok-out.ensures.boot_words } in
    rw c.in_ok-out.ensures.spelled (c.laws.ensures.evals.size c.args.digest.now c.args.params.now keys c.known_digest.ensures.long is c.requires.words)
