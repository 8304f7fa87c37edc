use Rattle.std.proofs.Common.{arith}
use Rattle.cipher_files.specs.EvalFile.{eval_rows}
use Rattle.cipher_files.proofs.Pieces.{all_bytes}
use Rattle.cipher_files.proofs.EvalTexts.{eval_valid}
use Rattle.cipher_files.proofs.eval.read_eval.Goals as goal

pub returns-clause-valid : goal.returns-clause-valid
returns-clause-valid c =
    eval_valid (λ read. eval_rows read.0 read.1) c.args.digest.now c.args.params.now (λ bytes keys all read. c.laws.ensures.evals.read c.args.digest.now c.args.params.now bytes keys c.requires all read) c.args.bytes.now c.checked_eval.result (all_bytes c.args.bytes.now (λ i. omega (arith, c.type_inv.bytes i))) c.checked_eval.ensures
