use Rattle.std.proofs.Common.{◌≡◌, [], true, false, Ok, sym, ◌∙◌, refl}
use Rattle.std.proofs.lemmas.Result.{err_from_is_err_and}
use Rattle.circuit_digest.specs.ParamsDigest.{params_digest}
use Rattle.command_forms.specs.Names.{is_no_eval}
use Rattle.command_forms.specs.StepLemmas.{reads_refused, reads_then, reads_nothing}
use Rattle.command_files.specs.Files.{eval_from}
use Rattle.run_command.specs.Run.{some_keys, keys_view}
use Rattle.run_command.proofs.RunLemmas.{keys_told}
use Rattle.run_command.proofs.keys.keys_from.Goals as goal

pub returns-then-is_no_eval-clause-reads : goal.returns-then-is_no_eval-clause-reads
returns-then-is_no_eval-clause-reads g c =
    keys_told c.args.eval.now true (sym c.is_no_eval.ensures ∙ c.if-is_no_eval.true) _ _ keys_view _ c.args.circuit.now (reads_nothing _ _ _ _ refl)

pub returns-in_err-keys-clause-reads : goal.returns-in_err-keys-clause-reads
returns-in_err-keys-clause-reads g c =
    let p = err_from_is_err_and c.from_residual.result c.from_residual.ensures.1 in
    let params = c.args.circuit.now.params in
    rw (p.1, p.2) (keys_told c.args.eval.now false (sym c.is_no_eval.ensures ∙ c.if-is_no_eval.false) _ _ keys_view _ c.args.circuit.now
    (reads_refused [] _ _ _ _ _ (eval_from (params_digest params) params c.args.eval.now) (λ files rows. Ok (some_keys rows)) (rw c.requires.digest at c.in_err-keys.ensures.reads)))

pub returns-clause-reads : goal.returns-clause-reads
returns-clause-reads g c =
    let params = c.args.circuit.now.params in
    keys_told c.args.eval.now false (sym c.is_no_eval.ensures ∙ c.if-is_no_eval.false) _ _ keys_view _ c.args.circuit.now
    (reads_then {more = []} _ _ _ _ _ _ _ (eval_from (params_digest params) params c.args.eval.now) (λ files rows. Ok (some_keys rows)) (rw c.requires.digest at c.in_ok-keys.ensures.reads) (reads_nothing _ _ _ _ refl))

pub returns-clause-valid : goal.returns-clause-valid
returns-clause-valid g c = (sym c.is_no_eval.ensures ∙ c.if-is_no_eval.false, c.in_ok-keys.ensures.valid)
