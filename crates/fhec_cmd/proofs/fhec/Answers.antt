use Rattle.std.proofs.Common.{◌≡◌, subst, refl, map}
use Rattle.std.specs.String.{string_bytes}
use Rattle.command_forms.specs.Outside.{MayLeave, Outside, outside, store_at}
use Rattle.command_forms.specs.LeaveLemmas.{leaves_nothing}
use Rattle.key_commands.specs.Words.{keygen_view, encrypt_view, decrypt_view}
use Rattle.run_command.specs.Words.{run_view}
use Rattle.program_commands.specs.Words.{compile_view, clear_view}
use Rattle.fhec_cmd.specs.CommandLine.{Request, faulty}
use Rattle.fhec_cmd.specs.Commands.{outcome_of_request}
use Rattle.fhec_cmd.specs.Headline.{Headline}
use Rattle.fhec_cmd.proofs.Requests.{apart, compile_distinct, check_distinct, clear_distinct, keygen_distinct, encrypt_distinct, run_distinct, decrypt_distinct}
use Rattle.fhec_cmd.proofs.fhec.Goals as goal

pub returns-in-Faulty-clause-outcome : goal.returns-in-Faulty-clause-outcome
returns-in-Faulty-clause-outcome g c =
    leaves_nothing _ _ (λ files. subst (λ (request : Request). outcome_of_request request files ≡ outcome_of_request faulty files) c.in-Faulty.ensures refl)

pub compile-requires : goal.compile-requires
compile-requires g c = record { distinct = compile_distinct (compile_view c.in-Compile.names) _ c.in-Compile.ensures (apart (map string_bytes c.args.words.now)) }

pub returns-in-Compile-clause-outcome : goal.returns-in-Compile-clause-outcome
returns-in-Compile-clause-outcome g c =
    let store_of = store_at g.S.Store.files g.S.Store.shown g.S.Store.read_faults g.S.Store.write_faults in
    let before : Outside = outside (store_of c.args.store.now) g.O.Sink.taken g.O.Sink.put_faults c.args.out.now in
    let after : Outside = outside (store_of c.compile.new.store) g.O.Sink.taken g.O.Sink.put_faults c.compile.new.out in
    subst (λ (request : Request). MayLeave (λ files. outcome_of_request request files) c.compile.result before after) c.in-Compile.ensures c.compile.ensures.outcome

pub returns-in-Compile-clause-headline : goal.returns-in-Compile-clause-headline
returns-in-Compile-clause-headline g c =
    let store_of = store_at g.S.Store.files g.S.Store.shown g.S.Store.read_faults g.S.Store.write_faults in
    let before : Outside = outside (store_of c.args.store.now) g.O.Sink.taken g.O.Sink.put_faults c.args.out.now in
    let after : Outside = outside (store_of c.compile.new.store) g.O.Sink.taken g.O.Sink.put_faults c.compile.new.out in
    subst (λ (request : Request). Headline request c.compile.result before after) c.in-Compile.ensures c.compile.ensures.headline

pub check-requires : goal.check-requires
check-requires g c = record { distinct = check_distinct (compile_view c.in-Check.names) _ c.in-Check.ensures (apart (map string_bytes c.args.words.now)) }

pub returns-in-Check-clause-outcome : goal.returns-in-Check-clause-outcome
returns-in-Check-clause-outcome g c =
    let store_of = store_at g.S.Store.files g.S.Store.shown g.S.Store.read_faults g.S.Store.write_faults in
    let before : Outside = outside (store_of c.args.store.now) g.O.Sink.taken g.O.Sink.put_faults c.args.out.now in
    let after : Outside = outside (store_of c.check.new.store) g.O.Sink.taken g.O.Sink.put_faults c.check.new.out in
    subst (λ (request : Request). MayLeave (λ files. outcome_of_request request files) c.check.result before after) c.in-Check.ensures c.check.ensures

pub returns-in-Check-clause-headline : goal.returns-in-Check-clause-headline
returns-in-Check-clause-headline g c =
    let store_of = store_at g.S.Store.files g.S.Store.shown g.S.Store.read_faults g.S.Store.write_faults in
    let before : Outside = outside (store_of c.args.store.now) g.O.Sink.taken g.O.Sink.put_faults c.args.out.now in
    let after : Outside = outside (store_of c.check.new.store) g.O.Sink.taken g.O.Sink.put_faults c.check.new.out in
    subst (λ (request : Request). Headline request c.check.result before after) c.in-Check.ensures (λ ok files now told later. tt)

pub clear-requires : goal.clear-requires
clear-requires g c = record { distinct = clear_distinct (clear_view c.in-Clear.names) _ c.in-Clear.ensures (apart (map string_bytes c.args.words.now)) }

pub returns-in-Clear-clause-outcome : goal.returns-in-Clear-clause-outcome
returns-in-Clear-clause-outcome g c =
    let store_of = store_at g.S.Store.files g.S.Store.shown g.S.Store.read_faults g.S.Store.write_faults in
    let before : Outside = outside (store_of c.args.store.now) g.O.Sink.taken g.O.Sink.put_faults c.args.out.now in
    let after : Outside = outside (store_of c.clear.new.store) g.O.Sink.taken g.O.Sink.put_faults c.clear.new.out in
    subst (λ (request : Request). MayLeave (λ files. outcome_of_request request files) c.clear.result before after) c.in-Clear.ensures c.clear.ensures

pub returns-in-Clear-clause-headline : goal.returns-in-Clear-clause-headline
returns-in-Clear-clause-headline g c =
    let store_of = store_at g.S.Store.files g.S.Store.shown g.S.Store.read_faults g.S.Store.write_faults in
    let before : Outside = outside (store_of c.args.store.now) g.O.Sink.taken g.O.Sink.put_faults c.args.out.now in
    let after : Outside = outside (store_of c.clear.new.store) g.O.Sink.taken g.O.Sink.put_faults c.clear.new.out in
    subst (λ (request : Request). Headline request c.clear.result before after) c.in-Clear.ensures (λ ok files now told later. tt)

pub keygen-requires : goal.keygen-requires
keygen-requires g c = record { distinct = keygen_distinct (keygen_view c.in-Keygen.names) _ c.in-Keygen.ensures (apart (map string_bytes c.args.words.now)) }

pub returns-in-Keygen-clause-outcome : goal.returns-in-Keygen-clause-outcome
returns-in-Keygen-clause-outcome g c =
    let store_of = store_at g.S.Store.files g.S.Store.shown g.S.Store.read_faults g.S.Store.write_faults in
    let before : Outside = outside (store_of c.args.store.now) g.O.Sink.taken g.O.Sink.put_faults c.args.out.now in
    let after : Outside = outside (store_of c.keygen.new.store) g.O.Sink.taken g.O.Sink.put_faults c.keygen.new.out in
    subst (λ (request : Request). MayLeave (λ files. outcome_of_request request files) c.keygen.result before after) c.in-Keygen.ensures c.keygen.ensures.outcome

pub returns-in-Keygen-clause-headline : goal.returns-in-Keygen-clause-headline
returns-in-Keygen-clause-headline g c =
    let store_of = store_at g.S.Store.files g.S.Store.shown g.S.Store.read_faults g.S.Store.write_faults in
    let before : Outside = outside (store_of c.args.store.now) g.O.Sink.taken g.O.Sink.put_faults c.args.out.now in
    let after : Outside = outside (store_of c.keygen.new.store) g.O.Sink.taken g.O.Sink.put_faults c.keygen.new.out in
    subst (λ (request : Request). Headline request c.keygen.result before after) c.in-Keygen.ensures c.keygen.ensures.headline

pub encrypt-requires : goal.encrypt-requires
encrypt-requires g c = record { distinct = encrypt_distinct (encrypt_view c.in-Encrypt.names) _ c.in-Encrypt.ensures (apart (map string_bytes c.args.words.now)) }

pub returns-in-Encrypt-clause-outcome : goal.returns-in-Encrypt-clause-outcome
returns-in-Encrypt-clause-outcome g c =
    let store_of = store_at g.S.Store.files g.S.Store.shown g.S.Store.read_faults g.S.Store.write_faults in
    let before : Outside = outside (store_of c.args.store.now) g.O.Sink.taken g.O.Sink.put_faults c.args.out.now in
    let after : Outside = outside (store_of c.encrypt.new.store) g.O.Sink.taken g.O.Sink.put_faults c.encrypt.new.out in
    subst (λ (request : Request). MayLeave (λ files. outcome_of_request request files) c.encrypt.result before after) c.in-Encrypt.ensures c.encrypt.ensures.outcome

pub returns-in-Encrypt-clause-headline : goal.returns-in-Encrypt-clause-headline
returns-in-Encrypt-clause-headline g c =
    let store_of = store_at g.S.Store.files g.S.Store.shown g.S.Store.read_faults g.S.Store.write_faults in
    let before : Outside = outside (store_of c.args.store.now) g.O.Sink.taken g.O.Sink.put_faults c.args.out.now in
    let after : Outside = outside (store_of c.encrypt.new.store) g.O.Sink.taken g.O.Sink.put_faults c.encrypt.new.out in
    subst (λ (request : Request). Headline request c.encrypt.result before after) c.in-Encrypt.ensures c.encrypt.ensures.headline

pub run-requires : goal.run-requires
run-requires g c = record { distinct = run_distinct (run_view c.in-Run.names) _ c.in-Run.ensures (apart (map string_bytes c.args.words.now)) }

pub returns-in-Run-clause-outcome : goal.returns-in-Run-clause-outcome
returns-in-Run-clause-outcome g c =
    let store_of = store_at g.S.Store.files g.S.Store.shown g.S.Store.read_faults g.S.Store.write_faults in
    let before : Outside = outside (store_of c.args.store.now) g.O.Sink.taken g.O.Sink.put_faults c.args.out.now in
    let after : Outside = outside (store_of c.run.new.store) g.O.Sink.taken g.O.Sink.put_faults c.run.new.out in
    subst (λ (request : Request). MayLeave (λ files. outcome_of_request request files) c.run.result before after) c.in-Run.ensures c.run.ensures.outcome

pub returns-in-Run-clause-headline : goal.returns-in-Run-clause-headline
returns-in-Run-clause-headline g c =
    let store_of = store_at g.S.Store.files g.S.Store.shown g.S.Store.read_faults g.S.Store.write_faults in
    let before : Outside = outside (store_of c.args.store.now) g.O.Sink.taken g.O.Sink.put_faults c.args.out.now in
    let after : Outside = outside (store_of c.run.new.store) g.O.Sink.taken g.O.Sink.put_faults c.run.new.out in
    subst (λ (request : Request). Headline request c.run.result before after) c.in-Run.ensures (λ ok files now told later.
    let ran = c.run.ensures.headline ok files now told later in
    (ran, λ big small values good. c.laws.ensures.printed ran.circuit ran.keys big small values ran.inputs.ciphertexts ran.rules good))

pub decrypt-requires : goal.decrypt-requires
decrypt-requires g c = record { distinct = decrypt_distinct (decrypt_view c.in-Decrypt.names) _ c.in-Decrypt.ensures (apart (map string_bytes c.args.words.now)) }

pub returns-in-Decrypt-clause-outcome : goal.returns-in-Decrypt-clause-outcome
returns-in-Decrypt-clause-outcome g c =
    let store_of = store_at g.S.Store.files g.S.Store.shown g.S.Store.read_faults g.S.Store.write_faults in
    let before : Outside = outside (store_of c.args.store.now) g.O.Sink.taken g.O.Sink.put_faults c.args.out.now in
    let after : Outside = outside (store_of c.decrypt.new.store) g.O.Sink.taken g.O.Sink.put_faults c.decrypt.new.out in
    subst (λ (request : Request). MayLeave (λ files. outcome_of_request request files) c.decrypt.result before after) c.in-Decrypt.ensures c.decrypt.ensures

pub returns-in-Decrypt-clause-headline : goal.returns-in-Decrypt-clause-headline
returns-in-Decrypt-clause-headline g c =
    let store_of = store_at g.S.Store.files g.S.Store.shown g.S.Store.read_faults g.S.Store.write_faults in
    let before : Outside = outside (store_of c.args.store.now) g.O.Sink.taken g.O.Sink.put_faults c.args.out.now in
    let after : Outside = outside (store_of c.decrypt.new.store) g.O.Sink.taken g.O.Sink.put_faults c.decrypt.new.out in
    subst (λ (request : Request). Headline request c.decrypt.result before after) c.in-Decrypt.ensures (λ ok files now told later. tt)
