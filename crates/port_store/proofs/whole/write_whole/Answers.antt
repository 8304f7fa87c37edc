use Rattle.std.proofs.Common.{◌+◌, ◌∙◌, subst, arith}
use Rattle.std.proofs.lemmas.Result.{err_from_is_err_and}
use Rattle.port_store.specs.Files.{Told, IsWritten}
use Rattle.port_store.proofs.Told.{IsWritten-appended, MayBeWritten-appended, MayHold-written, OnErr-always}
use Rattle.port_store.proofs.Pieces.{take-append-take, take-append-next}
use Rattle.port_store.proofs.whole.write_whole.Goals as goal

pub loop-written-preserved : goal.loop-written-preserved
loop-written-preserved g c =
    let files = g.S.Store.files in
    let bytes = c.args.bytes.now in
    let written = c.loop-written.written in
    let next = written + c.min.result in
    record {
      room = omega (arith, c.min.ensures);
      told =
          subst (λ front. Told (IsWritten c.args.name.now front) (files c.args.store.now) (files c.append.new.self))
          (take-append-next written next bytes (omega arith))
          (IsWritten-appended _ _ _ _ _ _ c.loop-written.invariant.told c.in_ok-append.ensures.appended);
      reads = c.in_ok-append.ensures.no_read ∙ c.loop-written.invariant.reads;
      writes = c.in_ok-append.ensures.ok ∙ c.loop-written.invariant.writes;
      account = c.in_ok-append.ensures.account ∙ c.loop-written.invariant.account;
    }

pub returns-in_err-append-clause-err : goal.returns-in_err-append-clause-err
returns-in_err-append-clause-err g c =
    let bytes = c.args.bytes.now in
    let written = c.loop-written.written in
    OnErr-always _ (MayBeWritten-appended _ _ _ _ _ _ bytes (λ kept. (_, take-append-take written _ kept bytes)) c.loop-written.invariant.told c.in_err-append.ensures.err)

pub returns-in_err-append-clause-failed : goal.returns-in_err-append-clause-failed
returns-in_err-append-clause-failed g c =
    let p = err_from_is_err_and c.from_residual-in_err-append.result c.from_residual-in_err-append.ensures.1 in
    let held = MayHold-written _ _ _ _ c.loop-written.invariant.told in
    let w = c.loop-written.invariant.writes in
    rw (p.1, p.2, ← w) (λ failed. c.in_err-append.ensures.failed failed held)
