use Rattle.std.proofs.Common.{◌<◌, ◌≤◌, ◌-◌, ◌+◌, ◌≡◌, ℕ, List, ◌∷◌, Some, Ok, length, take, refl, sym, subst, ap, ◌∙◌, arith, length-drop, length-take-le}
use Rattle.port_store.specs.Shown.{Shown, whole, after_read_at}
use Rattle.port_store.proofs.Accounts.{shown_so_far, account_goes_on, account_ends}
use Rattle.std.proofs.lemmas.List.{take_rest}
use Rattle.port_store.proofs.Told.{OfFile-always, OfFile-both}
use Rattle.port_store.proofs.Pieces.{take-put_mid, front-put_mid, take-put_mid-next, length-put_mid-rest}
use borrow.Rule.Slice.PartMut.{put_mid}
use Rattle.port_store.proofs.whole.fill.Goals as goal

pub loop-filled-init : goal.loop-filled-init
loop-filled-init g c = record {
  room = omega arith;
  content = OfFile-always _ _ _ (λ bytes. refl) c.requires;
  account = λ account e. e;
  files = refl;
  reads = refl;
  writes = refl;
}

pub loop-filled-preserved : goal.loop-filled-preserved
loop-filled-preserved g c =
    let told = c.loop-filled.invariant.files in
    let h = rw told at c.in_ok-count.ensures.copied in
    let filled = c.loop-filled.filled in
    let buffer = c.loop-filled.buffer in
    let part = c.read_at.new.buffer in
    let rest : length part ≡ length buffer - filled = c.read_at.auto.buffer ∙ ap length (take_rest buffer filled) ∙ length-drop filled buffer in
    let within : c.in_ok-count.count ≤ length part = omega (arith, c.read_at.auto.buffer, c.in_ok-count.ensures.room) in
    record {
      room = omega (arith, length-put_mid-rest buffer part filled c.loop-filled.invariant.room rest, within, rest);
      content = OfFile-both _ _ _ _ _ (λ bytes front copies. take-put_mid-next bytes buffer part filled _ _ c.loop-filled.invariant.room within front copies.copied) c.loop-filled.invariant.content h;
      account = λ account e.
          let name = c.args.name.now in
          let front = take filled buffer in
          let here : length front ≡ filled = length-take-le filled buffer c.loop-filled.invariant.room in
          let some : 0 < c.in_ok-count.count = omega (arith, c.if-count-eq0.false) in
          let longer = take-put_mid buffer part filled (length buffer - filled) c.in_ok-count.count c.loop-filled.invariant.room within in
          let same : length (put_mid filled (length buffer - filled) buffer part) ≡ length buffer = length-put_mid-rest buffer part filled c.loop-filled.invariant.room rest in
          rw (longer, same) (c.in_ok-count.ensures.account _ (c.loop-filled.invariant.account account (rw same at e))
          ∙ ap (λ (shown : List Shown). Some shown) (account_goes_on name front part (length buffer) filled c.in_ok-count.count account here some within));
      files = c.in_ok-count.ensures.files ∙ told;
      reads = c.in_ok-count.ensures.ok ∙ c.loop-filled.invariant.reads;
      writes = c.in_ok-count.ensures.no_write ∙ c.loop-filled.invariant.writes;
    }

pub returns-then-count-eq0-clause-shown : goal.returns-then-count-eq0-clause-shown
returns-then-count-eq0-clause-shown g c = λ account e.
    let filled = c.loop-filled.filled in
    let buffer = c.loop-filled.buffer in
    let part = c.read_at.new.buffer in
    let name = c.args.name.now in
    let front = take filled buffer in
    let rest : length part ≡ length buffer - filled = c.read_at.auto.buffer ∙ ap length (take_rest buffer filled) ∙ length-drop filled buffer in
    let room : 0 < length part = omega (arith, rest, c.loop-filled-test.true) in
    let here : length front ≡ filled = length-take-le filled buffer c.loop-filled.invariant.room in
    let known = c.loop-filled.invariant.account account (rw c.loop-filled.auto.buffer e) in
    let ended = rw c.if-count-eq0.true at c.in_ok-count.ensures.account _ known in
    rw (front-put_mid buffer part filled (length buffer - filled) c.loop-filled.invariant.room)
    (ended ∙ ap (λ (shown : List Shown). Some shown) (account_ends name front part (length buffer) filled account here room))

pub returns-clause-shown : goal.returns-clause-shown
returns-clause-shown g c = λ account e.
    let filled = c.loop-filled.filled in
    let buffer = c.loop-filled.buffer in
    let all : length buffer ≡ filled = omega (arith, c.loop-filled-test.false, c.loop-filled.invariant.room) in
    c.loop-filled.invariant.account account (rw c.loop-filled.auto.buffer e)
    ∙ ap (λ (size : ℕ). Some (shown_so_far c.args.name.now size (take filled buffer) ∷ account)) (all ∙ sym (length-take-le filled buffer c.loop-filled.invariant.room))
