use Rattle.std.proofs.Common.{ℕ, List, rules, ap, sym, cond, ◌++◌, ◌∙◌}
use Rattle.port_store.specs.Kept.{files_of}
use Rattle.port_store.proofs.KeptLemmas.{files_of-extended, files_of-kept, extended-missing}
use Rattle.port_store.proofs.Told.{OnOk-from, OnErr-from}
use Rattle.port_store.proofs.mem_store.extend.Goals as goal

pub returns-in-Some-clause-ok : goal.returns-in-Some-clause-ok
returns-in-Some-clause-ok c =
    let before = c.in-Some.bytes.now in
    let after = c.extend_from_slice.new.self in
    let there = sym c.in-Some.ensures.value in
    OnOk-from _ (λ ok.
    files_of-extended c.args.files.now (c.get_mut.follows.lender after) c.args.name.now c.args.piece.now before after there
    (◌∙◌ {A = List ℕ} c.extend_from_slice.ensures.items (ap (λ b. cond b (before.items ++ c.args.piece.now) before.items) ok))
    ((c.get_mut.follows.holds after).3 (search rules)))

pub returns-in-Some-clause-err : goal.returns-in-Some-clause-err
returns-in-Some-clause-err c =
    let before = c.in-Some.bytes.now in
    let after = c.extend_from_slice.new.self in
    let there = sym c.in-Some.ensures.value in
    OnErr-from _ (λ err.
    files_of-kept c.args.files.now (c.get_mut.follows.lender after) c.args.name.now before after there
    (◌∙◌ {A = List ℕ} c.extend_from_slice.ensures.items (ap (λ b. cond b (before.items ++ c.args.piece.now) before.items) err))
    ((c.get_mut.follows.holds after).3 (search rules)))

pub returns-in-None-clause-ok : goal.returns-in-None-clause-ok
returns-in-None-clause-ok c =
    ap files_of c.get_mut.follows.holds-at-none ∙ sym (extended-missing c.args.files.now c.args.name.now c.args.piece.now (sym c.in-None.ensures.value))
