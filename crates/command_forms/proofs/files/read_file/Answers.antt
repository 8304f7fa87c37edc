use Rattle.std.proofs.Common.{Err, refl, inl, inr, ap, ⊎_elim, arith}
use Rattle.port_store.specs.declared.fault.ReadRefusal.{ReadRefusal}
use Rattle.command_forms.specs.StepLemmas.{out_of_memory}
use Rattle.command_forms.proofs.ReadLemmas.{read_within, read_above, read_missing, told_or_not, without_fault}
use Rattle.command_forms.proofs.files.read_file.Goals as goal

pub returns-in-Ok-clause-reads : goal.returns-in-Ok-clause-reads
returns-in-Ok-clause-reads g c =
    let e = c.in-Ok.ensures in
    without_fault _ _ _ _ _ (read_within c.laws.ensures _ _ c.args.name.now c.args.most _ c.in-Ok.bytes e.content (omega (arith, e.within, c.in-Ok.bytes.ok)) e.shown) e.files e.ok e.no_write

pub returns-in-Err-Failed-clause-reads : goal.returns-in-Err-Failed-clause-reads
returns-in-Err-Failed-clause-reads g c =
    let e = c.in-Err-Failed.ensures in
    let is = ap (λ (r : ReadRefusal). Err r) c.in-Err-Failed.field-0-is in
    record {
      read = ⊎_elim (λ missing. inl (read_missing _ _ c.args.name.now c.args.most _ missing (e.unseen missing))) (λ held. inr (inl (refl, e.failed is held))) (told_or_not _ _);
      fault = λ rose. inl refl;
      files_stay = e.files;
      never_fall = e.never_fall;
      writes_stay = e.no_write;
    }

pub returns-in-Err-Memory-clause-reads : goal.returns-in-Err-Memory-clause-reads
returns-in-Err-Memory-clause-reads g c =
    let e = c.in-Err-Memory.ensures in
    out_of_memory _ _ _ _ e.files e.never_fall e.no_write

pub returns-in-Err-Above-clause-reads : goal.returns-in-Err-Above-clause-reads
returns-in-Err-Above-clause-reads g c =
    let e = c.in-Err-Above.ensures in
    let is = c.in-Err-Above.field-0-is in
    rw (c.from.ensures, c.from-in-Err-Above.ensures) (without_fault _ _ _ _ _ (read_above c.laws.ensures _ _ c.args.name.now c.args.most c.in-Err-Above.size _ (rw is at e.size) (rw is at e.above) (rw is at e.sized)) e.files (rw is at e.no_fault) e.no_write)
