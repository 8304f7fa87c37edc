use Rattle.std.proofs.Common.{Err, refl, ap, inl, inr, arith}
use Rattle.port_store.specs.declared.fault.PortFault.{PortFault}
use Rattle.command_forms.specs.LeaveLemmas.{one_file_ends, one_file_cut}
use Rattle.command_forms.proofs.files.write_file.Goals as goal

pub returns-in-Ok : goal.returns-in-Ok
returns-in-Ok g c =
    let e = c.in-Ok.ensures in
    record {
      ends = λ taken puts. one_file_ends c.args.name.now c.args.bytes.now _ _ taken puts e.written;
      ok = λ same. e.ok;
      shown_stays = e.account;
      reads_stay = e.no_read;
      fault = λ rose. absurd (omega (arith, rose, e.ok));
    }

pub returns-in-Err-Failed : goal.returns-in-Err-Failed
returns-in-Err-Failed g c =
    let e = c.in-Err-Failed.ensures in
    record {
      ends = λ taken puts. one_file_cut c.args.name.now c.args.bytes.now _ _ _ taken puts (inl (refl, e.failed (ap (λ (f : PortFault). Err f) c.in-Err-Failed.field-0-is))) e.err;
      ok = λ same. absurd cc;
      shown_stays = e.account;
      reads_stay = e.no_read;
      fault = λ rose. inl refl;
    }

pub returns-in-Err-Memory : goal.returns-in-Err-Memory
returns-in-Err-Memory g c =
    let e = c.in-Err-Memory.ensures in
    record {
      ends = λ taken puts. one_file_cut c.args.name.now c.args.bytes.now _ _ _ taken puts (inr refl) e.err;
      ok = λ same. absurd cc;
      shown_stays = e.account;
      reads_stay = e.no_read;
      fault = λ rose. inr refl;
    }
