use Rattle.std.proofs.Common.{List, length, sym, ap, subst, ◌∙◌, arith}
use Rattle.std.proofs.lemmas.Result.{err_from_is_err_and}
use Rattle.refusals.specs.Reading.{Refuses}
use Rattle.sealed_files.specs.declared.kinds.HeaderField.{HeaderField}
use Rattle.sealed_files.specs.Kinds.{header_of, is_within}
use Rattle.sealed_files.proofs.HeaderLemmas.{Tested, fields_go_on, fields_end, fields_done, header_within}
use Rattle.sealed_files.proofs.reader.fields_within.Goals as goal

pub returns-in_err-unless-clause-exact : goal.returns-in_err-unless-clause-exact
returns-in_err-unless-clause-exact c =
    let items : List HeaderField = c.header_of-field-items.result.now in
    let tested : Tested (header_of c.args.kind) items c.loop-place.place c.args.bytes.now c.is_within.result = record { items = c.header_of-field-items.ensures; inside = c.loop-place-test.true; test = c.is_within.ensures ∙ ap (is_within _) c.word_at.ensures } in
    let p = err_from_is_err_and c.from_residual.result c.from_residual.ensures.1 in
    rw (p.1, p.2) (subst (Refuses c.in_err-unless.field-0.0) c.loop-place.invariant (fields_end c.in_err-unless.field-0.0 (header_of c.args.kind) items c.loop-place.place c.args.bytes.now c.is_within.result tested c.in_err-unless.ensures.exact))

pub loop-place-preserved : goal.loop-place-preserved
loop-place-preserved c =
    let items : List HeaderField = c.header_of-field-items.result.now in
    let tested : Tested (header_of c.args.kind) items c.loop-place.place c.args.bytes.now c.is_within.result = record { items = c.header_of-field-items.ensures; inside = c.loop-place-test.true; test = c.is_within.ensures ∙ ap (is_within _) c.word_at.ensures } in
    fields_go_on (header_of c.args.kind) items c.loop-place.place c.args.bytes.now c.is_within.result tested c.in_ok-unless.ensures.held ∙ c.loop-place.invariant

pub returns-clause-exact : goal.returns-clause-exact
returns-clause-exact c =
    sym c.loop-place.invariant ∙ fields_done (header_of c.args.kind) c.loop-place.place c.args.bytes.now (omega (arith, c.loop-place-test.false, ap length c.header_of-field-items.ensures))

pub returns-clause-held : goal.returns-clause-held
returns-clause-held c =
    header_within 0 (header_of c.args.kind) c.args.bytes.now
    (sym c.loop-place.invariant ∙ fields_done (header_of c.args.kind) c.loop-place.place c.args.bytes.now (omega (arith, c.loop-place-test.false, ap length c.header_of-field-items.ensures)))
