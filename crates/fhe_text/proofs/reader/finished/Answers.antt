use Rattle.std.proofs.Common.{map, arith}
use Rattle.std.proofs.lemmas.List.{length-map}
use Rattle.fhe_text.specs.Faults.{spelled}
use Rattle.fhe_text.proofs.Sources.{source_wrong}
use Rattle.fhe_text.proofs.reader.finished.Goals as goal

pub placed-requires-clause-left : goal.placed-requires-clause-left
placed-requires-clause-left c =
    let left = map (spelled c.args.bytes.now) c.args.tokens.now in
    let few = source_wrong left c.in-Err-Fault.wrong (rw c.in-Err-Fault.field-0-is at c.in-Err-Fault.ensures) in
    omega (arith, few, length-map c.args.tokens.now (spelled c.args.bytes.now))
