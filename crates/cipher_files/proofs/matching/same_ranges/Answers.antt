use Rattle.std.proofs.Common.{arith}
use Rattle.std.proofs.lemmas.Result.{err_from_is_err_and}
use Rattle.cipher_files.specs.CipherFile.{same_ranges}
use Rattle.cipher_files.proofs.RangeMatches.{matches_go_on, matches_end, matches_done}
use Rattle.cipher_files.proofs.matching.same_ranges.Goals as goal

pub returns-in_err-same_range : goal.returns-in_err-same_range
returns-in_err-same_range c =
    let p = err_from_is_err_and c.from_residual.result c.from_residual.ensures.1 in
    rw (p.1, p.2) (matches_end c.in_err-same_range.field-0.0 c.args.lefts.now c.args.rights.now c.loop-i.i _ _ (same_ranges c.args.lefts.now c.args.rights.now) (omega arith) (omega arith) c.in_err-same_range.ensures c.loop-i.invariant)

pub loop-i-preserved : goal.loop-i-preserved
loop-i-preserved c = matches_go_on c.args.lefts.now c.args.rights.now c.loop-i.i _ _ (same_ranges c.args.lefts.now c.args.rights.now) (omega arith) (omega arith) c.in_ok-same_range.ensures c.loop-i.invariant

pub returns : goal.returns
returns c = matches_done c.args.lefts.now c.args.rights.now c.loop-i.i (same_ranges c.args.lefts.now c.args.rights.now) (omega arith) c.loop-i.invariant
