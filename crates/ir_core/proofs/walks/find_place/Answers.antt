use Rattle.std.proofs.Common.{sym, arith}
use Rattle.ir_core.proofs.Places.{place_of_number, place_within}
use Rattle.ir_core.proofs.walks.find_place.Goals as goal

pub returns-then-has_number_at-clause-place : goal.returns-then-has_number_at-clause-place
returns-then-has_number_at-clause-place g c =
    sym (place_of_number c.args.entries.now c.args.value c.args.value c.requires (c.has_number_at.ensures.0 c.if-has_number_at.true)).0

pub returns-then-has_number_at-clause-within : goal.returns-then-has_number_at-clause-within
returns-then-has_number_at-clause-within g c =
    let found = place_of_number c.args.entries.now c.args.value c.args.value c.requires (c.has_number_at.ensures.0 c.if-has_number_at.true) in
    omega (arith, found.0, place_within c.args.entries.now c.args.value found.1)
