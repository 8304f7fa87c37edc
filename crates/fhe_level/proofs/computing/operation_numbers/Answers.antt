use Rattle.std.proofs.Common.{◌≡◌, ℕ, ◌+◌, ◌<◌, ◌≤◌, length, sym, ap, ◌∙◌, subst, arith, Option, Some, None}
use Rattle.std.proofs.lemmas.Int.{ints}
use Rattle.std.proofs.lemmas.List.{length-map, length-set}
use Rattle.std.proofs.lemmas.List.Elements.{All-contains}
use Rattle.std.proofs.lemmas.Option.{slice_get_within}
use Rattle.std.specs.List.{slice_get}
use Rattle.std.specs.Option.{IfSome}
use Rattle.ir_core.specs.Graph.{Holds, place_of, numbers_of}
use Rattle.fhe_level.specs.declared.level.FheOp.{FheOp}
use Rattle.fhe_level.specs.Standing.{past_all}
use Rattle.fhe_level.proofs.Clears.{holds_more}
use Rattle.fhe_level.proofs.computing.operation_numbers.Goals as goal

pub loop-next-preserved : goal.loop-next-preserved
loop-next-preserved c =
    let list = c.args.program.now.graph.list in
    let here = rw c.in-Some.is at c.loop-next.invariant.at in
    let there = rw c.in-Some.is at c.loop-next.invariant.there in
    let at : slice_get (numbers_of list) c.loop-next.place ≡ Some c.in-Some.number = sym c.loop-next.invariant.next ∙ c.in-Some.is in
    let count : length (numbers_of list) ≡ length list = length-map list (λ (entry : ℕ × FheOp). entry.0) in
    let inside : c.loop-next.place < length (numbers_of list) = slice_get_within (numbers_of list) c.loop-next.place c.in-Some.number at in
    let given : c.in-Some.number < c.args.program.now.graph.made =
    All-contains (λ (n : ℕ). n < c.args.program.now.graph.made) (numbers_of list) c.in-Some.number c.known.ensures.given there in
    record {
      place = omega (arith, inside, count);
      next = c.next-next.ensures.number ∙ ap (λ (n : ℕ). slice_get (numbers_of list) (n + 1)) here;
      at = subst (λ (n : ℕ). IfSome c.next-next.result (λ (next : ℕ). place_of list next ≡ n + 1)) here c.next-next.ensures.place;
      there = c.next-next.ensures.there;
      room = simp length-set c.loop-next.invariant.room;
      numbers = holds_more c.args.program.now c.args.inputs.now c.loop-next.room.items c.loop-next.place c.in-Some.number _ here (omega (arith, inside, count)) (omega (arith, given, c.loop-next.invariant.room)) c.loop-next.invariant.numbers (omega (arith, ints, c.operation_number-found.ensures));
    }

pub returns-clause-numbers : goal.returns-clause-numbers
returns-clause-numbers c wanted below =
    let list = c.args.program.now.graph.list in
    let count : length (numbers_of list) ≡ length list = length-map list (λ (entry : ℕ × FheOp). entry.0) in
    let past : length (numbers_of list) ≤ c.loop-next.place = past_all (numbers_of list) c.loop-next.place (sym c.loop-next.invariant.next ∙ c.in_default.is) in
    c.loop-next.invariant.numbers wanted (omega (arith, below, past, count))
