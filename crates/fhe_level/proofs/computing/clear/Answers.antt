use Rattle.std.proofs.Common.{◌≡◌, ℕ, ◌<◌, List, length, get_or, All, sym, ap, ◌∙◌, subst, arith}
use Rattle.std.specs.Prelude.{ℤ, pos}
use Rattle.std.proofs.lemmas.Int.{ints}
use Rattle.std.proofs.lemmas.List.Elements.{All-contains}
use Rattle.ir_core.specs.Graph.{Holds, place_of, numbers_of}
use Rattle.forms.specs.Forms.{number_at}
use Rattle.fhe_level.specs.Clearing.{IsResult, number_of}
use Rattle.fhe_level.specs.Standing.{number_there, result_there}
use Rattle.fhe_level.proofs.Clears.{results_more}
use Rattle.fhe_level.proofs.computing.clear.Goals as goal

pub number_at-requires : goal.number_at-requires
number_at-requires c =
    let list = c.args.program.now.graph.list in
    let results = c.as_slice-number-items.result.now in
    let number : ℕ = get_or results c.loop-number.number-index 0 in
    let each : All (IsResult list) results = subst (λ (l : List ℕ). All (IsResult list) l) (sym c.as_slice-number-items.ensures) c.requires.fhe.results in
    let is : IsResult list number = each c.loop-number.number-index 0 (omega arith) in
    let there : Holds list number = number_there list number (result_there list number is) in
    let given : number < c.args.program.now.graph.made =
    All-contains (λ (n : ℕ). n < c.args.program.now.graph.made) (numbers_of list) number c.known.ensures.given there in
    omega (arith, given, c.in_ok-room.ensures.room, ap (λ (l : List ℤ). length l) c.as_slice.ensures.value)

pub loop-number-preserved : goal.loop-number-preserved
loop-number-preserved c =
    let list = c.args.program.now.graph.list in
    let results = c.args.program.now.results in
    let index = c.loop-number.number-index in
    let number : ℕ = get_or results index 0 in
    let same : c.as_slice-number-items.result.now ≡ results = c.as_slice-number-items.ensures in
    let within : index < length results = omega (arith, ap (λ (l : List ℕ). length l) same) in
    let is : IsResult list number = c.requires.fhe.results index 0 within in
    let value : number_at c.in_ok-room.room.items number ≡ number_of c.args.program.now c.args.values.now number =
    c.in_ok-room.ensures.numbers number (result_there list number is) in
    let moved : number_at c.in_ok-room.room.items (get_or c.as_slice-number-items.result.now index 0) ≡ number_at c.in_ok-room.room.items number =
    ap (λ (l : List ℕ). number_at c.in_ok-room.room.items (get_or l index 0)) same in
    let numbers : number_at c.as_slice.result.now (get_or c.as_slice-number-items.result.now index 0) ≡ number_at c.in_ok-room.room.items (get_or c.as_slice-number-items.result.now index 0) =
    ap (λ (l : List ℤ). number_at l (get_or c.as_slice-number-items.result.now index 0)) c.as_slice.ensures.value in
    c.in_ok-push.ensures.items
    ∙ results_more (number_of c.args.program.now c.args.values.now) results index c.loop-number.found.items _ within c.loop-number.invariant
    (omega (arith, ints, c.number_at.ensures, moved, value, numbers))
