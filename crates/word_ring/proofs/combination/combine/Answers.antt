use Rattle.std.proofs.Common.{rules, ◌≡◌, ◌<◌, ℕ, List, length, get_or, sym, refl, arith, subst, ◌∙◌}
use Rattle.std.proofs.lemmas.Slice.Zip.{zip_turn}
use Rattle.std.proofs.lemmas.List.{length-map, length_push}
use Rattle.word_ring.specs.Rows.{rows_at}
use Rattle.word_ring.proofs.RowLaws.{combined_none, combined_step, named_value, get_or-rows_at}
use Rattle.word_ring.proofs.combination.combine.Goals as goal

pub loop-weight-init : goal.loop-weight-init
loop-weight-init g c = record { shape = refl; words = sym (combined_none _ (g.met.T.Lin.words_fit _ c.known.ensures)) }

pub offset_bounds-values-place : goal.offset_bounds-values-place
offset_bounds-values-place g c =
    let k = length c.loop-weight.yielded in
    let turn = zip_turn c.args.weights.now c.args.places.now c.loop-weight.yielded c.into_iter-weight-iterator.result c.loop-weight.weight-iterator c.next.new.self c.next.result (search rules) (search rules) c.loop-weight.yielded_by (c.in-Some.weight, c.in-Some.place) c.in-Some.is c.next.ensures.steps in
    let below : get_or c.args.places.now k 0 < length c.args.values.now = c.requires.in_range k 0 turn.1 in
    omega (arith, turn.3 0)

pub add_scaled-requires : goal.add_scaled-requires
add_scaled-requires g c =
    let k = length c.loop-weight.yielded in
    let turn = zip_turn c.args.weights.now c.args.places.now c.loop-weight.yielded c.into_iter-weight-iterator.result c.loop-weight.weight-iterator c.next.new.self c.next.result (search rules) (search rules) c.loop-weight.yielded_by (c.in-Some.weight, c.in-Some.place) c.in-Some.is c.next.ensures.steps in
    let below : get_or c.args.places.now k 0 < length c.args.values.now = c.requires.in_range k 0 turn.1 in
    let read = subst (λ i. c.index-values-place.result ≡ get_or c.args.values.now i c.index-values-place.result) (turn.3 0) c.index-values-place.is in
    let fits : g.T.Lin.shape c.index-values-place.result ≡ g.T.Lin.shape c.args.into.now =
    named_value (λ value. g.T.Lin.shape value ≡ g.T.Lin.shape c.args.into.now) c.args.values.now (get_or c.args.places.now k 0) c.index-values-place.result below read (c.requires.fitting k 0 turn.1) in
    c.loop-weight.invariant.shape ∙ sym fits

pub loop-weight-preserved : goal.loop-weight-preserved
loop-weight-preserved g c =
    let k = length c.loop-weight.yielded in
    let turn = zip_turn c.args.weights.now c.args.places.now c.loop-weight.yielded c.into_iter-weight-iterator.result c.loop-weight.weight-iterator c.next.new.self c.next.result (search rules) (search rules) c.loop-weight.yielded_by (c.in-Some.weight, c.in-Some.place) c.in-Some.is c.next.ensures.steps in
    let below : get_or c.args.places.now k 0 < length c.args.values.now = c.requires.in_range k 0 turn.1 in
    let read = subst (λ i. c.index-values-place.result ≡ get_or c.args.values.now i c.index-values-place.result) (turn.3 0) c.index-values-place.is in
    let fits : g.T.Lin.shape c.index-values-place.result ≡ g.T.Lin.shape c.args.into.now =
    named_value (λ value. g.T.Lin.shape value ≡ g.T.Lin.shape c.args.into.now) c.args.values.now (get_or c.args.places.now k 0) c.index-values-place.result below read (c.requires.fitting k 0 turn.1) in
    let long = g.met.T.Lin.same_length _ _ c.known-in-loop-weight.ensures c.known.ensures fits in
    let rows = rows_at g.T.Lin.words c.args.values.now c.args.places.now in
    let row = get_or-rows_at g.T.Lin.words c.args.values.now c.args.places.now k c.index-values-place.result turn.1 below read in
    record {
      shape = c.add_scaled.ensures.shape ∙ c.loop-weight.invariant.shape;
      words =
          combined_step (g.T.Lin.words c.args.into.now) c.args.weights.now rows k _ _ (g.T.Lin.words c.index-values-place.result) _ _
          turn.0 (omega (arith, length-map {A = ℕ} {B = List ℕ}, turn.1)) (length_push c.loop-weight.yielded (c.in-Some.weight, c.in-Some.place)) (omega (arith, turn.2 0)) row long c.loop-weight.invariant.words c.add_scaled.ensures.words;
    }
