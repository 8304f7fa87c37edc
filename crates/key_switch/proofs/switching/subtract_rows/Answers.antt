use Rattle.std.proofs.Common.{◌≡◌, ◌<◌, ℕ, List, [], length, take, get_or, map, arith, rules, ap, sym, ◌∙◌, refl, w64, FitsSigned}
use Rattle.std.specs.Prelude.{ℤ, pos}
use Rattle.std.proofs.lemmas.Int.{to_z-of_z}
use Rattle.std.proofs.lemmas.List.{length-map, get_or-map, get_or_read, take_all}
use Rattle.word_ring.specs.Signed.{word_of}
use Rattle.word_ring.specs.Rows.{row_difference, sum_of_rows, scaled_rows}
use Rattle.key_switch.proofs.Steps.{subtracted_none, subtracted_more, one_shape}
use Rattle.key_switch.proofs.switching.subtract_rows.Goals as goal

pub loop-t-init : goal.loop-t-init
loop-t-init c = record { long = refl; words = subtracted_none c.laws.ensures.row_ring c.args.out.now c.known.ensures }

pub add_scaled-requires : goal.add_scaled-requires
add_scaled-requires c =
    let here : length c.index-rows-t.result ≡ length c.args.out.now =
    ap length (get_or_read c.args.rows.now c.loop-t.t c.index-rows-t.result c.loop-t-test.true c.index-rows-t.is [])
    ∙ c.requires.fitting c.loop-t.t [] c.loop-t-test.true in
    one_shape _ _ (c.loop-t.invariant.long ∙ sym here)

pub loop-t-preserved : goal.loop-t-preserved
loop-t-preserved c =
    let weights : List ℕ = map word_of c.args.digits.now in
    let in_digits : c.loop-t.t < length c.args.digits.now = omega arith in
    let in_weights : c.loop-t.t < length weights = omega (arith, length-map c.args.digits.now word_of) in
    let digit : ℤ = get_or c.args.digits.now c.loop-t.t (pos 0) in
    let kept_by_code : FitsSigned w64 digit = search rules in
    let weight : c.word_of.result ≡ get_or weights c.loop-t.t 0 =
    c.word_of.ensures ∙ ap word_of (to_z-of_z w64 digit kept_by_code) ∙ sym (get_or-map word_of c.args.digits.now c.loop-t.t (pos 0) 0 in_digits) in
    let kept : length c.add_scaled.new.self ≡ length c.loop-t.out = ap (λ s. get_or s 0 0) c.add_scaled.ensures.shape in
    record {
      long = kept ∙ c.loop-t.invariant.long;
      words =
          subtracted_more c.laws.ensures.row_ring c.laws.ensures.row_totals c.args.out.now weights c.args.rows.now c.loop-t.t c.loop-t.out c.add_scaled.new.self c.index-rows-t.result _
          in_weights c.loop-t-test.true c.requires.fitting c.loop-t.invariant.words (omega (arith, weight))
          (get_or_read c.args.rows.now c.loop-t.t c.index-rows-t.result c.loop-t-test.true c.index-rows-t.is [])
          c.add_scaled.ensures.words;
    }

pub returns-clause-words : goal.returns-clause-words
returns-clause-words c =
    let weights : List ℕ = map word_of c.args.digits.now in
    let rows = c.args.rows.now in
    let t : ℕ = c.loop-t.t in
    let all_weights : take t weights ≡ weights = take_all t weights (omega (arith, length-map c.args.digits.now word_of)) in
    let all_rows : take t rows ≡ rows = take_all t rows c.loop-t-test.false in
    c.loop-t.invariant.words
    ∙ ap (λ ws. row_difference c.args.out.now (sum_of_rows (length c.args.out.now) (scaled_rows ws (take t rows)))) all_weights
    ∙ ap (λ rs. row_difference c.args.out.now (sum_of_rows (length c.args.out.now) (scaled_rows weights rs))) all_rows
