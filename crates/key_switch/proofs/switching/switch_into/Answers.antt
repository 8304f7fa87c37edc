use Rattle.std.proofs.Common.{◌≡◌, ◌+◌, ◌*◌, ◌<◌, ℕ, List, length, take, drop, get_or, map, replicate, arith, ap, sym, subst, ◌∙◌, slice_set}
use Rattle.std.proofs.lemmas.List.{length-take-le, length-replicate, length_push, take_all}
use Rattle.std.proofs.lemmas.List.Elements.{All-take, All-drop}
use Rattle.word_ring.specs.Rows.{row_difference, sum_of_rows, scaled_rows, AllOfLength}
use Rattle.word_ring.specs.Signed.{word_of}
use Rattle.lwe_core.specs.Phase.{trivial}
use Rattle.gadget_decomp.specs.Decomposition.{IsDecomposition, digits_of, digits_as_words}
use Rattle.key_switch.specs.Switching.{mask_digits}
use Rattle.key_switch.specs.Laws.{KeepsPhase}
use Rattle.key_switch.proofs.Steps.{subtracted_none, set_body, few_digits, rows_long, switched_more}
use Rattle.key_switch.proofs.switching.switch_into.Goals as goal

pub loop-i-init : goal.loop-i-init
loop-i-init c =
    let key = c.args.key.now in
    let body : ℕ = get_or c.args.c.now key.big_dim 0 in
    let zeros : c.zero_assign.new.self ≡ replicate (key.small_dim + 1) 0 = c.zero_assign.ensures.words ∙ ap (λ n. replicate n 0) c.requires.small in
    let body_is : c.word.result ≡ body = cc in
    let set : c.set.new.self ≡ slice_set (replicate (key.small_dim + 1) 0) key.small_dim body = cc in
    let start : c.set.new.self ≡ trivial key.small_dim body = set ∙ set_body key.small_dim body in
    let long : length c.set.new.self ≡ key.small_dim + 1 = ap length start ∙ length_push (replicate key.small_dim 0) body ∙ ap (λ n. n + 1) (length-replicate {A = ℕ} key.small_dim 0) in
    record {
      places = length-take-le c.level.result _ (omega (arith, few_digits key.base key.level c.known.ensures.gadget, c.level.ensures)) ∙ c.level.ensures;
      long = long;
      words =
          subtracted_none c.laws-2.ensures.row_ring c.set.new.self c.known-2.ensures
          ∙ ap (λ n. row_difference c.set.new.self (replicate n 0)) long
          ∙ ap (λ row. row_difference row (replicate (key.small_dim + 1) 0)) start;
    }

pub subtract_rows-requires-clause-fitting : goal.subtract_rows-requires-clause-fitting
subtract_rows-requires-clause-fitting c =
    let key = c.args.key.now in
    let part : AllOfLength (key.small_dim + 1) (take key.level (drop (c.loop-i.i * key.level) key.rows)) =
    All-take (λ row. length row ≡ key.small_dim + 1) key.level (drop (c.loop-i.i * key.level) key.rows) (All-drop (λ row. length row ≡ key.small_dim + 1) (c.loop-i.i * key.level) key.rows c.known.ensures.long) in
    subst (λ n. AllOfLength n c.rows_of.result.now) (sym c.loop-i.invariant.long) (subst (AllOfLength (key.small_dim + 1)) (sym c.rows_of.ensures) part)

pub loop-i-preserved : goal.loop-i-preserved
loop-i-preserved c =
    let key = c.args.key.now in
    let words = c.args.c.now in
    let i : ℕ = c.loop-i.i in
    let base_is : c.base.result ≡ key.base = omega arith in
    let level_is : c.level-in-loop-i.result ≡ key.level = omega arith in
    let word_is : c.word-in-loop-i.result ≡ get_or words i 0 = omega (arith, c.word-in-loop-i.ensures) in
    let below : i < key.big_dim = omega (arith, c.big_dim-i-end.ensures) in
    let inside : i < length words = omega (arith, c.requires.big) in
    let decomposed : IsDecomposition (get_or words i 0) key.base key.level c.digits_into.new.out =
    subst (λ w. IsDecomposition w key.base key.level c.digits_into.new.out) word_is
    (subst (λ b. IsDecomposition c.word-in-loop-i.result b key.level c.digits_into.new.out) base_is
    (subst (λ l. IsDecomposition c.word-in-loop-i.result c.base.result l c.digits_into.new.out) level_is c.digits_into.ensures)) in
    let decompositions = c.laws-3.ensures.decomposition in
    let digits : c.digits_into.new.out ≡ digits_of (get_or words i 0) key.base key.level =
    decompositions.no_other (get_or words i 0) key.base key.level c.digits_into.new.out (digits_of (get_or words i 0) key.base key.level) c.known.ensures.gadget decomposed (decompositions.one (get_or words i 0) key.base key.level c.known.ensures.gadget) in
    let part : List (List ℕ) = take key.level (drop (i * key.level) key.rows) in
    let after : c.subtract_rows.new.out ≡ row_difference c.loop-i.out (sum_of_rows (key.small_dim + 1) (scaled_rows (digits_as_words (get_or words i 0) key.base key.level) part)) =
    c.subtract_rows.ensures.words
    ∙ ap (λ n. row_difference c.loop-i.out (sum_of_rows n (scaled_rows (map word_of c.digits_into.new.out) c.rows_of.result.now))) c.loop-i.invariant.long
    ∙ ap (λ rs. row_difference c.loop-i.out (sum_of_rows (key.small_dim + 1) (scaled_rows (map word_of c.digits_into.new.out) rs))) c.rows_of.ensures
    ∙ ap (λ ds. row_difference c.loop-i.out (sum_of_rows (key.small_dim + 1) (scaled_rows (map word_of ds) part))) digits in
    record {
      places = c.digits_into.ensures.count ∙ level_is;
      long = c.subtract_rows.ensures.length ∙ c.loop-i.invariant.long;
      words =
          switched_more c.laws-2.ensures.row_ring c.laws-2.ensures.row_totals c.laws-3.ensures.digits (trivial key.small_dim (get_or words key.big_dim 0)) words key.rows (key.small_dim + 1) key.base key.level i c.loop-i.out c.subtract_rows.new.out
          inside (rows_long key.big_dim key.level i key.rows c.known.ensures.count below) c.known.ensures.long c.loop-i.invariant.words after;
    }

pub returns-clause-words : goal.returns-clause-words
returns-clause-words c =
    let key = c.args.key.now in
    let words = c.args.c.now in
    let done : c.loop-i.i ≡ key.big_dim = omega (arith, c.big_dim-i-end.ensures) in
    let start : List ℕ = trivial key.small_dim (get_or words key.big_dim 0) in
    c.loop-i.invariant.words
    ∙ ap (λ n. row_difference start (sum_of_rows (key.small_dim + 1) (scaled_rows (mask_digits key.base key.level (take n words)) (take (n * key.level) key.rows)))) done
    ∙ ap (λ rs. row_difference start (sum_of_rows (key.small_dim + 1) (scaled_rows (mask_digits key.base key.level (take key.big_dim words)) rs))) (take_all (key.big_dim * key.level) key.rows (omega (arith, c.known.ensures.count)))

pub returns-clause-noise : goal.returns-clause-noise
returns-clause-noise c =
    subst (KeepsPhase c.args.key.now c.args.c.now) (sym (returns-clause-words c)) (c.laws.ensures.switching.switched_near c.args.key.now c.args.c.now c.requires.big)
