use Rattle.std.proofs.Common.{◌≡◌, ℕ, ◌*◌, ◌<◌, List, [], length, get_or, All, sym, ap, subst, arith, ◌∙◌}
use Rattle.std.proofs.lemmas.List.Elements.{All-more}
use Rattle.word_ring.specs.Words.{IsWord}
use Rattle.cipher_files.proofs.Pieces.{put_more}
use Rattle.cipher_files.proofs.Written.{row_place_is}
use Rattle.cipher_files.proofs.eval.put_switch.Goals as goal

pub loop-r-preserved : goal.loop-r-preserved
loop-r-preserved c =
    let rows : List (List ℕ) = c.args.key.now.rows in
    let level : ℕ = c.args.key.now.level in
    let r : ℕ = c.loop-r.r in
    let count : c.big_dim.result * c.level-level.result ≡ length rows = ap (λ (d : ℕ). d * c.level-level.result) c.big_dim.ensures ∙ ap (λ (l : ℕ). c.args.key.now.big_dim * l) c.level-level.ensures ∙ sym c.known.ensures.count in
    let inside : r < length rows = omega (arith, c.loop-r-test.true, count) in
    let here : c.words.result.now ≡ get_or rows r [] = c.words.ensures ∙ c.row.ensures ∙ ap (λ (m : ℕ). get_or rows m []) (row_place_is c.level-level.result level r c.level-level.ensures) in
    record {
      put = put_more (λ (row : List ℕ). row) rows r [] c.args.out.now.items c.loop-r.out.items c.put_row.new.out.items c.words.result.now inside here c.loop-r.invariant.put c.in_ok-put_row.ensures.ok;
      words = All-more (All IsWord) rows r [] inside c.loop-r.invariant.words (subst (All IsWord) here c.in_ok-put_row.ensures.words);
    }
