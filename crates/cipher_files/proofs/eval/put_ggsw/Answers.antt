use Rattle.std.proofs.Common.{◌≡◌, ℕ, ◌*◌, ◌<◌, List, [], length, get_or, All, sym, ap, subst, arith, ◌∙◌}
use Rattle.std.proofs.lemmas.List.Elements.{All-more}
use Rattle.word_ring.specs.Words.{IsWord}
use Rattle.cipher_files.specs.EvalFile.{glwe_words}
use Rattle.cipher_files.proofs.Pieces.{put_more}
use Rattle.cipher_files.proofs.Written.{row_place_is}
use Rattle.cipher_files.proofs.eval.put_ggsw.Goals as goal

pub loop-r-preserved : goal.loop-r-preserved
loop-r-preserved c =
    let rows : List (List (List ℕ)) = c.args.g.now.rows in
    let level : ℕ = c.args.g.now.level in
    let r : ℕ = c.loop-r.r in
    let count : c.args.parts * c.level-level.result ≡ length rows = ap (λ (l : ℕ). c.args.parts * l) c.level-level.ensures ∙ ap (λ (m : ℕ). m * level) (sym c.requires.parts) ∙ sym c.known.ensures.number in
    let inside : r < length rows = omega (arith, c.loop-r-test.true, count) in
    let here : c.row.result.now ≡ get_or rows r [] = c.row.ensures ∙ ap (λ (m : ℕ). get_or rows m []) (row_place_is c.level-level.result level r c.level-level.ensures) in
    record {
      put = put_more glwe_words rows r [] c.args.out.now.items c.loop-r.out.items c.put_glwe.new.out.items (glwe_words c.row.result.now) inside (ap glwe_words here) c.loop-r.invariant.put c.in_ok-put_glwe.ensures.ok;
      words = All-more (All (All IsWord)) rows r [] inside c.loop-r.invariant.words (subst (All (All IsWord)) here c.in_ok-put_glwe.ensures.words);
    }
