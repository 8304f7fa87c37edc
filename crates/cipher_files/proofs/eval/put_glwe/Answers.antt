use Rattle.std.proofs.Common.{◌≡◌, ℕ, ◌<◌, List, [], length, get_or, All, subst, arith, ◌∙◌}
use Rattle.std.proofs.lemmas.List.Elements.{All-more}
use Rattle.word_ring.specs.Words.{IsWord}
use Rattle.cipher_files.proofs.Pieces.{put_more}
use Rattle.cipher_files.proofs.eval.put_glwe.Goals as goal

pub loop-j-preserved : goal.loop-j-preserved
loop-j-preserved c =
    let parts : List (List ℕ) = c.args.row.now in
    let j : ℕ = c.loop-j.j in
    let inside : j < length parts = omega (arith, c.loop-j-test.true, c.k-j-end.ensures) in
    let here : c.coeffs.result.now ≡ get_or parts j [] = c.coeffs.ensures ∙ c.part.ensures in
    record {
      put = put_more (λ (part : List ℕ). part) parts j [] c.args.out.now.items c.loop-j.out.items c.put_row.new.out.items c.coeffs.result.now inside here c.loop-j.invariant.put c.in_ok-put_row.ensures.ok;
      words = All-more (All IsWord) parts j [] inside c.loop-j.invariant.words (subst (All IsWord) here c.in_ok-put_row.ensures.words);
    }
