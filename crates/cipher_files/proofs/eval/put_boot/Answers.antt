use Rattle.std.proofs.Common.{ℕ, ◌<◌, List, [], length, All, ap, subst, arith}
use Rattle.std.proofs.lemmas.List.Elements.{All-more}
use Rattle.word_ring.specs.Words.{IsWord}
use Rattle.ggsw_core.specs.Ggsw.{GgswRows}
use Rattle.cipher_files.specs.EvalFile.{ggsw_words}
use Rattle.cipher_files.proofs.Pieces.{put_more}
use Rattle.cipher_files.proofs.eval.put_boot.Goals as goal

pub loop-i-preserved : goal.loop-i-preserved
loop-i-preserved c =
    let ggsws : List GgswRows = c.args.key.now.ggsws in
    let none : GgswRows = record { base = 0; level = 0; rows = [] } in
    let i : ℕ = c.loop-i.i in
    let inside : i < length ggsws = omega (arith, c.loop-i-test.true, c.requires.number) in
    record {
      put = put_more ggsw_words ggsws i none c.args.out.now.items c.loop-i.out.items c.put_ggsw.new.out.items (ggsw_words c.ggsw.result.now) inside (ap ggsw_words c.ggsw.ensures) c.loop-i.invariant.put c.in_ok-put_ggsw.ensures.ok;
      words = All-more (λ g. All (All (All IsWord)) g.rows) ggsws i none inside c.loop-i.invariant.words (subst (λ (g : GgswRows). All (All (All IsWord)) g.rows) c.ggsw.ensures c.in_ok-put_ggsw.ensures.words);
    }
