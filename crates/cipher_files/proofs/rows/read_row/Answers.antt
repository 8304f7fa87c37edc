use Rattle.std.proofs.Common.{◌≡◌, length, sym, ap, ◌∙◌, arith}
use Rattle.std.proofs.lemmas.List.{length-set, take_all}
use Rattle.sealed_files.specs.FrameReading.{word_at, words_at}
use Rattle.cipher_files.proofs.Written.{written_more}
use Rattle.cipher_files.proofs.rows.read_row.Goals as goal

pub loop-i-preserved : goal.loop-i-preserved
loop-i-preserved g c = record {
  taken = rw c.set.ensures (written_more (word_at c.args.bytes.now) c.loop-i.row c.args.place c.loop-i.i c.word_at.result (omega (arith, c.loop-i-test.true, ap length c.words-i-end.ensures, c.loop-i.invariant.long)) c.loop-i.invariant.taken c.word_at.ensures);
  long = rw c.set.ensures (length-set c.loop-i.row c.loop-i.i c.word_at.result ∙ c.loop-i.invariant.long);
}

pub returns : goal.returns
returns g c =
    let end : c.loop-i.i ≡ length c.args.row.now = omega (arith, c.loop-i-test.false, c.loop-i.auto.i-end, ap length c.words-i-end.ensures) in
    sym (take_all c.loop-i.i c.loop-i.row (omega (arith, end, c.loop-i.invariant.long))) ∙ c.loop-i.invariant.taken ∙ ap (words_at c.args.bytes.now c.args.place) end
