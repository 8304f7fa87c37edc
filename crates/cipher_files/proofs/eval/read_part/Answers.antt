use Rattle.std.proofs.Common.{ℕ, ◌+◌, ◌<◌, List, [], length, get_or, arith, ◌∙◌}
use Rattle.sealed_files.specs.FrameReading.{word_at}
use Rattle.cipher_files.proofs.GlweRows.{word_more, whole_read, part_long, number_of_parts}
use Rattle.cipher_files.proofs.eval.read_part.Goals as goal

pub loop-i-preserved : goal.loop-i-preserved
loop-i-preserved c =
    let bytes : List ℕ = c.args.bytes.now in
    let i : ℕ = c.loop-i.i in
    let j : ℕ = c.args.j in
    let parts : List (List ℕ) = c.loop-i.row in
    let k : ℕ = c.args.k in
    let n : ℕ = c.args.n in
    let inside : j < k + 1 = omega (arith, c.requires.part) in
    let there : j < length parts = omega (arith, inside, number_of_parts (k + 1) n parts (c.loop-i.invariant.shape ∙ c.requires.shape)) in
    let before : i < length (get_or parts j []) = omega (arith, c.loop-i-test.true, part_long (k + 1) n j parts [] (c.loop-i.invariant.shape ∙ c.requires.shape) inside) in
    let more = word_more (word_at bytes) c.args.place j i c.word_at.result c.args.row.now parts (record { words = c.loop-i.invariant.words; others = c.loop-i.invariant.others }) there before c.word_at.ensures in
    record {
      words = rw c.set.ensures.parts more.words;
      others = rw c.set.ensures.parts more.others;
      shape = c.set.ensures.shape ∙ c.loop-i.invariant.shape;
    }

pub returns-clause-parts : goal.returns-clause-parts
returns-clause-parts c =
    let n : ℕ = c.args.n in
    let parts : List (List ℕ) = c.loop-i.row in
    whole_read (word_at c.args.bytes.now) c.args.place c.args.j n c.loop-i.i c.args.row.now parts (record { words = c.loop-i.invariant.words; others = c.loop-i.invariant.others })
    (part_long (c.args.k + 1) n c.args.j parts [] (c.loop-i.invariant.shape ∙ c.requires.shape) (omega (arith, c.requires.part))) (omega (arith, c.loop-i-test.false, c.loop-i.auto.i-end))
