use Rattle.std.proofs.Common.{◌≡◌, ℕ, ◌+◌, ◌*◌, ◌<◌, ◌≤◌, List, length, sym, ap, arith, ◌∙◌}
use Rattle.std.proofs.lemmas.List.{take_all}
use Rattle.sealed_files.specs.FrameReading.{words_at}
use Rattle.cipher_files.specs.CipherFile.{rows_at}
use Rattle.cipher_files.proofs.Written.{written_more}
use Rattle.cipher_files.proofs.CipherTexts.{row_inside}
use Rattle.cipher_files.proofs.GlweRows.{number_of_parts}
use Rattle.cipher_files.proofs.eval.read_glwe.Goals as goal

pub read_part-requires-clause-room : goal.read_part-requires-clause-room
read_part-requires-clause-room c =
    let inside : c.args.place + c.loop-j.j * c.args.n + c.args.n ≤ c.args.place + (c.args.k + 1) * c.args.n = row_inside c.args.place c.args.n (c.args.k + 1) (c.args.place + (c.args.k + 1) * c.args.n) c.loop-j.j (omega arith) c.loop-j-test.true in
    omega (arith, c.requires.room, inside)

pub loop-j-preserved : goal.loop-j-preserved
loop-j-preserved c =
    let k : ℕ = c.args.k in
    let n : ℕ = c.args.n in
    let j : ℕ = c.loop-j.j in
    let parts : List (List ℕ) = c.loop-j.row in
    let there : j < length parts = omega (arith, c.loop-j-test.true, number_of_parts (k + 1) n parts (c.loop-j.invariant.shape ∙ c.requires.shape)) in
    let at : c.args.place + j * n ≡ c.args.place + (0 + j) * n = omega arith in
    record {
      parts = rw c.read_part.ensures.parts (written_more (λ (i : ℕ). words_at c.args.bytes.now (c.args.place + i * n) n) parts 0 j (words_at c.args.bytes.now (c.args.place + j * n) n) there c.loop-j.invariant.parts (ap (λ (p : ℕ). words_at c.args.bytes.now p n) at));
      shape = c.read_part.ensures.shape ∙ c.loop-j.invariant.shape;
    }

pub returns-clause-parts : goal.returns-clause-parts
returns-clause-parts c =
    let k : ℕ = c.args.k in
    let parts : List (List ℕ) = c.loop-j.row in
    let whole : length parts ≡ k + 1 = number_of_parts (k + 1) c.args.n parts (c.loop-j.invariant.shape ∙ c.requires.shape) in
    let end : c.loop-j.j ≡ k + 1 = omega (arith, c.loop-j-test.false, c.loop-j.auto.j-end) in
    sym (take_all c.loop-j.j parts (omega (arith, whole, end))) ∙ c.loop-j.invariant.parts ∙ ap (rows_at c.args.bytes.now c.args.place c.args.n) end
