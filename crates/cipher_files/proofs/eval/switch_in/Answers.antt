use Rattle.std.proofs.Common.{◌≡◌, ℕ, ◌+◌, ◌*◌, ◌<◌, ◌≤◌, List, length, sym, ap, arith, ◌∙◌}
use Rattle.fhe_params.specs.Params.{big_dimension}
use Rattle.key_switch.specs.Key.{SwitchRows}
use Rattle.sealed_files.specs.FrameReading.{words_at}
use Rattle.cipher_files.proofs.Pieces.{length-words_at}
use Rattle.cipher_files.proofs.Written.{row_written, switch_written}
use Rattle.cipher_files.proofs.CipherTexts.{row_inside}
use Rattle.cipher_files.proofs.eval.switch_in.Goals as goal

pub read_row-requires : goal.read_row-requires
read_row-requires c =
    let p = c.args.params.now in
    let words : ℕ = p.lwe.n + 1 in
    let count : ℕ = big_dimension p * p.switch.level in
    let rows : count ≡ c.dimension-dim.result * p.switch.level = ap (λ (d : ℕ). d * p.switch.level) (sym c.dimension-dim.ensures.number) in
    let below : c.loop-r.r < count = omega (arith, c.loop-r-test.true, rows) in
    let inside : 5 + c.loop-r.r * words + words ≤ 5 + count * words = row_inside 5 words count (5 + count * words) c.loop-r.r (omega arith) below in
    let long : length c.loop-r.row ≡ words = c.loop-r.invariant.long in
    omega (arith, inside, long, c.requires.room)

pub swap_row-requires-clause-fits : goal.swap_row-requires-clause-fits
swap_row-requires-clause-fits c =
    let n : ℕ = c.args.params.now.lwe.n in
    ap length c.read_row.ensures ∙ length-words_at c.args.bytes.now (5 + c.loop-r.r * (n + 1)) (length c.loop-r.row) ∙ c.loop-r.invariant.long ∙ ap (λ (k : SwitchRows). k.small_dim + 1) (sym c.loop-r.invariant.shape)

pub loop-r-preserved : goal.loop-r-preserved
loop-r-preserved c =
    let p = c.args.params.now in
    let n : ℕ = p.lwe.n in
    let r : ℕ = c.loop-r.r in
    let f : ℕ → List ℕ = λ r. words_at c.args.bytes.now (5 + r * (n + 1)) (n + 1) in
    let rows : big_dimension p * p.switch.level ≡ c.dimension-dim.result * p.switch.level = ap (λ (d : ℕ). d * p.switch.level) (sym c.dimension-dim.ensures.number) in
    let words : c.read_row.new.row ≡ f r = c.read_row.ensures ∙ ap (words_at c.args.bytes.now (5 + r * (n + 1))) c.loop-r.invariant.long in
    rw c.swap_row.ensures.key (row_written f (big_dimension p) n p.switch.base p.switch.level r c.loop-r.key c.loop-r.row c.read_row.new.row c.swap_row.new.row c.loop-r.invariant c.known.ensures.long (omega (arith, c.loop-r-test.true, rows)) words c.swap_row.ensures.row)

pub returns : goal.returns
returns c =
    let p = c.args.params.now in
    let rows : big_dimension p * p.switch.level ≡ c.dimension-dim.result * p.switch.level = ap (λ (d : ℕ). d * p.switch.level) (sym c.dimension-dim.ensures.number) in
    switch_written (λ r. words_at c.args.bytes.now (5 + r * (p.lwe.n + 1)) (p.lwe.n + 1)) (big_dimension p) p.lwe.n p.switch.base p.switch.level c.loop-r.r c.loop-r.key c.loop-r.row c.loop-r.invariant (omega (arith, c.loop-r-test.false, c.loop-r.auto.r-end, rows))
