use Rattle.std.proofs.Common.{◌≡◌, ℕ, ◌+◌, ◌*◌, ◌≤◌, ap, arith, ◌∙◌}
use Rattle.fhe_params.specs.declared.params.Params.{Params}
use Rattle.fhe_params.specs.Cost.{boot_key_words}
use Rattle.cipher_files.specs.EvalFile.{row_words, boot_place, boot_row_at}
use Rattle.cipher_files.proofs.Places.{boot_row_inside}
use Rattle.cipher_files.proofs.eval.boot_row_place.Goals as goal

pub returns-clause-inside : goal.returns-clause-inside
returns-clause-inside c =
    let p : Params = c.args.params.now in
    let r : ℕ = c.args.r in
    let at : c.args.start + r * c.row_words-words.result ≡ boot_row_at p r =
    ap (λ (w : ℕ). c.args.start + r * w) c.row_words-words.ensures.words ∙ ap (λ (s : ℕ). s + r * row_words p) c.requires.start in
    let inside : boot_row_at p r + row_words p ≤ boot_place p + boot_key_words p = boot_row_inside p r c.requires.row in
    omega (arith, at, inside)
