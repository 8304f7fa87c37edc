use Rattle.std.proofs.Common.{◌≡◌, ◌+◌, ◌*◌, ℕ, List, [], ◌∷◌, ◌++◌, length, sym, ap, ◌∙◌, arith}
use Rattle.std.proofs.lemmas.List.{length-replicate}
use Rattle.std.proofs.lemmas.List.FromFn.{map-range_with_len_more}
use Rattle.sealed_files.specs.FrameReading.{words_at}
use Rattle.cipher_files.specs.CipherFile.{rows_at}
use Rattle.cipher_files.proofs.cipher.ciphertexts_at.Goals as goal

pub loop-i-preserved : goal.loop-i-preserved
loop-i-preserved c =
    let bytes : List ℕ = c.args.bytes.now in
    let size : ℕ = c.args.dim + 1 in
    let i : ℕ = c.loop-i.i in
    let place : ℕ = c.args.place + i * size in
    let long : length c.in_ok-ciphertext.ciphertext ≡ size = ap length c.in_ok-ciphertext.ensures ∙ length-replicate size 0 in
    let row : c.read_row.new.row ≡ words_at bytes place size = c.read_row.ensures ∙ ap (words_at bytes place) long in
    c.in_ok-push.ensures.items ∙ ap (λ (rows : List (List ℕ)). rows ++ c.read_row.new.row ∷ []) c.loop-i.invariant ∙ ap (λ (r : List ℕ). rows_at bytes c.args.place size i ++ r ∷ []) row
    ∙ sym (map-range_with_len_more (λ (r : ℕ). words_at bytes (c.args.place + r * size) size) 0 i i (omega arith))
