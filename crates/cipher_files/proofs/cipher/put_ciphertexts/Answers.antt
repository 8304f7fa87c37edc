use Rattle.std.proofs.Common.{◌≡◌, ℕ, List, All, get_or, subst, ◌∙◌}
use Rattle.std.proofs.lemmas.List.Elements.{All-more}
use Rattle.word_ring.specs.Words.{IsWord}
use Rattle.cipher_files.proofs.Pieces.{put_more}
use Rattle.cipher_files.proofs.cipher.put_ciphertexts.Goals as goal

pub loop-ciphertext-preserved : goal.loop-ciphertext-preserved
loop-ciphertext-preserved c =
    let list : List (List ℕ) = c.args.list.now in
    let i : ℕ = c.loop-ciphertext.ciphertext-index in
    let d : List ℕ = c.ciphertext-item.result in
    let here : c.words.result.now ≡ get_or list i d = c.words.ensures ∙ c.ciphertext-item.is in
    record {
      put = put_more (λ (words : List ℕ). words) list i d c.args.out.now.items c.loop-ciphertext.out.items c.put_words.new.out.items c.words-in-loop-ciphertext.result.now c.loop-ciphertext-test.true (c.words-in-loop-ciphertext.ensures ∙ c.ciphertext-item.is) c.loop-ciphertext.invariant.put c.in_ok-put_words.ensures;
      words = All-more (All IsWord) list i d c.loop-ciphertext-test.true c.loop-ciphertext.invariant.words (subst (All IsWord) here c.known.ensures);
    }
