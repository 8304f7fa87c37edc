-- Phases of sealed and of trivial ciphertexts, and of one with a word more in its body.
use Rattle.std.proofs.Common.{◌≡◌, ℕ, ◌+◌, ◌%◌, ◌^◌, Bool, true, false, cond, List, [], ◌∷◌, length, replicate, get_or, set, arith, ap, sym, ◌∙◌, refl}
use Prim.Native.Nat.{zero, suc}
use Rattle.std.proofs.lemmas.List.{get_or-set_same, get_or-replicate, get_or-append_right, length-replicate}
use Rattle.word_ring.specs.Words.{word_sum, word_difference}
use Rattle.lwe_core.specs.Phase.{FitsKey, masked_sum, phase_of, sealed, trivial, with_message}
use Rattle.lwe_core.proofs.PhaseLinear.{masked-cons}

masked-set : (bits : List Bool) (xs : List ℕ) (word : ℕ) → masked_sum bits (set xs (length bits) word) ≡ masked_sum bits xs
masked-set [] xs word = refl
masked-set (b ∷ bs) [] word = refl
masked-set (b ∷ bs) (x ∷ xs) word = masked-cons b bs x (set xs (length bs) word) ∙ ap (λ n. cond b x 0 + n) (masked-set bs xs word) ∙ sym (masked-cons b bs x xs)

-- a phase is that of another body
body_is : (bits : List Bool) (xs : List ℕ) (word : ℕ) → FitsKey bits xs → phase_of bits (set xs (length bits) word) ≡ word_difference word (masked_sum bits xs)
body_is bits xs word fits =
    ap (λ b. word_difference b (masked_sum bits (set xs (length bits) word))) (get_or-set_same xs (length bits) word 0 (omega arith))
    ∙ ap (word_difference word) (masked-set bits xs word)

message_parts : (body mask message : ℕ) → word_difference (word_sum body message) mask ≡ word_sum (word_difference body mask) message
message_parts body mask message = omega arith

pub phase-message : (bits : List Bool) (xs : List ℕ) (message : ℕ) → FitsKey bits xs → phase_of bits (with_message (length bits) xs message) ≡ word_sum (phase_of bits xs) message
phase-message bits xs message fits =
    body_is bits xs (word_sum (get_or xs (length bits) 0) message) fits ∙ message_parts (get_or xs (length bits) 0) (masked_sum bits xs) message

sealed_parts : (phase mask : ℕ) → word_difference (word_sum phase mask) mask ≡ phase % 2 ^ 64
sealed_parts phase mask = omega arith

pub phase-sealed : (bits : List Bool) (xs : List ℕ) (phase : ℕ) → FitsKey bits xs → phase_of bits (sealed bits xs phase) ≡ phase % 2 ^ 64
phase-sealed bits xs phase fits = body_is bits xs (word_sum phase (masked_sum bits xs)) fits ∙ sealed_parts phase (masked_sum bits xs)

-- the steps of `seal` make the sealed ciphertext
sealed_body : (wanted body mask : ℕ) → word_sum wanted (word_difference body (word_difference body mask)) ≡ word_sum wanted mask
sealed_body wanted body mask = omega arith

pub sealed_is : (bits : List Bool) (words after : List ℕ) (wanted dim body read placed : ℕ) → dim ≡ length bits → body ≡ get_or words dim 0 → read ≡ phase_of bits words → placed ≡ word_sum wanted (word_difference body read) → after ≡ set words dim placed → after ≡ sealed bits words wanted
sealed_is bits words after wanted dim body read placed dim_is body_is read_is placed_is after_is =
    rw (after_is, placed_is, read_is, body_is, dim_is) (ap (set words (length bits)) (sealed_body wanted (get_or words (length bits) 0) (masked_sum bits words)))

pub word_stays : (a b : ℕ) → word_sum a b % 2 ^ 64 ≡ word_sum a b
word_stays a b = omega arith

-- ---- masks of zeros

masked_zeros : (bits : List Bool) (n : ℕ) → masked_sum bits (replicate n 0) ≡ 0
masked_zeros [] n = refl
masked_zeros (b ∷ bs) zero = refl
masked_zeros (true ∷ bs) (suc n) = omega (arith, masked-cons true bs 0 (replicate n 0), masked_zeros bs n)
masked_zeros (false ∷ bs) (suc n) = omega (arith, masked-cons false bs 0 (replicate n 0), masked_zeros bs n)

masked_trivial : (bits : List Bool) (body : ℕ) → masked_sum bits (trivial (length bits) body) ≡ 0
masked_trivial [] body = refl
masked_trivial (true ∷ bs) body = omega (arith, masked-cons true bs 0 (trivial (length bs) body), masked_trivial bs body)
masked_trivial (false ∷ bs) body = omega (arith, masked-cons false bs 0 (trivial (length bs) body), masked_trivial bs body)

alone : (b m body : ℕ) → b ≡ body → m ≡ 0 → word_difference b m ≡ body % 2 ^ 64
alone b m body p q = omega arith

pub phase-zeros : (bits : List Bool) → phase_of bits (replicate (length bits + 1) 0) ≡ 0
phase-zeros bits = alone _ _ 0 (get_or-replicate (length bits + 1) (length bits) 0 0 (omega arith)) (masked_zeros bits (length bits + 1))

last_is : (n i body : ℕ) → i ≡ 0 → get_or (body ∷ []) i 0 ≡ body
last_is n i body e = ap (λ k. get_or (body ∷ []) k 0) e

pub phase-trivial : (bits : List Bool) (body : ℕ) → phase_of bits (trivial (length bits) body) ≡ body % 2 ^ 64
phase-trivial bits body =
    let n : ℕ = length bits in
    alone _ _ body (get_or-append_right (replicate n 0) (body ∷ []) n n 0 (length-replicate {A = ℕ} n 0) (omega arith) ∙ last_is n _ body (omega arith)) (masked_trivial bits body)
