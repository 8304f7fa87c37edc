-- Draws, by the places of their words.
use Rattle.std.proofs.Common.{◌≡◌, ℕ, zero, suc, ◌+◌, ◌*◌, ◌/◌, ◌%◌, ◌^◌, ◌<◌, ◌≤◌, unsigned_abs, List, refl, ap, arith, map}
use Rattle.std.specs.List.{range_with_len}
use Rattle.rand_chacha.specs.ChaCha.{word_at}
use Rattle.seed_stream.specs.Draws.{key_word, draw, stream_at, after_draw, next_draws, error_of, KeyStream}
use Rattle.rand_chacha.specs.Block.{block_word}

-- a draw from an even place of the words is the two words there
pub draw-half : (key : List ℕ) (place : ℕ) → place % 2 ≡ 0 → place < 2 ^ 68
    → draw key (place / 2) ≡ word_at 10 key 0 place + 2 ^ 32 * word_at 10 key 0 ((place + 1) % 2 ^ 68)
unfolding draw
draw-half key place even within =
    let first : 2 * (place / 2) % 2 ^ 68 ≡ place = omega arith in
    let second : (2 * (place / 2) + 1) % 2 ^ 68 ≡ (place + 1) % 2 ^ 68 = omega arith in
    rw (first, second) refl

-- the draws begin again after 2^67
pub draw-periodic : (key : List ℕ) (n : ℕ) → draw key (n % 2 ^ 67) ≡ draw key n
unfolding draw
draw-periodic key n =
    let first : 2 * (n % 2 ^ 67) % 2 ^ 68 ≡ 2 * n % 2 ^ 68 = omega arith in
    let second : (2 * (n % 2 ^ 67) + 1) % 2 ^ 68 ≡ (2 * n + 1) % 2 ^ 68 = omega arith in
    rw (first, second) refl

-- one more draw
pub after_draw-stream_at : (key : List ℕ) (n : ℕ) → after_draw (stream_at key n) ≡ stream_at key (n + 1)
after_draw-stream_at key n =
    let place : (n % 2 ^ 67 + 1) % 2 ^ 67 ≡ (n + 1) % 2 ^ 67 = omega arith in
    let stream : ℕ → KeyStream = λ p. record { key = key; place = p } in
    ap stream place

-- n draws from a place are those of the n numbers from it on
pub next_draws-stream_at : (key : List ℕ) (made n : ℕ)
    → next_draws n (stream_at key made) ≡ map (draw key) (range_with_len made n)
next_draws-stream_at key made zero = refl
next_draws-stream_at key made (suc n) =
    rw (draw-periodic key made, after_draw-stream_at key made, next_draws-stream_at key (made + 1) n) refl

-- a word of the key stream has 32 bits
pub key_word-below : (key : List ℕ) (i : ℕ) → key_word key i < 2 ^ 32
unfolding block_word
key_word-below key i = grind arith

-- a draw has 64
pub draw-below : (key : List ℕ) (i : ℕ) → draw key i < 2 ^ 64
unfolding draw
draw-below key i =
    let low : key_word key (2 * i) < 2 ^ 32 = key_word-below key (2 * i) in
    let high : key_word key (2 * i + 1) < 2 ^ 32 = key_word-below key (2 * i + 1) in
    omega (arith, low, high)

-- an error is within its bound
pub error_of-within : (w bound : ℕ) → unsigned_abs (error_of w bound) ≤ bound
error_of-within w bound = grind arith
