-- Draws: the words of 64 bits that a seed and a label give, one after another. They are the key stream
-- of ChaCha20 (RFC 8439, with Bernstein's 64-bit counter and stream number 0), two words to a draw.
use Rattle.std.specs.Prelude.{◌≡◌, ℕ, zero, suc, ℤ, pos, ◌+◌, ◌*◌, ◌%◌, ◌^◌, ◌<◌, ◌≤◌, ◌-ℤ◌, unsigned_abs, List, [], ◌∷◌, ◌++◌, map}
use Rattle.std.specs.List.{range_with_len}
use Rattle.sha2.specs.Sha256.{sha256}
use Rattle.rand_chacha.specs.ChaCha.{key_of, word_at}

-- what a contract sees of a stream: the eight words of its key, and how many draws it made, modulo 2^67
pub record KeyStream : Type 0 where
  pub key : List ℕ
  pub place : ℕ

-- the key of a seed and a label: the SHA-256 of the seed's bytes and then the label's
abbrev pub stream_key : List ℕ → List ℕ → List ℕ
stream_key seed label = key_of (sha256 (seed ++ label))

-- word i of the key stream, after 20 rounds; it begins again after 2^68 words
abbrev pub key_word : List ℕ → ℕ → ℕ
key_word key i = word_at 10 key 0 (i % 2 ^ 68)

-- draw i of a key: word 2 * i, plus 2^32 times the word after it
unfoldable pub draw : List ℕ → ℕ → ℕ
draw key i = key_word key (2 * i) + 2 ^ 32 * key_word key (2 * i + 1)

-- draw i of a seed and a label
abbrev pub draw_of : List ℕ → List ℕ → ℕ → ℕ
draw_of seed label i = draw (stream_key seed label) i

-- the error in [-bound, bound] that a draw w gives
abbrev pub error_of : ℕ → ℕ → ℤ
error_of w bound = pos (w % (2 * bound + 1)) -ℤ pos bound

-- the stream of a key after n draws
abbrev pub stream_at : List ℕ → ℕ → KeyStream
stream_at key n = record { key = key; place = n % 2 ^ 67 }

-- what the next draw gives
abbrev pub next_draw : KeyStream → ℕ
next_draw stream = draw stream.key stream.place

-- and the stream that it leaves
abbrev pub after_draw : KeyStream → KeyStream
after_draw stream = stream_at stream.key (stream.place + 1)

-- what n calls give, one after another
abbrev pub next_draws : ℕ → KeyStream → List ℕ
next_draws zero stream = []
next_draws (suc n) stream = next_draw stream ∷ next_draws n (after_draw stream)

-- the draws are a function of the key and of their number
pub record DrawLaws : Type 0 where
  -- after n draws comes draw n
  pub value : (key : List ℕ) (n : ℕ) → next_draw (stream_at key n) ≡ draw key n
  -- and then the stream has made n + 1
  pub after : (key : List ℕ) (n : ℕ) → after_draw (stream_at key n) ≡ stream_at key (n + 1)
  -- so n calls after the first `made` give the draws made, made + 1, .., made + n - 1
  pub in_order : (key : List ℕ) (made n : ℕ)
      → next_draws n (stream_at key made) ≡ map (draw key) (range_with_len made n)
  -- and n calls from the start give the draws 0, 1, .., n - 1 of the seed and the label
  pub from_start : (seed label : List ℕ) (n : ℕ)
      → next_draws n (stream_at (stream_key seed label) 0) ≡ map (draw_of seed label) (range_with_len 0 n)
  -- a draw is a word of 64 bits
  pub word : (key : List ℕ) (n : ℕ) → draw key n < 2 ^ 64
  -- whatever the draw, the error is within its bound
  pub within : (w bound : ℕ) → unsigned_abs (error_of w bound) ≤ bound
