-- How many bytes the parts of files have.
use Rattle.std.specs.Prelude.{ℕ, ◌^◌}

-- the bytes of a file that is no text: at most so many
abbrev pub file_limit : ℕ
file_limit = 2 ^ 29

-- the bytes of the magic
abbrev pub magic_size : ℕ
magic_size = 8

-- the bytes of a digest
abbrev pub digest_size : ℕ
digest_size = 32

-- where the words begin, right behind the magic and the digest
abbrev pub words_place : ℕ
words_place = 40

-- the bytes of a word
abbrev pub word_size : ℕ
word_size = 8

-- the bytes of the seal
abbrev pub seal_size : ℕ
seal_size = 32
