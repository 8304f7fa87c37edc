-- The kinds of files: what each begins with, the fields of its header, and how many words stand behind those.
use Rattle.std.specs.Prelude.{ℕ, ◌+◌, ◌*◌, ◌^◌, ◌≤◌, Bool, ◌&&◌, nat_le, List, [], ◌∷◌, length, codes, slice_index}
use Rattle.fhe_params.specs.Limits.{most_polynomials, most_log_n, most_dimension, most_small_dimension, most_digit_bits}
use Rattle.forms.specs.Limits.{most_width, most_inputs}
use Rattle.sealed_files.specs.declared.kinds.FileKind.{FileKind}
use Rattle.sealed_files.specs.declared.kinds.FileKind.TheVariants.{Secret, Eval, Cipher}
use Rattle.sealed_files.specs.declared.kinds.HeaderField.{HeaderField}
use Rattle.sealed_files.specs.Limits.{words_place, word_size, seal_size}

-- the first bytes of a file
abbrev pub magic_of : FileKind → List ℕ
magic_of Secret = codes "FHECSEC1"
magic_of Eval = codes "FHECEVL1"
magic_of Cipher = codes "FHECCIP1"

-- the dimension of small ciphertexts, n
abbrev pub small_dimension : HeaderField
small_dimension = record { least = 1; most = most_small_dimension }

-- the dimension of big ciphertexts, D
abbrev pub big_dimension : HeaderField
big_dimension = record { least = 1; most = most_dimension }

-- the mask polynomials of a ciphertext of the ring, k
abbrev pub polynomials : HeaderField
polynomials = record { least = 1; most = most_polynomials }

-- the logarithm of the number of their coefficients, log_n
abbrev pub log_degree : HeaderField
log_degree = record { least = 1; most = most_log_n }

-- the digits of a word
abbrev pub level : HeaderField
level = record { least = 1; most = most_digit_bits }

-- the bits of a message, P
abbrev pub width : HeaderField
width = record { least = 1; most = most_width }

-- the ciphertexts of a file, m
abbrev pub ciphertexts : HeaderField
ciphertexts = record { least = 0; most = most_inputs }

-- the header: n and D; k, log_n, n, and the levels of boot keys and of switch keys; D, P and m
abbrev pub header_of : FileKind → List HeaderField
header_of Secret = small_dimension ∷ big_dimension ∷ []
header_of Eval = polynomials ∷ log_degree ∷ small_dimension ∷ level ∷ level ∷ []
header_of Cipher = big_dimension ∷ width ∷ ciphertexts ∷ []

-- the number is within the limits of a field
pub record IsWithin (field : HeaderField) (number : ℕ) : Type 0 where
  pub least : field.least ≤ number
  pub most : number ≤ field.most

-- the test of that
abbrev pub is_within : HeaderField → ℕ → Bool
is_within field number = nat_le field.least number && nat_le number field.most

-- the words begin with numbers that are within the limits of these fields, in order
abbrev pub AreWithin : List HeaderField → List ℕ → Type 0
AreWithin [] words = Unit {0}
AreWithin (field ∷ fields) [] = ⊥
AreWithin (field ∷ fields) (word ∷ words) = IsWithin field word × AreWithin fields words

-- the words of both secret keys: one for each bit
abbrev pub secret_words : ℕ → ℕ → ℕ
secret_words n dim = n + dim

-- the words of a switch key: a row of n + 1 words for each bit of the big key and each digit
abbrev pub switch_words : ℕ → ℕ → ℕ → ℕ → ℕ
switch_words k log_n n level_s = k * 2 ^ log_n * level_s * (n + 1)

-- the words of a boot key: for each bit of the small key (k + 1)*level rows of k + 1 polynomials
abbrev pub boot_words : ℕ → ℕ → ℕ → ℕ → ℕ
boot_words k log_n n level_b = n * ((k + 1) * (k + 1)) * level_b * 2 ^ log_n

-- the words of ciphertexts: for each the two ends of its range, D mask words and a body
abbrev pub cipher_words : ℕ → ℕ → ℕ
cipher_words dim number = 2 * number + number * (dim + 1)

-- how many words stand behind a header, by what it says
abbrev pub body_words : FileKind → List ℕ → ℕ
body_words Secret words = secret_words (slice_index words 0) (slice_index words 1)
body_words Eval words =
    switch_words (slice_index words 0) (slice_index words 1) (slice_index words 2) (slice_index words 4)
    + boot_words (slice_index words 0) (slice_index words 1) (slice_index words 2) (slice_index words 3)
body_words Cipher words = cipher_words (slice_index words 0) (slice_index words 2)

-- how many words a file has, by what its header says
abbrev pub word_count : FileKind → List ℕ → ℕ
word_count kind words = length (header_of kind) + body_words kind words

-- the bytes of a file of so many words: the magic, the digest, the words and the seal
abbrev pub file_size : ℕ → ℕ
file_size count = words_place + word_size * count + seal_size
