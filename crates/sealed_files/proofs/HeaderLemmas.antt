-- Headers whose fields are within their limits.
use Rattle.std.proofs.Common.{◌≡◌, ℕ, zero, suc, ◌+◌, ◌<◌, ◌≤◌, Bool, true, nat_le, List, [], ◌∷◌, length, get_or, take, drop, Ok, Err, refl, sym, ap, ◌∙◌, arith}
use Rattle.std.proofs.lemmas.Bool.{leb-true, le-leb, and_parts}
use Rattle.std.proofs.lemmas.List.{get_or-take, at_drop_more, at_drop_all}
use Rattle.refusals.specs.declared.refusal.Refusal.{Refusal}
use Rattle.refusals.specs.declared.refusal.Refusal.TheVariants.{Fault, Memory}
use Rattle.refusals.specs.Reading.{unless, Refuses}
use Rattle.refusals.specs.Steps.{test_held}
use Rattle.sealed_files.specs.declared.fault.FileFault.{FileFault}
use Rattle.sealed_files.specs.declared.fault.FileFault.TheVariants.{Field}
use Rattle.sealed_files.specs.declared.kinds.FileKind.{FileKind}
use Rattle.sealed_files.specs.declared.kinds.FileKind.TheVariants.{Secret, Eval, Cipher}
use Rattle.sealed_files.specs.declared.kinds.HeaderField.{HeaderField}
use Rattle.sealed_files.specs.Kinds.{magic_of, header_of, IsWithin, is_within, AreWithin, word_count, secret_words, switch_words, boot_words, cipher_words}
use Rattle.sealed_files.specs.FrameReading.{word_at, words_at, fields_within}

-- the test of a field's limits
pub within_true : (field : HeaderField) (number : ℕ) → is_within field number ≡ true → IsWithin field number
within_true field number held =
    let parts = and_parts (nat_le field.least number) (nat_le number field.most) held in
    record { least = leb-true field.least number parts.0; most = leb-true number field.most parts.1 }

pub true_within : (field : HeaderField) (number : ℕ) → IsWithin field number → is_within field number ≡ true
true_within field number is = rw (le-leb field.least number is.least, le-leb number field.most is.most) refl

-- what was read is within its limits
pub header_within : (place : ℕ) (fields : List HeaderField) (bytes : List ℕ) → fields_within place fields bytes ≡ Ok tt → AreWithin fields (words_at bytes place (length fields))
unfolding fields_within
header_within place [] bytes read = tt
header_within place (field ∷ fields) bytes read =
    let step = test_held (is_within field (word_at bytes place)) (Field place) (λ (here : Unit {0}). fields_within (place + 1) fields bytes) tt read in
    (within_true field (word_at bytes place) step.0, header_within (place + 1) fields bytes step.1)

-- and what is within its limits is read
pub header_again : (place : ℕ) (fields : List HeaderField) (bytes : List ℕ) → AreWithin fields (words_at bytes place (length fields)) → fields_within place fields bytes ≡ Ok tt
unfolding fields_within
header_again place [] bytes within = refl
header_again place (field ∷ fields) bytes within = rw (true_within field (word_at bytes place) within.0) (header_again (place + 1) fields bytes within.1)

-- a field that a loop over the header tested
pub record Tested (fields seen : List HeaderField) (i : ℕ) (bytes : List ℕ) (result : Bool) : Type 0 where
  pub items : seen ≡ fields
  pub inside : i < length seen
  pub test : result ≡ is_within (get_or seen i (record { least = 0; most = 0 })) (word_at bytes i)

-- one field after the other, as a loop does
pub fields_go_on : (fields items : List HeaderField) (i : ℕ) (bytes : List ℕ) (test : Bool) → Tested fields items i bytes test → test ≡ true → fields_within (i + 1) (drop (i + 1) fields) bytes ≡ fields_within i (drop i fields) bytes
unfolding fields_within
fields_go_on fields items i bytes test tested held =
    let none : HeaderField = record { least = 0; most = 0 } in
    let same : is_within (get_or fields i none) (word_at bytes i) ≡ true = ap (λ (fs : List HeaderField). is_within (get_or fs i none) (word_at bytes i)) (sym tested.items) ∙ sym tested.test ∙ held in
    let one : fields_within i (get_or fields i none ∷ drop (i + 1) fields) bytes ≡ fields_within (i + 1) (drop (i + 1) fields) bytes = rw same refl in
    sym one ∙ sym (at_drop_more (λ (fs : List HeaderField). fields_within i fs bytes) fields i none (omega (arith, tested.inside, ap length tested.items)))

pub fields_end : (refusal : Refusal FileFault) (fields items : List HeaderField) (i : ℕ) (bytes : List ℕ) (test : Bool) → Tested fields items i bytes test → Refuses refusal (unless test (Field i)) → Refuses refusal (fields_within i (drop i fields) bytes)
unfolding fields_within
fields_end Memory fields items i bytes test tested failed = tt
fields_end (Fault found) fields items i bytes test tested failed =
    let none : HeaderField = record { least = 0; most = 0 } in
    let same : is_within (get_or fields i none) (word_at bytes i) ≡ test = ap (λ (fs : List HeaderField). is_within (get_or fs i none) (word_at bytes i)) (sym tested.items) ∙ sym tested.test in
    let at : unless (is_within (get_or fields i none) (word_at bytes i)) (Field i) ≡ Err found = ap (λ (t : Bool). unless t (Field i)) same ∙ failed in
    let one : fields_within i (get_or fields i none ∷ drop (i + 1) fields) bytes ≡ Err found = rw at refl in
    at_drop_more (λ (fs : List HeaderField). fields_within i fs bytes) fields i none (omega (arith, tested.inside, ap length tested.items)) ∙ one

pub fields_done : (fields : List HeaderField) (i : ℕ) (bytes : List ℕ) → length fields ≤ i → fields_within i (drop i fields) bytes ≡ Ok tt
unfolding fields_within
fields_done fields i bytes past = at_drop_all (λ (fs : List HeaderField). fields_within i fs bytes) fields i past

-- with more words behind them too
pub more_within : (fields : List HeaderField) (bytes : List ℕ) (place count : ℕ) → length fields ≤ count → AreWithin fields (words_at bytes place (length fields)) → AreWithin fields (words_at bytes place count)
more_within [] bytes place count few within = tt
more_within (field ∷ fields) bytes place zero few within = absurd (omega arith)
more_within (field ∷ fields) bytes place (suc count) few within = (within.0, more_within fields bytes (place + 1) count (omega arith) within.1)

-- as many words as fields at least
pub fields_few : (fields : List HeaderField) (words : List ℕ) → AreWithin fields words → length fields ≤ length words
fields_few [] words within = omega arith
fields_few (field ∷ fields) [] within = absurd within
fields_few (field ∷ fields) (word ∷ words) within = omega (arith, fields_few fields words within.1)

-- the words of the header alone
pub first_within : (fields : List HeaderField) (words : List ℕ) → AreWithin fields words → AreWithin fields (take (length fields) words)
first_within [] words within = tt
first_within (field ∷ fields) [] within = absurd within
first_within (field ∷ fields) (word ∷ words) within = (within.0, first_within fields words within.1)

pub length-magic_of : (kind : FileKind) → length (magic_of kind) ≡ 8
length-magic_of Secret = refl
length-magic_of Eval = refl
length-magic_of Cipher = refl

-- a number of the header is the one among all words
first_is : (count : ℕ) (words : List ℕ) (i : ℕ) → i < count → get_or (take count words) i 0 ≡ get_or words i 0
first_is count words i inside = get_or-take count words i 0 inside

-- how many words there are hangs on the header alone
pub count_by_header : (kind : FileKind) (words : List ℕ) → word_count kind (take (length (header_of kind)) words) ≡ word_count kind words
count_by_header Secret words =
    let a = first_is 2 words 0 (omega arith) in
    let b = first_is 2 words 1 (omega arith) in
    ap (λ (n : ℕ). 2 + secret_words n (get_or (take 2 words) 1 0)) a ∙ ap (λ (d : ℕ). 2 + secret_words (get_or words 0 0) d) b
count_by_header Eval words =
    let a = first_is 5 words 0 (omega arith) in
    let b = first_is 5 words 1 (omega arith) in
    let c = first_is 5 words 2 (omega arith) in
    let d = first_is 5 words 3 (omega arith) in
    let e = first_is 5 words 4 (omega arith) in
    let count : ℕ → ℕ → ℕ → ℕ → ℕ → ℕ = λ k log_n n level_b level_s. 5 + (switch_words k log_n n level_s + boot_words k log_n n level_b) in
    let w : ℕ → ℕ = λ i. get_or words i 0 in
    let t : ℕ → ℕ = λ i. get_or (take 5 words) i 0 in
    ap (λ (x : ℕ). count x (t 1) (t 2) (t 3) (t 4)) a ∙ ap (λ (x : ℕ). count (w 0) x (t 2) (t 3) (t 4)) b ∙ ap (λ (x : ℕ). count (w 0) (w 1) x (t 3) (t 4)) c
    ∙ ap (λ (x : ℕ). count (w 0) (w 1) (w 2) x (t 4)) d ∙ ap (λ (x : ℕ). count (w 0) (w 1) (w 2) (w 3) x) e
count_by_header Cipher words =
    let a = first_is 3 words 0 (omega arith) in
    let b = first_is 3 words 2 (omega arith) in
    ap (λ (d : ℕ). 3 + cipher_words d (get_or (take 3 words) 2 0)) a ∙ ap (λ (m : ℕ). 3 + cipher_words (get_or words 0 0) m) b
