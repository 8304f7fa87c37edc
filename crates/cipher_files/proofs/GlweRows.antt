-- A row of a boot key is read polynomial by polynomial.
use Rattle.std.proofs.Common.{◌≡◌, ℕ, zero, suc, ◌+◌, ◌<◌, List, [], ◌∷◌, length, take, set, get_or, map, replicate, refl, sym, ap, arith, ◌∙◌}
use Rattle.std.specs.List.{range_with_len}
use Rattle.std.proofs.lemmas.List.{length-map, length-replicate, get_or-map, get_or-replicate, get_or-set_same, set-set, take_all}
use Rattle.glwe_core.specs.Glwe.{lengths_of}
use Rattle.cipher_files.proofs.Written.{written_more}

pub number_of_parts : (m n : ℕ) (parts : List (List ℕ)) → lengths_of parts ≡ replicate m n → length parts ≡ m
number_of_parts m n parts shape = sym (length-map parts length) ∙ ap length shape ∙ length-replicate m n

pub part_long : (m n i : ℕ) (parts : List (List ℕ)) (d : List ℕ) → lengths_of parts ≡ replicate m n → i < m → length (get_or parts i d) ≡ n
part_long m n i parts d shape inside =
    sym (get_or-map length parts i d 0 (omega (arith, inside, number_of_parts m n parts shape))) ∙ ap (λ ls. get_or ls i 0) shape ∙ get_or-replicate m i n 0 inside

-- the first words of a part are read, and nothing else is changed
pub record IsRead (f : ℕ → ℕ) (start j place : ℕ) (before parts : List (List ℕ)) : Type 0 where
  pub words : take place (get_or parts j []) ≡ map f (range_with_len start place)
  pub others : parts ≡ set before j (get_or parts j [])

pub word_more : (f : ℕ → ℕ) (start j place w : ℕ) (before parts : List (List ℕ)) → IsRead f start j place before parts → j < length parts → place < length (get_or parts j []) → w ≡ f (start + place) → IsRead f start j (place + 1) before (set parts j (set (get_or parts j []) place w))
word_more f start j place w before parts is there inside word =
    let part : List ℕ = get_or parts j [] in
    let new : List ℕ = set part place w in
    let here : get_or (set parts j new) j [] ≡ new = get_or-set_same parts j new [] there in
    record {
      words = ap (take (place + 1)) here ∙ written_more f part start place w inside is.words word;
      others = ap (λ ps. set ps j new) is.others ∙ set-set before j part new ∙ ap (set before j) (sym here);
    }

pub whole_read : (f : ℕ → ℕ) (start j n place : ℕ) (before parts : List (List ℕ)) → IsRead f start j place before parts → length (get_or parts j []) ≡ n → place ≡ n → parts ≡ set before j (map f (range_with_len start n))
whole_read f start j n place before parts is long done =
    is.others ∙ ap (set before j) (sym (take_all place (get_or parts j []) (omega (arith, long, done))) ∙ is.words ∙ ap (λ m. map f (range_with_len start m)) done)

-- a row of zeros
pub zeros_shape : (parts n : ℕ) → lengths_of (replicate parts (replicate n 0)) ≡ replicate parts n
zeros_shape zero n = refl
zeros_shape (suc parts) n =
    let zeros : List ℕ = replicate n 0 in
    ap (λ (m : ℕ). m ∷ lengths_of (replicate parts zeros)) (length-replicate n 0) ∙ ap (λ (ls : List ℕ). n ∷ ls) (zeros_shape parts n)
