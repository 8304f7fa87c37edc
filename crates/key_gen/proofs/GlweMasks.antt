-- The mask of a GLWE ciphertext is drawn polynomial by polynomial, and its body set behind it.
use Rattle.std.proofs.Common.{◌≡◌, ℕ, ◌+◌, ◌*◌, ◌<◌, Bool, List, [], ◌∷◌, ◌++◌, All, length, take, set, get_or, map, replicate, refl, sym, ap, subst, arith, ◌∙◌}
use Rattle.std.specs.List.{range_with_len, zip}
use Rattle.std.proofs.Math.Seq.{take-append_seam}
use Rattle.std.proofs.lemmas.List.{length-map, length-replicate, get_or-map, get_or-replicate, get_or-set_same, set-set, take_all, map_push, replicate_more, same_lists}
use Rattle.std.proofs.lemmas.List.FromFn.{get_or-map-range_with_len, length-map-range_with_len}
use Rattle.word_ring.specs.Rows.{row_sum, sum_of_rows}
use Rattle.lwe_core.specs.Secret.{bit_words}
use Rattle.seed_stream.specs.Draws.{draw}
use Rattle.negacyclic.specs.Product.{negacyclic_product}
use Rattle.glwe_core.specs.Glwe.{lengths_of, degree_of, FitsGlweKey, mask_sum, sealed_glwe}
use Rattle.key_gen.specs.Seeds.{draws_at, masks_at}
use Rattle.key_gen.proofs.Masks.{set_behind}
use Rattle.key_gen.proofs.Places.{written_more}

-- ---- lengths

pub number_of_parts : (m n : ℕ) (parts : List (List ℕ)) → lengths_of parts ≡ replicate m n → length parts ≡ m
number_of_parts m n parts shape = sym (length-map parts length) ∙ ap length shape ∙ length-replicate m n

pub part_long : (m n i : ℕ) (parts : List (List ℕ)) (d : List ℕ) → lengths_of parts ≡ replicate m n → i < m → length (get_or parts i d) ≡ n
part_long m n i parts d shape inside =
    sym (get_or-map length parts i d 0 (omega (arith, inside, number_of_parts m n parts shape))) ∙ ap (λ ls. get_or ls i 0) shape ∙ get_or-replicate m i n 0 inside

-- a ciphertext of as many parts as a key wants, of n words each, fits it
pub shape_fits : (n : ℕ) (polys : List (List Bool)) (parts : List (List ℕ)) → lengths_of parts ≡ replicate (length polys + 1) n → All (λ bits. length bits ≡ n) polys → FitsGlweKey n polys parts
shape_fits n polys parts shape bits =
    let number : length parts ≡ length polys + 1 = number_of_parts (length polys + 1) n parts shape in
    record { number = number; lengths = λ i d inside. part_long (length polys + 1) n i parts d shape (omega (arith, inside, number)); bits = bits }

pub degree_is : (n : ℕ) (polys : List (List Bool)) (parts : List (List ℕ)) → lengths_of parts ≡ replicate (length polys + 1) n → degree_of parts ≡ n
degree_is n polys parts shape = part_long (length polys + 1) n 0 parts [] shape (omega arith)

-- ---- drawing a polynomial

-- one word more
pub record IsDrawn (f : ℕ → ℕ) (start j place : ℕ) (before parts : List (List ℕ)) : Type 0 where
  pub drawn : take place (get_or parts j []) ≡ map f (range_with_len start place)
  pub others : parts ≡ set before j (get_or parts j [])

pub word_more : (f : ℕ → ℕ) (start j place w : ℕ) (before parts : List (List ℕ)) → IsDrawn f start j place before parts → j < length parts → place < length (get_or parts j []) → w ≡ f (start + place) → IsDrawn f start j (place + 1) before (set parts j (set (get_or parts j []) place w))
word_more f start j place w before parts is there inside drawn =
    let part : List ℕ = get_or parts j [] in
    let new : List ℕ = set part place w in
    let here : get_or (set parts j new) j [] ≡ new = get_or-set_same parts j new [] there in
    record {
      drawn = ap (take (place + 1)) here ∙ written_more f part start place w inside is.drawn drawn;
      others = ap (λ ps. set ps j new) is.others ∙ set-set before j part new ∙ ap (set before j) (sym here);
    }

pub whole_drawn : (f : ℕ → ℕ) (start j n place : ℕ) (before parts : List (List ℕ)) → IsDrawn f start j place before parts → length (get_or parts j []) ≡ n → place ≡ n → parts ≡ set before j (map f (range_with_len start n))
whole_drawn f start j n place before parts is long done =
    is.others ∙ ap (set before j) (sym (take_all place (get_or parts j []) (omega (arith, long, done))) ∙ is.drawn ∙ ap (λ m. map f (range_with_len start m)) done)

-- ---- sealing

-- a list is read no further than the other
zip_front : {X Y : Type 0} (xs : List X) (ys zs : List Y) → take (length xs) ys ≡ take (length xs) zs → zip xs ys ≡ zip xs zs
zip_front [] ys zs same = refl
zip_front (x ∷ xs) [] [] same = refl
zip_front (x ∷ xs) [] (z ∷ zs) same = absurd cc
zip_front (x ∷ xs) (y ∷ ys) [] same = absurd cc
zip_front (x ∷ xs) (y ∷ ys) (z ∷ zs) same =
    let first : y ≡ z = cc in
    let others : take (length xs) ys ≡ take (length xs) zs = cc in
    ap (λ w. (x, w) ∷ zip xs ys) first ∙ ap (λ ps. (x, z) ∷ ps) (zip_front xs ys zs others)

-- the mask alone decides what a ciphertext is sealed with
sum_by_masks : (n : ℕ) (polys : List (List Bool)) (xs ys : List (List ℕ)) → take (length polys) xs ≡ take (length polys) ys → mask_sum n polys xs ≡ mask_sum n polys ys
unfolding mask_sum
sum_by_masks n polys xs ys same = ap (λ ps. sum_of_rows n (map (λ p. negacyclic_product p.1 (bit_words p.0)) ps)) (zip_front polys xs ys same)

pub sealed_by_masks : (n : ℕ) (polys : List (List Bool)) (xs ys : List (List ℕ)) (phase : List ℕ) → lengths_of xs ≡ replicate (length polys + 1) n → lengths_of ys ≡ replicate (length polys + 1) n → take (length polys) xs ≡ take (length polys) ys → sealed_glwe polys xs phase ≡ sealed_glwe polys ys phase
sealed_by_masks n polys xs ys phase shape also same =
    let k : ℕ = length polys in
    let degree : degree_of xs ≡ degree_of ys = part_long (k + 1) n 0 xs [] shape (omega arith) ∙ sym (part_long (k + 1) n 0 ys [] also (omega arith)) in
    let sums : mask_sum (degree_of xs) polys xs ≡ mask_sum (degree_of ys) polys ys = ap (λ m. mask_sum m polys xs) degree ∙ sum_by_masks (degree_of ys) polys xs ys same in
    let body : List ℕ = row_sum phase (mask_sum (degree_of ys) polys ys) in
    ap (λ s. set xs k (row_sum phase s)) sums ∙ set_behind k xs body (number_of_parts (k + 1) n xs shape) ∙ ap (λ ps. ps ++ body ∷ []) same ∙ sym (set_behind k ys body (number_of_parts (k + 1) n ys also))

-- the masks that are drawn, before a body
pub masks_front : (key : List ℕ) (place k n : ℕ) → take k (masks_at key place k n ++ replicate n 0 ∷ []) ≡ masks_at key place k n
masks_front key place k n =
    let masks : List (List ℕ) = masks_at key place k n in
    subst (λ (m : ℕ). take m (masks ++ replicate n 0 ∷ []) ≡ masks) (length-map-range_with_len (λ j. draws_at key (place + j * n) n) 0 k) (take-append_seam masks (replicate n 0 ∷ []))

pub masks_shape : (key : List ℕ) (place k n : ℕ) → lengths_of (masks_at key place k n ++ replicate n 0 ∷ []) ≡ replicate (k + 1) n
masks_shape key place k n =
    let masks : List (List ℕ) = masks_at key place k n in
    let zeros : List ℕ = replicate n 0 in
    let number : length masks ≡ k = length-map-range_with_len (λ j. draws_at key (place + j * n) n) 0 k in
    let lengths : lengths_of masks ≡ replicate k n =
    same_lists (lengths_of masks) (replicate k n) (length-map masks length ∙ number ∙ sym (length-replicate k n))
    (λ i d inside.
    let below : i < k = omega (arith, inside, length-map masks length, number) in
    get_or-map length masks i [] d (omega (arith, below, number))
    ∙ ap length (get_or-map-range_with_len (λ j. draws_at key (place + j * n) n) 0 k i i [] below (omega arith))
    ∙ length-map-range_with_len (draw key) (place + i * n) n ∙ sym (get_or-replicate k i n d below)) in
    map_push length masks zeros ∙ ap (λ (ls : List ℕ). ls ++ length zeros ∷ []) lengths ∙ ap (λ (m : ℕ). replicate k n ++ m ∷ []) (length-replicate n 0) ∙ replicate_more k n
