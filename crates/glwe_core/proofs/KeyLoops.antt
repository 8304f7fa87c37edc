-- Keys and their bits in order.
use Rattle.std.proofs.Common.{◌≡◌, ℕ, ◌+◌, ◌*◌, ◌<◌, ◌≤◌, Bool, true, false, eqb, List, [], ◌∷◌, ◌++◌, length, get_or, map, take, drop, All, arith, ap, sym, ◌∙◌, refl}
use Rattle.std.proofs.Math.Nat.{add-mul, mul-le-mul_right}
use Rattle.std.proofs.Math.Seq.{take-add}
use Rattle.std.proofs.lemmas.List.{ext_get_or, append-nil, length-append, length-drop, length-take-le, length-map, get_or_default, get_or-take, get_or-drop, get_or-map, map-append, take_more, take_all}
use Rattle.std.proofs.lemmas.List.Concat.{flat_map-append}
use Rattle.std.proofs.lemmas.List.Elements.{All-push, All-nil}
use Rattle.lwe_core.specs.Secret.{bit_word, bit_words}
use Rattle.glwe_core.specs.Glwe.{words_bits, flat_key_of, IsKeyFrom}

-- ---- bits and words

bit_back : (b : Bool) → eqb (bit_word b) 1 ≡ b
bit_back true = refl
bit_back false = refl

words_bits-bit_words : (bits : List Bool) → words_bits (bit_words bits) ≡ bits
words_bits-bit_words [] = refl
words_bits-bit_words (b ∷ bits) = ap (λ (x : Bool). x ∷ words_bits (bit_words bits)) (bit_back b) ∙ ap (λ (xs : List Bool). b ∷ xs) (words_bits-bit_words bits)

-- polynomials of bits are those of their bits
pub polys_are : (polys : List (List ℕ)) → All (λ poly. bit_words (words_bits poly) ≡ poly) polys → polys ≡ map bit_words (map words_bits polys)
polys_are polys are =
    let long : length (map bit_words (map words_bits polys)) ≡ length polys = length-map (map words_bits polys) bit_words ∙ length-map polys words_bits in
    ext_get_or [] polys (map bit_words (map words_bits polys)) (sym long)
    (λ k h. sym (get_or-map bit_words (map words_bits polys) k [] [] (omega (arith, length-map polys words_bits, h)) ∙ ap bit_words (get_or-map words_bits polys k [] [] h) ∙ are k [] h))

-- ---- the polynomial of a piece of the flat key

pub poly_made : (n at' : ℕ) (flat : List Bool) (poly : List ℕ) → at' + n ≤ length flat → length poly ≡ n → ((k : ℕ) → k < n → get_or poly k 0 ≡ bit_word (get_or flat (at' + k) false)) → poly ≡ bit_words (take n (drop at' flat))
poly_made n at' flat poly room long each =
    let piece : List Bool = take n (drop at' flat) in
    let piece_long : length piece ≡ n = length-take-le n (drop at' flat) (omega (arith, length-drop at' flat, room)) in
    ext_get_or 0 poly (bit_words piece) (long ∙ sym (length-map piece bit_word ∙ piece_long))
    (λ k h. let inside : k < n = omega (arith, long, h) in
    each k inside ∙ ap bit_word (sym (get_or-take n (drop at' flat) k false inside ∙ get_or-drop at' flat k false)) ∙ sym (get_or-map bit_word piece k false 0 (omega (arith, piece_long, inside))))

-- ---- polynomial after polynomial

pub record HasTaken (n : ℕ) (flat : List Bool) (j place : ℕ) (polys : List (List ℕ)) : Type 0 where
  pub place_is : place ≡ j * n
  pub number : length polys ≡ j
  pub bits : All (λ poly. bit_words (words_bits poly) ≡ poly) polys
  pub lengths : All (λ bits. length bits ≡ n) (map words_bits polys)
  pub flat_bits : flat_key_of (map words_bits polys) ≡ take place flat

pub HasTaken_none : (n : ℕ) (flat : List Bool) → HasTaken n flat 0 0 []
HasTaken_none n flat = record {
  place_is = omega arith;
  number = refl;
  bits = All-nil (λ poly. bit_words (words_bits poly) ≡ poly);
  lengths = All-nil (λ bits. length bits ≡ n);
  flat_bits = refl;
}

one_more : (j n : ℕ) → j * n + n ≡ (j + 1) * n
one_more j n = omega arith

pub HasTaken_more : (n : ℕ) (flat : List Bool) (j place more : ℕ) (polys polys' : List (List ℕ)) (poly : List ℕ) → HasTaken n flat j place polys → place + n ≤ length flat → poly ≡ bit_words (take n (drop place flat)) → more ≡ length poly → polys' ≡ polys ++ poly ∷ [] → HasTaken n flat (j + 1) (place + more) polys'
HasTaken_more n flat j place more polys polys' poly is room poly_is more_is polys_is =
    let piece : List Bool = take n (drop place flat) in
    let piece_long : length piece ≡ n = length-take-le n (drop place flat) (omega (arith, length-drop place flat, room)) in
    let back : words_bits poly ≡ piece = ap words_bits poly_is ∙ words_bits-bit_words piece in
    let step : more ≡ n = more_is ∙ ap length poly_is ∙ length-map piece bit_word ∙ piece_long in
    let mapped : map words_bits (polys ++ poly ∷ []) ≡ map words_bits polys ++ words_bits poly ∷ [] = map-append words_bits polys (poly ∷ []) in
    rw polys_is (record {
      place_is = ap (λ m. place + m) step ∙ ap (λ p. p + n) is.place_is ∙ one_more j n;
      number = length-append polys (poly ∷ []) ∙ ap (λ m. m + 1) is.number;
      bits = All-push (λ poly. bit_words (words_bits poly) ≡ poly) polys poly is.bits (ap bit_words back ∙ sym poly_is);
      lengths = rw mapped (All-push (λ bits. length bits ≡ n) (map words_bits polys) (words_bits poly) is.lengths (ap length back ∙ piece_long));
      flat_bits = ap flat_key_of mapped ∙ flat_map-append (λ (bits : List Bool). bits) (map words_bits polys) (words_bits poly ∷ [])
          ∙ ap (λ bs. bs ++ (words_bits poly ++ [])) is.flat_bits ∙ ap (λ bs. take place flat ++ bs) (append-nil (words_bits poly) ∙ back)
          ∙ sym (take-add place n flat) ∙ ap (λ m. take m flat) (ap (λ m. place + m) (sym step));
    })

product_below : (a b n : ℕ) → a + 1 ≤ b → a * n + n ≤ b * n
product_below a b n le = omega (arith, mul-le-mul_right n le, add-mul a 1 n)

-- the next piece stands in the flat key
pub piece_fits : (n k : ℕ) (flat : List Bool) (j place : ℕ) (polys : List (List ℕ)) → HasTaken n flat j place polys → j < k → length flat ≡ k * n → place + n ≤ length flat
piece_fits n k flat j place polys is inside whole = omega (arith, is.place_is, whole, product_below j k n (omega (arith, inside)))

pub HasTaken_all : (n k : ℕ) (flat : List Bool) (j place : ℕ) (polys : List (List ℕ)) → HasTaken n flat j place polys → j ≡ k → length flat ≡ k * n → IsKeyFrom k n flat (map words_bits polys)
HasTaken_all n k flat j place polys is j_is whole = record {
  number = length-map polys words_bits ∙ is.number ∙ j_is;
  lengths = is.lengths;
  flat_bits = is.flat_bits ∙ take_all place flat (omega (arith, is.place_is, whole, ap (λ i. i * n) j_is));
}

-- ---- the flat key

pub flat_more : (polys : List (List ℕ)) (key : List (List Bool)) (j : ℕ) (poly : List ℕ) (bits before : List Bool) → key ≡ map words_bits polys → j < length polys → poly ≡ get_or polys j poly → before ≡ flat_key_of (take j key) → bits ≡ before ++ words_bits poly → bits ≡ flat_key_of (take (j + 1) key)
flat_more polys key j poly bits before key_is inside poly_is before_is bits_is =
    let there : j < length key = omega (arith, ap length key_is, length-map polys words_bits, inside) in
    let here : words_bits poly ≡ get_or key j [] = ap words_bits (poly_is ∙ get_or_default polys j poly [] inside) ∙ sym (ap (λ ks. get_or ks j []) key_is ∙ get_or-map words_bits polys j [] [] inside) in
    bits_is ∙ ap (λ bs. bs ++ words_bits poly) before_is ∙ ap (λ bs. flat_key_of (take j key) ++ bs) (here ∙ sym (append-nil (get_or key j [])))
    ∙ sym (ap flat_key_of (take_more key j [] there) ∙ flat_map-append (λ (bits : List Bool). bits) (take j key) (get_or key j [] ∷ []))
