-- What the loops of extraction have written.
use Rattle.std.proofs.Common.{◌≡◌, ℕ, ◌+◌, ◌-◌, ◌*◌, ◌<◌, ◌≤◌, cond, eqb, List, [], ◌∷◌, ◌++◌, length, get_or, set, map, take, drop, ⊎_elim, append_assoc, zero-add, arith, ap, sym, ◌∙◌, refl}
use Prim.Native.Nat.{zero, suc}
use Rattle.std.specs.List.{concat, range_with_len, AllByRecursion}
use Rattle.std.proofs.Math.Nat.{add-mul, mul-le-mul, mul-le-mul_right}
use Rattle.std.proofs.Math.Seq.{take-append_seam, set-append_seam}
use Rattle.std.proofs.lemmas.Bool.{cases_lt}
use Rattle.std.proofs.lemmas.List.{ext_get_or, append-nil, length-append, length-drop, length-take-le, length-map, get_or_default, get_or-take, get_or-drop, get_or_append_left, get_or-append_right, drop-drop, drop_at, drop_more, drop_all, map_more}
use Rattle.std.proofs.lemmas.List.FromFn.{length-range_with_len, get_or-map-range_with_len}
use Rattle.std.proofs.lemmas.List.Elements.{recursion_from_All}
use Rattle.word_ring.specs.Words.{word_negation}
use Rattle.glwe_core.specs.Glwe.{degree_of, HasShape, extracted_mask, extracted}

-- ---- one part

-- a mask word of a part
abbrev pub mask_word : List ℕ → ℕ → ℕ
mask_word a i = cond (eqb i 0) (get_or a 0 0) (word_negation (get_or a (length a - i) 0))

pub length-extracted_mask : (a : List ℕ) → length (extracted_mask a) ≡ length a
unfolding extracted_mask
length-extracted_mask a = length-map (range_with_len 0 (length a)) _ ∙ length-range_with_len 0 (length a)

get_or-extracted_mask : (a : List ℕ) (i : ℕ) → i < length a → get_or (extracted_mask a) i 0 ≡ mask_word a i
unfolding extracted_mask
get_or-extracted_mask a i lt = get_or-map-range_with_len (mask_word a) 0 (length a) i i 0 lt (zero-add i)

part_long : (at' : ℕ) (out a : List ℕ) → at' + length a ≤ length out → length (take at' out ++ extracted_mask a ++ drop (at' + length a) out) ≡ length out
part_long at' out a room =
    omega (arith, length-append (take at' out ++ extracted_mask a) (drop (at' + length a) out), length-append (take at' out) (extracted_mask a), length-take-le at' out (omega (arith, room)), length-drop (at' + length a) out, length-extracted_mask a, room)

-- the words from a place on are those of the part
pub part_set : (new old a : List ℕ) (at' : ℕ) → at' + length a ≤ length old → length new ≡ length old → ((k : ℕ) → k < length a → get_or new (at' + k) 0 ≡ mask_word a k) → ((k : ℕ) → k < at' → get_or new k 0 ≡ get_or old k 0) → ((k : ℕ) → at' + length a ≤ k → get_or new k 0 ≡ get_or old k 0) → new ≡ take at' old ++ extracted_mask a ++ drop (at' + length a) old
part_set new old a at' room long done before after =
    let front : List ℕ = take at' old in
    let mask : List ℕ = extracted_mask a in
    let back : List ℕ = drop (at' + length a) old in
    let front_long : length front ≡ at' = length-take-le at' old (omega (arith, room)) in
    let mask_long : length mask ≡ length a = length-extracted_mask a in
    let both_long : length (front ++ mask) ≡ at' + length a = omega (arith, length-append front mask, front_long, mask_long) in
    let whole : length ((front ++ mask) ++ back) ≡ length old = omega (arith, length-append (front ++ mask) back, length-drop (at' + length a) old, both_long, room) in
    ext_get_or 0 new ((front ++ mask) ++ back) (long ∙ sym whole)
    (λ k h. ⊎_elim
    (λ low. before k low
    ∙ sym (get_or_append_left (front ++ mask) back 0 k (omega (arith, both_long, low)) ∙ get_or_append_left front mask 0 k (omega (arith, front_long, low)) ∙ get_or-take at' old k 0 low))
    (λ past. ⊎_elim
    (λ inside. let place : at' + (k - at') ≡ k = omega (arith, past) in
    let here : k - at' < length a = omega (arith, past, inside) in
    ap (λ i. get_or new i 0) (sym place) ∙ done (k - at') here ∙ sym (get_or-extracted_mask a (k - at') here)
    ∙ sym (get_or_append_left (front ++ mask) back 0 k (omega (arith, both_long, inside)) ∙ get_or-append_right front mask at' k 0 front_long past))
    (λ high. let place : at' + length a + (k - (at' + length a)) ≡ k = omega (arith, high) in
    after k high ∙ ap (λ i. get_or old i 0) (sym place) ∙ sym (get_or-append_right (front ++ mask) back (at' + length a) k 0 both_long high ∙ get_or-drop (at' + length a) old (k - (at' + length a)) 0))
    (cases_lt k (at' + length a)))
    (cases_lt k at'))

-- ---- part after part

-- the words of the first j mask polynomials are set, and the others stand as they were
pub record HasExtracted (old : List ℕ) (parts : List (List ℕ)) (j place : ℕ) (out : List ℕ) : Type 0 where
  pub place_is : place ≡ j * degree_of parts
  pub words : out ≡ concat (map extracted_mask (take j parts)) ++ drop (j * degree_of parts) old
  pub long : length out ≡ length old

pub HasExtracted_none : (old : List ℕ) (parts : List (List ℕ)) → HasExtracted old parts 0 0 old
HasExtracted_none old parts = record {
  place_is = omega arith;
  words = let none : 0 ≡ 0 * degree_of parts = omega arith in ap (λ n. drop n old) none;
  long = refl;
}

concat-push : (xs : List (List ℕ)) (y : List ℕ) → concat (xs ++ y ∷ []) ≡ concat xs ++ y
concat-push [] y = append-nil y
concat-push (x ∷ xs) y = ap (λ zs. x ++ zs) (concat-push xs y) ∙ sym (append_assoc x (concat xs) y)

length-first : (d : ℕ) (parts : List (List ℕ)) (j : ℕ) → AllByRecursion (λ part. length part ≡ d) parts → j ≤ length parts → length (concat (map extracted_mask (take j parts))) ≡ j * d
length-first d parts zero are le = omega arith
length-first d [] (suc j) are le = absurd (omega arith)
length-first d (part ∷ parts) (suc j) are le =
    omega (arith, length-append (extracted_mask part) (concat (map extracted_mask (take j parts))), length-extracted_mask part, are.0, length-first d parts j are.1 (omega arith))

one_more : (j d : ℕ) → j * d + d ≡ (j + 1) * d
one_more j d = omega arith

pub HasExtracted_more : (old : List ℕ) (parts : List (List ℕ)) (j place : ℕ) (out part part' out' : List ℕ) → HasShape parts → j < length parts → HasExtracted old parts j place out → place + length part ≤ length out → part ≡ get_or parts j part → part' ≡ get_or parts j part' → out' ≡ take place out ++ extracted_mask part ++ drop (place + length part) out → HasExtracted old parts (j + 1) (place + length part') out'
HasExtracted_more old parts j place out part part' out' shape inside is room part_is part'_is out_is =
    let d : ℕ = degree_of parts in
    let here : part ≡ get_or parts j [] = part_is ∙ get_or_default parts j part [] inside in
    let there : part' ≡ get_or parts j [] = part'_is ∙ get_or_default parts j part' [] inside in
    let long : length part ≡ d = ap length here ∙ shape.lengths j [] inside in
    let also : length part' ≡ d = ap length there ∙ shape.lengths j [] inside in
    let front : List ℕ = concat (map extracted_mask (take j parts)) in
    let back : List ℕ = drop (j * d) old in
    let front_long : length front ≡ j * d = length-first d parts j (recursion_from_All (λ part. length part ≡ d) parts shape.lengths) (omega (arith, inside)) in
    let kept : take place out ≡ front = ap (λ n. take n out) (is.place_is ∙ sym front_long) ∙ ap (take (length front)) is.words ∙ take-append_seam front back in
    let rest : drop (place + length part) out ≡ drop ((j + 1) * d) old =
    sym (drop-drop (length part) place out)
    ∙ ap (drop (length part)) (ap (λ n. drop n out) is.place_is ∙ ap (drop (j * d)) is.words ∙ drop_at front back (j * d) front_long)
    ∙ drop-drop (length part) (j * d) old
    ∙ ap (λ n. drop n old) (ap (λ n. j * d + n) long ∙ one_more j d) in
    let more : concat (map extracted_mask (take (j + 1) parts)) ≡ front ++ extracted_mask part =
    ap concat (map_more extracted_mask parts j [] inside) ∙ concat-push (map extracted_mask (take j parts)) (extracted_mask (get_or parts j [])) ∙ ap (λ p. front ++ extracted_mask p) (sym here) in
    record {
      place_is = ap (λ n. n + length part') is.place_is ∙ ap (λ n. j * d + n) also ∙ one_more j d;
      words = out_is ∙ ap (λ f. f ++ extracted_mask part ++ drop (place + length part) out) kept ∙ ap (λ b. (front ++ extracted_mask part) ++ b) rest
          ∙ ap (λ f. f ++ drop ((j + 1) * d) old) (sym more);
      long = ap length out_is ∙ part_long place out part room ∙ is.long;
    }

-- the next part fits
product_below : (a b d : ℕ) → a + 1 ≤ b → a * d + d ≤ b * d
product_below a b d le = omega (arith, mul-le-mul_right d le, add-mul a 1 d)

pub part_fits : (old : List ℕ) (parts : List (List ℕ)) (j place : ℕ) (out part : List ℕ) → HasShape parts → j < length parts - 1 → length old ≡ (length parts - 1) * degree_of parts + 1 → HasExtracted old parts j place out → part ≡ get_or parts j part → place + length part ≤ length out
part_fits old parts j place out part shape inside whole is part_is =
    let there : j < length parts = omega (arith, inside) in
    let long : length part ≡ degree_of parts = ap length (part_is ∙ get_or_default parts j part [] there) ∙ shape.lengths j [] there in
    omega (arith, is.long, whole, is.place_is, long, product_below j (length parts - 1) (degree_of parts) (omega (arith, inside)))

-- the whole fits a machine
pub whole_fits : (parts : List (List ℕ)) (n : ℕ) → HasShape parts → n ≡ (length parts - 1) * degree_of parts + 1 → n ≤ 24577
whole_fits parts n shape e =
    let masks : length parts - 1 ≤ 3 = omega (arith, shape.few) in
    let product : (length parts - 1) * degree_of parts ≤ 3 * 8192 = mul-le-mul masks shape.most in
    omega (arith, e, product)

-- the place behind the mask polynomials is that of the body
pub body_inside : (old : List ℕ) (parts : List (List ℕ)) (j place : ℕ) (out : List ℕ) → j ≡ length parts - 1 → length old ≡ (length parts - 1) * degree_of parts + 1 → HasExtracted old parts j place out → place < length out
body_inside old parts j place out j_is whole is = omega (arith, is.long, whole, is.place_is, ap (λ k. k * degree_of parts) j_is)

-- a part has coefficients
pub some_words : (parts : List (List ℕ)) (k : ℕ) (part : List ℕ) → HasShape parts → k < length parts → part ≡ get_or parts k part → 0 < length part
some_words parts k part shape inside part_is =
    let long : length part ≡ degree_of parts = ap length (part_is ∙ get_or_default parts k part [] inside) ∙ shape.lengths k [] inside in
    omega (arith, long, shape.least)

pub HasExtracted_all : (old : List ℕ) (parts : List (List ℕ)) (k place body : ℕ) (out out' part : List ℕ) → HasShape parts → k ≡ length parts - 1 → length old ≡ (length parts - 1) * degree_of parts + 1 → HasExtracted old parts k place out → part ≡ get_or parts k part → body ≡ get_or part 0 0 → out' ≡ set out place body → out' ≡ extracted parts
unfolding extracted
HasExtracted_all old parts k place body out out' part shape k_is long is part_is body_is out_is =
    let d : ℕ = degree_of parts in
    let inside : k < length parts = omega (arith, k_is, shape.some) in
    let front : List ℕ = concat (map extracted_mask (take k parts)) in
    let front_long : length front ≡ k * d = length-first d parts k (recursion_from_All (λ part. length part ≡ d) parts shape.lengths) (omega (arith, inside)) in
    let whole : length old ≡ k * d + 1 = long ∙ ap (λ n. n * d + 1) (sym k_is) in
    let last : drop (k * d) old ≡ get_or old (k * d) 0 ∷ [] =
    drop_more old (k * d) 0 (omega (arith, whole)) ∙ ap (λ xs. get_or old (k * d) 0 ∷ xs) (drop_all (k * d + 1) old (omega (arith, whole))) in
    let word : body ≡ get_or (get_or parts k []) 0 0 = body_is ∙ ap (λ p. get_or p 0 0) (part_is ∙ get_or_default parts k part [] inside) in
    out_is ∙ ap (λ i. set out i body) (is.place_is ∙ sym front_long)
    ∙ ap (λ xs. set xs (length front) body) (is.words ∙ ap (λ b. front ++ b) last)
    ∙ set-append_seam front (get_or old (k * d) 0) [] body
    ∙ ap (λ b. front ++ b ∷ []) word
    ∙ ap (λ n. concat (map extracted_mask (take n parts)) ++ get_or (get_or parts n []) 0 0 ∷ []) k_is
