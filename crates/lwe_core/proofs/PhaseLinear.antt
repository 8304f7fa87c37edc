-- The phase is linear.
use Rattle.std.proofs.Common.{◌≡◌, ℕ, ◌+◌, ◌*◌, ◌%◌, ◌^◌, ◌<◌, Bool, true, false, cond, List, [], ◌∷◌, length, get_or, arith, ap, sym, ◌∙◌, refl}
use Rattle.std.specs.List.{zip}
use Rattle.std.proofs.Math.Nat.{mul-add}
use Rattle.std.proofs.lemmas.Nat.{mul-mod_second}
use Rattle.std.proofs.lemmas.List.{get_or-map}
use Rattle.std.proofs.lemmas.List.Sums.{sum_by-cons}
use Rattle.word_ring.specs.Words.{word_sum, word_difference, word_product}
use Rattle.word_ring.specs.Rows.{row_sum, row_difference, scaled_row, sum_with_scaled, RowLaws}
use Rattle.lwe_core.specs.Phase.{FitsKey, masked_sum, phase_of}

-- the first word of the mask, and the rest
pub masked-cons : (b : Bool) (bits : List Bool) (x : ℕ) (xs : List ℕ) → masked_sum (b ∷ bits) (x ∷ xs) ≡ cond b x 0 + masked_sum bits xs
masked-cons b bits x xs = sum_by-cons (λ p. cond p.0 p.1 0) (b, x) (zip bits xs)

masked-sum : (bits : List Bool) (xs ys : List ℕ) → length xs ≡ length ys → masked_sum bits (row_sum xs ys) % 2 ^ 64 ≡ (masked_sum bits xs + masked_sum bits ys) % 2 ^ 64
masked-sum [] xs ys e = refl
masked-sum (b ∷ bs) [] [] e = refl
masked-sum (b ∷ bs) [] (y ∷ ys) e = absurd (omega arith)
masked-sum (b ∷ bs) (x ∷ xs) [] e = absurd (omega arith)
masked-sum (true ∷ bs) (x ∷ xs) (y ∷ ys) e =
    let rest = masked-sum bs xs ys (omega arith) in
    omega (arith, masked-cons true bs (word_sum x y) (row_sum xs ys), masked-cons true bs x xs, masked-cons true bs y ys, rest)
masked-sum (false ∷ bs) (x ∷ xs) (y ∷ ys) e =
    let rest = masked-sum bs xs ys (omega arith) in
    omega (arith, masked-cons false bs (word_sum x y) (row_sum xs ys), masked-cons false bs x xs, masked-cons false bs y ys, rest)

masked-difference : (bits : List Bool) (xs ys : List ℕ) → length xs ≡ length ys → (masked_sum bits (row_difference xs ys) + masked_sum bits ys) % 2 ^ 64 ≡ masked_sum bits xs % 2 ^ 64
masked-difference [] xs ys e = refl
masked-difference (b ∷ bs) [] [] e = refl
masked-difference (b ∷ bs) [] (y ∷ ys) e = absurd (omega arith)
masked-difference (b ∷ bs) (x ∷ xs) [] e = absurd (omega arith)
masked-difference (true ∷ bs) (x ∷ xs) (y ∷ ys) e =
    let rest = masked-difference bs xs ys (omega arith) in
    omega (arith, masked-cons true bs (word_difference x y) (row_difference xs ys), masked-cons true bs x xs, masked-cons true bs y ys, rest)
masked-difference (false ∷ bs) (x ∷ xs) (y ∷ ys) e =
    let rest = masked-difference bs xs ys (omega arith) in
    omega (arith, masked-cons false bs (word_difference x y) (row_difference xs ys), masked-cons false bs x xs, masked-cons false bs y ys, rest)

masked-multiple : (bits : List Bool) (f : ℕ) (xs : List ℕ) → masked_sum bits (scaled_row f xs) % 2 ^ 64 ≡ (f * masked_sum bits xs) % 2 ^ 64
masked-multiple [] f xs = omega arith
masked-multiple (b ∷ bs) f [] = omega arith
masked-multiple (true ∷ bs) f (x ∷ xs) =
    let rest = masked-multiple bs f xs in
    let parts : f * masked_sum (true ∷ bs) (x ∷ xs) ≡ f * x + f * masked_sum bs xs = ap (λ n. f * n) (masked-cons true bs x xs) ∙ mul-add f x (masked_sum bs xs) in
    omega (arith, masked-cons true bs (word_product f x) (scaled_row f xs), parts, rest)
masked-multiple (false ∷ bs) f (x ∷ xs) =
    let rest = masked-multiple bs f xs in
    let parts : f * masked_sum (false ∷ bs) (x ∷ xs) ≡ f * masked_sum bs xs = ap (λ n. f * n) (masked-cons false bs x xs ∙ omega arith) in
    omega (arith, masked-cons false bs (word_product f x) (scaled_row f xs), parts, rest)

-- a sum with a multiple is the sum with the scaled row, as far as words go
masked-sum_with_multiple : (bits : List Bool) (f : ℕ) (xs ys : List ℕ) → length xs ≡ length ys → masked_sum bits (sum_with_scaled xs f ys) % 2 ^ 64 ≡ (masked_sum bits xs + masked_sum bits (scaled_row f ys)) % 2 ^ 64
masked-sum_with_multiple [] f xs ys e = refl
masked-sum_with_multiple (b ∷ bs) f [] [] e = refl
masked-sum_with_multiple (b ∷ bs) f [] (y ∷ ys) e = absurd (omega arith)
masked-sum_with_multiple (b ∷ bs) f (x ∷ xs) [] e = absurd (omega arith)
masked-sum_with_multiple (true ∷ bs) f (x ∷ xs) (y ∷ ys) e =
    let rest = masked-sum_with_multiple bs f xs ys (omega arith) in
    omega (arith, masked-cons true bs (word_sum x (f * y)) (sum_with_scaled xs f ys), masked-cons true bs x xs, masked-cons true bs (word_product f y) (scaled_row f ys), rest)
masked-sum_with_multiple (false ∷ bs) f (x ∷ xs) (y ∷ ys) e =
    let rest = masked-sum_with_multiple bs f xs ys (omega arith) in
    omega (arith, masked-cons false bs (word_sum x (f * y)) (sum_with_scaled xs f ys), masked-cons false bs x xs, masked-cons false bs (word_product f y) (scaled_row f ys), rest)

-- words that are so related have so related differences
sum_parts : (bx by mx my b m : ℕ) → b ≡ (bx + by) % 2 ^ 64 → m % 2 ^ 64 ≡ (mx + my) % 2 ^ 64 → word_difference b m ≡ word_sum (word_difference bx mx) (word_difference by my)
sum_parts bx by mx my b m body mask = omega arith

difference_parts : (bx by mx my b m : ℕ) → b ≡ word_difference bx by → (m + my) % 2 ^ 64 ≡ mx % 2 ^ 64 → word_difference b m ≡ word_difference (word_difference bx mx) (word_difference by my)
difference_parts bx by mx my b m body mask = omega arith

pub multiple_parts : (f bx mx b m : ℕ) → b % 2 ^ 64 ≡ (f * bx) % 2 ^ 64 → m % 2 ^ 64 ≡ (f * mx) % 2 ^ 64 → word_difference b m ≡ word_product f (word_difference bx mx)
multiple_parts f bx mx b m body mask =
    let d : ℕ = word_difference bx mx in
    let e : (d + mx) % 2 ^ 64 ≡ bx % 2 ^ 64 = omega arith in
    let whole : (f * d + f * mx) % 2 ^ 64 ≡ (f * bx) % 2 ^ 64 =
    ap (λ n. n % 2 ^ 64) (sym (mul-add f d mx)) ∙ sym (mul-mod_second f (d + mx) (2 ^ 64)) ∙ ap (λ n. (f * n) % 2 ^ 64) e ∙ mul-mod_second f bx (2 ^ 64) in
    omega (arith, whole, body, mask)

body_of_multiple : (f : ℕ) (xs : List ℕ) (n : ℕ) → n < length xs → get_or (scaled_row f xs) n 0 ≡ word_product f (get_or xs n 0)
body_of_multiple f xs n inside = get_or-map (word_product f) xs n 0 0 inside

pub phase-sum : RowLaws → (bits : List Bool) (xs ys : List ℕ) → FitsKey bits xs → FitsKey bits ys → phase_of bits (row_sum xs ys) ≡ word_sum (phase_of bits xs) (phase_of bits ys)
phase-sum rows bits xs ys p q =
    let n : ℕ = length bits in
    sum_parts (get_or xs n 0) (get_or ys n 0) (masked_sum bits xs) (masked_sum bits ys) _ _ (rows.zip_word word_sum xs ys n (omega arith) (omega arith)) (masked-sum bits xs ys (p ∙ sym q))

pub phase-difference : RowLaws → (bits : List Bool) (xs ys : List ℕ) → FitsKey bits xs → FitsKey bits ys → phase_of bits (row_difference xs ys) ≡ word_difference (phase_of bits xs) (phase_of bits ys)
phase-difference rows bits xs ys p q =
    let n : ℕ = length bits in
    difference_parts (get_or xs n 0) (get_or ys n 0) (masked_sum bits xs) (masked_sum bits ys) _ _ (rows.zip_word word_difference xs ys n (omega arith) (omega arith)) (masked-difference bits xs ys (p ∙ sym q))

pub phase-multiple : (bits : List Bool) (f : ℕ) (xs : List ℕ) → FitsKey bits xs → phase_of bits (scaled_row f xs) ≡ word_product f (phase_of bits xs)
phase-multiple bits f xs p =
    let n : ℕ = length bits in
    multiple_parts f (get_or xs n 0) (masked_sum bits xs) _ _ (let body = body_of_multiple f xs n (omega arith) in omega (arith, body)) (masked-multiple bits f xs)

pub phase-sum_with_multiple : RowLaws → (bits : List Bool) (f : ℕ) (xs ys : List ℕ) → FitsKey bits xs → FitsKey bits ys → phase_of bits (sum_with_scaled xs f ys) ≡ word_sum (phase_of bits xs) (f * phase_of bits ys)
phase-sum_with_multiple rows bits f xs ys p q =
    let n : ℕ = length bits in
    let scaled : word_difference (f * get_or ys n 0) (masked_sum bits (scaled_row f ys)) ≡ word_product f (phase_of bits ys) = multiple_parts f (get_or ys n 0) (masked_sum bits ys) (f * get_or ys n 0) (masked_sum bits (scaled_row f ys)) refl (masked-multiple bits f ys) in
    sum_parts (get_or xs n 0) (f * get_or ys n 0) (masked_sum bits xs) (masked_sum bits (scaled_row f ys)) _ _ (rows.zip_word (λ x y. word_sum x (f * y)) xs ys n (omega arith) (omega arith)) (masked-sum_with_multiple bits f xs ys (p ∙ sym q))
    ∙ ap (word_sum (phase_of bits xs)) scaled ∙ omega arith
