-- The mask of a ciphertext is drawn word by word, and its body set behind it.
use Rattle.std.proofs.Common.{◌≡◌, ℕ, ◌+◌, Bool, cond, List, [], ◌∷◌, ◌++◌, length, take, set, refl, sym, ap, subst, arith, ◌∙◌}
use Prim.Native.Nat.{zero, suc}
use Rattle.std.specs.List.{zip}
use Rattle.std.proofs.Math.Seq.{take-append_seam}
use Rattle.std.proofs.lemmas.List.Sums.{sum_by-cons}
use Rattle.std.proofs.lemmas.List.FromFn.{length-map-range_with_len}
use Rattle.seed_stream.specs.Draws.{draw}
use Rattle.word_ring.specs.Words.{word_sum}
use Rattle.lwe_core.specs.Phase.{FitsKey, masked_sum, sealed}
use Rattle.key_gen.specs.Seeds.{draws_at}

-- the mask alone decides the masked sum
masked_by_mask : (bits : List Bool) (xs ys : List ℕ) → take (length bits) xs ≡ take (length bits) ys → masked_sum bits xs ≡ masked_sum bits ys
masked_by_mask [] xs ys same = refl
masked_by_mask (b ∷ bs) [] [] same = refl
masked_by_mask (b ∷ bs) [] (y ∷ ys) same = absurd cc
masked_by_mask (b ∷ bs) (x ∷ xs) [] same = absurd cc
masked_by_mask (b ∷ bs) (x ∷ xs) (y ∷ ys) same =
    let first : x ≡ y = cc in
    let others : take (length bs) xs ≡ take (length bs) ys = cc in
    rw first (sum_by-cons (λ p. cond p.0 p.1 0) (b, y) (zip bs xs) ∙ ap (λ n. cond b y 0 + n) (masked_by_mask bs xs ys others) ∙ sym (sum_by-cons (λ p. cond p.0 p.1 0) (b, y) (zip bs ys)))

-- a body set behind a mask
pub set_behind : {X : Type 0} (n : ℕ) (xs : List X) (w : X) → length xs ≡ n + 1 → set xs n w ≡ take n xs ++ w ∷ []
set_behind zero [] w long = absurd (omega (arith, long))
set_behind zero (x ∷ []) w long = refl
set_behind zero (x ∷ y ∷ xs) w long = absurd (omega (arith, long))
set_behind (suc n) [] w long = absurd (omega (arith, long))
set_behind (suc n) (x ∷ xs) w long = ap (λ ys. x ∷ ys) (set_behind n xs w (omega (arith, long)))

pub sealed_by_mask : (bits : List Bool) (xs ys : List ℕ) (phase : ℕ) → FitsKey bits xs → FitsKey bits ys → take (length bits) xs ≡ take (length bits) ys → sealed bits xs phase ≡ sealed bits ys phase
sealed_by_mask bits xs ys phase long also same =
    rw (masked_by_mask bits xs ys same) (set_behind (length bits) xs (word_sum phase (masked_sum bits ys)) long ∙ ap (λ words. words ++ word_sum phase (masked_sum bits ys) ∷ []) same ∙ sym (set_behind (length bits) ys (word_sum phase (masked_sum bits ys)) also))

-- the mask of what is to be sealed
pub mask_front : (key : List ℕ) (place n : ℕ) → take n (draws_at key place n ++ 0 ∷ []) ≡ draws_at key place n
mask_front key place n = subst (λ (m : ℕ). take m (draws_at key place n ++ 0 ∷ []) ≡ draws_at key place n) (length-map-range_with_len (draw key) place n) (take-append_seam (draws_at key place n) (0 ∷ []))
