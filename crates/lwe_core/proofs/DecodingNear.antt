-- Decoding undoes a small error.
use Rattle.std.proofs.Common.{◌≡◌, ℕ, ◌+◌, ◌-◌, ◌*◌, ◌/◌, ◌%◌, ◌^◌, ◌<◌, ◌≤◌, ℤ, pos, ◌+ℤ◌, ◌-ℤ◌, ◌*ℤ◌, ◌≤ℤ◌, arith, ap, sym, subst, ◌∙◌, refl}
use lib.IntN.{negsuc}
use Rattle.std.specs.Int.RustNames.{unsigned_abs}
use Rattle.std.proofs.Math.Nat.{add-mul}
use Rattle.std.proofs.lemmas.Int.{ints}
use Rattle.std.proofs.lemmas.Nat.{div-mul-add, pow-add}
use Rattle.word_ring.specs.Words.{size, SizeLaws}
use Rattle.word_ring.specs.Signed.{word_of, SignedLaws}
use Rattle.lwe_core.specs.Phase.{phase_of}
use Rattle.lwe_core.specs.Decoding.{decoded}
use Rattle.lwe_core.proofs.DecodingParts.{offset_below}
use Rattle.lwe_core.specs.Encrypts.{centred_error}
use Rattle.lwe_core.specs.Laws.{IsInRoom, DecodingLaws}

-- the word of a number and a natural one
word_of-plus : SignedLaws → (z : ℤ) (b : ℕ) → word_of (z +ℤ pos b) ≡ (word_of z + b) % 2 ^ 64
word_of-plus signed z b = signed.sum_word z (pos b) ∙ omega (arith, signed.natural_word b)

-- a number that is not negative is its absolute value
not_negative : (z : ℤ) → pos 0 ≤ℤ z → z ≡ pos (unsigned_abs z)
not_negative (pos n) h = refl
not_negative (negsuc n) h = absurd (omega (arith, ints, h))

-- a multiple of a number and a gap
times_gap : (lo value : ℤ) (n s : ℕ) → value ≡ lo +ℤ pos n → value *ℤ pos s ≡ lo *ℤ pos s +ℤ pos (n * s)
times_gap (pos a) (pos b) n s h =
    let e : b ≡ a + n = omega (arith, ints, h) in
    let p : b * s ≡ a * s + n * s = ap (λ k. k * s) e ∙ add-mul a n s in
    omega (arith, ints, p)
times_gap (pos a) (negsuc b) n s h = absurd (omega (arith, ints, h))
times_gap (negsuc a) (pos b) n s h =
    let e : n ≡ b + (a + 1) = omega (arith, ints, h) in
    let p : n * s ≡ b * s + (a + 1) * s = ap (λ k. k * s) e ∙ add-mul b (a + 1) s in
    omega (arith, ints, p)
times_gap (negsuc a) (negsuc b) n s h =
    let e : a + 1 ≡ n + (b + 1) = omega (arith, ints, h) in
    let p : (a + 1) * s ≡ n * s + (b + 1) * s = ap (λ k. k * s) e ∙ add-mul n (b + 1) s in
    omega (arith, ints, p)

-- the distance over the least value is the error and the gap
moved : (phase half gap : ℕ) (least place : ℤ) → place ≡ least +ℤ pos gap → (pos phase -ℤ least) +ℤ pos half ≡ (pos phase -ℤ place) +ℤ pos (gap + half)
moved phase half gap least place e = omega (arith, ints, e)

-- an error of less than half a step, with half a step added, is left over by whole steps
left_over : (e h : ℕ) → h ≤ 2 ^ 62 → size e < h → (e + h) % 2 ^ 64 < 2 * h
left_over e h small near = omega arith

no_wrap : (e h gap : ℕ) → h ≤ 2 ^ 62 → size e < h → gap + 2 * h ≤ 2 ^ 64 → (e + (gap + h)) % 2 ^ 64 ≡ gap + (e + h) % 2 ^ 64
no_wrap e h gap small near room = omega arith

-- the gap in steps leaves room for one more
room_for : (n width : ℕ) → width ≤ 62 → n < 2 ^ width → n * 2 ^ (63 - width) + 2 ^ (63 - width) ≤ 2 ^ 63
room_for n width fits below =
    let s : ℕ = 2 ^ (63 - width) in
    let k : ℕ = 2 ^ width - (n + 1) in
    let e : 2 ^ width ≡ n + 1 + k = omega arith in
    let together : 63 ≡ width + (63 - width) = omega arith in
    let whole : 2 ^ 63 ≡ 2 ^ width * s = ap (λ k. 2 ^ k) together ∙ pow-add 2 width (63 - width) in
    let parts : 2 ^ width * s ≡ n * s + 1 * s + k * s = ap (λ j. j * s) e ∙ add-mul (n + 1) k s ∙ ap (λ j. j + k * s) (add-mul n 1 s) in
    omega (arith, whole, parts)

one_more : (j n : ℕ) → n ≡ j + 1 → 2 ^ n ≡ 2 ^ j * 2 ^ 1
one_more j n e = ap (λ k. 2 ^ k) e ∙ pow-add 2 j 1

-- the same in numbers: the offset of a value n over the least
near : SizeLaws → SignedLaws → (phase width n : ℕ) (lo value : ℤ) → width ≤ 62 → value ≡ lo +ℤ pos n → n < 2 ^ width → unsigned_abs (centred_error phase value width) < 2 ^ (62 - width) → decoded phase width lo ≡ n
near sizes signed phase width n lo value fits gap below small =
    let s : ℕ = 2 ^ (63 - width) in
    let h : ℕ = 2 ^ (62 - width) in
    let z : ℤ = pos phase -ℤ value *ℤ pos s in
    let e : ℕ = word_of z in
    let twice : s ≡ 2 * h = omega (arith, one_more (62 - width) (63 - width) (omega arith)) in
    let room : n * s + s ≤ 2 ^ 63 = room_for n width fits below in
    let short : h ≤ 2 ^ 62 = omega (arith, twice, room) in
    let close : size e < h = subst (λ k. k < h) (sizes.size_centred e) small in
    let over : word_of ((pos phase -ℤ lo *ℤ pos s) +ℤ pos h) ≡ (e + (n * s + h)) % 2 ^ 64 =
    ap word_of (moved phase h (n * s) (lo *ℤ pos s) (value *ℤ pos s) (times_gap lo value n s gap)) ∙ word_of-plus signed z (n * s + h) in
    let apart : (e + (n * s + h)) % 2 ^ 64 ≡ n * s + (e + h) % 2 ^ 64 = no_wrap e h (n * s) short close (omega (arith, twice, room)) in
    ap (λ x. x / s) (over ∙ apart) ∙ div-mul-add n s ((e + h) % 2 ^ 64) (omega (arith, twice, left_over e h short close))

near_value : SizeLaws → SignedLaws → (phase width : ℕ) (lo hi value : ℤ) → IsInRoom width lo hi value → unsigned_abs (centred_error phase value width) < 2 ^ (62 - width) → pos (decoded phase width lo) ≡ (value -ℤ lo)
near_value sizes signed phase width lo hi value inside small =
    let n : ℕ = unsigned_abs (value -ℤ lo) in
    let is : value -ℤ lo ≡ pos n = not_negative (value -ℤ lo) (omega (arith, ints, inside.least)) in
    let gap : value ≡ lo +ℤ pos n = omega (arith, ints, is) in
    let below : n < 2 ^ width = omega (arith, ints, is, inside.most, inside.room) in
    ap pos (near sizes signed phase width n lo value inside.width_high gap below small) ∙ sym is

pub laws : SizeLaws → SignedLaws → DecodingLaws
laws sizes signed = record {
  decoded_near = near_value sizes signed;
  decoded_below = λ phase width lo fits. offset_below _ width (signed.number_word ((pos phase -ℤ lo *ℤ pos (2 ^ (63 - width))) +ℤ pos (2 ^ (62 - width)))) fits;
  decoded_encrypted = λ bits words width bound lo hi value inside stands small.
      near_value sizes signed (phase_of bits words) width lo hi value inside (omega (arith, stands.near, small));
}
