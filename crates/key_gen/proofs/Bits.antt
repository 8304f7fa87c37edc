-- The bits of a secret key, set one after another, and how many they are.
use Rattle.std.proofs.Common.{◌≡◌, ◌≢◌, ℕ, ◌+◌, ◌%◌, ◌<◌, ◌≤◌, Bool, true, false, ◌||◌, List, [], ◌∷◌, ◌++◌, length, set, get_or, replicate, map, ◌==◌, ◌⊎◌, inl, inr, ⊎_elim, refl, sym, ap, subst, arith, ◌∙◌}
use Prim.Native.Nat.{zero, suc}
use Rattle.std.specs.List.{range_with_len, list_any}
use Rattle.std.proofs.lemmas.List.{ext_get_or, get_or-set_same, get_or-set_other, length-set, length-replicate, get_or-replicate}
use Rattle.std.proofs.lemmas.List.FromFn.{get_or-map-range_with_len, length-map-range_with_len, map-range_with_len_more}
use Rattle.std.proofs.lemmas.List.Folds.{list_any-append}
use Rattle.std.proofs.lemmas.Bool.{eq-eqb}
use Rattle.std.proofs.lemmas.Bool.Decides.{eqb_tells}
use Rattle.std.proofs.lemmas.Nat.{mod_below}
use Rattle.seed_stream.specs.Draws.{draw}
use Rattle.lwe_core.specs.Secret.{bit_word, ones_of}
use Rattle.lwe_core.specs.Laws.{OnesLaws}
use Rattle.key_gen.specs.Seeds.{draws_at, drawn_bits}

-- a place was drawn
abbrev pub is_drawn : ℕ → List ℕ → ℕ → Bool
is_drawn dim drawn place = list_any (λ d. d % dim == place) drawn

-- the bits that these draws set
abbrev pub bits_of : ℕ → List ℕ → List Bool
bits_of dim drawn = map (is_drawn dim drawn) (range_with_len 0 dim)

or_true : (b : Bool) → (b || true) ≡ true
or_true true = refl
or_true false = refl

or_false : (b : Bool) → (b || false) ≡ b
or_false true = refl
or_false false = refl

-- the bit at a place
bit_at : (dim : ℕ) (drawn : List ℕ) (i : ℕ) → i < dim → get_or (bits_of dim drawn) i false ≡ is_drawn dim drawn i
bit_at dim drawn i inside = get_or-map-range_with_len (is_drawn dim drawn) 0 dim i i false inside (omega arith)

one_more_at : (dim : ℕ) (drawn : List ℕ) (d i : ℕ) → i < dim → ((d % dim ≡ i) ⊎ (d % dim ≢ i)) → get_or (set (bits_of dim drawn) (d % dim) true) i false ≡ is_drawn dim (drawn ++ d ∷ []) i
one_more_at dim drawn d i inside (inl here) =
    let long : length (bits_of dim drawn) ≡ dim = length-map-range_with_len (is_drawn dim drawn) 0 dim in
    let last : list_any (λ x. x % dim == i) (d ∷ []) ≡ true = rw (eq-eqb (d % dim) i here) refl in
    rw here (get_or-set_same (bits_of dim drawn) i true false (omega (arith, long, inside)))
    ∙ sym (list_any-append (λ x. x % dim == i) drawn (d ∷ []) ∙ ap (λ b. is_drawn dim drawn i || b) last ∙ or_true (is_drawn dim drawn i))
one_more_at dim drawn d i inside (inr other) =
    let last : list_any (λ x. x % dim == i) (d ∷ []) ≡ false = ⊎_elim (λ t. absurd (other t.1)) (λ f. rw f.0 refl) (eqb_tells (d % dim) i) in
    get_or-set_other (bits_of dim drawn) (d % dim) i true false (λ e. other (sym e)) ∙ bit_at dim drawn i inside
    ∙ sym (list_any-append (λ x. x % dim == i) drawn (d ∷ []) ∙ ap (λ b. is_drawn dim drawn i || b) last ∙ or_false (is_drawn dim drawn i))

is_or_not : (a b : ℕ) → (a ≡ b) ⊎ (a ≢ b)
is_or_not a b = ⊎_elim (λ t. inl t.1) (λ f. inr f.1) (eqb_tells a b)

-- one draw more sets one bit
pub bits_more : (dim : ℕ) (drawn : List ℕ) (d : ℕ) → set (bits_of dim drawn) (d % dim) true ≡ bits_of dim (drawn ++ d ∷ [])
bits_more dim drawn d =
    let before = length-map-range_with_len (is_drawn dim drawn) 0 dim in
    let after = length-map-range_with_len (is_drawn dim (drawn ++ d ∷ [])) 0 dim in
    let long : length (set (bits_of dim drawn) (d % dim) true) ≡ dim = length-set (bits_of dim drawn) (d % dim) true ∙ before in
    ext_get_or false (set (bits_of dim drawn) (d % dim) true) (bits_of dim (drawn ++ d ∷ [])) (long ∙ sym after)
    (λ i inside. one_more_at dim drawn d i (omega (arith, inside, long)) (is_or_not (d % dim) i) ∙ sym (bit_at dim (drawn ++ d ∷ []) i (omega (arith, inside, long))))

-- before the first draw
pub none_drawn : (dim : ℕ) → replicate dim false ≡ bits_of dim []
none_drawn dim =
    let long = length-map-range_with_len (is_drawn dim []) 0 dim in
    ext_get_or false (replicate dim false) (bits_of dim []) (length-replicate dim false ∙ sym long)
    (λ i inside.
    let below : i < dim = omega (arith, inside, length-replicate dim false) in
    get_or-replicate dim i false false below ∙ sym (bit_at dim [] i below))

-- the draws of a key, one more
pub drawn_more : (key : List ℕ) (dim i d : ℕ) → d ≡ draw key i → set (drawn_bits key dim i) (d % dim) true ≡ drawn_bits key dim (i + 1)
drawn_more key dim i d is = bits_more dim (draws_at key 0 i) d ∙ ap (bits_of dim) (ap (λ x. draws_at key 0 i ++ x ∷ []) is ∙ sym (map-range_with_len_more (draw key) 0 i i (omega arith)))

-- ---- how many ones there are

bit_most : (b : Bool) → bit_word b ≤ 1
bit_most true = omega arith
bit_most false = omega arith

no_ones : (places : List ℕ) → ones_of (map (λ place. false) places) ≤ 0
no_ones [] = omega arith
no_ones (place ∷ places) = no_ones places

pub few_ones : OnesLaws → (key : List ℕ) (dim ones : ℕ) → 1 ≤ dim → ones_of (drawn_bits key dim ones) ≤ ones
few_ones laws key dim zero some = no_ones (range_with_len 0 dim)
few_ones laws key dim (suc ones) some =
    let d = draw key ones in
    let before = drawn_bits key dim ones in
    let long : length before ≡ dim = length-map-range_with_len (is_drawn dim (draws_at key 0 ones)) 0 dim in
    let below : d % dim < dim = mod_below d dim (omega (arith, some)) in
    let set_one = laws.ones_set before (d % dim) true (omega (arith, long, below)) in
    let earlier = few_ones laws key dim ones some in
    let next : ones_of (drawn_bits key dim (ones + 1)) ≤ ones + 1 = subst (λ (bits : List Bool). ones_of bits ≤ ones + 1) (drawn_more key dim ones d refl) (omega (arith, set_one, earlier)) in
    let same : ones + 1 ≡ suc ones = omega arith in
    subst (λ (n : ℕ). ones_of (drawn_bits key dim n) ≤ n) same next
