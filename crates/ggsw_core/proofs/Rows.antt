-- The shapes of the rows of a GGSW ciphertext.
use Rattle.std.proofs.Common.{◌≡◌, ◌≢◌, ⊎_elim, ℕ, zero, suc, ◌+◌, ◌-◌, ◌*◌, ◌<◌, ◌≤◌, List, [], ◌∷◌, length, get_or, set, replicate, arith, ap, sym, refl, ◌∙◌, subst, get_or-set_same, get_or-set_other}
use Rattle.std.proofs.Math.Nat.{mul-le-mul_right}
use Rattle.std.proofs.Math.ListN.{length-set}
use Rattle.std.specs.List.{All}
use Rattle.std.proofs.lemmas.List.{ext_get_or, length-replicate, get_or-replicate, length-map, get_or-map, map-set, set-get_or}
use Rattle.std.proofs.lemmas.List.Elements.{All-set, All-replicate}
use Rattle.std.proofs.lemmas.Bool.{cases_eq}
use Rattle.std.proofs.lemmas.Nat.{same_from_place}
use Rattle.gadget_decomp.specs.Decomposition.{IsGadget}
use Rattle.glwe_core.specs.Glwe.{lengths_of, degree_of, HasShape}
use Rattle.ggsw_core.specs.Ggsw.{GgswRows, IsGgsw, row_lengths, row_place, row_of, zero_ggsw, HasRow, ExchangeLaws}
use Rattle.ggsw_core.proofs.Additions.{OfShape, of_lengths, own_shape}

-- a place of a part stands before the last row
pub place_inside : (j t level parts : ℕ) → j < parts → 1 ≤ t → t ≤ level → j * level + (t - 1) < parts * level
place_inside j t level parts inside from upto =
    let room : (j + 1) * level ≤ parts * level = mul-le-mul_right level (omega arith) in
    let split : (j + 1) * level ≡ j * level + level = omega arith in
    omega arith

-- a row has the shape of the ciphertexts that all rows have the shape of
pub row_shape : (g : GgswRows) (c : List (List ℕ)) (j t : ℕ) → IsGgsw g → row_lengths g ≡ lengths_of c → j < length c → 1 ≤ t → t ≤ g.level → lengths_of (row_of g j t) ≡ lengths_of c
row_shape g c j t is same inside from upto =
    let parts : length (row_lengths g) ≡ length c = ap length same ∙ length-map c length in
    let below : j * g.level + (t - 1) < length (row_lengths g) * g.level = place_inside j t g.level (length (row_lengths g)) (omega arith) from upto in
    is.shapes (row_place g j t) [] (omega (arith, is.number)) ∙ same

-- the shape hangs on the lengths alone
pub shape_by_lengths : (xs ys : List (List ℕ)) → lengths_of ys ≡ lengths_of xs → HasShape xs → HasShape ys
shape_by_lengths xs ys e shape =
    let moved : OfShape (length xs) (degree_of xs) ys = of_lengths (length xs) (degree_of xs) xs ys e (own_shape xs shape) in
    let degree : degree_of ys ≡ degree_of xs = moved.lengths 0 [] (omega (arith, moved.number, shape.some)) in
    record {
      some = omega (arith, moved.number, shape.some);
      few = omega (arith, moved.number, shape.few);
      least = omega (arith, degree, shape.least);
      most = omega (arith, degree, shape.most);
      lengths = subst (λ n. All (λ row. length row ≡ n) ys) (sym degree) moved.lengths;
    }

-- the first row of one with a row of the same shape in a place
first_lengths : (g : GgswRows) (place : ℕ) (row : List (List ℕ)) → place < length g.rows → lengths_of row ≡ row_lengths g → lengths_of (get_or (set g.rows place row) 0 []) ≡ row_lengths g
first_lengths g place row inside same =
    ⊎_elim
    (λ (e : 0 ≡ place). ap (λ p. lengths_of (get_or (set g.rows p row) 0 [])) (sym e) ∙ ap lengths_of (get_or-set_same g.rows 0 row [] (omega arith)) ∙ same)
    (λ (d : 0 ≢ place). ap lengths_of (get_or-set_other g.rows place 0 row [] d))
    (cases_eq 0 place)

-- with another row of the same shape it stays one
pub row_exchanged : (g : GgswRows) (place : ℕ) (row : List (List ℕ)) → IsGgsw g → place < length g.rows → lengths_of row ≡ row_lengths g → IsGgsw (record g { rows = set g.rows place row })
row_exchanged g place row is inside same =
    let first : lengths_of (get_or (set g.rows place row) 0 []) ≡ row_lengths g = first_lengths g place row inside same in
    record {
      gadget = is.gadget;
      number = length-set g.rows place row ∙ is.number ∙ ap (λ lengths. length lengths * g.level) (sym first);
      shape = shape_by_lengths (get_or g.rows 0 []) (get_or (set g.rows place row) 0 []) first is.shape;
      shapes =
          subst (λ lengths. All (λ row. lengths_of row ≡ lengths) (set g.rows place row)) (sym first)
          (All-set (λ row. lengths_of row ≡ row_lengths g) g.rows place row same is.shapes);
    }

-- parts of zeros
pub zero_lengths : (parts n : ℕ) → lengths_of (replicate parts (replicate {A = ℕ} n 0)) ≡ replicate parts n
zero_lengths parts n =
    let zeros : List (List ℕ) = replicate parts (replicate n 0) in
    let long : length zeros ≡ parts = length-replicate parts (replicate {A = ℕ} n 0) in
    ext_get_or 0 (lengths_of zeros) (replicate parts n) (length-map zeros length ∙ long ∙ sym (length-replicate parts n))
    (λ i h.
    let inside : i < parts = omega (arith, length-map zeros length) in
    get_or-map length zeros i [] 0 (omega arith)
    ∙ ap length (get_or-replicate parts i (replicate {A = ℕ} n 0) [] inside)
    ∙ length-replicate n 0
    ∙ sym (get_or-replicate parts i n 0 inside))

-- one whose rows are 0
pub zero_is_ggsw : (parts n base level : ℕ) → 2 ≤ parts → parts ≤ 4 → 2 ≤ n → n ≤ 8192 → IsGadget base level → IsGgsw (zero_ggsw parts n base level)
zero_is_ggsw parts n base level some few least most gadget =
    let row : List (List ℕ) = replicate parts (replicate n 0) in
    let rows : List (List (List ℕ)) = replicate (parts * level) row in
    let rows_long : length rows ≡ parts * level = length-replicate (parts * level) row in
    let once : 1 * level ≤ parts * level = mul-le-mul_right level (omega arith) in
    let first : get_or rows 0 [] ≡ row = get_or-replicate (parts * level) 0 row [] (omega (arith, gadget.some_digits)) in
    let lengths : lengths_of (get_or rows 0 []) ≡ lengths_of row = ap lengths_of first in
    let row_long : length row ≡ parts = length-replicate parts (replicate {A = ℕ} n 0) in
    let row_parts : All (λ part. length part ≡ n) row = All-replicate (λ part. length part ≡ n) parts (replicate n 0) (length-replicate n 0) in
    let degree : degree_of row ≡ n = row_parts 0 [] (omega arith) in
    let row_is : HasShape row = record {
      some = omega arith;
      few = omega arith;
      least = omega arith;
      most = omega arith;
      lengths = subst (λ m. All (λ part. length part ≡ m) row) (sym degree) row_parts;
    } in
    record {
      gadget = gadget;
      number = rows_long ∙ ap (λ m. m * level) (sym (ap length lengths ∙ length-map row length ∙ row_long));
      shape = subst HasShape (sym first) row_is;
      shapes = All-replicate (λ row. lengths_of row ≡ lengths_of (get_or rows 0 [])) (parts * level) row (sym lengths);
    }

lengths_at : (c : List (List ℕ)) (at : ℕ) → get_or (lengths_of c) at 0 ≡ length (get_or c at [])
lengths_at [] at = refl
lengths_at (x ∷ xs) zero = refl
lengths_at (x ∷ xs) (suc at) = lengths_at xs at

-- setting a coefficient keeps the lengths
pub set_lengths : (c : List (List ℕ)) (at place word : ℕ) → lengths_of (set c at (set (get_or c at []) place word)) ≡ lengths_of c
set_lengths c at place word =
    map-set length c at (set (get_or c at []) place word)
    ∙ ap (set (lengths_of c) at) (length-set (get_or c at []) place word ∙ sym (lengths_at c at))
    ∙ set-get_or (lengths_of c) at 0

-- no two rows stand at one place
places_differ : (level j t i u : ℕ) → 1 ≤ t → t ≤ level → 1 ≤ u → u ≤ level → (j ≡ i → t ≡ u → ⊥) → i * level + (u - 1) ≢ j * level + (t - 1)
places_differ level j t i u first last first' last' apart = λ same.
    let both = same_from_place i (u - 1) j (t - 1) level (omega arith) (omega arith) same in
    let part : j ≡ i = omega arith in
    let place : t ≡ u = omega arith in
    apart part place

has_inside : (g : GgswRows) (j t : ℕ) → IsGgsw g → HasRow g j t → row_place g j t < length g.rows
has_inside g j t is has = omega (arith, is.number, place_inside j t g.level (length (row_lengths g)) has.part has.first has.last)

pub exchanges : ExchangeLaws
exchanges = record {
  lengths_stay = λ g j t row is has same. first_lengths g (row_place g j t) row (has_inside g j t is has) same;
  stays_ggsw = λ g j t row is has same. row_exchanged g (row_place g j t) row is (has_inside g j t is has) same;
  row_set = λ g j t row is has. get_or-set_same g.rows (row_place g j t) row [] (has_inside g j t is has);
  others_stay = λ g j t i u row has other apart. get_or-set_other g.rows (row_place g j t) (row_place g i u) row [] (places_differ g.level j t i u has.first has.last other.first other.last apart);
}
