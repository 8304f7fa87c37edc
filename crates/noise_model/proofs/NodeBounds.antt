-- the capped bounds of the operations before one give its own
use Rattle.std.proofs.Common.{◌≡◌, ℕ, zero, suc, ◌+◌, ◌*◌, ◌<◌, ℤ, List, [], ◌∷◌, ◌++◌, length, map, take, set, get_or, All, sym, refl, ap, ◌∙◌, arith, Some}
use Rattle.std.specs.Prelude.{unsigned_abs}
use Rattle.std.specs.List.{sum_by, slice_get}
use Rattle.std.proofs.lemmas.List.{get_or-take, get_or-map, take_more, take_more_set, map_push, length-map}
use Rattle.std.proofs.lemmas.List.Elements.{All-head, All-tail}
use Rattle.std.proofs.lemmas.List.Sums.{sum_by-cons, sum_by_more}
use Rattle.std.proofs.lemmas.Option.{slice_get_within, get_or_from_slice_get}
use Rattle.fhe_params.specs.declared.params.Params.{Params}
use Rattle.tfhe_level.specs.declared.level.TfheOp.{TfheOp}
use Rattle.tfhe_level.specs.declared.level.TfheOp.TheVariants.{Input, Lin, Switch, Boot, Out}
use Rattle.tfhe_level.specs.Operations.{operands_of}
use Rattle.forms.specs.FromEarlier.{from_earlier_push, length-from_earlier}
use Rattle.noise_model.specs.Bounds.{switch_noise, bound_of, noise_bounds, capped}
use Rattle.noise_model.proofs.CappedSums.{capped-add, capped-add_left, capped-mul}

-- reading a list of bounds that are capped, also past its end
pub read-capped : (bounds : List ℕ) (i : ℕ) → get_or (map capped bounds) i 0 ≡ capped (get_or bounds i 0)
read-capped [] i = refl
read-capped (bound ∷ bounds) zero = refl
read-capped (bound ∷ bounds) (suc i) = read-capped bounds i

-- below a place the room has the capped bounds
HasCapped : List ℕ → List ℕ → ℕ → Type 0
HasCapped room bounds n = (i : ℕ) → i < n → get_or room i 0 ≡ capped (get_or bounds i 0)

product_capped : (weight : ℤ) (read bound : ℕ) → read ≡ capped bound → capped (unsigned_abs weight * read) ≡ capped (unsigned_abs weight * bound)
product_capped weight read bound is = ap (λ b. capped (unsigned_abs weight * b)) is ∙ capped-mul (unsigned_abs weight) bound

sum_capped : (a b x y : ℕ) → capped a ≡ capped x → capped b ≡ capped y → capped (a + b) ≡ capped (x + y)
sum_capped a b x y p q = sym (capped-add a b) ∙ ap (λ n. capped (n + capped b)) p ∙ ap (λ n. capped (capped x + n)) q ∙ capped-add x y

terms_capped : (room bounds : List ℕ) (n : ℕ) (terms : List (ℕ × ℤ)) → ((i : ℕ) → i < n → get_or room i 0 ≡ capped (get_or bounds i 0)) → All (λ operand. operand < n) (map (λ t. t.0) terms) → capped (sum_by (λ t. unsigned_abs t.1 * get_or room t.0 0) terms) ≡ capped (sum_by (λ t. unsigned_abs t.1 * get_or bounds t.0 0) terms)
terms_capped room bounds n [] has earlier = refl
terms_capped room bounds n (t ∷ terms) has earlier =
    let of_room : ℕ × ℤ → ℕ = λ u. unsigned_abs u.1 * get_or room u.0 0 in
    let of_bounds : ℕ × ℤ → ℕ = λ u. unsigned_abs u.1 * get_or bounds u.0 0 in
    let first = product_capped t.1 (get_or room t.0 0) (get_or bounds t.0 0) (has t.0 (All-head (λ operand. operand < n) t.0 (map (λ u. u.0) terms) earlier)) in
    let others = terms_capped room bounds n terms has (All-tail (λ operand. operand < n) t.0 (map (λ u. u.0) terms) earlier) in
    ap capped (sum_by-cons of_room t terms) ∙ sum_capped (of_room t) (sum_by of_room terms) (of_bounds t) (sum_by of_bounds terms) first others ∙ sym (ap capped (sum_by-cons of_bounds t terms))

pub bound_of_capped : (p : Params) (room bounds : List ℕ) (n : ℕ) (op : TfheOp) → ((i : ℕ) → i < n → get_or room i 0 ≡ capped (get_or bounds i 0)) → All (λ operand. operand < n) (operands_of op) → capped (bound_of p room op) ≡ capped (bound_of p bounds op)
bound_of_capped p room bounds n (Input lo hi) has earlier = refl
bound_of_capped p room bounds n (Lin constant terms) has earlier = terms_capped room bounds n terms has earlier
bound_of_capped p room bounds n (Switch source) has earlier =
    ap (λ b. capped (b + switch_noise p)) (has source (All-head (λ operand. operand < n) source [] earlier)) ∙ capped-add_left (get_or bounds source 0) (switch_noise p)
bound_of_capped p room bounds n (Boot source entries) has earlier = refl
bound_of_capped p room bounds n (Out source lo hi) has earlier =
    ap capped (has source (All-head (λ operand. operand < n) source [] earlier)) ∙ (let b = get_or bounds source 0 in omega arith)

-- one bound more
pub bounds_more : (p : Params) (nodes : List TfheOp) (room : List ℕ) (n : ℕ) (op : TfheOp) (bound : ℕ) → n < length room → take n room ≡ map capped (noise_bounds p (take n nodes)) → slice_get nodes n ≡ Some op → All (λ operand. operand < n) (operands_of op) → bound ≡ capped (bound_of p room op) → take (n + 1) (set room n bound) ≡ map capped (noise_bounds p (take (n + 1) nodes))
bounds_more p nodes room n op bound within so_far at earlier is =
    let before : List ℕ = noise_bounds p (take n nodes) in
    let has : (i : ℕ) → i < n → get_or room i 0 ≡ capped (get_or before i 0) = λ i lt. sym (get_or-take n room i 0 lt) ∙ ap (λ xs. get_or xs i 0) so_far ∙ read-capped before i in
    let nodes_more : take (n + 1) nodes ≡ take n nodes ++ op ∷ [] = take_more nodes n op (slice_get_within nodes n op at) ∙ ap (λ o. take n nodes ++ o ∷ []) (get_or_from_slice_get nodes n op op at) in
    take_more_set room n bound within
    ∙ ap (λ xs. xs ++ bound ∷ []) so_far
    ∙ ap (λ b. map capped before ++ b ∷ []) (is ∙ bound_of_capped p room before n op has earlier)
    ∙ sym (ap (λ xs. map capped (noise_bounds p xs)) nodes_more ∙ ap (map capped) (from_earlier_push (bound_of p) [] (take n nodes) op) ∙ map_push capped before (bound_of p before op))

-- the operand of a term is there
pub operand_there : (terms : List (ℕ × ℤ)) (n i : ℕ) (d : ℕ × ℤ) → All (λ operand. operand < n) (map (λ t. t.0) terms) → i < length terms → (get_or terms i d).0 < n
operand_there terms n i d earlier within =
    let operand_of : ℕ × ℤ → ℕ = λ t. t.0 in
    let same : get_or (map operand_of terms) i 0 ≡ (get_or terms i d).0 = get_or-map operand_of terms i d 0 within in
    let below : get_or (map operand_of terms) i 0 < n = earlier i 0 (omega (arith, length-map terms operand_of)) in
    omega arith

-- one term more
pub total_more : (bounds : List ℕ) (terms : List (ℕ × ℤ)) (i total product : ℕ) (d : ℕ × ℤ) → i < length terms → total ≡ capped (sum_by (λ t. unsigned_abs t.1 * get_or bounds t.0 0) (take i terms)) → product ≡ capped (unsigned_abs (get_or terms i d).1 * get_or bounds (get_or terms i d).0 0) → capped (total + product) ≡ capped (sum_by (λ t. unsigned_abs t.1 * get_or bounds t.0 0) (take (i + 1) terms))
total_more bounds terms i total product d within so_far is =
    let of_term : ℕ × ℤ → ℕ = λ t. unsigned_abs t.1 * get_or bounds t.0 0 in
    ap (λ n. capped (n + product)) so_far ∙ ap (λ n. capped (capped (sum_by of_term (take i terms)) + n)) is ∙ capped-add (sum_by of_term (take i terms)) (of_term (get_or terms i d)) ∙ sym (ap capped (sum_by_more of_term terms i d within))

-- how many bounds there are
pub length-bounds : (p : Params) (nodes : List TfheOp) → length (map capped (noise_bounds p nodes)) ≡ length nodes
length-bounds p nodes = omega (arith, length-map (noise_bounds p nodes) capped, length-from_earlier (bound_of p) [] nodes)
