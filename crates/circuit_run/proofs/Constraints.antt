-- The constraints at bootstraps and at outs, where all are met.
use Rattle.std.proofs.Common.{◌≡◌, ℕ, zero, suc, ◌+◌, ◌-◌, ◌*◌, ◌^◌, ◌<◌, ◌≤◌, List, [], ◌∷◌, ◌++◌, length, map, All, refl, sym, ap, ◌∙◌, subst, inl, inr, arith, Some, None, Option, Bool, true, false}
use lib.IntN.{ℤ}
use Rattle.std.specs.Prelude.{MatchOption, filter_map}
use Rattle.std.specs.List.{slice_get, enumerate_from, cons_option, AllByRecursion}
use Rattle.std.proofs.Math.Pow.{pow_mono}
use Rattle.std.proofs.lemmas.Bool.{cases_lt}
use Rattle.std.proofs.lemmas.Nat.{pow_pos, pow_below}
use Rattle.std.proofs.lemmas.List.Elements.{recursion_from_All}
use Rattle.std.proofs.lemmas.Option.{none-some, same_Some}
use Rattle.fhe_params.specs.declared.params.Params.{Params}
use Rattle.tfhe_level.specs.declared.level.TfheOp.{TfheOp}
use Rattle.tfhe_level.specs.declared.level.TfheOp.TheVariants.{Boot, Out}
use Rattle.tfhe_level.specs.declared.shape.Shape.{Shape}
use Rattle.tfhe_level.specs.Nodes.{nodes_of}
use Rattle.noise_model.specs.Bounds.{noise_bound}
use Rattle.noise_model.specs.Constraints.{Comparison, IsMet, boot_source, out_source, boot_constraint, out_constraint, size_constraint, noise_constraints, MeetsAll}
use Rattle.noise_laws.specs.Laws.{ConstraintLaws}

all_left : (P : Comparison → Type 0) (xs ys : List Comparison) → AllByRecursion P (xs ++ ys) → AllByRecursion P xs
all_left P [] ys all = tt
all_left P (x ∷ xs) ys all = (all.0, all_left P xs ys all.1)

all_right : (P : Comparison → Type 0) (xs ys : List Comparison) → AllByRecursion P (xs ++ ys) → AllByRecursion P ys
all_right P [] ys all = all
all_right P (x ∷ xs) ys all = all_right P xs ys all.1

-- the constraint on the first operation, where it has one, and those on the others
first_met : (constraint : ℕ × ℕ → Comparison) (k source : ℕ) (o : Option ℕ) (sources : List ℕ) → o ≡ Some source → AllByRecursion IsMet (map constraint (enumerate_from k (cons_option o sources))) → IsMet (constraint (k, source))
first_met constraint k source None sources is all = absurd (none-some source is)
first_met constraint k source (Some s) sources is all = subst (λ n. IsMet (constraint (k, n))) (same_Some s source is) all.0

others_met : (constraint : ℕ × ℕ → Comparison) (k : ℕ) (o : Option ℕ) (sources : List ℕ) → AllByRecursion IsMet (map constraint (enumerate_from k (cons_option o sources))) → (j : ℕ) × AllByRecursion IsMet (map constraint (enumerate_from j sources))
others_met constraint k None sources all = (k, all)
others_met constraint k (Some s) sources all = (k + 1, all.1)

-- the constraint on the operation at a place
met_at : (source_of : TfheOp → Option ℕ) (constraint : ℕ × ℕ → Comparison) (operations : List TfheOp) (k n source : ℕ) (op : TfheOp) → AllByRecursion IsMet (map constraint (enumerate_from k (filter_map source_of operations))) → slice_get operations n ≡ Some op → source_of op ≡ Some source → (count : ℕ) × IsMet (constraint (count, source))
met_at source_of constraint [] k n source op all at is = absurd (none-some op at)
met_at source_of constraint (o ∷ operations) k zero source op all at is =
    (k, first_met constraint k source (source_of o) (filter_map source_of operations) (ap source_of (same_Some o op at) ∙ is) all)
met_at source_of constraint (o ∷ operations) k (suc n) source op all at is =
    let others = others_met constraint k (source_of o) (filter_map source_of operations) all in
    met_at source_of constraint operations others.0 n source op others.1 at is

-- ---- those of circuits

noise_met : (p : Params) (shape : Shape) → MeetsAll p shape → AllByRecursion IsMet (noise_constraints p shape)
noise_met p shape meets =
    all_right IsMet (size_constraint p (nodes_of shape)) (noise_constraints p shape)
    (recursion_from_All IsMet (size_constraint p (nodes_of shape) ++ noise_constraints p shape) meets)

-- there is room for the modulus switch at a bootstrap
pub boot_room : ConstraintLaws → (p : Params) (shape : Shape) (n source : ℕ) (entries : List ℤ) → MeetsAll p shape → slice_get (nodes_of shape) n ≡ Some (Boot source entries) → noise_bound p (nodes_of shape) source + (1 + p.lwe.ones) * 2 ^ (62 - p.glwe.log_n) < 2 ^ (62 - shape.width)
boot_room laws p shape n source entries meets at =
    let boots : List Comparison = map (boot_constraint p shape) (enumerate_from 0 (filter_map boot_source (nodes_of shape))) in
    let outs : List Comparison = map (out_constraint p shape) (enumerate_from 0 (filter_map out_source (nodes_of shape))) in
    let met = met_at boot_source (boot_constraint p shape) (nodes_of shape) 0 n source (Boot source entries) (all_left IsMet boots outs (noise_met p shape meets)) at refl in
    laws.boot_is_read p shape (met.0, source) met.1

-- and an out's bound is less than half a step
pub out_room : ConstraintLaws → (p : Params) (shape : Shape) (n source : ℕ) (lo hi : ℤ) → MeetsAll p shape → slice_get (nodes_of shape) n ≡ Some (Out source lo hi) → noise_bound p (nodes_of shape) source < 2 ^ (62 - shape.width)
out_room laws p shape n source lo hi meets at =
    let boots : List Comparison = map (boot_constraint p shape) (enumerate_from 0 (filter_map boot_source (nodes_of shape))) in
    let outs : List Comparison = map (out_constraint p shape) (enumerate_from 0 (filter_map out_source (nodes_of shape))) in
    let met = met_at out_source (out_constraint p shape) (nodes_of shape) 0 n source (Out source lo hi) (all_right IsMet boots outs (noise_met p shape meets)) at refl in
    laws.out_is_read p shape (met.0, source) met.1

-- a bootstrap's room leaves a box for each value
ones_more : (bound ones places limit : ℕ) → bound + (1 + ones) * places < limit → places < limit
ones_more bound ones places limit below = omega (arith, below)

pub width_below : (bound ones log_n width : ℕ) → bound + (1 + ones) * 2 ^ (62 - log_n) < 2 ^ (62 - width) → width < log_n
width_below bound ones log_n width room =
    elim (cases_lt width log_n) [
      | inl below ↦ below
      | inr past ↦
          let more : 2 ^ (62 - width) ≤ 2 ^ (62 - log_n) = pow_mono {i = 62 - width} {j = 62 - log_n} (omega (arith, past)) in
          let less : 2 ^ (62 - log_n) < 2 ^ (62 - width) = ones_more bound ones (2 ^ (62 - log_n)) (2 ^ (62 - width)) room in
          absurd (omega (arith, more, less))
    ]
