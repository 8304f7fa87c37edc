-- which constraints are broken, and how a capped bound tells it
use Rattle.std.proofs.Common.{◌≡◌, ℕ, ◌+◌, ◌^◌, ◌<◌, ◌≤◌, Bool, true, false, List, [], ◌∷◌, All, sym, refl, ap, ◌∙◌, inl, inr, arith, Option, Some, None, leb, add-zero, subst, ◌↔◌, ◌++◌}
use Rattle.std.specs.Prelude.{find, IsNone}
use Rattle.std.specs.Option.{option_map, option_or}
use Rattle.std.proofs.lemmas.List.Folds.{find-append}
use Rattle.std.proofs.lemmas.Bool.{ltb-false, leb-false, le-ltb, le-leb, lt-leb, cases_Bool, true≢false}
use Rattle.std.proofs.lemmas.List.Elements.{All-nil, All-cons, All-head, All-tail}
use Rattle.fhe_params.specs.declared.params.Params.{Params}
use Rattle.tfhe_level.specs.declared.shape.Shape.{Shape}
use Rattle.tfhe_level.specs.Nodes.{nodes_of}
use Rattle.noise_model.specs.declared.constraints.Constraint.{Constraint}
use Rattle.noise_model.specs.declared.constraints.Constraint.TheVariants.{Size, Boot as AtBoot, Result as AtResult}
use Rattle.noise_model.specs.declared.constraints.Edge.{Edge}
use Rattle.noise_model.specs.declared.constraints.Edge.TheVariants.{IntoBoot, OutOfCircuit}
use Rattle.noise_model.specs.declared.constraints.Broken.{Broken}
use Rattle.noise_model.specs.Bounds.{noise_bound, capped}
use Rattle.noise_model.specs.Constraints.{Comparison, half_step, IsBelow, IsMet, exceeds, is_broken, as_broken, constraints_of, first_broken_of, MeetsAll}
use Rattle.noise_model.specs.Edges.{added_at, constraint_at, edge_constraint}

-- ---- the test of a constraint

exceeds_not : (on : Constraint) (bound limit : ℕ) → exceeds on bound limit ≡ false → IsBelow on bound limit
exceeds_not Size bound limit is = ltb-false limit bound is
exceeds_not (AtBoot count) bound limit is = leb-false limit bound is
exceeds_not (AtResult count) bound limit is = leb-false limit bound is

exceeds_below : (on : Constraint) (bound limit : ℕ) → IsBelow on bound limit → exceeds on bound limit ≡ false
exceeds_below Size bound limit is = le-ltb limit bound is
exceeds_below (AtBoot count) bound limit is = lt-leb limit bound is
exceeds_below (AtResult count) bound limit is = lt-leb limit bound is

none_of : {A : Type 0} (p : A → Bool) (x : A) (xs : List A) → find p (x ∷ xs) ≡ None → (p x ≡ false) × (find p xs ≡ None)
none_of p x xs none =
    elim (cases_Bool (p x)) [
      | inl is ↦ let found = rw is at none in absurd (cc)
      | inr is ↦ let rest = rw is at none in (is, rest)
    ]

pub none_broken_met : (cs : List Comparison) → find is_broken cs ≡ None → All IsMet cs
none_broken_met [] none = All-nil IsMet
none_broken_met (c ∷ cs) none =
    let parts = none_of is_broken c cs none in
    All-cons IsMet c cs (exceeds_not c.on c.bound c.limit parts.0) (none_broken_met cs parts.1)

pub met_none_broken : (cs : List Comparison) → All IsMet cs → find is_broken cs ≡ None
met_none_broken [] met = refl
met_none_broken (c ∷ cs) met = rw (exceeds_below c.on c.bound c.limit (All-head IsMet c cs met)) (met_none_broken cs (All-tail IsMet c cs met))

-- ---- the constraint on an edge

pub as_broken-edge : (edge : Edge) (p : Params) (shape : Shape) (count source : ℕ) → as_broken (edge_constraint edge p shape (count, source)) ≡ record { at = constraint_at edge count; bound = capped (noise_bound p (nodes_of shape) source + added_at edge p); limit = half_step shape.width }
as_broken-edge IntoBoot p shape count source = refl
as_broken-edge OutOfCircuit p shape count source = ap (λ b. record { at = AtResult count; bound = capped b; limit = half_step shape.width }) (sym (add-zero (noise_bound p (nodes_of shape) source)))

is_broken-edge : (edge : Edge) (p : Params) (shape : Shape) (count source : ℕ) → is_broken (edge_constraint edge p shape (count, source)) ≡ leb (half_step shape.width) (noise_bound p (nodes_of shape) source + added_at edge p)
is_broken-edge IntoBoot p shape count source = refl
is_broken-edge OutOfCircuit p shape count source = ap (leb (half_step shape.width)) (sym (add-zero (noise_bound p (nodes_of shape) source)))

-- no limit is above 2^62, so a capped bound breaks it where the bound does
pub edge_broken : (edge : Edge) (p : Params) (shape : Shape) (count source bound limit : ℕ) → limit ≡ half_step shape.width → limit ≤ 2 ^ 62 → bound ≡ capped (noise_bound p (nodes_of shape) source + added_at edge p) → limit ≤ bound → is_broken (edge_constraint edge p shape (count, source)) ≡ true
edge_broken edge p shape count source bound limit is small capped_is over =
    is_broken-edge edge p shape count source ∙ le-leb (half_step shape.width) (noise_bound p (nodes_of shape) source + added_at edge p) (let total = noise_bound p (nodes_of shape) source + added_at edge p in omega arith)

pub edge_kept : (edge : Edge) (p : Params) (shape : Shape) (count source bound limit : ℕ) → limit ≡ half_step shape.width → limit ≤ 2 ^ 62 → bound ≡ capped (noise_bound p (nodes_of shape) source + added_at edge p) → bound < limit → is_broken (edge_constraint edge p shape (count, source)) ≡ false
edge_kept edge p shape count source bound limit is small capped_is below =
    is_broken-edge edge p shape count source ∙ lt-leb (half_step shape.width) (noise_bound p (nodes_of shape) source + added_at edge p) (let total = noise_bound p (nodes_of shape) source + added_at edge p in omega arith)

-- ---- two lists of constraints

map_or : (first other : Option Comparison) → option_map as_broken (option_or first other) ≡ option_or (option_map as_broken first) (option_map as_broken other)
map_or None other = refl
map_or (Some c) other = refl

both : (first last : List Comparison) → option_map as_broken (find is_broken (first ++ last)) ≡ option_or (option_map as_broken (find is_broken first)) (option_map as_broken (find is_broken last))
both first last = ap (option_map as_broken) (find-append is_broken first last) ∙ map_or (find is_broken first) (find is_broken last)

-- one of the first is broken
pub found_in_first : (first last : List Comparison) (b : Broken) → Some b ≡ option_map as_broken (find is_broken first) → Some b ≡ option_map as_broken (find is_broken (first ++ last))
found_in_first first last b is = ap (λ o. option_or o (option_map as_broken (find is_broken last))) is ∙ sym (both first last)

-- none of the first is
pub found_in_last : (first last : List Comparison) (found : Option Broken) → None ≡ option_map as_broken (find is_broken first) → found ≡ option_map as_broken (find is_broken last) → found ≡ option_map as_broken (find is_broken (first ++ last))
found_in_last first last found none is = is ∙ ap (λ o. option_or o (option_map as_broken (find is_broken last))) none ∙ sym (both first last)

-- ---- no constraint is broken where all are met

is_none_map : (o : Option Comparison) → IsNone (option_map as_broken o) → o ≡ None
is_none_map None is = refl
is_none_map (Some c) is = absurd (true≢false is)

pub none_where_met : (p : Params) (shape : Shape) (found : Option Broken) → found ≡ first_broken_of p shape → IsNone found ↔ MeetsAll p shape
none_where_met p shape found is =
    let cs : List Comparison = constraints_of p shape in (
      λ none. none_broken_met cs (is_none_map (find is_broken cs) (subst IsNone is none)),
      λ met. subst IsNone (sym (is ∙ ap (option_map as_broken) (met_none_broken cs met))) refl,
    )
