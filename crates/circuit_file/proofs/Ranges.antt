-- The ranges of the nodes of a circuit: none is empty, and the width holds those of key switches.
use Rattle.std.proofs.Common.{◌≡◌, ℕ, zero, suc, ◌+◌, ◌<◌, ◌≤◌, Bool, true, false, cond, List, [], ◌∷◌, ◌++◌, length, map, filter, get_or, All, ℤ, pos, ◌≤ℤ◌, Option, ap, sym, refl, ◌∙◌, subst, arith, length-append}
use Rattle.std.specs.Prelude.{Some, None, IsTrue, IsSomeAnd, slice_get, filter_map}
use Rattle.std.specs.List.{AllByRecursion, zip}
use Rattle.std.proofs.lemmas.Int.{ints}
use Rattle.std.proofs.Math.ListN.{get_or-append}
use Rattle.forms.specs.Forms.{range_at, number_at, IsIn, AreIn}
use Rattle.forms.specs.FromEarlier.{from_earlier, from_earlier-append, from_earlier_keeps, length-from_earlier}
use Rattle.forms.specs.Laws.{FormLaws}
use Rattle.tfhe_level.specs.declared.level.TfheOp.{TfheOp}
use Rattle.tfhe_level.specs.declared.level.TfheOp.TheVariants.{Input, Lin, Switch, Boot, Out}
use Rattle.tfhe_level.specs.Nodes.{node_values, node_ranges, range_of}
use Rattle.tfhe_level.specs.Rules.{Stands, range_on, KeepRules, is_message, message_ranges}
use Rattle.tfhe_level.specs.Laws.{NodeLaws, input_range, input_ranges}

-- ---- places

pub stands_below : (kind : TfheOp → Bool) (ops : List TfheOp) (place : ℕ) → Stands kind ops place → place < length ops
stands_below kind [] place is = absurd is
stands_below kind (op ∷ ops) zero is = omega arith
stands_below kind (op ∷ ops) (suc place) is = omega (arith, stands_below kind ops place is)

pub stands_with_more : (kind : TfheOp → Bool) (ops others : List TfheOp) (place : ℕ) → Stands kind ops place → Stands kind (ops ++ others) place
stands_with_more kind [] others place is = absurd is
stands_with_more kind (op ∷ ops) others zero is = is
stands_with_more kind (op ∷ ops) others (suc place) is = stands_with_more kind ops others place is

-- operations in front have the ranges that they have alone
pub range_in_front : (ops others : List TfheOp) (place : ℕ) → place < length ops → range_on (ops ++ others) place ≡ range_on ops place
range_in_front ops others place lt =
    let keeps = from_earlier_keeps range_of (node_ranges ops) others in
    let many = length-from_earlier range_of [] ops in
    ap (λ rs. range_at rs place) (from_earlier-append range_of [] ops others ∙ keeps.1) ∙ get_or-append (node_ranges ops) keeps.0 (pos 0, pos 0) place (omega (arith, lt, many))

-- ---- no range is empty

abbrev Rises : ℤ × ℤ → Type 0
Rises r = r.0 ≤ℤ r.1

inputs_rise : (all earlier ops : List TfheOp) → KeepRules all earlier ops → AllByRecursion Rises (input_ranges ops)
inputs_rise all earlier [] keep = tt
inputs_rise all earlier (Input lo hi ∷ ops) keep = (keep.0.range.rising, inputs_rise all (earlier ++ Input lo hi ∷ []) ops keep.1)
inputs_rise all earlier (Lin constant terms ∷ ops) keep = inputs_rise all (earlier ++ Lin constant terms ∷ []) ops keep.1
inputs_rise all earlier (Switch source ∷ ops) keep = inputs_rise all (earlier ++ Switch source ∷ []) ops keep.1
inputs_rise all earlier (Boot source entries ∷ ops) keep = inputs_rise all (earlier ++ Boot source entries ∷ []) ops keep.1
inputs_rise all earlier (Out source lo hi ∷ ops) keep = inputs_rise all (earlier ++ Out source lo hi ∷ []) ops keep.1

same_le : (z : ℤ) → z ≤ℤ z
same_le z = omega (arith, ints)

lows_in : (ranges : List (ℤ × ℤ)) → AllByRecursion Rises ranges → AreIn ranges (map (λ r. r.0) ranges)
lows_in [] all = tt
lows_in (r ∷ ranges) all = (record { least = same_le r.0; most = all.0 }, lows_in ranges all.1)

le_through : (a b c : ℤ) → a ≤ℤ b → b ≤ℤ c → a ≤ℤ c
le_through a b c first second = omega (arith, ints, first, second)

pub ranges_rise : FormLaws → NodeLaws → (ops : List TfheOp) → KeepRules ops [] ops → (place : ℕ) → place < length ops → (range_on ops place).0 ≤ℤ (range_on ops place).1
ranges_rise F N ops keep place lt =
    let lows : List ℤ = map (λ r. r.0) (input_ranges ops) in
    let within = N.values_in_ranges ops lows keep (lows_in (input_ranges ops) (inputs_rise ops [] ops keep)) in
    let is = F.leaf (node_ranges ops) (node_values ops lows) place within (omega (arith, lt, N.ranges ops)) in
    le_through (range_on ops place).0 (number_at (node_values ops lows) place) (range_on ops place).1 is.least is.most

-- ---- the ranges that the width holds

abbrev ranges_among : List TfheOp → List (ℤ × ℤ) → List (ℤ × ℤ)
ranges_among ops ranges = map (λ node. node.1) (filter (λ node. is_message node.0) (zip ops ranges))

abbrev kept_range : Bool → TfheOp → ℤ × ℤ → List (TfheOp × (ℤ × ℤ)) → List (ℤ × ℤ)
kept_range test op range others = map (λ node. node.1) (cond test ((op, range) ∷ others) others)

others_held : (P : ℤ × ℤ → Type 0) (test : Bool) (op : TfheOp) (range : ℤ × ℤ) (others : List (TfheOp × (ℤ × ℤ))) → AllByRecursion P (kept_range test op range others) → AllByRecursion P (map (λ node. node.1) others)
others_held P true op range others all = all.1
others_held P false op range others all = all

first_held : (P : ℤ × ℤ → Type 0) (test : Bool) (op : TfheOp) (range : ℤ × ℤ) (others : List (TfheOp × (ℤ × ℤ))) → test ≡ true → AllByRecursion P (kept_range test op range others) → P range
first_held P true op range others is all = all.0
first_held P false op range others is all = absurd (let e = is in cc)

pub message_held : (P : ℤ × ℤ → Type 0) (ops : List TfheOp) (ranges : List (ℤ × ℤ)) (place : ℕ) → length ranges ≡ length ops → Stands is_message ops place → AllByRecursion P (ranges_among ops ranges) → P (range_at ranges place)
message_held P [] ranges place many is all = absurd is
message_held P (op ∷ ops) [] place many is all = absurd (omega (arith, many))
message_held P (op ∷ ops) (range ∷ ranges) zero many is all = first_held P (is_message op) op range (filter (λ node. is_message node.0) (zip ops ranges)) is all
message_held P (op ∷ ops) (range ∷ ranges) (suc place) many is all = message_held P ops ranges place (omega (arith, many)) is (others_held P (is_message op) op range (filter (λ node. is_message node.0) (zip ops ranges)) all)
