-- An operation more, which keeps its rule.
use Rattle.std.proofs.Common.{◌≡◌, ℕ, zero, suc, ◌+◌, ◌<◌, ◌≤◌, ◌^◌, T, Bool, true, false, cond, ◌&&◌, eqb, leb, ltb, inl, inr, Option, List, [], ◌∷◌, ◌++◌, length, map, get_or, All, ℤ, pos, negsuc, ◌+ℤ◌, ◌≤ℤ◌, int_le, arith, sym, ap, refl, ◌∙◌, subst, length-append}
use Rattle.std.proofs.lemmas.List.{length-map}
use Rattle.std.specs.Prelude.{slice_get, Some, None, IsTrue, IsSomeAnd, not, unsigned_abs, count_by, fold, int_lt}
use Rattle.std.specs.List.{slice_index_or, list_all, AllByRecursion}
use Rattle.std.specs.Int.{int_min, int_max}
use Rattle.std.specs.Ordering.{int_eq}
use Rattle.std.proofs.lemmas.Bool.{and_parts, leb-true, ltb-true, eqb-true, cases_lt, cases_eq}
use Rattle.std.proofs.lemmas.Int.{ints}
use Rattle.std.proofs.lemmas.List.Elements.{All-push, All-from_recursion}
use Rattle.ir_core.specs.Placed.{IsPlaced}
use Rattle.forms.specs.Forms.{range_at, span_of}
use Rattle.forms.specs.Limits.{least_number, most_number}
use Rattle.forms.specs.Ranges.{range_of_entries}
use Rattle.forms.specs.FromEarlier.{from_earlier, from_earlier_push, length-from_earlier}
use Rattle.range_pass.specs.Bounds.{IsSmallRange, IsWide}
use Rattle.tfhe_level.specs.declared.level.TfheOp.{TfheOp}
use Rattle.tfhe_level.specs.declared.level.TfheOp.TheVariants.{Input, Lin, Switch, Boot, Out}
use Rattle.tfhe_level.specs.declared.shape.Shape.{Shape}
use Rattle.tfhe_level.specs.Operations.{operands_of, is_input, is_lin, is_switch, is_boot, is_out, is_leaf, is_big_node}
use Rattle.tfhe_level.specs.Nodes.{nodes_of, node_ranges, range_of}
use Rattle.tfhe_level.specs.Rules.{Stands, range_on}
use Rattle.circuit_nodes.specs.declared.kinds.Kinds.{Kinds}
use Rattle.circuit_nodes.specs.Tests.{stands, is_number, is_number_range, is_same_range, is_term, are_rising, keeps_input, keeps_lin, keeps_switch, keeps_boot, keeps_out, keeps_alone}
use Rattle.circuit_nodes.specs.Nodes.{kinds_of, AreFew, leaf_range, TellLeaves, AreKept, with_kind}
use Rattle.circuit_nodes.proofs.Counting.{count_push, few_operations}
use Rattle.circuit_nodes.proofs.Ranges.{stands_rule, stands_below, IsLeafTerm, lin_rule}

-- ---- the operands

leaves_below : (ops : List TfheOp) (terms : List (ℕ × ℤ)) → AllByRecursion (IsLeafTerm ops) terms → AllByRecursion (λ o. o < length ops) (map (λ t. t.0) terms)
leaves_below ops [] all = tt
leaves_below ops (t ∷ terms) all = (stands_below is_leaf ops t.0 all.0.leaf, leaves_below ops terms all.1)

pub source_below : (kind : TfheOp → Bool) (ops : List TfheOp) (source : ℕ) (others : Bool) → IsTrue (stands kind ops source && others) → source < length ops
source_below kind ops source others e = stands_below kind ops source (stands_rule kind ops source (and_parts (stands kind ops source) others e).0)

one_operand : (n source : ℕ) → source < n → All (λ o. o < n) (source ∷ [])
one_operand n source lt = All-from_recursion (λ o. o < n) (source ∷ []) (lt, tt)

pub operands_below : (ops : List TfheOp) (op : TfheOp) → IsTrue (keeps_alone ops op) → All (λ o. o < length ops) (operands_of op)
operands_below ops (Input lo hi) e = All-from_recursion (λ o. o < length ops) [] tt
operands_below ops (Lin constant terms) e = All-from_recursion (λ o. o < length ops) (map (λ t. t.0) terms) (leaves_below ops terms (lin_rule ops constant terms e).each)
operands_below ops (Switch source) e = one_operand (length ops) source (source_below is_big_node ops source _ e)
operands_below ops (Boot source entries) e = one_operand (length ops) source (source_below is_switch ops source _ e)
operands_below ops (Out source lo hi) e = one_operand (length ops) source (source_below is_big_node ops source _ e)

pub operands_few : (ops : List TfheOp) (op : TfheOp) → IsTrue (keeps_alone ops op) → length (operands_of op) ≤ length ops + 1
operands_few ops (Input lo hi) e = omega arith
operands_few ops (Lin constant terms) e = omega (arith, length-map terms (λ (t : ℕ × ℤ). t.0), (lin_rule ops constant terms e).few)
operands_few ops (Switch source) e = omega arith
operands_few ops (Boot source entries) e = omega arith
operands_few ops (Out source lo hi) e = omega arith

-- ---- the range of a leaf is small

pub holds : (test : Bool) → test ≡ true → T test
holds test e = subst T (sym e) tt

pub number_low : (z : ℤ) → IsTrue (is_number z) → (least_number ≤ℤ z) × (z ≤ℤ most_number)
number_low z e =
    let a = and_parts (int_le least_number z) (int_le z most_number) e in
    (record { le = holds (int_le least_number z) a.0 }, record { le = holds (int_le z most_number) a.1 })

pub small_number : (z : ℤ) → least_number ≤ℤ z → z ≤ℤ most_number → unsigned_abs z ≤ 2 ^ 16
small_number (pos n) low high = omega (arith, ints, low, high)
small_number (negsuc n) low high = omega (arith, ints, low, high)

-- a number that may stand
pub record MayStand (z : ℤ) : Type 0 where
  pub low : least_number ≤ℤ z
  pub high : z ≤ℤ most_number

either_stands : (test : Bool) (a b : ℤ) → MayStand a → MayStand b → MayStand (cond test a b)
either_stands true a b is_a is_b = is_a
either_stands false a b is_a is_b = is_b

min_stands : (a b : ℤ) → MayStand a → MayStand b → MayStand (int_min a b)
min_stands a b is_a is_b = either_stands (int_lt b a) b a is_b is_a

max_stands : (a b : ℤ) → MayStand a → MayStand b → MayStand (int_max a b)
max_stands a b is_a is_b = either_stands (int_lt b a) a b is_a is_b

fold_stands : (choose : ℤ → ℤ → ℤ) → ((a b : ℤ) → MayStand a → MayStand b → MayStand (choose a b)) → (first : ℤ) (entries : List ℤ) → MayStand first → IsTrue (list_all is_number entries) → MayStand (fold choose first entries)
fold_stands choose keeps first [] is e = is
fold_stands choose keeps first (entry ∷ entries) is e =
    let a = and_parts (is_number entry) (list_all is_number entries) e in
    let n = number_low entry a.0 in
    fold_stands choose keeps (choose first entry) entries (keeps first entry is (record { low = n.0; high = n.1 })) a.1

small_stands : (z : ℤ) → MayStand z → unsigned_abs z ≤ 2 ^ 16
small_stands z is = small_number z is.low is.high

entries_small : (entries : List ℤ) → IsTrue (list_all is_number entries) → IsSmallRange (range_of_entries entries)
entries_small [] e = record { lo = omega arith; hi = omega arith }
entries_small (entry ∷ entries) e =
    let a = and_parts (is_number entry) (list_all is_number entries) e in
    let n = number_low entry a.0 in
    let first : MayStand entry = record { low = n.0; high = n.1 } in
    record { lo = small_stands (fold int_min entry entries) (fold_stands int_min min_stands entry entries first a.1); hi = small_stands (fold int_max entry entries) (fold_stands int_max max_stands entry entries first a.1) }

pub range_small : (lo hi : ℤ) → IsTrue (is_number_range lo hi) → IsSmallRange (lo, hi)
range_small lo hi e =
    let a = and_parts (int_le least_number lo) (int_le lo hi && int_le hi most_number) e in
    let b = and_parts (int_le lo hi) (int_le hi most_number) a.1 in
    let low : least_number ≤ℤ lo = record { le = holds (int_le least_number lo) a.0 } in
    let middle : lo ≤ℤ hi = record { le = holds (int_le lo hi) b.0 } in
    let high : hi ≤ℤ most_number = record { le = holds (int_le hi most_number) b.1 } in
    record { lo = small_number lo low (omega (arith, ints, middle, high)); hi = small_number hi (omega (arith, ints, low, middle)) high }

no_range : IsSmallRange (pos 0, pos 0)
no_range = record { lo = omega arith; hi = omega arith }

leaf_small : (ops : List TfheOp) (op : TfheOp) → IsTrue (keeps_alone ops op) → IsSmallRange (leaf_range op)
leaf_small ops (Input lo hi) e =
    let a = and_parts (eqb (count_by is_input ops) (length ops)) (is_number_range lo hi && ltb (count_by is_input ops) 64) e in
    range_small lo hi (and_parts (is_number_range lo hi) (ltb (count_by is_input ops) 64) a.1).0
leaf_small ops (Lin constant terms) e = no_range
leaf_small ops (Switch source) e = no_range
leaf_small ops (Boot source entries) e =
    let test = int_eq (pos (length entries)) (span_of (range_on ops source) +ℤ pos 1) in
    let a = and_parts (stands is_switch ops source) (test && (list_all is_number entries && ltb (count_by is_boot ops) 1024)) e in
    let b = and_parts test (list_all is_number entries && ltb (count_by is_boot ops) 1024) a.1 in
    entries_small entries (and_parts (list_all is_number entries) (ltb (count_by is_boot ops) 1024) b.1).0
leaf_small ops (Out source lo hi) e = no_range

-- ---- the counts

last_of_three : (a b c : Bool) → IsTrue (a && (b && c)) → IsTrue c
last_of_three a b c e = (and_parts b c (and_parts a (b && c) e).1).1

last_of_four : (a b c d : Bool) → IsTrue (a && (b && (c && d))) → IsTrue d
last_of_four a b c d e = last_of_three b c d (and_parts a (b && (c && d)) e).1

pub few_push : (ops : List TfheOp) (op : TfheOp) → AreFew (kinds_of ops) → IsTrue (keeps_alone ops op) → AreFew (with_kind (kinds_of ops) op)
few_push ops (Input lo hi) few e =
    let more = last_of_three (eqb (count_by is_input ops) (length ops)) (is_number_range lo hi) (ltb (count_by is_input ops) 64) e in
    record { inputs = omega (arith, ltb-true (count_by is_input ops) 64 more); lins = omega (arith, few.lins); switches = omega (arith, few.switches); boots = omega (arith, few.boots); outs = omega (arith, few.outs) }
few_push ops (Lin constant terms) few e =
    let more = last_of_four (leb (unsigned_abs constant) (2 ^ 41)) (list_all (is_term ops) terms) (are_rising 0 terms) (ltb (count_by is_lin ops) 1088) e in
    record { inputs = omega (arith, few.inputs); lins = omega (arith, ltb-true (count_by is_lin ops) 1088 more); switches = omega (arith, few.switches); boots = omega (arith, few.boots); outs = omega (arith, few.outs) }
few_push ops (Switch source) few e =
    let more = last_of_three (stands is_big_node ops source) (int_eq (range_on ops source).0 (pos 0)) (ltb (count_by is_switch ops) 1024) e in
    record { inputs = omega (arith, few.inputs); lins = omega (arith, few.lins); switches = omega (arith, ltb-true (count_by is_switch ops) 1024 more); boots = omega (arith, few.boots); outs = omega (arith, few.outs) }
few_push ops (Boot source entries) few e =
    let more = last_of_four (stands is_switch ops source) (int_eq (pos (length entries)) (span_of (range_on ops source) +ℤ pos 1)) (list_all is_number entries) (ltb (count_by is_boot ops) 1024) e in
    record { inputs = omega (arith, few.inputs); lins = omega (arith, few.lins); switches = omega (arith, few.switches); boots = omega (arith, ltb-true (count_by is_boot ops) 1024 more); outs = omega (arith, few.outs) }
few_push ops (Out source lo hi) few e =
    let more = last_of_four (stands is_big_node ops source) (is_same_range (lo, hi) (range_on ops source)) (is_number_range lo hi) (ltb (count_by is_out ops) 64) e in
    record { inputs = omega (arith, few.inputs); lins = omega (arith, few.lins); switches = omega (arith, few.switches); boots = omega (arith, few.boots); outs = omega (arith, ltb-true (count_by is_out ops) 64 more) }

pub kinds_push : (ops : List TfheOp) (op : TfheOp) → with_kind (kinds_of ops) op ≡ kinds_of (ops ++ op ∷ [])
kinds_push ops op = rw (count_push is_input ops op, count_push is_lin ops op, count_push is_switch ops op, count_push is_boot ops op, count_push is_out ops op) refl

-- ---- what a leaf's range is

leaf_is_range : (ranges : List (ℤ × ℤ)) (op : TfheOp) → IsTrue (is_leaf op) → leaf_range op ≡ range_of ranges op
leaf_is_range ranges (Input lo hi) is = refl
leaf_is_range ranges (Lin constant terms) is = absurd cc
leaf_is_range ranges (Switch source) is = absurd cc
leaf_is_range ranges (Boot source entries) is = refl
leaf_is_range ranges (Out source lo hi) is = absurd cc

-- an element behind a list, and those before it
or_front : {A : Type 0} (xs : List A) (x : A) (i : ℕ) (d : A) → i < length xs → slice_index_or (xs ++ x ∷ []) i d ≡ slice_index_or xs i d
or_front [] x i d lt = absurd (omega (arith, lt))
or_front (y ∷ xs) x zero d lt = refl
or_front (y ∷ xs) x (suc i) d lt = or_front xs x i d (omega (arith, lt))

or_last : {A : Type 0} (xs : List A) (x : A) (i : ℕ) (d : A) → i ≡ length xs → slice_index_or (xs ++ x ∷ []) i d ≡ x
or_last [] x zero d same = refl
or_last [] x (suc i) d same = absurd (omega (arith, same))
or_last (y ∷ xs) x zero d same = absurd (omega (arith, same))
or_last (y ∷ xs) x (suc i) d same = or_last xs x i d (omega (arith, same))

get_front : (ops : List TfheOp) (op : TfheOp) (i : ℕ) → i < length ops → slice_get (ops ++ op ∷ []) i ≡ slice_get ops i
get_front [] op i lt = absurd (omega (arith, lt))
get_front (y ∷ ops) op zero lt = refl
get_front (y ∷ ops) op (suc i) lt = get_front ops op i (omega (arith, lt))

get_last : (ops : List TfheOp) (op : TfheOp) (i : ℕ) → i ≡ length ops → slice_get (ops ++ op ∷ []) i ≡ Some op
get_last [] op zero same = refl
get_last [] op (suc i) same = absurd (omega (arith, same))
get_last (y ∷ ops) op zero same = absurd (omega (arith, same))
get_last (y ∷ ops) op (suc i) same = get_last ops op i (omega (arith, same))

tell_push : (ops : List TfheOp) (op : TfheOp) (leaves : List (ℤ × ℤ)) → TellLeaves ops leaves → IsTrue (keeps_alone ops op) → TellLeaves (ops ++ op ∷ []) (leaves ++ leaf_range op ∷ [])
tell_push ops op leaves tell e =
    let ranges = node_ranges ops in
    let more : node_ranges (ops ++ op ∷ []) ≡ ranges ++ range_of ranges op ∷ [] = from_earlier_push range_of [] ops op in
    let many : length ranges ≡ length ops = omega (arith, length-from_earlier range_of [] ops) in
    record {
      number = omega (arith, length-append leaves (leaf_range op ∷ []), length-append ops (op ∷ []), tell.number);
      small = All-push IsSmallRange leaves (leaf_range op) tell.small (leaf_small ops op e);
      agree = λ place is.
          elim (cases_lt place (length ops)) [
            | inl lt ↦
                let old : Stands is_leaf ops place = subst (λ o. IsSomeAnd o (λ op. IsTrue (is_leaf op))) (get_front ops op place lt) is in
                or_front leaves (leaf_range op) place (pos 0, pos 0) (omega (arith, lt, tell.number)) ∙ tell.agree place old ∙ sym (ap (λ rs. range_at rs place) more ∙ or_front ranges (range_of ranges op) place (pos 0, pos 0) (omega (arith, lt, many)))
            | inr ge ↦
                let below : place < length (ops ++ op ∷ []) = stands_below is_leaf (ops ++ op ∷ []) place is in
                let last : place ≡ length ops = omega (arith, ge, below, length-append ops (op ∷ [])) in
                let leaf : IsTrue (is_leaf op) = subst (λ o. IsSomeAnd o (λ op. IsTrue (is_leaf op))) (get_last ops op place last) is in
                or_last leaves (leaf_range op) place (pos 0, pos 0) (omega (arith, last, tell.number)) ∙ leaf_is_range ranges op leaf ∙ sym (ap (λ rs. range_at rs place) more ∙ or_last ranges (range_of ranges op) place (pos 0, pos 0) (omega (arith, last, many)))
          ];
    }

-- what is kept of a shape, with an operation more
pub kept_push : (shape more : Shape) (ranges leaves : List (ℤ × ℤ)) (kinds : Kinds) (op : TfheOp) (range : ℤ × ℤ) → AreKept shape ranges leaves kinds
    → nodes_of more ≡ nodes_of shape ++ op ∷ [] → IsPlaced more.graph → IsTrue (keeps_alone (nodes_of shape) op) → range ≡ range_of (node_ranges (nodes_of shape)) op → IsWide range
    → AreKept more (ranges ++ range ∷ []) (leaves ++ leaf_range op ∷ []) (with_kind kinds op)
kept_push shape more ranges leaves kinds op range kept nodes placed e is wide =
    let ops = nodes_of shape in
    let known : ranges ++ range ∷ [] ≡ node_ranges (ops ++ op ∷ []) = ap (λ rs. rs ++ range ∷ []) kept.known ∙ ap (λ r. node_ranges ops ++ r ∷ []) is ∙ sym (from_earlier_push range_of [] ops op) in
    record {
      placed = placed;
      known = known ∙ ap (λ ns. node_ranges ns) (sym nodes);
      wide = All-push IsWide ranges range kept.wide wide;
      tell = subst (λ ns. TellLeaves ns (leaves ++ leaf_range op ∷ [])) (sym nodes) (tell_push ops op leaves kept.tell e);
      counted = ap (λ k. with_kind k op) kept.counted ∙ kinds_push ops op ∙ ap (λ ns. kinds_of ns) (sym nodes);
      few = subst AreFew (ap (λ k. with_kind k op) (sym kept.counted)) (few_push ops op (subst AreFew kept.counted kept.few) e);
    }
