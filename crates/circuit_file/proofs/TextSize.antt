-- How long the text of a circuit is at most.
use Rattle.std.proofs.Common.{◌≡◌, ℕ, zero, suc, ◌+◌, ◌*◌, ◌-◌, ◌<◌, ◌≤◌, ◌^◌, Bool, true, false, cond, List, [], ◌∷◌, ◌++◌, length, map, ℤ, pos, negsuc, ◌+ℤ◌, ◌<ℤ◌, inl, inr, ap, sym, refl, ◌∙◌, subst, arith, length-append, mul-le-mul}
use Rattle.std.specs.Prelude.{codes, count_by, filter_map, unsigned_abs, IsTrue}
use Rattle.std.specs.Fmt.{decimal, signed_decimal}
use Rattle.std.specs.Int.Signed.{mag}
use Rattle.std.specs.List.{flat_map, AllByRecursion, enumerate_from, list_any}
use Rattle.std.proofs.Math.Pow.{pow_mono}
use Rattle.std.proofs.lemmas.Bool.{cases_lt}
use Rattle.std.proofs.lemmas.Int.{ints}
use Rattle.std.proofs.lemmas.Fmt.{length_signed_le}
use Rattle.std.proofs.lemmas.List.Concat.{flat_map-cons}
use Rattle.std.proofs.lemmas.List.Elements.{recursion_from_All}
use Rattle.std.proofs.lemmas.List.Sums.{sum_by-cons}
use Rattle.forms.specs.Forms.{span_of}
use Rattle.fhe_params.specs.declared.params.Params.{Params}
use Rattle.fhe_params.specs.Params.{IsParams, IsGadget}
use Rattle.fhe_params.specs.declared.params.Gadget.{Gadget}
use Rattle.tfhe_level.specs.declared.level.TfheOp.{TfheOp}
use Rattle.tfhe_level.specs.declared.level.TfheOp.TheVariants.{Input, Lin, Switch, Boot, Out}
use Rattle.tfhe_level.specs.declared.shape.Shape.{Shape}
use Rattle.tfhe_level.specs.declared.shape.Circuit.{Circuit}
use Rattle.tfhe_level.specs.Operations.{is_lin, is_switch, is_boot}
use Rattle.tfhe_level.specs.Nodes.{nodes_of, node_ranges}
use Rattle.tfhe_level.specs.Rules.{Stands, range_on, KeepsRule, KeepRules, is_message, message_ranges}
use Rattle.tfhe_level.specs.Laws.{NodeLaws}
use Rattle.noise_model.specs.Bounds.{noise_bound}
use Rattle.noise_model.specs.Constraints.{modulus_noise, half_step, boot_source, size_constraint, boot_constraint, constraints_of, IsMet, MeetsAll}
use Rattle.circuit_lines.specs.Lines.{line_feed, term_text, entry_text, head_text, line_text, params_lines}
use Rattle.circuit_nodes.specs.Walk.{most_operations}
use Rattle.circuit_file.specs.Limits.{circuit_limit}
use Rattle.noise_model.specs.Circuits.{IsCircuit}
use Rattle.circuit_file.specs.Text.{head_of, line_of_op, op_lines, ops_text, circuit_text}
use Rattle.circuit_file.proofs.Limits.{few_ones}
use Rattle.circuit_file.proofs.ReadBack.{Below}
use Rattle.circuit_file.proofs.Ranges.{message_held}
use Rattle.circuit_file.proofs.SmallOps.{IsSmallTerm, IsSmallNumber, IsSmall, HasEntries, small_ops, entries_by_span, counted_most}
use Rattle.circuit_file.proofs.SpelledBack.{split_all, few_operations, level_most}

-- ---- numbers

least_size : (z : ℤ) → mag z ≤ unsigned_abs z
least_size (pos n) = omega arith
least_size (negsuc n) = omega (arith, ints)

-- the place of an operation
place_size : (n : ℕ) → n ≤ 3264 → length (signed_decimal (pos n)) ≤ 5
place_size n few = length_signed_le 4 (pos n) (omega (arith, few)) (omega (arith, few))

-- a number of an input, an entry or an out
number_size : (z : ℤ) → unsigned_abs z ≤ 2 ^ 16 → length (signed_decimal z) ≤ 6
number_size z small = length_signed_le 5 z (omega (arith, small, least_size z)) (omega (arith, small, least_size z))

-- a weight or a constant
weight_size : (z : ℤ) → unsigned_abs z ≤ 2 ^ 41 → length (signed_decimal z) ≤ 14
weight_size z small = length_signed_le 13 z (omega (arith, small, least_size z)) (omega (arith, small, least_size z))

-- a parameter
any_size : (z : ℤ) → unsigned_abs z < 2 ^ 62 → length (signed_decimal z) ≤ 20
any_size z small = length_signed_le 19 z (omega (arith, small, least_size z)) (omega (arith, small, least_size z))

-- ---- lines

terms_size : (n : ℕ) (terms : List (ℕ × ℤ)) → n ≤ 3264 → AllByRecursion (IsSmallTerm n) terms → length (flat_map term_text (map (λ (t : ℕ × ℤ). (pos t.0, t.1)) terms)) ≤ length terms * 22
terms_size n [] few all = omega arith
terms_size n (t ∷ terms) few all =
    let weight = weight_size t.1 (omega (arith, all.0.weight)) in
    let leaf = place_size t.0 (omega (arith, few, all.0.leaf)) in
    let others = terms_size n terms few all.1 in
    simp length-append (omega (arith, weight, leaf, others))

entries_size : (entries : List ℤ) → AllByRecursion IsSmallNumber entries → length (flat_map entry_text entries) ≤ length entries * 7
entries_size [] all = omega arith
entries_size (e ∷ entries) all =
    let first = number_size e all.0.size in
    let others = entries_size entries all.1 in
    simp length-append (omega (arith, first, others))

-- at most so many bytes, by the kind of the operation
abbrev line_most : TfheOp → ℕ
line_most op = 60 + cond (is_lin op) 71900 0 + cond (is_boot op) 28700 0

line_size : (n number : ℕ) (op : TfheOp) → n ≤ 3264 → number ≤ 3264 → IsSmall n op → HasEntries (λ k. k ≤ 4096) op → length (line_text (line_of_op number op)) ≤ line_most op
line_size n number (Input lo hi) few le is entries =
    let own = place_size number le in
    let low = number_size lo is.0.size in
    let high = number_size hi is.1.size in
    simp length-append (omega (arith, own, low, high))
line_size n number (Lin constant terms) few le is entries =
    let own = place_size number le in
    let sum = weight_size constant is.0 in
    let each = terms_size n terms few is.1 in
    simp length-append (omega (arith, own, sum, each, few, is.2))
line_size n number (Switch source) few le is entries =
    let own = place_size number le in
    let operand = place_size source (omega (arith, is, few)) in
    simp length-append (omega (arith, own, operand))
line_size n number (Boot source entries) few le is many =
    let own = place_size number le in
    let operand = place_size source (omega (arith, is.0, few)) in
    let each = entries_size entries is.1 in
    simp length-append (omega (arith, own, operand, each, many))
line_size n number (Out source lo hi) few le is entries =
    let operand = place_size source (omega (arith, is.0, few)) in
    let low = number_size lo is.1.size in
    let high = number_size hi is.2.size in
    simp length-append (omega (arith, operand, low, high))

abbrev lines_most : List TfheOp → ℕ
lines_most ops = 60 * length ops + 71900 * count_by is_lin ops + 28700 * count_by is_boot ops

ifs : (test : Bool) (n : ℕ) → n * cond test 1 0 ≡ cond test n 0
ifs true n = omega arith
ifs false n = omega arith

ops_size : (n number : ℕ) (ops : List TfheOp) → n ≤ 3264 → number + length ops ≤ 3264 → AllByRecursion (IsSmall n) ops → AllByRecursion (HasEntries (λ k. k ≤ 4096)) ops → length (flat_map line_text (op_lines number ops)) ≤ lines_most ops
ops_size n number [] few le small entries = omega arith
ops_size n number (op ∷ ops) few le small entries =
    let first = line_size n number op few (omega (arith, le)) small.0 entries.0 in
    let others = ops_size n (number + 1) ops few (omega (arith, le)) small.1 entries.1 in
    let lins = sum_by-cons (λ x. cond (is_lin x) 1 0) op ops in
    let boots = sum_by-cons (λ x. cond (is_boot x) 1 0) op ops in
    omega (arith, ap length (flat_map-cons line_text (line_of_op number op) (op_lines (number + 1) ops)), length-append (line_text (line_of_op number op)) (flat_map line_text (op_lines (number + 1) ops)), first, others, lins, boots, ifs (is_lin op) 71900, ifs (is_boot op) 28700)

-- ---- tables have at most 4,096 entries, since a bootstrap's constraint keeps the width below 13

first_boot : (ops : List TfheOp) → list_any is_boot ops ≡ true → (x : ℕ) × (xs : List ℕ) × (filter_map boot_source ops ≡ x ∷ xs)
first_boot [] some = absurd (let e = some in cc)
first_boot (Input lo hi ∷ ops) some = first_boot ops some
first_boot (Lin constant terms ∷ ops) some = first_boot ops some
first_boot (Switch source ∷ ops) some = first_boot ops some
first_boot (Boot source entries ∷ ops) some = (source, filter_map boot_source ops, refl)
first_boot (Out source lo hi ∷ ops) some = first_boot ops some

narrow : (width ones log_n bound : ℕ) → log_n ≤ 13 → bound + (1 + ones) * 2 ^ (62 - log_n) < 2 ^ (62 - width) → 2 ^ width ≤ 4096
narrow width ones log_n bound few met =
    elim (cases_lt width 13) [
      | inl lt ↦ let most : 2 ^ width ≤ 2 ^ 12 = pow_mono {i = width} {j = 12} (omega (arith, lt)) in omega (arith, most)
      | inr ge ↦
          let step : 2 ^ 49 ≤ 2 ^ (62 - log_n) = pow_mono {i = 49} {j = 62 - log_n} (omega (arith, few)) in
          let limit : 2 ^ (62 - width) ≤ 2 ^ 49 = pow_mono {i = 62 - width} {j = 49} (omega (arith, ge)) in
          let part : 1 * 2 ^ (62 - log_n) ≤ (1 + ones) * 2 ^ (62 - log_n) = mul-le-mul (omega arith) (omega arith) in
          absurd (omega (arith, step, limit, part, met))
    ]

boot_met : (p : Params) (shape : Shape) → MeetsAll p shape → list_any is_boot (nodes_of shape) ≡ true → (bound : ℕ) × (bound + modulus_noise p < half_step shape.width)
boot_met p shape met some =
    let first = first_boot (nodes_of shape) some in
    let all = recursion_from_All IsMet (constraints_of p shape) met in
    let noises = (split_all IsMet (size_constraint p (nodes_of shape)) _ all).1 in
    let boots = (split_all IsMet (map (boot_constraint p shape) (enumerate_from 0 (filter_map boot_source (nodes_of shape)))) _ noises).0 in
    (noise_bound p (nodes_of shape) first.0, (subst (λ xs. AllByRecursion IsMet (map (boot_constraint p shape) (enumerate_from 0 xs))) first.2 boots).0)

few_numbers : (n : ℕ) (span : ℤ) (most : ℕ) → most ≤ 4096 → span <ℤ pos most → pos n ≡ span +ℤ pos 1 → n ≤ 4096
few_numbers n span most few below is = omega (arith, ints, few, below, is)

abbrev Holds : ℕ → ℤ × ℤ → Type 0
Holds width range = span_of range <ℤ pos (2 ^ width)

switch_message : (ops : List TfheOp) (place : ℕ) → Stands is_switch ops place → Stands is_message ops place
switch_message [] place is = absurd is
switch_message (op ∷ ops) zero is = rw is refl
switch_message (op ∷ ops) (suc place) is = switch_message ops place is

few_entries : NodeLaws → (c : Circuit) → IsCircuit c → AllByRecursion (HasEntries (λ k. k ≤ 4096)) (nodes_of c.shape)
few_entries N c is =
    let ops = nodes_of c.shape in
    let width = c.shape.width in
    let held = recursion_from_All (Holds width) (message_ranges ops) is.shape.width.holds in
    entries_by_span (λ k. k ≤ 4096) ops [] ops refl
    (λ some source n stands numbers.
    let met = boot_met c.params c.shape is.meets some in
    let most = narrow width c.params.lwe.ones c.params.glwe.log_n met.0 is.params.glwe.log_n_high met.1 in
    few_numbers n (span_of (range_on ops source)) (2 ^ width) most (message_held (Holds width) ops (node_ranges ops) source (N.ranges ops) (switch_message ops source stands) held) numbers)
    is.shape.nodes.rules

-- ---- how many there are of the long ones

lin_few : (all earlier : List TfheOp) (op : TfheOp) → KeepsRule all earlier op → is_lin op ≡ true → count_by is_lin earlier < 1088
lin_few all earlier (Input lo hi) is e = absurd (let e = e in cc)
lin_few all earlier (Lin constant terms) is e = is.few
lin_few all earlier (Switch source) is e = absurd (let e = e in cc)
lin_few all earlier (Boot source entries) is e = absurd (let e = e in cc)
lin_few all earlier (Out source lo hi) is e = absurd (let e = e in cc)

boot_few : (all earlier : List TfheOp) (op : TfheOp) → KeepsRule all earlier op → is_boot op ≡ true → count_by is_boot earlier < 1024
boot_few all earlier (Input lo hi) is e = absurd (let e = e in cc)
boot_few all earlier (Lin constant terms) is e = absurd (let e = e in cc)
boot_few all earlier (Switch source) is e = absurd (let e = e in cc)
boot_few all earlier (Boot source entries) is e = is.few
boot_few all earlier (Out source lo hi) is e = absurd (let e = e in cc)

-- ---- the whole

head_size : (width : ℕ) (p : Params) → width ≤ 16 → IsParams p → length (head_text (head_of width p)) ≤ 1000
head_size width p low is =
    let g = is.glwe in
    let l = is.lwe in
    let a = any_size (pos width) (omega (arith, low)) in
    let b = any_size (pos p.glwe.k) (omega (arith, g.k_high)) in
    let c = any_size (pos p.glwe.log_n) (omega (arith, g.log_n_high)) in
    let d = any_size (pos p.glwe.ones) (omega (arith, few_ones p.glwe.k p.glwe.log_n p.glwe.ones g.k_high g.log_n_high g.ones)) in
    let e = any_size (pos p.glwe.error) (omega (arith, g.error)) in
    let f = any_size (pos p.lwe.n) (omega (arith, l.n_high)) in
    let h = any_size (pos p.lwe.ones) (omega (arith, l.ones, l.n_high)) in
    let i = any_size (pos p.lwe.error) (omega (arith, l.error)) in
    let j = any_size (pos p.boot.base) (omega (arith, is.boot.base_high)) in
    let k = any_size (pos p.boot.level) (omega (arith, level_most p.boot.base p.boot.level is.boot.base_low is.boot.bits)) in
    let m = any_size (pos p.switch.base) (omega (arith, is.switch.base_high)) in
    let n = any_size (pos p.switch.level) (omega (arith, level_most p.switch.base p.switch.level is.switch.base_low is.switch.bits)) in
    simp length-append (omega (arith, a, b, c, d, e, f, h, i, j, k, m, n))

whole : (head lines end : List ℕ) → length head ≤ 1000 → length lines ≤ 2 ^ 27 - 2000 → length end ≤ 100 → length (head ++ (lines ++ end)) ≤ circuit_limit
whole head lines end a b c = simp length-append (omega (arith, a, b, c))

pub text_size : NodeLaws → (B : Below) → (c : Circuit) → IsCircuit c → length (circuit_text c) ≤ circuit_limit
unfolding circuit_text ops_text
text_size N B c is =
    let ops = nodes_of c.shape in
    let rules = is.shape.nodes.rules in
    let few : length ops ≤ 3264 = omega (arith, few_operations B ops rules) in
    let small = small_ops 3264 ops [] ops (omega (arith, few)) rules in
    let lines = ops_size 3264 0 ops (omega arith) (omega (arith, few)) small (few_entries N c is) in
    let lins = counted_most is_lin 1088 ops (lin_few ops) [] ops rules (omega arith) in
    let boots = counted_most is_boot 1024 ops (boot_few ops) [] ops rules (omega arith) in
    whole (head_text (head_of c.shape.width c.params)) (flat_map line_text (op_lines 0 ops)) (codes "end" ++ line_feed) (head_size c.shape.width c.params is.shape.width.high is.params) (omega (arith, few, lines, lins, boots)) (omega arith)
