-- What the arguments, the look-ups and the results of patterns have.
use Rattle.std.proofs.Common.{◌≡◌, ◌+◌, List, [], ◌∷◌, ◌++◌, length, map, refl, sym, ap, ◌∙◌, arith, append_assoc}
use Rattle.std.specs.Prelude.{ℤ, pos}
use Rattle.std.specs.List.{AllByRecursion}
use Rattle.std.proofs.lemmas.List.{append-nil, length-append}
use Rattle.std.proofs.Math.Seq.{get_or-append_seam}
use Rattle.forms.specs.Forms.{number_at}
use Rattle.forms.specs.FromEarlier.{from_earlier, from_earlier-append, from_earlier_keeps}
use Rattle.linear_forms.specs.declared.linear.Form.{Form}
use Rattle.linear_forms.specs.Sound.{AreBelow}
use Rattle.linear_forms.specs.Laws.{value_of}
use Rattle.linear_forms.specs.Staying.{value_stays}
use Rattle.ap_level.specs.declared.level.ApOp.{ApOp}
use Rattle.ap_level.specs.Patterns.{at_outs, pattern_values, clear_values, argument_ranges}
use Rattle.ap_level.specs.Patterns as on_patterns
use Rattle.live_patterns.specs.declared.patterns.Look.{Look}
use Rattle.live_patterns.specs.declared.patterns.Patterns.{Patterns}
use Rattle.live_patterns.specs.Found.{input_op, look_op, out_op, found_patterns}
use Rattle.pattern_pass.proofs.Leaves.{look_value, leaf_values, values_many}

-- ---- values

-- the arguments have the values that are given
inputs_first : (inputs earlier rest : List ℤ) (ranges : List (ℤ × ℤ)) → inputs ≡ earlier ++ rest → length rest ≡ length ranges
    → from_earlier (on_patterns.value_of inputs) earlier (map input_op ranges) ≡ inputs
inputs_first inputs earlier [] [] all long = sym (all ∙ append-nil earlier)
inputs_first inputs earlier (z ∷ rest) [] all long = absurd (omega (arith, long))
inputs_first inputs earlier [] (range ∷ ranges) all long = absurd (omega (arith, long))
inputs_first inputs earlier (z ∷ rest) (range ∷ ranges) all long =
    let here : number_at inputs (length earlier) ≡ z =
    ap (λ l. number_at l (length earlier)) all ∙ get_or-append_seam earlier z rest (pos 0) in
    let split : inputs ≡ (earlier ++ number_at inputs (length earlier) ∷ []) ++ rest =
    all ∙ sym (ap (λ y. (earlier ++ y ∷ []) ++ rest) here ∙ append_assoc earlier (z ∷ []) rest) in
    inputs_first inputs (earlier ++ number_at inputs (length earlier) ∷ []) rest ranges split (omega (arith, long))

-- then the look-ups have those of their leaves
looks_next : (inputs earlier : List ℤ) (looks : List Look)
    → from_earlier (on_patterns.value_of inputs) earlier (map look_op looks) ≡ from_earlier look_value earlier looks
looks_next inputs earlier [] = refl
looks_next inputs earlier (look ∷ looks) = looks_next inputs (earlier ++ look_value earlier look ∷ []) looks

-- and then the results those of their forms, on leaves alone
outs_last : (inputs values so_far : List ℤ) (outs : List Form) → AllByRecursion (λ form. AreBelow (length values) form.terms) outs
    → from_earlier (on_patterns.value_of inputs) (values ++ so_far) (map out_op outs)
    ≡ values ++ (so_far ++ map (λ form. value_of form values) outs)
outs_last inputs values so_far [] below = ap (λ l. values ++ l) (sym (append-nil so_far))
outs_last inputs values so_far (form ∷ outs) below =
    let v = value_of form values in
    let same : value_of form (values ++ so_far) ≡ v = value_stays form.constant form.terms values so_far below.0 in
    let grown : (values ++ so_far) ++ value_of form (values ++ so_far) ∷ [] ≡ values ++ (so_far ++ v ∷ []) =
    append_assoc values so_far (value_of form (values ++ so_far) ∷ []) ∙ ap (λ y. values ++ (so_far ++ y ∷ [])) same in
    ap (λ l. from_earlier (on_patterns.value_of inputs) l (map out_op outs)) grown
    ∙ outs_last inputs values (so_far ++ v ∷ []) outs below.1
    ∙ ap (λ l. values ++ l) (append_assoc so_far (v ∷ []) (map (λ f. value_of f values) outs))

-- ---- results

inputs_passed : (ranges : List (ℤ × ℤ)) (later : List ApOp) (found rest : List ℤ) → length found ≡ length ranges
    → at_outs (map input_op ranges ++ later) (found ++ rest) ≡ at_outs later rest
inputs_passed [] later [] rest long = refl
inputs_passed [] later (z ∷ found) rest long = absurd (omega (arith, long))
inputs_passed (range ∷ ranges) later [] rest long = absurd (omega (arith, long))
inputs_passed (range ∷ ranges) later (z ∷ found) rest long = inputs_passed ranges later found rest (omega (arith, long))

looks_passed : (looks : List Look) (later : List ApOp) (found rest : List ℤ) → length found ≡ length looks
    → at_outs (map look_op looks ++ later) (found ++ rest) ≡ at_outs later rest
looks_passed [] later [] rest long = refl
looks_passed [] later (z ∷ found) rest long = absurd (omega (arith, long))
looks_passed (look ∷ looks) later [] rest long = absurd (omega (arith, long))
looks_passed (look ∷ looks) later (z ∷ found) rest long = looks_passed looks later found rest (omega (arith, long))

outs_taken : (outs : List Form) (f : Form → ℤ) → at_outs (map out_op outs) (map f outs) ≡ map f outs
outs_taken [] f = refl
outs_taken (form ∷ outs) f = ap (λ l. f form ∷ l) (outs_taken outs f)

-- what the results of patterns compute: the values of their forms on the leaves
pub results_are : (inputs : List ℤ) (patterns : Patterns) → length inputs ≡ length patterns.inputs
    → AllByRecursion (λ form. AreBelow (length (leaf_values inputs patterns.looks)) form.terms) patterns.outs
    → clear_values (found_patterns patterns) inputs ≡ map (λ form. value_of form (leaf_values inputs patterns.looks)) patterns.outs
results_are inputs patterns long below =
    let F = on_patterns.value_of inputs in
    let ranges = patterns.inputs in let looks = patterns.looks in let outs = patterns.outs in
    let values = leaf_values inputs looks in
    let results = map (λ form. value_of form values) outs in
    let later = from_earlier_keeps look_value inputs looks in
    let many : length values ≡ length inputs + length looks = values_many inputs looks in
    let split : found_patterns patterns ≡ map input_op ranges ++ (map look_op looks ++ map out_op outs) =
    append_assoc (map input_op ranges) (map look_op looks) (map out_op outs) in
    let all : pattern_values (found_patterns patterns) inputs ≡ inputs ++ (later.0 ++ results) =
    ap (from_earlier F []) split
    ∙ from_earlier-append F [] (map input_op ranges) (map look_op looks ++ map out_op outs)
    ∙ ap (λ l. from_earlier F l (map look_op looks ++ map out_op outs)) (inputs_first inputs [] inputs ranges refl long)
    ∙ from_earlier-append F inputs (map look_op looks) (map out_op outs)
    ∙ ap (λ l. from_earlier F l (map out_op outs)) (looks_next inputs inputs looks ∙ sym (append-nil values))
    ∙ outs_last inputs values [] outs below
    ∙ ap (λ l. l ++ results) later.1 ∙ append_assoc inputs later.0 results in
    let rest_many : length later.0 ≡ length looks = omega (arith, many, ap length later.1, length-append inputs later.0) in
    ap (at_outs (found_patterns patterns)) all
    ∙ ap (λ l. at_outs l (inputs ++ (later.0 ++ results))) split
    ∙ inputs_passed ranges (map look_op looks ++ map out_op outs) inputs (later.0 ++ results) long
    ∙ looks_passed looks (map out_op outs) later.0 results rest_many
    ∙ outs_taken outs (λ form. value_of form values)

-- ---- arguments

ranges_first : (ranges : List (ℤ × ℤ)) (later : List ApOp) → argument_ranges (map input_op ranges ++ later) ≡ ranges ++ argument_ranges later
ranges_first [] later = refl
ranges_first (range ∷ ranges) later = ap (λ l. range ∷ l) (ranges_first ranges later)

none_of_looks : (looks : List Look) (later : List ApOp) → argument_ranges (map look_op looks ++ later) ≡ argument_ranges later
none_of_looks [] later = refl
none_of_looks (look ∷ looks) later = none_of_looks looks later

none_of_outs : (outs : List Form) → argument_ranges (map out_op outs) ≡ []
none_of_outs [] = refl
none_of_outs (form ∷ outs) = none_of_outs outs

-- the ranges of the arguments
pub arguments_are : (patterns : Patterns) → argument_ranges (found_patterns patterns) ≡ patterns.inputs
arguments_are patterns =
    ap argument_ranges (append_assoc (map input_op patterns.inputs) (map look_op patterns.looks) (map out_op patterns.outs))
    ∙ ranges_first patterns.inputs (map look_op patterns.looks ++ map out_op patterns.outs)
    ∙ ap (λ l. patterns.inputs ++ l) (none_of_looks patterns.looks (map out_op patterns.outs) ∙ none_of_outs patterns.outs)
    ∙ append-nil patterns.inputs
