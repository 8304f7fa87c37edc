-- A worked list of patterns: arguments, look-ups of which two are dead, and results.
use Rattle.std.proofs.Common.{◌≡◌, ℕ, ◌<◌, ◌≤◌, List, [], ◌∷◌, ◌++◌, length, map, get_or, All, refl, sym, ap, ◌∙◌, subst, arith, ℤ, pos, ◌<ℤ◌, ◌^◌}
use Prim.Native.Nat.{zero, suc}
use lib.IntN.{negsuc}
use Rattle.std.specs.List.{AllByRecursion}
use Rattle.std.proofs.lemmas.Int.{ints}
use Rattle.std.proofs.lemmas.List.Elements.{All-from_recursion}
use Rattle.forms.specs.Forms.{number_at, span_of}
use Rattle.forms.specs.Limits.{most_width}
use Rattle.forms.specs.Ranges.{IsNumber, IsNumberRange, HoldsRanges}
use Rattle.ap_level.specs.declared.level.ApOp.{ApOp}
use Rattle.ap_level.specs.declared.level.ApOp.TheVariants.{Input, Look, Out}
use Rattle.ap_level.specs.Patterns.{clear_values}
use Rattle.ap_level.specs.Rules.{IsLeafAt, IsTerm, IsForm, IsInput, IsOut}
use Rattle.linear_forms.specs.declared.linear.Form.{Form}
use Rattle.live_patterns.specs.declared.patterns.Look.{Look as Found}
use Rattle.live_patterns.specs.Found.{IsFound, AreFound, input_op, look_op, out_op}
use Rattle.live_patterns.specs.Live.{live_patterns}

-- a look-up on a leaf from 0 to 3
abbrev look : ℕ → ℤ → ℤ → ℤ → ℤ → ApOp
look leaf a b c d = Look (pos 0) ((leaf, pos 1) ∷ []) (a ∷ b ∷ c ∷ d ∷ [])

-- a leaf as a result
abbrev out : ℕ → ApOp
out leaf = Out (pos 0) ((leaf, pos 1) ∷ [])

abbrev pub worked : List ApOp
worked =
    Input (pos 0) (pos 3)
    ∷ look 0 (pos 1) (pos 3) (pos 0) (pos 2)
    ∷ look 0 (pos 3) (pos 0) (pos 1) (pos 2)
    ∷ look 2 (pos 0) (pos 1) (pos 2) (pos 3)
    ∷ look 1 (pos 2) (pos 3) (pos 1) (pos 0)
    ∷ look 3 (pos 5) (pos 0) (pos 0) (pos 4)
    ∷ out 5
    ∷ out 0
    ∷ []

-- the two that only a dead one hangs on, or none, are dropped
live_of_worked : live_patterns worked
    ≡ Input (pos 0) (pos 3)
    ∷ look 0 (pos 3) (pos 0) (pos 1) (pos 2)
    ∷ look 1 (pos 0) (pos 1) (pos 2) (pos 3)
    ∷ look 2 (pos 5) (pos 0) (pos 0) (pos 4)
    ∷ out 3
    ∷ out 0
    ∷ []
live_of_worked = refl

values_of_worked : clear_values worked (pos 0 ∷ []) ≡ pos 4 ∷ pos 0 ∷ []
values_of_worked = refl

values_of_live : clear_values (live_patterns worked) (pos 0 ∷ []) ≡ pos 4 ∷ pos 0 ∷ []
values_of_live = refl

-- ---- its rules

form_of_leaf : (earlier : List ApOp) (leaf : ℕ) → IsLeafAt earlier leaf → IsForm earlier (pos 0) ((leaf, pos 1) ∷ [])
form_of_leaf earlier leaf at = record {
  size = omega arith;
  each = All-from_recursion (IsTerm earlier) ((leaf, pos 1) ∷ []) (record { leaf = at; weight = λ e. absurd (omega (arith, ints, e)); size = omega arith }, tt);
  rising = (omega arith, tt);
}

-- what tells the look-ups from each other
abbrev mark_of : ApOp → ℤ
mark_of (Input lo hi) = negsuc 0
mark_of (Look constant terms entries) = number_at entries 0
mark_of (Out constant terms) = negsuc 1

not_there : (earlier : List ApOp) (op : ApOp) (place : ℕ) → AllByRecursion (λ x. mark_of x ≡ mark_of op → ⊥) earlier → place < length earlier → get_or earlier place op ≡ op → ⊥
not_there [] op place other below same = omega arith
not_there (x ∷ earlier) op zero other below same = other.0 (ap mark_of same)
not_there (x ∷ earlier) op (suc place) other below same = not_there earlier op place other.1 (omega arith) same

is_number : (n : ℕ) → n ≤ 5 → IsNumber (pos n)
is_number n le = record { low = omega (arith, ints); high = omega (arith, ints, le) }

numbers : (a b c d : ℕ) → a ≤ 5 → b ≤ 5 → c ≤ 5 → d ≤ 5 → All IsNumber (pos a ∷ pos b ∷ pos c ∷ pos d ∷ [])
numbers a b c d la lb lc ld = All-from_recursion IsNumber (pos a ∷ pos b ∷ pos c ∷ pos d ∷ []) (is_number a la, (is_number b lb, (is_number c lc, (is_number d ld, tt))))

abbrev before_1 : List ApOp
before_1 = Input (pos 0) (pos 3) ∷ []

found_1 : IsFound before_1 (pos 0) ((0, pos 1) ∷ []) (pos 1 ∷ pos 3 ∷ pos 0 ∷ pos 2 ∷ [])
found_1 = record {
  form = form_of_leaf before_1 0 refl;
  starts = refl;
  many = record { lt = tt };
  number = refl;
  each = numbers 1 3 0 2 (omega arith) (omega arith) (omega arith) (omega arith);
  new = λ there. not_there before_1 (look 0 (pos 1) (pos 3) (pos 0) (pos 2)) there.0 (λ e. omega (arith, ints, e), tt) there.1 there.2;
  few = omega arith;
}

abbrev before_2 : List ApOp
before_2 = Input (pos 0) (pos 3) ∷ look 0 (pos 1) (pos 3) (pos 0) (pos 2) ∷ []

found_2 : IsFound before_2 (pos 0) ((0, pos 1) ∷ []) (pos 3 ∷ pos 0 ∷ pos 1 ∷ pos 2 ∷ [])
found_2 = record {
  form = form_of_leaf before_2 0 refl;
  starts = refl;
  many = record { lt = tt };
  number = refl;
  each = numbers 3 0 1 2 (omega arith) (omega arith) (omega arith) (omega arith);
  new = λ there. not_there before_2 (look 0 (pos 3) (pos 0) (pos 1) (pos 2)) there.0 (λ e. omega (arith, ints, e), (λ e. omega (arith, ints, e), tt)) there.1 there.2;
  few = omega arith;
}

abbrev before_3 : List ApOp
before_3 = Input (pos 0) (pos 3) ∷ look 0 (pos 1) (pos 3) (pos 0) (pos 2) ∷ look 0 (pos 3) (pos 0) (pos 1) (pos 2) ∷ []

found_3 : IsFound before_3 (pos 0) ((2, pos 1) ∷ []) (pos 0 ∷ pos 1 ∷ pos 2 ∷ pos 3 ∷ [])
found_3 = record {
  form = form_of_leaf before_3 2 refl;
  starts = refl;
  many = record { lt = tt };
  number = refl;
  each = numbers 0 1 2 3 (omega arith) (omega arith) (omega arith) (omega arith);
  new = λ there. not_there before_3 (look 2 (pos 0) (pos 1) (pos 2) (pos 3)) there.0 (λ e. omega (arith, ints, e), (λ e. omega (arith, ints, e), (λ e. omega (arith, ints, e), tt))) there.1 there.2;
  few = omega arith;
}

abbrev before_4 : List ApOp
before_4 = Input (pos 0) (pos 3) ∷ look 0 (pos 1) (pos 3) (pos 0) (pos 2) ∷ look 0 (pos 3) (pos 0) (pos 1) (pos 2) ∷ look 2 (pos 0) (pos 1) (pos 2) (pos 3) ∷ []

found_4 : IsFound before_4 (pos 0) ((1, pos 1) ∷ []) (pos 2 ∷ pos 3 ∷ pos 1 ∷ pos 0 ∷ [])
found_4 = record {
  form = form_of_leaf before_4 1 refl;
  starts = refl;
  many = record { lt = tt };
  number = refl;
  each = numbers 2 3 1 0 (omega arith) (omega arith) (omega arith) (omega arith);
  new = λ there. not_there before_4 (look 1 (pos 2) (pos 3) (pos 1) (pos 0)) there.0 (λ e. omega (arith, ints, e), (λ e. omega (arith, ints, e), (λ e. omega (arith, ints, e), (λ e. omega (arith, ints, e), tt)))) there.1 there.2;
  few = omega arith;
}

abbrev before_5 : List ApOp
before_5 = Input (pos 0) (pos 3) ∷ look 0 (pos 1) (pos 3) (pos 0) (pos 2) ∷ look 0 (pos 3) (pos 0) (pos 1) (pos 2) ∷ look 2 (pos 0) (pos 1) (pos 2) (pos 3) ∷ look 1 (pos 2) (pos 3) (pos 1) (pos 0) ∷ []

found_5 : IsFound before_5 (pos 0) ((3, pos 1) ∷ []) (pos 5 ∷ pos 0 ∷ pos 0 ∷ pos 4 ∷ [])
found_5 = record {
  form = form_of_leaf before_5 3 refl;
  starts = refl;
  many = record { lt = tt };
  number = refl;
  each = numbers 5 0 0 4 (omega arith) (omega arith) (omega arith) (omega arith);
  new = λ there. not_there before_5 (look 3 (pos 5) (pos 0) (pos 0) (pos 4)) there.0 (λ e. omega (arith, ints, e), (λ e. omega (arith, ints, e), (λ e. omega (arith, ints, e), (λ e. omega (arith, ints, e), (λ e. omega (arith, ints, e), tt))))) there.1 there.2;
  few = omega arith;
}

abbrev leaves : List ApOp
leaves = Input (pos 0) (pos 3) ∷ look 0 (pos 1) (pos 3) (pos 0) (pos 2) ∷ look 0 (pos 3) (pos 0) (pos 1) (pos 2) ∷ look 2 (pos 0) (pos 1) (pos 2) (pos 3) ∷ look 1 (pos 2) (pos 3) (pos 1) (pos 0) ∷ look 3 (pos 5) (pos 0) (pos 0) (pos 4) ∷ []

in_range : (n : ℕ) → n ≤ 5 → IsNumberRange (pos 0) (pos n)
in_range n le = record { low = omega (arith, ints); rising = omega (arith, ints); high = omega (arith, ints, le) }

narrow_range : (n : ℕ) → n ≤ 5 → HoldsRanges most_width ((pos 0, pos n) ∷ [])
narrow_range n le = All-from_recursion (λ (range : ℤ × ℤ). span_of range <ℤ pos (2 ^ most_width)) ((pos 0, pos n) ∷ []) (omega (arith, ints, le), tt)

input_of_worked : IsInput [] (pos 0) (pos 3)
input_of_worked = record { first = λ k d lt. absurd (omega (arith, lt)); range = in_range 3 (omega arith); few = omega arith }

first_out : IsOut leaves (pos 0) ((5, pos 1) ∷ [])
first_out = record { form = form_of_leaf leaves 5 refl; range = in_range 5 (omega arith); few = omega arith }

second_out : IsOut (leaves ++ out 5 ∷ []) (pos 0) ((0, pos 1) ∷ [])
second_out = record { form = form_of_leaf (leaves ++ out 5 ∷ []) 0 refl; range = in_range 3 (omega arith); few = omega arith }

pub worked_is_found : AreFound worked
worked_is_found = record {
  rules = (input_of_worked, (found_1, (found_2, (found_3, (found_4, (found_5, (first_out, (second_out, tt))))))));
  outs_last = refl;
  some_out = omega arith;
  narrow = (
    λ k d lt. absurd (omega (arith, lt)),
    (narrow_range 3 (omega arith), (narrow_range 3 (omega arith), (narrow_range 3 (omega arith), (narrow_range 3 (omega arith), (narrow_range 3 (omega arith), (narrow_range 5 (omega arith), (narrow_range 3 (omega arith), tt))))))),
  );
}

-- what the test puts together is it
pub put_together : (inputs : List (ℤ × ℤ)) (looks : List Found) (outs : List Form) (first second third fourth fifth : Found) (last argument : Form) → inputs ≡ (pos 0, pos 3) ∷ [] → looks ≡ first ∷ second ∷ third ∷ fourth ∷ fifth ∷ [] → outs ≡ last ∷ argument ∷ []
    → look_op first ≡ look 0 (pos 1) (pos 3) (pos 0) (pos 2) → look_op second ≡ look 0 (pos 3) (pos 0) (pos 1) (pos 2) → look_op third ≡ look 2 (pos 0) (pos 1) (pos 2) (pos 3)
    → look_op fourth ≡ look 1 (pos 2) (pos 3) (pos 1) (pos 0) → look_op fifth ≡ look 3 (pos 5) (pos 0) (pos 0) (pos 4) → out_op last ≡ out 5 → out_op argument ≡ out 0
    → AreFound (map input_op inputs ++ map look_op looks ++ map out_op outs)
put_together inputs looks outs first second third fourth fifth last argument the_inputs the_looks the_outs one two three four five six seven =
    let same : map input_op inputs ++ map look_op looks ++ map out_op outs ≡ worked
    = ap (λ l. map input_op l ++ map look_op looks ++ map out_op outs) the_inputs
    ∙ ap (λ l. Input (pos 0) (pos 3) ∷ map look_op l ++ map out_op outs) the_looks
    ∙ ap (λ l. Input (pos 0) (pos 3) ∷ look_op first ∷ look_op second ∷ look_op third ∷ look_op fourth ∷ look_op fifth ∷ map out_op l) the_outs
    ∙ ap (λ o. Input (pos 0) (pos 3) ∷ o ∷ look_op second ∷ look_op third ∷ look_op fourth ∷ look_op fifth ∷ out_op last ∷ out_op argument ∷ []) one
    ∙ ap (λ o. Input (pos 0) (pos 3) ∷ look 0 (pos 1) (pos 3) (pos 0) (pos 2) ∷ o ∷ look_op third ∷ look_op fourth ∷ look_op fifth ∷ out_op last ∷ out_op argument ∷ []) two
    ∙ ap (λ o. Input (pos 0) (pos 3) ∷ look 0 (pos 1) (pos 3) (pos 0) (pos 2) ∷ look 0 (pos 3) (pos 0) (pos 1) (pos 2) ∷ o ∷ look_op fourth ∷ look_op fifth ∷ out_op last ∷ out_op argument ∷ []) three
    ∙ ap (λ o. Input (pos 0) (pos 3) ∷ look 0 (pos 1) (pos 3) (pos 0) (pos 2) ∷ look 0 (pos 3) (pos 0) (pos 1) (pos 2) ∷ look 2 (pos 0) (pos 1) (pos 2) (pos 3) ∷ o ∷ look_op fifth ∷ out_op last ∷ out_op argument ∷ []) four
    ∙ ap (λ o. Input (pos 0) (pos 3) ∷ look 0 (pos 1) (pos 3) (pos 0) (pos 2) ∷ look 0 (pos 3) (pos 0) (pos 1) (pos 2) ∷ look 2 (pos 0) (pos 1) (pos 2) (pos 3) ∷ look 1 (pos 2) (pos 3) (pos 1) (pos 0) ∷ o ∷ out_op last ∷ out_op argument ∷ []) five
    ∙ ap (λ o. leaves ++ o ∷ out_op argument ∷ []) six
    ∙ ap (λ o. leaves ++ out 5 ∷ o ∷ []) seven in
    subst AreFound (sym same) worked_is_found
