-- The patterns of one look-up keep their rules.
use Rattle.std.proofs.Common.{◌≡◌, ◌≢◌, ℕ, ◌≤◌, ◌^◌, List, [], ◌∷◌, refl, sym, subst, arith, ℤ, pos}
use Prim.Native.Nat.{zero, suc}
use Rattle.std.specs.Prelude.{Contains, ◌<ℤ◌}
use Rattle.std.specs.List.{AllByRecursion}
use Rattle.std.proofs.lemmas.Int.{ints}
use Rattle.std.proofs.lemmas.List.Elements.{All-from_recursion, recursion_from_All}
use Rattle.ir_core.specs.Placed.{IsPlaced}
use Rattle.forms.specs.Forms.{span_of}
use Rattle.forms.specs.Ranges.{IsNumber, IsLeastWidth}
use Rattle.ap_level.specs.declared.level.ApOp.{ApOp}
use Rattle.ap_level.specs.declared.level.ApOp.TheVariants.{Input, Look, Out}
use Rattle.ap_level.specs.declared.program.ApProgram.{ApProgram}
use Rattle.ap_level.specs.Patterns.{patterns_of}
use Rattle.ap_level.specs.Rules.{IsTerm, IsForm, IsInput, IsLook, IsOut, ArePatterns, message_ranges, IsApProgram}

-- an argument from 0 to 3, a table, and its entry as the result
abbrev pub one_look : List ApOp
one_look =
    Input (pos 0) (pos 3)
    ∷ Look (pos 0) ((0, pos 1) ∷ []) (pos 1 ∷ pos 3 ∷ pos 0 ∷ pos 2 ∷ [])
    ∷ Out (pos 0) ((1, pos 1) ∷ [])
    ∷ []

one_is_weight : ◌≢◌ {A = ℤ} (pos 1) (pos 0)
one_is_weight same = omega (arith, ints, same)

number : (n : ℕ) → n ≤ 3 → IsNumber (pos n)
number n small = record { low = omega (arith, ints); high = omega (arith, ints, small) }

input_keeps : IsInput [] (pos 0) (pos 3)
input_keeps = record {
  first = λ k d below. absurd (omega arith);
  range = record { low = omega (arith, ints); rising = omega (arith, ints); high = omega (arith, ints) };
  few = omega arith;
}

look_form : IsForm (Input (pos 0) (pos 3) ∷ []) (pos 0) ((0, pos 1) ∷ [])
look_form = record {
  size = omega arith;
  each = All-from_recursion (IsTerm (Input (pos 0) (pos 3) ∷ [])) ((0, pos 1) ∷ []) (record { leaf = refl; weight = one_is_weight; size = omega arith }, tt);
  rising = (omega arith, tt);
}

not_there : Contains (Input (pos 0) (pos 3) ∷ []) (Look (pos 0) ((0, pos 1) ∷ []) (pos 1 ∷ pos 3 ∷ pos 0 ∷ pos 2 ∷ [])) → ⊥
not_there (zero, below, same) = cc
not_there (suc k, below, same) = omega (arith, below)

look_keeps : IsLook one_look (Input (pos 0) (pos 3) ∷ []) (pos 0) ((0, pos 1) ∷ []) (pos 1 ∷ pos 3 ∷ pos 0 ∷ pos 2 ∷ [])
look_keeps = record {
  form = look_form;
  starts = refl;
  many = omega (arith, ints);
  number = refl;
  each = All-from_recursion IsNumber (pos 1 ∷ pos 3 ∷ pos 0 ∷ pos 2 ∷ []) (number 1 (omega arith), (number 3 (omega arith), (number 0 (omega arith), (number 2 (omega arith), tt))));
  new = not_there;
  used = refl;
  few = omega arith;
}

out_keeps : IsOut (Input (pos 0) (pos 3) ∷ Look (pos 0) ((0, pos 1) ∷ []) (pos 1 ∷ pos 3 ∷ pos 0 ∷ pos 2 ∷ []) ∷ []) (pos 0) ((1, pos 1) ∷ [])
out_keeps = record {
  form = record {
    size = omega arith;
    each = All-from_recursion (IsTerm (Input (pos 0) (pos 3) ∷ Look (pos 0) ((0, pos 1) ∷ []) (pos 1 ∷ pos 3 ∷ pos 0 ∷ pos 2 ∷ []) ∷ [])) ((1, pos 1) ∷ []) (record { leaf = refl; weight = one_is_weight; size = omega arith }, tt);
    rising = (omega arith, tt);
  };
  range = record { low = omega (arith, ints); rising = omega (arith, ints); high = omega (arith, ints) };
  few = omega arith;
}

one_look_keeps : ArePatterns one_look
one_look_keeps = record { rules = (input_keeps, (look_keeps, (out_keeps, tt))); outs_last = refl; some_out = omega arith }

two_bits_fit : (other : ℕ) → 1 ≤ other → AllByRecursion (λ range. span_of range <ℤ pos (2 ^ other)) ((pos 0, pos 3) ∷ (pos 0, pos 3) ∷ []) → 2 ≤ other
two_bits_fit zero some holds = absurd (omega arith)
two_bits_fit (suc zero) some holds = absurd (omega (arith, ints, holds.0))
two_bits_fit (suc (suc other)) some holds = omega arith

one_look_width : IsLeastWidth (message_ranges one_look) 2
one_look_width = record {
  low = omega arith;
  high = omega arith;
  holds = All-from_recursion (λ (range : ℤ × ℤ). span_of range <ℤ pos (2 ^ 2)) ((pos 0, pos 3) ∷ (pos 0, pos 3) ∷ []) (omega (arith, ints), (omega (arith, ints), tt));
  least = λ other some holds. two_bits_fit other some (recursion_from_All (λ (range : ℤ × ℤ). span_of range <ℤ pos (2 ^ other)) ((pos 0, pos 3) ∷ (pos 0, pos 3) ∷ []) holds);
}

pub one_look_is : (program : ApProgram) → IsPlaced program.graph → patterns_of program ≡ one_look → program.width ≡ 2 → IsApProgram program
one_look_is program placed same width = record {
  placed = placed;
  patterns = subst ArePatterns (sym same) one_look_keeps;
  width = subst (IsLeastWidth (message_ranges (patterns_of program))) (sym width) (subst (λ l. IsLeastWidth (message_ranges l) 2) (sym same) one_look_width);
}
