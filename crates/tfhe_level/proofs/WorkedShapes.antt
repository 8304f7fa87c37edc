-- worked circuits keep the rules
use Rattle.std.proofs.Common.{ℕ, zero, suc, ◌≤◌, ◌^◌, pos, ◌-ℤ◌, ◌<ℤ◌, List, [], ◌∷◌, take, length, refl, arith}
use lib.IntN.{ℤ}
use Rattle.std.specs.Prelude.{IsTrue}
use Rattle.std.specs.List.{enumerate_from, AllByRecursion}
use Rattle.std.proofs.lemmas.Int.{ints}
use Rattle.std.proofs.lemmas.List.Elements.{All-nil, All-from_recursion}
use Rattle.tfhe_level.specs.declared.level.TfheOp.{TfheOp}
use Rattle.tfhe_level.specs.declared.level.TfheOp.TheVariants.{Input, Lin, Out}
use Rattle.tfhe_level.specs.declared.shape.Shape.{Shape}
use Rattle.tfhe_level.specs.Operations.{is_input}
use Rattle.forms.specs.Ranges.{IsNumber, HoldsRanges, IsLeastWidth}
use Rattle.tfhe_level.specs.Rules.{IsTerm, KeepRules, IsShape, message_ranges}
use Rattle.tfhe_level.proofs.Examples.{squares}

-- these operations, numbered by their places
abbrev shape_of : List TfheOp → ℕ → Shape
shape_of operations width = record {
  graph = record { list = enumerate_from 0 operations; made = length operations };
  width = width;
}

abbrev IsInput : TfheOp → Type 0
IsInput op = IsTrue (is_input op)

-- a range that a width holds
abbrev IsSpan : ℤ × ℤ → ℕ → Type 0
IsSpan range width = (range.1 -ℤ range.0) <ℤ pos (2 ^ width)

-- ---- the sum of two inputs

abbrev sum : List TfheOp
sum =
    Input (pos 0) (pos 1) ∷ Input (pos 0) (pos 2)
    ∷ Lin (pos 0) ((0, pos 1) ∷ (1, pos 1) ∷ [])
    ∷ Out 2 (pos 0) (pos 3)
    ∷ []

rules_of_sum : KeepRules sum [] sum
rules_of_sum = (
  record {
    first = All-nil IsInput;
    range = record { low = omega (arith, ints); rising = omega (arith, ints); high = omega (arith, ints) };
    few = omega arith;
  },
  (
    record {
      first = All-from_recursion IsInput (take 1 sum) (refl, tt);
      range = record { low = omega (arith, ints); rising = omega (arith, ints); high = omega (arith, ints) };
      few = omega arith;
    },
    (
      record {
        size = omega arith;
        each = All-from_recursion (IsTerm (take 2 sum)) ((0, pos 1) ∷ (1, pos 1) ∷ []) (
          record { leaf = refl; weight = λ e. omega (arith, ints, e); size = omega arith },
          (record { leaf = refl; weight = λ e. omega (arith, ints, e); size = omega arith }, tt),
        );
        rising = (omega arith, (omega arith, tt));
        few = omega arith;
      },
      (
        record {
          operand = refl;
          exact = refl;
          range = record { low = omega (arith, ints); rising = omega (arith, ints); high = omega (arith, ints) };
          few = omega arith;
        },
        tt,
      ),
    ),
  ),
)

least_of_sum : (other : ℕ) → 1 ≤ other → HoldsRanges other ((pos 0, pos 3) ∷ []) → 2 ≤ other
least_of_sum zero low holds = absurd (omega (arith, low))
least_of_sum (suc zero) low holds = let span : IsSpan (pos 0, pos 3) 1 = holds 0 (pos 0, pos 0) (omega arith) in absurd (omega (arith, ints, span))
least_of_sum (suc (suc other)) low holds = omega arith

width_of_sum : IsLeastWidth (message_ranges sum) 2
width_of_sum = record {
  low = omega arith;
  high = omega arith;
  holds = All-from_recursion (λ range. IsSpan range 2) ((pos 0, pos 3) ∷ []) (omega (arith, ints), tt);
  least = least_of_sum;
}

sum_is_shape : IsShape (shape_of sum 2)
sum_is_shape = record {
  placed = record { numbers = refl; next = refl };
  nodes = record { rules = rules_of_sum; outs_last = refl; some_out = omega arith };
  width = width_of_sum;
}

-- ---- a sum of three inputs, a key switch and a bootstrap

number : (n : ℕ) → n ≤ 9 → IsNumber (pos n)
number n small = record { low = omega (arith, ints); high = omega (arith, ints, small) }

abbrev entries : List ℤ
entries = pos 0 ∷ pos 1 ∷ pos 4 ∷ pos 9 ∷ pos 0 ∷ pos 9 ∷ pos 4 ∷ pos 1 ∷ pos 0 ∷ pos 1 ∷ pos 4 ∷ pos 9 ∷ pos 0 ∷ pos 9 ∷ pos 4 ∷ pos 1 ∷ []

numbers : AllByRecursion IsNumber entries
numbers =
    (number 0 (omega arith), (number 1 (omega arith), (number 4 (omega arith), (number 9 (omega arith), (number 0 (omega arith), (number 9 (omega arith), (number 4 (omega arith), (number 1 (omega arith), (number 0 (omega arith), (number 1 (omega arith), (number 4 (omega arith), (number 9 (omega arith), (number 0 (omega arith), (number 9 (omega arith), (number 4 (omega arith), (number 1 (omega arith), tt))))))))))))))))

rules_of_squares : KeepRules squares [] squares
rules_of_squares = (
  record {
    first = All-nil IsInput;
    range = record { low = omega (arith, ints); rising = omega (arith, ints); high = omega (arith, ints) };
    few = omega arith;
  },
  (
    record {
      first = All-from_recursion IsInput (take 1 squares) (refl, tt);
      range = record { low = omega (arith, ints); rising = omega (arith, ints); high = omega (arith, ints) };
      few = omega arith;
    },
    (
      record {
        first = All-from_recursion IsInput (take 2 squares) (refl, (refl, tt));
        range = record { low = omega (arith, ints); rising = omega (arith, ints); high = omega (arith, ints) };
        few = omega arith;
      },
      (
        record {
          size = omega arith;
          each = All-from_recursion (IsTerm (take 3 squares)) ((0, pos 1) ∷ (1, pos 2) ∷ (2, pos 3) ∷ []) (
            record { leaf = refl; weight = λ e. omega (arith, ints, e); size = omega arith },
            (
              record { leaf = refl; weight = λ e. omega (arith, ints, e); size = omega arith },
              (record { leaf = refl; weight = λ e. omega (arith, ints, e); size = omega arith }, tt),
            ),
          );
          rising = (omega arith, (omega arith, (omega arith, tt)));
          few = omega arith;
        },
        (
          record { operand = refl; starts = refl; used = refl; few = omega arith },
          (
            record { operand = refl; number = refl; each = All-from_recursion IsNumber entries numbers; few = omega arith },
            (
              record {
                operand = refl;
                exact = refl;
                range = record { low = omega (arith, ints); rising = omega (arith, ints); high = omega (arith, ints) };
                few = omega arith;
              },
              tt,
            ),
          ),
        ),
      ),
    ),
  ),
)

-- the key switch from 0 to 15 asks for four bits, and the out from 0 to 9 for no more
abbrev message_spans : List (ℤ × ℤ)
message_spans = (pos 0, pos 15) ∷ (pos 0, pos 9) ∷ []

least_of_squares : (other : ℕ) → 1 ≤ other → HoldsRanges other message_spans → 4 ≤ other
least_of_squares zero low holds = absurd (omega (arith, low))
least_of_squares (suc zero) low holds = let span : IsSpan (pos 0, pos 15) 1 = holds 0 (pos 0, pos 0) (omega arith) in absurd (omega (arith, ints, span))
least_of_squares (suc (suc zero)) low holds = let span : IsSpan (pos 0, pos 15) 2 = holds 0 (pos 0, pos 0) (omega arith) in absurd (omega (arith, ints, span))
least_of_squares (suc (suc (suc zero))) low holds = let span : IsSpan (pos 0, pos 15) 3 = holds 0 (pos 0, pos 0) (omega arith) in absurd (omega (arith, ints, span))
least_of_squares (suc (suc (suc (suc other)))) low holds = omega arith

width_of_squares : IsLeastWidth (message_ranges squares) 4
width_of_squares = record {
  low = omega arith;
  high = omega arith;
  holds = All-from_recursion (λ range. IsSpan range 4) message_spans (omega (arith, ints), (omega (arith, ints), tt));
  least = least_of_squares;
}

squares_is_shape : IsShape (shape_of squares 4)
squares_is_shape = record {
  placed = record { numbers = refl; next = refl };
  nodes = record { rules = rules_of_squares; outs_last = refl; some_out = omega arith };
  width = width_of_squares;
}
