-- What holds of the lines of a circuit's nodes and of their rules.
use Rattle.std.specs.Prelude.{◌≡◌, ◌↔◌, ℕ, ℤ, ◌+◌, ◌≤◌, List, [], ◌∷◌, length, map, All, Option, None, IsTrue}
use Rattle.circuit_lines.specs.declared.line.Line.{Line}
use Rattle.forms.specs.Ranges.{IsLeastWidth}
use Rattle.tfhe_level.specs.Rules.{KeepRules}
use Rattle.circuit_nodes.specs.Tests.{is_least_width}
use Rattle.circuit_nodes.specs.Lines.{op_of, is_numbered, are_natural, broken_line}
use Rattle.circuit_nodes.specs.Walk.{start, walk_from, broken_place, most_operations}

-- the lines in their order, each with the number of its place
abbrev pub AreNumbered : ℕ → List Line → Type 0
AreNumbered place [] = Unit {0}
AreNumbered place (line ∷ lines) = IsTrue (is_numbered place line) × AreNumbered (place + 1) lines

-- one walk over the lines finds what the rules ask of all of them
pub record LineLaws : Type 0 where
  -- no more operations are kept than a circuit has at most
  pub few : (lines : List Line) → length (walk_from start lines).operations ≤ most_operations
  -- the first line that breaks its rule is found
  pub found : (lines : List Line) → broken_place (walk_from start lines) ≡ broken_line lines
  -- where none does, the operations are those of the lines,
  pub operations : (lines : List Line) → broken_line lines ≡ None → (walk_from start lines).operations ≡ map op_of lines
  -- which keep the rules of circuits,
  pub rules : (lines : List Line) → broken_line lines ≡ None → KeepRules (map op_of lines) [] (map op_of lines)
  -- each line has its number,
  pub numbers : (lines : List Line) → broken_line lines ≡ None → AreNumbered 0 lines
  -- and no operand is a number below 0
  pub natural : (lines : List Line) → broken_line lines ≡ None → All (λ line. IsTrue (are_natural line)) lines
  -- lines with their numbers, whose operands are no numbers below 0 and whose operations keep the rules, break none
  pub kept : (lines : List Line) → AreNumbered 0 lines → All (λ line. IsTrue (are_natural line)) lines
      → KeepRules (map op_of lines) [] (map op_of lines) → broken_line lines ≡ None

-- the test of the least width is that of its rule
pub record WidthLaws : Type 0 where
  -- it holds where the width is the least
  pub test : (ranges : List (ℤ × ℤ)) (width : ℕ) → IsTrue (is_least_width ranges width) ↔ IsLeastWidth ranges width
