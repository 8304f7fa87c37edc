-- What holds of the lines of a circuit text.
use Rattle.std.specs.Prelude.{◌≡◌, ℕ, List, ◌++◌, Ok}
use Rattle.circuit_lines.specs.declared.head.Head.{Head}
use Rattle.circuit_lines.specs.declared.line.Line.{Line}
use Rattle.circuit_lines.specs.Lines.{Lines, AreLines, head_text, line_text, text_of}
use Rattle.circuit_lines.specs.Reading.{head_at, node_line_at, out_line_at, lines_of}

-- reading the lines of a text and spelling lines are inverse to each other
pub record LineLaws : Type 0 where
  -- what is read is spelled so, each byte of it
  pub read : (bytes : List ℕ) (lines : Lines) → lines_of bytes ≡ Ok lines → AreLines lines × (bytes ≡ text_of lines)
  -- lines that can be spelled are read from their text
  pub spelled : (lines : Lines) → AreLines lines → lines_of (text_of lines) ≡ Ok lines

-- what is read at the front of a text stands spelled there, before the bytes that are left
pub record FrontLaws : Type 0 where
  -- the lines before the nodes,
  pub head : (bytes : List ℕ) (x : Head × List ℕ) → head_at bytes ≡ Ok x → bytes ≡ head_text x.0 ++ x.1
  -- the line of a node,
  pub node : (line : ℕ) (bytes : List ℕ) (x : Line × List ℕ) → node_line_at line bytes ≡ Ok x
      → bytes ≡ line_text x.0 ++ x.1
  -- and that of an out
  pub out : (line : ℕ) (bytes : List ℕ) (x : Line × List ℕ) → out_line_at line bytes ≡ Ok x
      → bytes ≡ line_text x.0 ++ x.1
