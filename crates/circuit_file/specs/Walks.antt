-- Going over the lines of a text, part by part.
use Rattle.std.specs.Prelude.{ℕ, ◌+◌, List, ◌++◌, length, Ok}
use Rattle.refusals.specs.Reading.{◌>>=◌}
use Rattle.circuit_lines.specs.declared.line.Line.{Line}
use Rattle.circuit_lines.specs.Numbers.{Read as ReadLine}
use Rattle.circuit_lines.specs.Lines.{Lines}
use Rattle.circuit_lines.specs.Many.{many}
use Rattle.circuit_lines.specs.Reading.{head_at, node_line_at, out_line_at, end_at}
use Rattle.circuit_nodes.specs.Walk.{Walk, start, walk_from}
use Rattle.circuit_file.specs.declared.walks.Part.{Part}
use Rattle.circuit_file.specs.declared.walks.Part.TheVariants.{Nodes, Outs}
use Rattle.circuit_file.specs.declared.walks.WalkedLines.{WalkedLines}
use Rattle.circuit_file.specs.Faults.{Read, as_spelling}

-- a line of a part
abbrev pub line_at : Part → ℕ → List ℕ → ReadLine (Line × List ℕ)
line_at Nodes = node_line_at
line_at Outs = out_line_at

-- the lines of a part, as many as stand there from this line on
abbrev pub lines_at : Part → ℕ → List ℕ → List Line × List ℕ
lines_at part line bytes = many (line_at part) (length bytes) line bytes

-- the walk after them, how many they are, and the bytes after them
abbrev pub walked : Part → Walk → ℕ → List ℕ → Walk × ℕ × List ℕ
walked part walk line bytes =
    (walk_from walk (lines_at part line bytes).0, length (lines_at part line bytes).0, (lines_at part line bytes).1)

-- what is known after the walk over these lines
abbrev pub walked_lines : Lines → WalkedLines
walked_lines lines = record {
  head = lines.head;
  walk = walk_from start (lines.nodes ++ lines.outs);
  nodes = length lines.nodes;
  outs = length lines.outs;
}

-- the same, from one part of the text to the next
unfoldable pub walked_text : List ℕ → Read WalkedLines
walked_text bytes = do
  head ← as_spelling (head_at bytes)
  let nodes : Walk × ℕ × List ℕ = walked Nodes start 7 head.1
  let outs : Walk × ℕ × List ℕ = walked Outs nodes.0 (7 + nodes.1) nodes.2
  end ← as_spelling (end_at (7 + nodes.1 + outs.1) outs.2)
  Ok (record { head = head.0; walk = outs.0; nodes = nodes.1; outs = outs.1 })
