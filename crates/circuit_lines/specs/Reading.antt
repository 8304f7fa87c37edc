-- Reading the lines of a circuit text, one after the other.
use Rattle.std.specs.Prelude.{ℕ, ◌+◌, ◌==◌, nat_lt, List, [], ◌∷◌, ◌++◌, codes, length, drop, Ok, Err, ℤ, if◌then◌else◌}
use Rattle.circuit_lines.specs.declared.head.GlweNumbers.{GlweNumbers}
use Rattle.circuit_lines.specs.declared.head.LweNumbers.{LweNumbers}
use Rattle.circuit_lines.specs.declared.head.GadgetNumbers.{GadgetNumbers}
use Rattle.circuit_lines.specs.declared.head.Head.{Head}
use Rattle.circuit_lines.specs.declared.line.Line.{Line}
use Rattle.circuit_lines.specs.declared.line.Line.TheVariants.{Input, Lin, Switch, Boot, Out}
use Rattle.refusals.specs.Reading.{◌>>=◌, unless}
use Rattle.circuit_lines.specs.Numbers.{Read, misspelled, begins, literal_at, number_at, field_at}
use Rattle.circuit_lines.specs.Lines.{Lines, line_feed}
use Rattle.circuit_lines.specs.Many.{many}

-- the literal text, and the last number of a line
unfoldable pub last_field_at : ℕ → List ℕ → List ℕ → Read (ℤ × List ℕ)
last_field_at line literal bytes = do
  number ← field_at line literal bytes
  rest ← literal_at line line_feed number.1
  Ok (number.0, rest)

-- ---- the lines before the nodes

-- the title and the width
unfoldable pub width_at : List ℕ → Read (ℤ × List ℕ)
width_at bytes = do
  rest ← literal_at 1 (codes "fhec circuit 1" ++ line_feed) bytes
  last_field_at 2 (codes "width ") rest

-- the parameter line of the ring
unfoldable pub glwe_at : List ℕ → Read (GlweNumbers × List ℕ)
glwe_at bytes = do
  k ← field_at 3 (codes "glwe ") bytes
  log_n ← field_at 3 (codes " ") k.1
  ones ← field_at 3 (codes " ") log_n.1
  error ← last_field_at 3 (codes " ") ones.1
  Ok (record { k = k.0; log_n = log_n.0; ones = ones.0; error = error.0 }, error.1)

-- the parameter line of small ciphertexts
unfoldable pub lwe_at : List ℕ → Read (LweNumbers × List ℕ)
lwe_at bytes = do
  n ← field_at 4 (codes "lwe ") bytes
  ones ← field_at 4 (codes " ") n.1
  error ← last_field_at 4 (codes " ") ones.1
  Ok (record { n = n.0; ones = ones.0; error = error.0 }, error.1)

-- a parameter line of digits
unfoldable pub gadget_at : ℕ → List ℕ → List ℕ → Read (GadgetNumbers × List ℕ)
gadget_at line name bytes = do
  base ← field_at line name bytes
  level ← last_field_at line (codes " ") base.1
  Ok (record { base = base.0; level = level.0 }, level.1)

-- the first six lines
unfoldable pub head_at : List ℕ → Read (Head × List ℕ)
head_at bytes = do
  width ← width_at bytes
  glwe ← glwe_at width.1
  lwe ← lwe_at glwe.1
  boot ← gadget_at 5 (codes "boot ") lwe.1
  switch ← gadget_at 6 (codes "switch ") boot.1
  Ok (record { width = width.0; glwe = glwe.0; lwe = lwe.0; boot = boot.0; switch = switch.0 }, switch.1)

-- ---- nodes and outs

-- an input, behind its word
unfoldable pub input_at : ℕ → ℤ → List ℕ → Read (Line × List ℕ)
input_at line number bytes = do
  lo ← number_at line bytes
  hi ← last_field_at line (codes " ") lo.1
  Ok (Input number lo.0 hi.0, hi.1)

-- a term: its weight stands before the number of its operand
unfoldable pub term_at : ℕ → List ℕ → Read ((ℤ × ℤ) × List ℕ)
term_at line bytes = do
  weight ← field_at line (codes " ") bytes
  operand ← field_at line (codes " %") weight.1
  Ok ((operand.0, weight.0), operand.1)

-- the terms, as many as stand there: each has a byte at least
unfoldable pub terms_at : ℕ → List ℕ → Read (List (ℤ × ℤ) × List ℕ)
terms_at line bytes = Ok (many (λ _. term_at line) (length bytes) 0 bytes)

-- a weighted sum, behind its word
unfoldable pub lin_at : ℕ → ℤ → List ℕ → Read (Line × List ℕ)
lin_at line number bytes = do
  constant ← number_at line bytes
  terms ← terms_at line constant.1
  rest ← literal_at line line_feed terms.1
  Ok (Lin number constant.0 terms.0, rest)

-- a key switch, behind its word
unfoldable pub switch_at : ℕ → ℤ → List ℕ → Read (Line × List ℕ)
switch_at line number bytes = do
  source ← number_at line bytes
  rest ← literal_at line line_feed source.1
  Ok (Switch number source.0, rest)

-- the entries of a table, as many as stand there
unfoldable pub entries_at : ℕ → List ℕ → Read (List ℤ × List ℕ)
entries_at line bytes = Ok (many (λ _. field_at line (codes " ")) (length bytes) 0 bytes)

-- a bootstrap, behind its word: there is an entry
unfoldable pub boot_at : ℕ → ℤ → List ℕ → Read (Line × List ℕ)
boot_at line number bytes = do
  source ← number_at line bytes
  entries ← entries_at line source.1
  some ← unless (nat_lt 0 (length entries.0)) (misspelled line)
  rest ← literal_at line line_feed entries.1
  Ok (Boot number source.0 entries.0, rest)

-- what stands behind the number of a node
unfoldable pub form_at : ℕ → ℤ → List ℕ → Read (Line × List ℕ)
form_at line number bytes =
    if begins (codes "input ") bytes then input_at line number (drop 6 bytes)
    else if begins (codes "lin ") bytes then lin_at line number (drop 4 bytes)
    else if begins (codes "switch %") bytes then switch_at line number (drop 8 bytes)
    else if begins (codes "boot %") bytes then boot_at line number (drop 6 bytes)
    else Err (misspelled line)

-- the line of a node
unfoldable pub node_line_at : ℕ → List ℕ → Read (Line × List ℕ)
node_line_at line bytes = do
  number ← field_at line (codes "%") bytes
  rest ← literal_at line (codes " = ") number.1
  form_at line number.0 rest

-- the line of an out
unfoldable pub out_line_at : ℕ → List ℕ → Read (Line × List ℕ)
out_line_at line bytes = do
  source ← field_at line (codes "out %") bytes
  lo ← field_at line (codes " ") source.1
  hi ← last_field_at line (codes " ") lo.1
  Ok (Out source.0 lo.0 hi.0, hi.1)

-- the line of `end`, after which nothing stands
unfoldable pub end_at : ℕ → List ℕ → Read (Unit {0})
end_at line bytes = do
  rest ← literal_at line (codes "end" ++ line_feed) bytes
  unless (length rest == 0) (misspelled (line + 1))

-- ---- the whole

-- the lines of nodes, as many as stand there, from the seventh line on
unfoldable pub nodes_at : List ℕ → List Line × List ℕ
nodes_at bytes = many node_line_at (length bytes) 7 bytes

-- the lines of outs, from this line on
unfoldable pub outs_at : ℕ → List ℕ → List Line × List ℕ
outs_at line bytes = many out_line_at (length bytes) line bytes

-- the lines that a text spells, or the first that has none of the forms of its place
unfoldable pub lines_of : List ℕ → Read Lines
lines_of bytes = do
  head ← head_at bytes
  let nodes : List Line × List ℕ = nodes_at head.1 in
      let outs : List Line × List ℕ = outs_at (7 + length nodes.0) nodes.1 in
      end_at (7 + length nodes.0 + length outs.0) outs.1 >>= λ _. Ok (record { head = head.0; nodes = nodes.0; outs = outs.0 })
