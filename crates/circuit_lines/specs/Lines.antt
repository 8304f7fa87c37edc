-- The lines of a circuit text, and the one spelling of each.
use Rattle.std.specs.Prelude.{ℕ, ◌≢◌, List, [], ◌∷◌, ◌++◌, codes, All, ℤ}
use Rattle.std.specs.List.{flat_map}
use Rattle.std.specs.Fmt.{signed_decimal}
use Rattle.circuit_lines.specs.declared.head.GlweNumbers.{GlweNumbers}
use Rattle.circuit_lines.specs.declared.head.LweNumbers.{LweNumbers}
use Rattle.circuit_lines.specs.declared.head.GadgetNumbers.{GadgetNumbers}
use Rattle.circuit_lines.specs.declared.head.Head.{Head}
use Rattle.circuit_lines.specs.declared.line.Line.{Line}
use Rattle.circuit_lines.specs.declared.line.Line.TheVariants.{Input, Lin, Switch, Boot, Out}
use Rattle.circuit_lines.specs.Numbers.{IsShort}

-- the lines of a circuit text, the title and the line of `end` aside
pub record Lines : Type 0 where
  pub head : Head
  pub nodes : List Line
  pub outs : List Line

-- ---- spelling

-- a line feed
abbrev pub line_feed : List ℕ
line_feed = 10 ∷ []

-- a number behind these words
abbrev pub field : List ℕ → ℤ → List ℕ
field words number = words ++ signed_decimal number

-- the last number of a line
abbrev pub last_field : List ℕ → ℤ → List ℕ
last_field words number = words ++ (signed_decimal number ++ line_feed)

-- the parameter line of the ring
abbrev pub glwe_line : GlweNumbers → List ℕ
glwe_line g =
    field (codes "glwe ") g.k
    ++ (field (codes " ") g.log_n ++ (field (codes " ") g.ones ++ last_field (codes " ") g.error))

-- the parameter line of small ciphertexts
abbrev pub lwe_line : LweNumbers → List ℕ
lwe_line l = field (codes "lwe ") l.n ++ (field (codes " ") l.ones ++ last_field (codes " ") l.error)

-- a parameter line of digits
abbrev pub gadget_line : List ℕ → GadgetNumbers → List ℕ
gadget_line name g = field name g.base ++ last_field (codes " ") g.level

-- the four parameter lines
abbrev pub params_lines : Head → List ℕ
params_lines h =
    glwe_line h.glwe ++ (lwe_line h.lwe ++ (gadget_line (codes "boot ") h.boot ++ gadget_line (codes "switch ") h.switch))

-- the lines before the nodes
abbrev pub head_text : Head → List ℕ
head_text h = (codes "fhec circuit 1" ++ line_feed) ++ (last_field (codes "width ") h.width ++ params_lines h)

-- a term: its weight, and the number of its operand
abbrev pub term_text : ℤ × ℤ → List ℕ
term_text t = field (codes " ") t.1 ++ field (codes " %") t.0

-- an entry of a table
abbrev pub entry_text : ℤ → List ℕ
entry_text entry = field (codes " ") entry

-- the line of a node or of an out
abbrev pub line_text : Line → List ℕ
line_text (Input number lo hi) = field (codes "%") number ++ (field (codes " = input ") lo ++ last_field (codes " ") hi)
line_text (Lin number constant terms) =
    field (codes "%") number ++ (field (codes " = lin ") constant ++ (flat_map term_text terms ++ line_feed))
line_text (Switch number source) = field (codes "%") number ++ last_field (codes " = switch %") source
line_text (Boot number source entries) =
    field (codes "%") number ++ (field (codes " = boot %") source ++ (flat_map entry_text entries ++ line_feed))
line_text (Out source lo hi) = field (codes "out %") source ++ (field (codes " ") lo ++ last_field (codes " ") hi)

-- the whole text of lines
abbrev pub text_of : Lines → List ℕ
text_of lines =
    head_text lines.head
    ++ (flat_map line_text lines.nodes ++ (flat_map line_text lines.outs ++ (codes "end" ++ line_feed)))

-- ---- what can be spelled

-- the numbers of the lines before the nodes have at most so many digits
pub record IsShortHead (h : Head) : Type 0 where
  pub width : IsShort h.width
  pub k : IsShort h.glwe.k
  pub log_n : IsShort h.glwe.log_n
  pub big_ones : IsShort h.glwe.ones
  pub big_error : IsShort h.glwe.error
  pub n : IsShort h.lwe.n
  pub small_ones : IsShort h.lwe.ones
  pub small_error : IsShort h.lwe.error
  pub boot_base : IsShort h.boot.base
  pub boot_level : IsShort h.boot.level
  pub switch_base : IsShort h.switch.base
  pub switch_level : IsShort h.switch.level

-- so have those of a term
abbrev pub IsShortTerm : ℤ × ℤ → Type 0
IsShortTerm t = IsShort t.0 × IsShort t.1

-- a line of a node, with numbers of at most so many digits: a table has an entry
abbrev pub IsNodeLine : Line → Type 0
IsNodeLine (Input number lo hi) = IsShort number × IsShort lo × IsShort hi
IsNodeLine (Lin number constant terms) = IsShort number × IsShort constant × All IsShortTerm terms
IsNodeLine (Switch number source) = IsShort number × IsShort source
IsNodeLine (Boot number source entries) = IsShort number × IsShort source × (entries ≢ []) × All IsShort entries
IsNodeLine (Out source lo hi) = ⊥

-- a line of an out
abbrev pub IsOutLine : Line → Type 0
IsOutLine (Out source lo hi) = IsShort source × IsShort lo × IsShort hi
IsOutLine _ = ⊥

-- lines that can be spelled, each in its place
pub record AreLines (lines : Lines) : Type 0 where
  pub head : IsShortHead lines.head
  pub nodes : All IsNodeLine lines.nodes
  pub outs : All IsOutLine lines.outs
