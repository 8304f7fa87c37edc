-- Lines that are numbered, with no operand below 0, are those of their operations.
use Rattle.std.proofs.Common.{◌≡◌, ℕ, ◌+◌, ◌≤◌, Bool, true, false, cond, ◌&&◌, List, [], ◌∷◌, ◌++◌, length, map, filter, ℤ, pos, int_le, ap, sym, refl, ◌∙◌, arith, append_assoc}
use Rattle.std.specs.Prelude.{IsTrue, unsigned_abs, not, codes, count_by}
use Rattle.std.specs.List.{list_all, flat_map, AllByRecursion}
use Rattle.std.specs.Ordering.{int_eq}
use Rattle.std.proofs.lemmas.Bool.{and_parts}
use Rattle.std.proofs.lemmas.Bool.Decides.{Decides-int_eq}
use Rattle.std.proofs.lemmas.List.{map-append, append-nil}
use Rattle.std.proofs.lemmas.List.Elements.{filter-append}
use Rattle.std.proofs.lemmas.List.Sums.{sum_by-append, sum_by-cons}
use Rattle.std.proofs.lemmas.Grind.{flat_map-append}
use Rattle.circuit_lines.specs.declared.line.Line.{Line}
use Rattle.circuit_lines.specs.declared.line.Line.TheVariants.{Input as InputLine, Lin as LinLine, Switch as SwitchLine, Boot as BootLine, Out as OutLine}
use Rattle.circuit_lines.specs.Lines.{Lines, line_feed, head_text, line_text, text_of, IsNodeLine, IsOutLine}
use Rattle.tfhe_level.specs.declared.level.TfheOp.{TfheOp}
use Rattle.tfhe_level.specs.Operations.{is_out}
use Rattle.circuit_nodes.specs.Lines.{op_of, is_numbered, are_natural}
use Rattle.circuit_nodes.specs.Laws.{AreNumbered}
use Rattle.circuit_file.specs.Params.{is_natural}
use Rattle.circuit_file.specs.Text.{line_of_op, op_lines, ops_text}
use Rattle.circuit_file.proofs.ParamsBack.{natural_back}

-- ---- one line

same_number : (number : ℕ) (z : ℤ) → IsTrue (int_eq z (pos number)) → pos number ≡ z
same_number number z e = sym ((Decides-int_eq z (pos number)).0 e)

terms_back : (terms : List (ℤ × ℤ)) → list_all (λ t. int_le (pos 0) t.0) terms ≡ true → map (λ (t : ℕ × ℤ). (pos t.0, t.1)) (map (λ (t : ℤ × ℤ). (unsigned_abs t.0, t.1)) terms) ≡ terms
terms_back [] e = refl
terms_back (t ∷ terms) e =
    let a = and_parts (int_le (pos 0) t.0) (list_all (λ t. int_le (pos 0) t.0) terms) e in
    rw (natural_back t.0 a.0, terms_back terms a.1) refl

op_back : (number : ℕ) (line : Line) → IsTrue (is_numbered number line) → IsTrue (are_natural line) → line_of_op number (op_of line) ≡ line
op_back number (InputLine own lo hi) numbered natural = rw (same_number number own numbered) refl
op_back number (LinLine own constant terms) numbered natural = rw (same_number number own numbered, terms_back terms natural) refl
op_back number (SwitchLine own source) numbered natural = rw (same_number number own numbered, natural_back source natural) refl
op_back number (BootLine own source entries) numbered natural = rw (same_number number own numbered, natural_back source natural) refl
op_back number (OutLine source lo hi) numbered natural = rw (natural_back source natural) refl

-- ---- all lines

pub lines_back : (number : ℕ) (lines : List Line) → AreNumbered number lines → AllByRecursion (λ line. IsTrue (are_natural line)) lines → op_lines number (map op_of lines) ≡ lines
lines_back number [] numbered natural = refl
lines_back number (line ∷ lines) numbered natural = rw (op_back number line numbered.0 natural.0, lines_back (number + 1) lines numbered.1 natural.1) refl

-- the text of lines in two parts
pub text_back : (lines : Lines) (ops : List TfheOp) → op_lines 0 ops ≡ lines.nodes ++ lines.outs → head_text lines.head ++ (ops_text 0 ops ++ (codes "end" ++ line_feed)) ≡ text_of lines
unfolding ops_text
text_back lines ops same =
    let end : List ℕ = codes "end" ++ line_feed in
    let nodes : List ℕ = flat_map line_text lines.nodes in
    let outs : List ℕ = flat_map line_text lines.outs in
    let parts : flat_map line_text (op_lines 0 ops) ++ end ≡ nodes ++ (outs ++ end) = ap (λ ls. flat_map line_text ls ++ end) same ∙ ap (λ bs. bs ++ end) (flat_map-append line_text lines.nodes lines.outs) ∙ append_assoc nodes outs end in
    ap (λ bs. head_text lines.head ++ bs) parts

-- ---- the outs stand last

node_no_out : (line : Line) → IsNodeLine line → is_out (op_of line) ≡ false
node_no_out (InputLine own lo hi) is = refl
node_no_out (LinLine own constant terms) is = refl
node_no_out (SwitchLine own source) is = refl
node_no_out (BootLine own source entries) is = refl
node_no_out (OutLine source lo hi) is = absurd is

out_is_out : (line : Line) → IsOutLine line → is_out (op_of line) ≡ true
out_is_out (InputLine own lo hi) is = absurd is
out_is_out (LinLine own constant terms) is = absurd is
out_is_out (SwitchLine own source) is = absurd is
out_is_out (BootLine own source entries) is = absurd is
out_is_out (OutLine source lo hi) is = refl

abbrev pub no_out : TfheOp → Bool
no_out op = not (is_out op)

nodes_kept : (lines : List Line) → AllByRecursion IsNodeLine lines → (filter no_out (map op_of lines) ≡ map op_of lines) × (filter is_out (map op_of lines) ≡ [])
nodes_kept [] all = (refl, refl)
nodes_kept (line ∷ lines) all =
    let later = nodes_kept lines all.1 in
    (rw (node_no_out line all.0, later.0) refl, rw (node_no_out line all.0, later.1) refl)

outs_kept : (lines : List Line) → AllByRecursion IsOutLine lines → (filter no_out (map op_of lines) ≡ []) × (filter is_out (map op_of lines) ≡ map op_of lines)
outs_kept [] all = (refl, refl)
outs_kept (line ∷ lines) all =
    let later = outs_kept lines all.1 in
    (rw (out_is_out line all.0, later.0) refl, rw (out_is_out line all.0, later.1) refl)

pub outs_last : (nodes outs : List Line) → AllByRecursion IsNodeLine nodes → AllByRecursion IsOutLine outs → map op_of (nodes ++ outs) ≡ filter no_out (map op_of (nodes ++ outs)) ++ filter is_out (map op_of (nodes ++ outs))
outs_last nodes outs all_nodes all_outs =
    let a = nodes_kept nodes all_nodes in
    let b = outs_kept outs all_outs in
    let parts = map-append op_of nodes outs in
    let first : filter no_out (map op_of (nodes ++ outs)) ≡ map op_of nodes = ap (λ os. filter no_out os) parts ∙ filter-append no_out (map op_of nodes) (map op_of outs) ∙ rw (a.0, b.0) (append-nil (map op_of nodes)) in
    let last : filter is_out (map op_of (nodes ++ outs)) ≡ map op_of outs = ap (λ os. filter is_out os) parts ∙ filter-append is_out (map op_of nodes) (map op_of outs) ∙ rw (a.1, b.1) refl in
    parts ∙ rw (first, last) refl

counted_outs : (outs : List Line) → AllByRecursion IsOutLine outs → count_by is_out (map op_of outs) ≡ length outs
counted_outs [] all = refl
counted_outs (line ∷ outs) all =
    let one : ◌≡◌ {A = ℕ} (cond (is_out (op_of line)) 1 0) 1 = rw (out_is_out line all.0) refl in
    omega (arith, sum_by-cons (λ x. cond (is_out x) 1 0) (op_of line) (map op_of outs), one, counted_outs outs all.1)

pub some_out : (nodes outs : List Line) → AllByRecursion IsOutLine outs → 1 ≤ length outs → 1 ≤ count_by is_out (map op_of (nodes ++ outs))
some_out nodes outs all some =
    omega (arith, ap (λ os. count_by is_out os) (map-append op_of nodes outs), sum_by-append (λ x. cond (is_out x) 1 0) (map op_of nodes) (map op_of outs), counted_outs outs all, some)
