-- The whole text: the lines that are read are spelled so, and lines that are spelled are read again.
use Rattle.std.proofs.Common.{◌≡◌, ℕ, ◌+◌, Bool, true, false, eqb, List, [], ◌∷◌, ◌++◌, length, Ok, Err, sym, ap, refl, ◌∙◌, append_assoc}
use Rattle.std.specs.Prelude.{codes}
use Rattle.std.specs.List.{flat_map, AllByRecursion}
use Rattle.std.proofs.lemmas.Bool.{eqb-true}
use Rattle.std.proofs.lemmas.List.{append-nil, nil_from_length}
use Rattle.std.proofs.lemmas.List.Elements.{All-from_recursion, recursion_from_All}
use Rattle.refusals.specs.Reading.{◌>>=◌, unless}
use Rattle.refusals.specs.Steps.{value_of_step, test_held}
use Rattle.circuit_lines.specs.declared.fault.Misspelled.{Misspelled}
use Rattle.circuit_lines.specs.declared.head.Head.{Head}
use Rattle.circuit_lines.specs.declared.line.Line.{Line}
use Rattle.circuit_lines.specs.declared.line.Line.TheVariants.{Input, Lin, Switch, Boot, Out}
use Rattle.circuit_lines.specs.Numbers.{Read, misspelled, literal_at}
use Rattle.circuit_lines.specs.Lines.{Lines, line_feed, field, last_field, head_text, line_text, text_of, IsNodeLine, IsOutLine, AreLines}
use Rattle.circuit_lines.specs.Many.{many}
use Rattle.circuit_lines.specs.Reading.{head_at, node_line_at, out_line_at, end_at, nodes_at, outs_at, lines_of}
use Rattle.circuit_lines.proofs.NumberTexts.{at_given, words_taken, words_again}
use Rattle.circuit_lines.proofs.HeadTexts.{head_taken, head_again}
use Rattle.circuit_lines.proofs.ManyTexts.{AreTaken, many_taken, many_again, fewer_items}
use Rattle.circuit_lines.proofs.NodeTexts.{MayAny, node_takes, node_reads, out_takes, out_reads, node_stops, node_stops_at_end, out_stops_at_end}

abbrev end_line : List ℕ
end_line = codes "end" ++ line_feed

end_held : (test : Bool) (fault : Misspelled) → unless test fault ≡ Ok tt → test ≡ true
end_held true fault e = refl
end_held false fault e = absurd cc

end_taken : (line : ℕ) (bytes : List ℕ) → end_at line bytes ≡ Ok tt → bytes ≡ end_line
unfolding end_at
end_taken line bytes e =
    let rest = value_of_step (literal_at line end_line bytes) (λ rest. unless (eqb (length rest) 0) (misspelled (line + 1))) tt e in
    let nothing = end_held (eqb (length rest.0) 0) (misspelled (line + 1)) rest.2 in
    let none : rest.0 ≡ [] = nil_from_length rest.0 (eqb-true (length rest.0) 0 nothing) in
    words_taken line end_line bytes rest.0 rest.1 ∙ ap (λ r. end_line ++ r) none ∙ append-nil end_line

end_again : (line : ℕ) → end_at line end_line ≡ Ok tt
unfolding end_at
end_again line = rw (ap (literal_at line end_line) (sym (append-nil end_line)) ∙ words_again line end_line []) refl

abbrev made : Head → List Line → List Line → Lines
made head nodes outs = record { head = head; nodes = nodes; outs = outs }

join_all : (bytes a b c d r1 r2 r3 : List ℕ) → bytes ≡ a ++ r1 → r1 ≡ b ++ r2 → r2 ≡ c ++ r3 → r3 ≡ d → bytes ≡ a ++ (b ++ (c ++ d))
join_all bytes a b c d r1 r2 r3 first second third fourth = first ∙ ap (λ r. a ++ r) (second ∙ ap (λ r. b ++ r) (third ∙ ap (λ r. c ++ r) fourth))

pub lines_taken : (bytes : List ℕ) (lines : Lines) → lines_of bytes ≡ Ok lines → AreLines lines × (bytes ≡ text_of lines)
unfolding lines_of nodes_at outs_at
lines_taken bytes lines e =
    let head = value_of_step (head_at bytes) (λ head. let nodes : List Line × List ℕ = many node_line_at (length head.1) 7 head.1 in let outs : List Line × List ℕ = many out_line_at (length nodes.1) (7 + length nodes.0) nodes.1 in end_at (7 + length nodes.0 + length outs.0) outs.1 >>= λ _. Ok (made head.0 nodes.0 outs.0)) lines e in
    let nodes : List Line × List ℕ = many node_line_at (length head.0.1) 7 head.0.1 in
    let outs : List Line × List ℕ = many out_line_at (length nodes.1) (7 + length nodes.0) nodes.1 in
    let end = value_of_step (end_at (7 + length nodes.0 + length outs.0) outs.1) (λ _. Ok (made head.0.0 nodes.0 outs.0)) lines head.2 in
    let t1 = head_taken bytes head.0 head.1 in
    let t2 = many_taken node_line_at line_text IsNodeLine node_takes (length head.0.1) 7 head.0.1 in
    let t3 = many_taken out_line_at line_text IsOutLine out_takes (length nodes.1) (7 + length nodes.0) nodes.1 in
    let t4 = end_taken (7 + length nodes.0 + length outs.0) outs.1 end.1 in
    let whole : bytes ≡ text_of (made head.0.0 nodes.0 outs.0) = join_all bytes (head_text head.0.0) (flat_map line_text nodes.0) (flat_map line_text outs.0) end_line head.0.1 nodes.1 outs.1 t1.0 t2.parts t3.parts t4 in
    at_given (λ l. AreLines l × (bytes ≡ text_of l)) (made head.0.0 nodes.0 outs.0) lines end.2 (record { head = t1.1; nodes = All-from_recursion IsNodeLine nodes.0 t2.rules; outs = All-from_recursion IsOutLine outs.0 t3.rules }, whole)

-- no node's line begins where the outs or the end begin
nodes_stop : (outs : List Line) → AllByRecursion IsOutLine outs → (line : ℕ) → node_line_at line (flat_map line_text outs ++ end_line) ≡ Err (misspelled line)
nodes_stop [] all line = node_stops_at_end line_feed line
nodes_stop (Input number lo hi ∷ outs) all line = absurd all.0
nodes_stop (Lin number constant terms ∷ outs) all line = absurd all.0
nodes_stop (Switch number source ∷ outs) all line = absurd all.0
nodes_stop (Boot number source entries ∷ outs) all line = absurd all.0
nodes_stop (Out source lo hi ∷ outs) all line = node_stops _ line

outs_stop : (line : ℕ) → out_line_at line end_line ≡ Err (misspelled line)
outs_stop line = out_stops_at_end line_feed line

pub lines_again : (lines : Lines) → AreLines lines → lines_of (text_of lines) ≡ Ok lines
unfolding lines_of nodes_at outs_at
lines_again lines are =
    let nodes_each : AllByRecursion IsNodeLine lines.nodes = recursion_from_All IsNodeLine lines.nodes are.nodes in
    let outs_each : AllByRecursion IsOutLine lines.outs = recursion_from_All IsOutLine lines.outs are.outs in
    let outs_text : List ℕ = flat_map line_text lines.outs ++ end_line in
    let nodes_text : List ℕ = flat_map line_text lines.nodes ++ outs_text in
    let nodes : many node_line_at (length nodes_text) 7 nodes_text ≡ (lines.nodes, outs_text) =
    many_again node_line_at line_text IsNodeLine MayAny node_reads outs_text tt misspelled (nodes_stop lines.outs outs_each) (length nodes_text) 7 lines.nodes (fewer_items line_text IsNodeLine node_reads.long lines.nodes outs_text nodes_each) nodes_each in
    let outs : many out_line_at (length outs_text) (7 + length lines.nodes) outs_text ≡ (lines.outs, end_line) =
    many_again out_line_at line_text IsOutLine MayAny out_reads end_line tt misspelled outs_stop (length outs_text) (7 + length lines.nodes) lines.outs (fewer_items line_text IsOutLine out_reads.long lines.outs end_line outs_each) outs_each in
    rw (head_again lines.head nodes_text are.head, nodes, outs, end_again (7 + length lines.nodes + length lines.outs)) refl
