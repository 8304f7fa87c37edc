-- The lines of operations, one operation more.
use Rattle.std.proofs.Common.{◌≡◌, ℕ, ◌+◌, List, [], ◌∷◌, ◌++◌, ◌<◌, length, take, Option, sym, ap, refl, ◌∙◌, arith, append_assoc}
use Rattle.std.specs.Prelude.{slice_get, Some}
use Rattle.std.specs.List.{flat_map}
use Rattle.std.proofs.lemmas.List.{append-nil, take_more, length-take-le}
use Rattle.std.proofs.lemmas.Option.{slice_get_within, get_or_from_slice_get}
use Rattle.std.proofs.lemmas.Grind.{flat_map-append}
use Rattle.circuit_lines.specs.declared.line.Line.{Line}
use Rattle.circuit_lines.specs.Lines.{line_text}
use Rattle.tfhe_level.specs.declared.level.TfheOp.{TfheOp}
use Rattle.circuit_file.specs.Text.{line_of_op, op_lines, ops_text}

op_lines_push : (number : ℕ) (ops : List TfheOp) (op : TfheOp) → op_lines number (ops ++ op ∷ []) ≡ op_lines number ops ++ line_of_op (number + length ops) op ∷ []
op_lines_push number [] op = let same : number + 0 ≡ number = omega arith in rw same refl
op_lines_push number (x ∷ ops) op =
    let same : number + length (x ∷ ops) ≡ number + 1 + length ops = omega arith in
    rw same (ap (λ ls. line_of_op number x ∷ ls) (op_lines_push (number + 1) ops op))

one_text : (line : Line) → flat_map line_text (line ∷ []) ≡ line_text line
one_text line = append-nil (line_text line)

-- the text of one operation more
pub text_push : (number : ℕ) (ops : List TfheOp) (op : TfheOp) → ops_text number (ops ++ op ∷ []) ≡ ops_text number ops ++ line_text (line_of_op (number + length ops) op)
unfolding ops_text
text_push number ops op =
    ap (λ ls. flat_map line_text ls) (op_lines_push number ops op)
    ∙ flat_map-append line_text (op_lines number ops) (line_of_op (number + length ops) op ∷ [])
    ∙ ap (λ bs. flat_map line_text (op_lines number ops) ++ bs) (one_text (line_of_op (number + length ops) op))

pub text_none : (text : List ℕ) → text ≡ text ++ ops_text 0 []
unfolding ops_text
text_none text = sym (append-nil text)

-- a text with the line of one operation more
pub text_more : (ops : List TfheOp) (i : ℕ) (op : TfheOp) (text start : List ℕ) → slice_get ops i ≡ Some op → text ≡ start ++ ops_text 0 (take i ops)
    → text ++ line_text (line_of_op i op) ≡ start ++ ops_text 0 (take (i + 1) ops)
text_more ops i op text start is so_far =
    let within = slice_get_within ops i op is in
    let more : take (i + 1) ops ≡ take i ops ++ op ∷ [] = take_more ops i op within ∙ ap (λ x. take i ops ++ x ∷ []) (get_or_from_slice_get ops i op op is) in
    let number : 0 + length (take i ops) ≡ i = omega (arith, length-take-le i ops (omega (arith, within))) in
    let push : ops_text 0 (take (i + 1) ops) ≡ ops_text 0 (take i ops) ++ line_text (line_of_op i op) = ap (λ os. ops_text 0 os) more ∙ text_push 0 (take i ops) op ∙ ap (λ n. ops_text 0 (take i ops) ++ line_text (line_of_op n op)) number in
    ap (λ t. t ++ line_text (line_of_op i op)) so_far ∙ append_assoc start (ops_text 0 (take i ops)) (line_text (line_of_op i op)) ∙ ap (λ t. start ++ t) (sym push)
