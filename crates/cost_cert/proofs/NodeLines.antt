-- The lines of nodes, one operation more.
use Rattle.std.proofs.Common.{◌≡◌, ℕ, ◌+◌, List, [], ◌∷◌, ◌++◌, ◌≤◌, length, take, sym, ap, ◌∙◌, arith, append_assoc}
use Rattle.std.specs.Prelude.{slice_get, Some}
use Rattle.std.specs.List.{flat_map, enumerate_from}
use Rattle.std.proofs.lemmas.List.{append-nil, take_more, take_all, length-take-le}
use Rattle.std.proofs.lemmas.Option.{slice_get_within, get_or_from_slice_get}
use Rattle.std.proofs.lemmas.Grind.{flat_map-append}
use Rattle.tfhe_level.specs.declared.level.TfheOp.{TfheOp}
use Rattle.cost_cert.specs.Certificate.{node_line, nodes_text}

enumerate_push : (n : ℕ) (ops : List TfheOp) (op : TfheOp) → enumerate_from n (ops ++ op ∷ []) ≡ enumerate_from n ops ++ (n + length ops, op) ∷ []
enumerate_push n [] op = let same : n ≡ n + 0 = omega arith in ap (λ m. (m, op) ∷ []) same
enumerate_push n (x ∷ ops) op =
    let same : n + 1 + length ops ≡ n + length (x ∷ ops) = omega arith in
    ap (λ rest. (n, x) ∷ rest) (enumerate_push (n + 1) ops op ∙ ap (λ m. enumerate_from (n + 1) ops ++ (m, op) ∷ []) same)

-- a text with the line of one operation more
pub nodes_more : (bounds : List ℕ) (ops : List TfheOp) (i : ℕ) (op : TfheOp) (text start : List ℕ) → slice_get ops i ≡ Some op → text ≡ start ++ nodes_text bounds (take i ops)
    → text ++ node_line bounds (i, op) ≡ start ++ nodes_text bounds (take (i + 1) ops)
nodes_more bounds ops i op text start is so_far =
    let within = slice_get_within ops i op is in
    let more : take (i + 1) ops ≡ take i ops ++ op ∷ [] = take_more ops i op within ∙ ap (λ x. take i ops ++ x ∷ []) (get_or_from_slice_get ops i op op is) in
    let number : 0 + length (take i ops) ≡ i = omega (arith, length-take-le i ops (omega (arith, within))) in
    let entries : enumerate_from 0 (take (i + 1) ops) ≡ enumerate_from 0 (take i ops) ++ (i, op) ∷ [] =
    ap (λ l. enumerate_from 0 l) more ∙ enumerate_push 0 (take i ops) op ∙ ap (λ m. enumerate_from 0 (take i ops) ++ (m, op) ∷ []) number in
    let push : nodes_text bounds (take (i + 1) ops) ≡ nodes_text bounds (take i ops) ++ node_line bounds (i, op) =
    ap (λ l. flat_map (node_line bounds) l) entries
    ∙ flat_map-append (node_line bounds) (enumerate_from 0 (take i ops)) ((i, op) ∷ [])
    ∙ ap (λ t. nodes_text bounds (take i ops) ++ t) (append-nil (node_line bounds (i, op))) in
    ap (λ t. t ++ node_line bounds (i, op)) so_far ∙ append_assoc start (nodes_text bounds (take i ops)) (node_line bounds (i, op)) ∙ ap (λ t. start ++ t) (sym push)

pub nodes_none : (bounds text : List ℕ) → text ≡ text ++ nodes_text bounds []
nodes_none bounds text = sym (append-nil text)

pub nodes_whole : (bounds : List ℕ) (ops : List TfheOp) (i : ℕ) (text start : List ℕ) → text ≡ start ++ nodes_text bounds (take i ops) → length ops ≤ i → text ≡ start ++ nodes_text bounds ops
nodes_whole bounds ops i text start so_far over = so_far ∙ ap (λ l. start ++ nodes_text bounds l) (take_all i ops over)
