use Rattle.std.proofs.Common.{◌≡◌, ℕ, ◌+◌, ◌<◌, List, [], ◌∷◌, ◌++◌, length, take, All, sym, ap, subst, ◌∙◌, arith}
use Rattle.std.proofs.lemmas.List.{take_all}
use Rattle.fhe_params.specs.Params.{big_dimension}
use Rattle.tfhe_level.specs.Nodes.{nodes_of, at_outs}
use Rattle.circuit_run.specs.Rooms.{words_in}
use Rattle.circuit_run.proofs.OutLists.{outs_more, words_number, outs_long, some_words}
use Rattle.circuit_run.proofs.out_rows.outputs.Goals as goal

pub put_out-requires : goal.put_out-requires
put_out-requires c = subst (λ (row : List ℕ). 0 < length row) (sym c.big.ensures) (some_words c.args.circuit.now c.args.room.now c.loop-number.number c.node.result.now c.requires.room c.node.ensures.node)

pub loop-number-preserved : goal.loop-number-preserved
loop-number-preserved c =
    let circuit = c.args.circuit.now in
    let room = c.args.room.now in
    c.in_ok-put_out.ensures
    ∙ ap (λ (rows : List (List ℕ)). rows ++ at_outs (c.node.result.now ∷ []) (c.big.result.now ∷ [])) c.loop-number.invariant
    ∙ ap (λ (row : List ℕ). at_outs (take c.loop-number.number (nodes_of circuit.shape)) (take c.loop-number.number (words_in circuit room)) ++ at_outs (c.node.result.now ∷ []) (row ∷ [])) c.big.ensures
    ∙ sym (outs_more circuit room c.loop-number.number c.node.result.now c.requires.room c.node.ensures.node)

pub returns-clause-words : goal.returns-clause-words
returns-clause-words c =
    let circuit = c.args.circuit.now in
    let room = c.args.room.now in
    let number = c.loop-number.number in
    let nodes = take_all number (nodes_of circuit.shape) (omega (arith, c.node_count-number-end.ensures, c.loop-number-test.false)) in
    let words = take_all number (words_in circuit room) (omega (arith, words_number circuit room c.requires.room, c.node_count-number-end.ensures, c.loop-number-test.false)) in
    c.loop-number.invariant ∙ ap (λ ops. at_outs ops (take number (words_in circuit room))) nodes ∙ ap (at_outs (nodes_of circuit.shape)) words

pub returns-clause-long : goal.returns-clause-long
returns-clause-long c =
    let circuit = c.args.circuit.now in
    let room = c.args.room.now in
    let number = c.loop-number.number in
    let nodes = take_all number (nodes_of circuit.shape) (omega (arith, c.node_count-number-end.ensures, c.loop-number-test.false)) in
    let words = take_all number (words_in circuit room) (omega (arith, words_number circuit room c.requires.room, c.node_count-number-end.ensures, c.loop-number-test.false)) in
    let all = c.loop-number.invariant ∙ ap (λ ops. at_outs ops (take number (words_in circuit room))) nodes ∙ ap (at_outs (nodes_of circuit.shape)) words in
    subst (λ (rows : List (List ℕ)). All (λ row. length row ≡ big_dimension circuit.params + 1) rows) (sym all) (outs_long circuit room c.requires.room)
