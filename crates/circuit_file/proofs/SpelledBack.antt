-- A circuit that keeps the rules is read from its text.
use Rattle.std.proofs.Common.{◌≡◌, ◌≢◌, ℕ, suc, ◌+◌, ◌<◌, ◌≤◌, ◌^◌, Bool, true, false, cond, ◌&&◌, eqb, ltb, List, [], ◌∷◌, ◌++◌, length, map, filter, All, Option, Ok, Err, ℤ, pos, int_le, ap, sym, refl, ◌∙◌, subst, arith, append_assoc, ◌*◌, mul-le-mul}
use Rattle.std.specs.Prelude.{Some, None, IsTrue, IsNone, unsigned_abs, not, codes, count_by}
use Rattle.std.specs.List.{enumerate_from, AllByRecursion, list_all, flat_map}
use Rattle.std.specs.Ordering.{int_eq}
use Rattle.std.proofs.lemmas.Bool.{lt-ltb, le-leb}
use Rattle.std.proofs.lemmas.Bool.Decides.{Decides-int_eq}
use Rattle.std.proofs.lemmas.List.{length-map, append-nil}
use Rattle.std.proofs.lemmas.List.Sums.{length-filter, count_by-le-length}
use Rattle.std.proofs.lemmas.List.Elements.{recursion_from_All, All-from_recursion}
use Rattle.refusals.specs.Reading.{◌>>=◌, unless}
use Rattle.ir_core.specs.Graph.{Operations}
use Rattle.ir_core.specs.Placed.{operations_of as graph_operations, IsPlaced}
use Rattle.forms.specs.Laws.{FormLaws}
use Rattle.fhe_params.specs.declared.params.Params.{Params}
use Rattle.fhe_params.specs.Params.{IsParams, IsGlwe, IsLwe, IsGadget}
use Rattle.fhe_params.specs.declared.params.Gadget.{Gadget}
use Rattle.tfhe_level.specs.declared.level.TfheOp.{TfheOp}
use Rattle.tfhe_level.specs.declared.level.TfheOp.TheVariants.{Input, Lin, Switch, Boot, Out}
use Rattle.tfhe_level.specs.declared.shape.Circuit.{Circuit}
use Rattle.tfhe_level.specs.Operations.{is_out}
use Rattle.tfhe_level.specs.Nodes.{nodes_of}
use Rattle.tfhe_level.specs.Rules.{KeepRules, message_ranges}
use Rattle.tfhe_level.specs.Laws.{NodeLaws}
use Rattle.noise_model.specs.declared.constraints.Broken.{Broken}
use Rattle.noise_model.specs.Constraints.{first_broken_of}
use Rattle.circuit_lines.specs.declared.line.Line.{Line}
use Rattle.circuit_lines.specs.Numbers.{IsShort}
use Rattle.circuit_lines.specs.Lines.{Lines, line_feed, head_text, text_of, IsShortHead, IsShortTerm, IsNodeLine, IsOutLine, AreLines}
use Rattle.circuit_lines.specs.Reading.{lines_of}
use Rattle.circuit_nodes.specs.Tests.{is_least_width}
use Rattle.circuit_nodes.specs.Lines.{op_of, is_numbered, are_natural, broken_line}
use Rattle.circuit_nodes.specs.Walk.{start, walk_from, most_operations}
use Rattle.circuit_nodes.specs.Laws.{AreNumbered}
use Rattle.circuit_file.specs.declared.fault.CircuitKind.TheVariants.{Node, Width}
use Rattle.circuit_file.specs.Faults.{Read, fault_at, as_spelling}
use Rattle.circuit_file.specs.Params.{params_of}
use Rattle.circuit_file.specs.Circuit.{first_node, no_broken_line, operations_of, is_width, no_constraint, graph_of, made, circuit_of}
use Rattle.noise_model.specs.Circuits.{IsCircuit}
use Rattle.circuit_file.specs.Text.{head_of, line_of_op, op_lines, ops_text, circuit_text}
use Rattle.circuit_file.proofs.Limits.{few_ones}
use Rattle.circuit_file.proofs.ParamsBack.{params_again, natural_number}
use Rattle.circuit_file.proofs.LinesBack.{no_out, text_back}
use Rattle.circuit_file.proofs.ReadBack.{Below}
use Rattle.circuit_file.proofs.SmallOps.{IsSmallTerm, IsSmallNumber, IsSmall, HasEntries, small_ops, some_entries}

-- ---- the lines of operations

pub op_lines_append : (number : ℕ) (ops others : List TfheOp) → op_lines number (ops ++ others) ≡ op_lines number ops ++ op_lines (number + length ops) others
op_lines_append number [] others = let same : number + 0 ≡ number = omega arith in rw same refl
op_lines_append number (op ∷ ops) others =
    let same : number + length (op ∷ ops) ≡ number + 1 + length ops = omega arith in
    rw same (ap (λ ls. line_of_op number op ∷ ls) (op_lines_append (number + 1) ops others))

terms_again : (terms : List (ℕ × ℤ)) → map (λ (t : ℤ × ℤ). (unsigned_abs t.0, t.1)) (map (λ (t : ℕ × ℤ). (pos t.0, t.1)) terms) ≡ terms
terms_again [] = refl
terms_again (t ∷ terms) = ap (λ ts. t ∷ ts) (terms_again terms)

op_again : (number : ℕ) (op : TfheOp) → op_of (line_of_op number op) ≡ op
op_again number (Input lo hi) = refl
op_again number (Lin constant terms) = ap (λ ts. Lin constant ts) (terms_again terms)
op_again number (Switch source) = refl
op_again number (Boot source entries) = refl
op_again number (Out source lo hi) = refl

pub ops_again : (number : ℕ) (ops : List TfheOp) → map op_of (op_lines number ops) ≡ ops
ops_again number [] = refl
ops_again number (op ∷ ops) = rw (op_again number op, ops_again (number + 1) ops) refl

same_numbers : (number : ℕ) → IsTrue (int_eq (pos number) (pos number))
same_numbers number = (Decides-int_eq (pos number) (pos number)).1 refl

line_numbered : (number : ℕ) (op : TfheOp) → IsTrue (is_numbered number (line_of_op number op))
line_numbered number (Input lo hi) = same_numbers number
line_numbered number (Lin constant terms) = same_numbers number
line_numbered number (Switch source) = same_numbers number
line_numbered number (Boot source entries) = same_numbers number
line_numbered number (Out source lo hi) = refl

lines_numbered : (number : ℕ) (ops : List TfheOp) → AreNumbered number (op_lines number ops)
lines_numbered number [] = tt
lines_numbered number (op ∷ ops) = (line_numbered number op, lines_numbered (number + 1) ops)

terms_natural : (terms : List (ℕ × ℤ)) → list_all (λ (t : ℤ × ℤ). int_le (pos 0) t.0) (map (λ (t : ℕ × ℤ). (pos t.0, t.1)) terms) ≡ true
terms_natural [] = refl
terms_natural (t ∷ terms) = rw (natural_number t.0, terms_natural terms) refl

line_natural : (number : ℕ) (op : TfheOp) → IsTrue (are_natural (line_of_op number op))
line_natural number (Input lo hi) = refl
line_natural number (Lin constant terms) = terms_natural terms
line_natural number (Switch source) = natural_number source
line_natural number (Boot source entries) = natural_number source
line_natural number (Out source lo hi) = natural_number source

lines_natural : (number : ℕ) (ops : List TfheOp) → AllByRecursion (λ line. IsTrue (are_natural line)) (op_lines number ops)
lines_natural number [] = tt
lines_natural number (op ∷ ops) = (line_natural number op, lines_natural (number + 1) ops)

-- no line breaks its rule
none_breaks : (B : Below) (ops : List TfheOp) → KeepRules ops [] ops → broken_line (op_lines 0 ops) ≡ None
none_breaks B ops keep =
    B.lines.kept (op_lines 0 ops) (lines_numbered 0 ops) (All-from_recursion (λ line. IsTrue (are_natural line)) (op_lines 0 ops) (lines_natural 0 ops))
    (subst (λ os. KeepRules os [] os) (sym (ops_again 0 ops)) keep)

-- so there are few of them
pub few_operations : (B : Below) (ops : List TfheOp) → KeepRules ops [] ops → length ops ≤ most_operations
few_operations B ops keep =
    let walked = B.lines.operations (op_lines 0 ops) (none_breaks B ops keep) ∙ ops_again 0 ops in
    subst (λ os. length os ≤ most_operations) walked (B.lines.few (op_lines 0 ops))

-- ---- they can be spelled

short_size : (z : ℤ) → unsigned_abs z ≤ 2 ^ 63 → IsShort z
short_size z size = omega (arith, size)

short_entries : (entries : List ℤ) → AllByRecursion IsSmallNumber entries → AllByRecursion IsShort entries
short_entries [] all = tt
short_entries (e ∷ entries) all = (short_size e (omega (arith, all.0.size)), short_entries entries all.1)

short_terms : (n : ℕ) (terms : List (ℕ × ℤ)) → n ≤ 2 ^ 32 → AllByRecursion (IsSmallTerm n) terms → AllByRecursion IsShortTerm (map (λ (t : ℕ × ℤ). (pos t.0, t.1)) terms)
short_terms n [] few all = tt
short_terms n (t ∷ terms) few all = ((short_size (pos t.0) (omega (arith, few, all.0.leaf)), short_size t.1 (omega (arith, all.0.weight))), short_terms n terms few all.1)

some_entry : (entries : List ℤ) → 1 ≤ length entries → entries ≢ []
some_entry [] some = absurd (omega (arith, some))
some_entry (e ∷ entries) some = λ none. absurd (let e = none in cc)

node_line : (n number : ℕ) (op : TfheOp) → n ≤ 2 ^ 32 → number ≤ 2 ^ 32 → is_out op ≡ false → IsSmall n op → HasEntries (λ k. 1 ≤ k) op → IsNodeLine (line_of_op number op)
node_line n number (Input lo hi) few le inner is some = (short_size (pos number) (omega (arith, le)), short_size lo (omega (arith, is.0.size)), short_size hi (omega (arith, is.1.size)))
node_line n number (Lin constant terms) few le inner is some =
    (short_size (pos number) (omega (arith, le)), short_size constant (omega (arith, is.0)), All-from_recursion IsShortTerm (map (λ (t : ℕ × ℤ). (pos t.0, t.1)) terms) (short_terms n terms few is.1))
node_line n number (Switch source) few le inner is some = (short_size (pos number) (omega (arith, le)), short_size (pos source) (omega (arith, few, is)))
node_line n number (Boot source entries) few le inner is some =
    (short_size (pos number) (omega (arith, le)), short_size (pos source) (omega (arith, few, is.0)), some_entry entries some, All-from_recursion IsShort entries (short_entries entries is.1))
node_line n number (Out source lo hi) few le inner is some = absurd (let e = inner in cc)

out_line : (n number : ℕ) (op : TfheOp) → n ≤ 2 ^ 32 → is_out op ≡ true → IsSmall n op → IsOutLine (line_of_op number op)
out_line n number (Input lo hi) few out is = absurd (let e = out in cc)
out_line n number (Lin constant terms) few out is = absurd (let e = out in cc)
out_line n number (Switch source) few out is = absurd (let e = out in cc)
out_line n number (Boot source entries) few out is = absurd (let e = out in cc)
out_line n number (Out source lo hi) few out is = (short_size (pos source) (omega (arith, few, is.0)), short_size lo (omega (arith, is.1.size)), short_size hi (omega (arith, is.2.size)))

node_lines : (n number : ℕ) (ops : List TfheOp) → n ≤ 2 ^ 32 → number + length ops ≤ 2 ^ 32 → AllByRecursion (λ op. is_out op ≡ false) ops → AllByRecursion (IsSmall n) ops → AllByRecursion (HasEntries (λ k. 1 ≤ k)) ops
    → AllByRecursion IsNodeLine (op_lines number ops)
node_lines n number [] few le inner small some = tt
node_lines n number (op ∷ ops) few le inner small some =
    (node_line n number op few (omega (arith, le)) inner.0 small.0 some.0, node_lines n (number + 1) ops few (omega (arith, le)) inner.1 small.1 some.1)

out_lines : (n number : ℕ) (ops : List TfheOp) → n ≤ 2 ^ 32 → AllByRecursion (λ op. is_out op ≡ true) ops → AllByRecursion (IsSmall n) ops → AllByRecursion IsOutLine (op_lines number ops)
out_lines n number [] few out small = tt
out_lines n number (op ∷ ops) few out small = (out_line n number op few out.0 small.0, out_lines n (number + 1) ops few out.1 small.1)

-- a list in two parts
pub split_all : {A : Type 0} (P : A → Type 0) (xs ys : List A) → AllByRecursion P (xs ++ ys) → AllByRecursion P xs × AllByRecursion P ys
split_all P [] ys all = (tt, all)
split_all P (x ∷ xs) ys all = let later = split_all P xs ys all.1 in ((all.0, later.0), later.1)

add_kept : {A : Type 0} (P : A → Type 0) (test : Bool) (x : A) (xs : List A) → (test ≡ true → P x) → AllByRecursion P xs → AllByRecursion P (cond test (x ∷ xs) xs)
add_kept P true x xs is all = (is refl, all)
add_kept P false x xs is all = all

all_kept : {A : Type 0} (p : A → Bool) (xs : List A) → AllByRecursion (λ x. p x ≡ true) (filter p xs)
all_kept p [] = tt
all_kept p (x ∷ xs) = add_kept (λ y. p y ≡ true) (p x) x (filter p xs) (λ e. e) (all_kept p xs)

not_true : (test : Bool) → not test ≡ true → test ≡ false
not_true false e = refl
not_true true e = absurd (let e = e in cc)

none_out : (ops : List TfheOp) → AllByRecursion (λ op. no_out op ≡ true) ops → AllByRecursion (λ op. is_out op ≡ false) ops
none_out [] all = tt
none_out (op ∷ ops) all = (not_true (is_out op) all.0, none_out ops all.1)

pub level_most : (base level : ℕ) → 1 ≤ base → base * level ≤ 63 → level ≤ 63
level_most base level low bits = let product : 1 * level ≤ base * level = mul-le-mul low (omega arith) in omega (arith, product, bits)

short_gadget : (g : Gadget) → IsGadget g → IsShort (pos g.base) × IsShort (pos g.level)
short_gadget g is =
    let level : g.level ≤ 63 = level_most g.base g.level is.base_low is.bits in
    (short_size (pos g.base) (omega (arith, is.base_high)), short_size (pos g.level) (omega (arith, level)))

short_head : (width : ℕ) (p : Params) → width ≤ 16 → IsParams p → IsShortHead (head_of width p)
short_head width p low is =
    let g = is.glwe in
    let l = is.lwe in
    let boot = short_gadget p.boot is.boot in
    let switch = short_gadget p.switch is.switch in
    record {
      width = short_size (pos width) (omega (arith, low));
      k = short_size (pos p.glwe.k) (omega (arith, g.k_high));
      log_n = short_size (pos p.glwe.log_n) (omega (arith, g.log_n_high));
      big_ones = short_size (pos p.glwe.ones) (omega (arith, few_ones p.glwe.k p.glwe.log_n p.glwe.ones g.k_high g.log_n_high g.ones));
      big_error = short_size (pos p.glwe.error) (omega (arith, g.error));
      n = short_size (pos p.lwe.n) (omega (arith, l.n_high));
      small_ones = short_size (pos p.lwe.ones) (omega (arith, l.ones, l.n_high));
      small_error = short_size (pos p.lwe.error) (omega (arith, l.error));
      boot_base = boot.0;
      boot_level = boot.1;
      switch_base = switch.0;
      switch_level = switch.1;
    }

-- ---- the lines of a circuit

abbrev lines_in : Circuit → Lines
lines_in c =
    let ops : List TfheOp = nodes_of c.shape in
    record {
      head = head_of c.shape.width c.params;
      nodes = op_lines 0 (filter no_out ops);
      outs = op_lines (length (filter no_out ops)) (filter is_out ops);
    }

all_lines : (c : Circuit) → nodes_of c.shape ≡ filter no_out (nodes_of c.shape) ++ filter is_out (nodes_of c.shape) → op_lines 0 (nodes_of c.shape) ≡ (lines_in c).nodes ++ (lines_in c).outs
all_lines c last =
    let ops = nodes_of c.shape in
    let count : 0 + length (filter no_out ops) ≡ length (filter no_out ops) = omega arith in
    ap (λ os. op_lines 0 os) last ∙ op_lines_append 0 (filter no_out ops) (filter is_out ops) ∙ ap (λ k. op_lines 0 (filter no_out ops) ++ op_lines k (filter is_out ops)) count

pub are_lines : FormLaws → NodeLaws → (B : Below) → (c : Circuit) → IsCircuit c → AreLines (lines_in c)
are_lines F N B c is =
    let ops = nodes_of c.shape in
    let few = few_operations B ops is.shape.nodes.rules in
    let last = is.shape.nodes.outs_last in
    let small = split_all (IsSmall most_operations) (filter no_out ops) (filter is_out ops) (subst (λ os. AllByRecursion (IsSmall most_operations) os) last (small_ops most_operations ops [] ops (omega (arith, few)) is.shape.nodes.rules)) in
    let some = split_all (HasEntries (λ k. 1 ≤ k)) (filter no_out ops) (filter is_out ops) (subst (λ os. AllByRecursion (HasEntries (λ k. 1 ≤ k)) os) last (some_entries F N ops is.shape.nodes.rules)) in
    let number : length (filter no_out ops) ≤ length ops = omega (arith, length-filter no_out ops, count_by-le-length no_out ops) in
    record {
      head = short_head c.shape.width c.params is.shape.width.high is.params;
      nodes = All-from_recursion IsNodeLine (lines_in c).nodes (node_lines most_operations 0 (filter no_out ops) (omega arith) (omega (arith, number, few)) (none_out (filter no_out ops) (all_kept no_out ops)) small.0 some.0);
      outs = All-from_recursion IsOutLine (lines_in c).outs (out_lines most_operations (length (filter no_out ops)) (filter is_out ops) (omega arith) (all_kept is_out ops) small.1);
    }

-- ---- reading them

abbrev graph_with : List (ℕ × TfheOp) → ℕ → Operations TfheOp
graph_with list made = record { list = list; made = made }

graph_again : (g : Operations TfheOp) → IsPlaced g → graph_of (graph_operations g) ≡ g
graph_again g is =
    ap (λ l. graph_with l (length (graph_operations g))) (sym is.numbers)
    ∙ ap (λ n. graph_with g.list n) (length-map g.list (λ (e : ℕ × TfheOp). e.1) ∙ sym is.next)

abbrev of_graph : Operations TfheOp → ℕ → Params → Circuit
of_graph graph width params = record { shape = record { graph = graph; width = width }; params = params }

circuit_again : (c : Circuit) → IsPlaced c.shape.graph → made (nodes_of c.shape) c.shape.width c.params ≡ c
circuit_again c is = ap (λ (g : Operations TfheOp). of_graph g c.shape.width c.params) (graph_again c.shape.graph is)

none_of : (found : Option Broken) → IsNone found → found ≡ None
none_of None is = refl
none_of (Some b) is = absurd (let e = is in cc)

many_lines : (number : ℕ) (ops : List TfheOp) → length (op_lines number ops) ≡ length ops
many_lines number [] = refl
many_lines number (op ∷ ops) = ap (λ n. suc n) (many_lines (number + 1) ops)

-- the operations of these lines are those of the circuit
operations_again : (B : Below) (c : Circuit) → IsCircuit c → operations_of (lines_in c) ≡ Ok (nodes_of c.shape)
unfolding operations_of
operations_again B c is =
    let ops = nodes_of c.shape in
    let nodes = is.shape.nodes in
    let all = all_lines c nodes.outs_last in
    let none : broken_line ((lines_in c).nodes ++ (lines_in c).outs) ≡ None = ap (λ ls. broken_line ls) (sym all) ∙ none_breaks B ops nodes.rules in
    let outs : 1 ≤ length (lines_in c).outs = omega (arith, many_lines (length (filter no_out ops)) (filter is_out ops), length-filter is_out ops, nodes.some_out) in
    let same : map op_of ((lines_in c).nodes ++ (lines_in c).outs) ≡ ops = ap (λ ls. map op_of ls) (sym all) ∙ ops_again 0 ops in
    rw (none, lt-ltb 0 (length (lines_in c).outs) (omega (arith, outs)), same) refl

pub spelled_back : FormLaws → NodeLaws → (B : Below) → (c : Circuit) → IsCircuit c → circuit_of (circuit_text c) ≡ Ok c
unfolding circuit_of circuit_text
spelled_back F N B c is =
    let ops = nodes_of c.shape in
    let lines = lines_in c in
    let text = text_back lines ops (all_lines c is.shape.nodes.outs_last) in
    let read : lines_of (head_text lines.head ++ (ops_text 0 ops ++ (codes "end" ++ line_feed))) ≡ Ok lines = ap (λ bs. lines_of bs) text ∙ B.texts.spelled lines (are_lines F N B c is) in
    let params = params_again B.limits c.shape.width c.params is.params in
    let operations = operations_again B c is in
    let width : is_width ops lines.head.width ≡ true = rw (natural_number c.shape.width) ((B.widths.test (message_ranges ops) c.shape.width).1 is.shape.width) in
    let again = circuit_again c is.shape.placed in
    let met : first_broken_of c.params (made ops c.shape.width c.params).shape ≡ None = ap (λ (d : Circuit). first_broken_of c.params d.shape) again ∙ none_of (first_broken_of c.params c.shape) ((B.constraints.none c.params c.shape).1 is.meets) in
    rw (read, params, operations, width, met) (ap (λ d. Ok d) again)
