-- the first broken constraint on an edge, looked for operation by operation
use Rattle.std.proofs.Common.{◌≡◌, ℕ, ◌+◌, ◌≤◌, Bool, true, false, List, [], ◌∷◌, ◌++◌, length, map, take, drop, get_or, sym, refl, ap, ◌∙◌, arith, Some, None}
use Rattle.std.specs.Prelude.{filter_map, find}
use Rattle.std.specs.List.{enumerate_from, slice_get, cons_option}
use Rattle.std.specs.Option.{option_map, option_or}
use Rattle.std.proofs.lemmas.List.{take_more, take_all, append_assoc, drop_more, take-append-drop, map-append, append-nil, length_push}
use Rattle.std.proofs.lemmas.List.Elements.{filter_map-append}
use Rattle.std.proofs.lemmas.List.Folds.{find-append}
use Rattle.std.proofs.lemmas.Option.{slice_get_within, get_or_from_slice_get}
use Rattle.fhe_params.specs.declared.params.Params.{Params}
use Rattle.tfhe_level.specs.declared.level.TfheOp.{TfheOp}
use Rattle.tfhe_level.specs.declared.shape.Shape.{Shape}
use Rattle.tfhe_level.specs.Nodes.{nodes_of}
use Rattle.noise_model.specs.declared.constraints.Edge.{Edge}
use Rattle.noise_model.specs.declared.constraints.Constraint.{Constraint}
use Rattle.noise_model.specs.declared.constraints.Broken.{Broken}
use Rattle.noise_model.specs.Bounds.{noise_bound, noise_bounds, capped}
use Rattle.noise_model.specs.Constraints.{Comparison, is_broken, as_broken, half_step}
use Rattle.noise_model.specs.Edges.{source_of, added_at, constraint_at, edge_constraint, edge_constraints}
use Rattle.noise_model.proofs.CappedSums.{capped-add}
use Rattle.noise_model.proofs.NodeBounds.{read-capped}
use Rattle.noise_model.proofs.Comparisons.{as_broken-edge}

-- numbers go on behind those of the first part
enumerate_from-append : {A : Type 0} (n m : ℕ) (xs ys : List A) → n + length xs ≡ m → enumerate_from n (xs ++ ys) ≡ enumerate_from n xs ++ enumerate_from m ys
enumerate_from-append n m [] ys at = let same : n ≡ m = omega arith in ap (λ k. enumerate_from k ys) same
enumerate_from-append n m (x ∷ xs) ys at = ap (λ rest. (n, x) ∷ rest) (enumerate_from-append (n + 1) m xs ys (omega arith))

-- the constraints on the edges among operations in two parts
edges-append : (edge : Edge) (p : Params) (shape : Shape) (count : ℕ) (first last : List TfheOp) → count ≡ length (filter_map (source_of edge) first) → edge_constraints edge p shape (first ++ last) ≡ edge_constraints edge p shape first ++ map (edge_constraint edge p shape) (enumerate_from count (filter_map (source_of edge) last))
edges-append edge p shape count first last is =
    let sources : List ℕ = filter_map (source_of edge) first in
    let others : List ℕ = filter_map (source_of edge) last in
    ap (λ xs. map (edge_constraint edge p shape) (enumerate_from 0 xs)) (filter_map-append (source_of edge) first last)
    ∙ ap (map (edge_constraint edge p shape)) (enumerate_from-append 0 count sources others (omega arith))
    ∙ map-append (edge_constraint edge p shape) (enumerate_from 0 sources) (enumerate_from count others)

-- so far no constraint is broken
pub record NoneYet (edge : Edge) (p : Params) (shape : Shape) (n count : ℕ) : Type 0 where
  pub number : count ≡ length (filter_map (source_of edge) (take n (nodes_of shape)))
  pub none : find is_broken (edge_constraints edge p shape (take n (nodes_of shape))) ≡ None

one_more : (nodes : List TfheOp) (n : ℕ) (op : TfheOp) → slice_get nodes n ≡ Some op → take (n + 1) nodes ≡ take n nodes ++ op ∷ []
one_more nodes n op at = take_more nodes n op (slice_get_within nodes n op at) ∙ ap (λ o. take n nodes ++ o ∷ []) (get_or_from_slice_get nodes n op op at)

whole : (nodes : List TfheOp) (n : ℕ) (op : TfheOp) → slice_get nodes n ≡ Some op → nodes ≡ take n nodes ++ op ∷ drop (n + 1) nodes
whole nodes n op at =
    sym (take-append-drop n nodes) ∙ ap (λ rest. take n nodes ++ rest) (drop_more nodes n op (slice_get_within nodes n op at) ∙ ap (λ o. o ∷ drop (n + 1) nodes) (get_or_from_slice_get nodes n op op at))

found_after : {A : Type 0} (p : A → Bool) (xs ys : List A) → find p xs ≡ None → find p (xs ++ ys) ≡ find p ys
found_after p xs ys none = find-append p xs ys ∙ ap (λ o. option_or o (find p ys)) none

find_first : {A : Type 0} (p : A → Bool) (x : A) (xs : List A) → p x ≡ true → find p (x ∷ xs) ≡ Some x
find_first p x xs is = rw is refl

find_not_first : {A : Type 0} (p : A → Bool) (x : A) → p x ≡ false → find p (x ∷ []) ≡ None
find_not_first p x is = rw is refl

-- the constraints on the edges from the one on this operation on
edge_first : (edge : Edge) (p : Params) (shape : Shape) (count source : ℕ) (op : TfheOp) (rest : List TfheOp) → source_of edge op ≡ Some source → map (edge_constraint edge p shape) (enumerate_from count (filter_map (source_of edge) (op ∷ rest))) ≡ edge_constraint edge p shape (count, source) ∷ map (edge_constraint edge p shape) (enumerate_from (count + 1) (filter_map (source_of edge) rest))
edge_first edge p shape count source op rest is =
    ap (λ o. map (edge_constraint edge p shape) (enumerate_from count (cons_option o (filter_map (source_of edge) rest)))) is

edge_none : (edge : Edge) (op : TfheOp) → source_of edge op ≡ None → filter_map (source_of edge) (op ∷ []) ≡ []
edge_none edge op is = ap (λ o. cons_option o []) is

-- an operation that is no such edge
pub none_yet_skip : (edge : Edge) (p : Params) (shape : Shape) (n count : ℕ) (op : TfheOp) → NoneYet edge p shape n count → slice_get (nodes_of shape) n ≡ Some op → source_of edge op ≡ None → NoneYet edge p shape (n + 1) count
none_yet_skip edge p shape n count op yet at is =
    let nodes : List TfheOp = nodes_of shape in
    let sources : filter_map (source_of edge) (take (n + 1) nodes) ≡ filter_map (source_of edge) (take n nodes) ++ [] =
    ap (filter_map (source_of edge)) (one_more nodes n op at) ∙ filter_map-append (source_of edge) (take n nodes) (op ∷ []) ∙ ap (λ xs. filter_map (source_of edge) (take n nodes) ++ xs) (edge_none edge op is) in
    let same : filter_map (source_of edge) (take (n + 1) nodes) ≡ filter_map (source_of edge) (take n nodes) = sources ∙ append-nil (filter_map (source_of edge) (take n nodes)) in
    record {
      number = yet.number ∙ sym (ap length same);
      none = ap (λ xs. find is_broken (map (edge_constraint edge p shape) (enumerate_from 0 xs))) same ∙ yet.none;
    }

-- one at which the constraint is kept
pub none_yet_more : (edge : Edge) (p : Params) (shape : Shape) (n count source : ℕ) (op : TfheOp) → NoneYet edge p shape n count → slice_get (nodes_of shape) n ≡ Some op → source_of edge op ≡ Some source → is_broken (edge_constraint edge p shape (count, source)) ≡ false → NoneYet edge p shape (n + 1) (count + 1)
none_yet_more edge p shape n count source op yet at is kept =
    let nodes : List TfheOp = nodes_of shape in
    let sources : filter_map (source_of edge) (take (n + 1) nodes) ≡ filter_map (source_of edge) (take n nodes) ++ source ∷ [] =
    ap (filter_map (source_of edge)) (one_more nodes n op at) ∙ filter_map-append (source_of edge) (take n nodes) (op ∷ []) ∙ ap (λ o. filter_map (source_of edge) (take n nodes) ++ cons_option o []) is in
    let before : List Comparison = edge_constraints edge p shape (take n nodes) in
    record {
      number = ap (λ k. k + 1) yet.number ∙ sym (ap length sources ∙ length_push (filter_map (source_of edge) (take n nodes)) source);
      none =
          ap (λ xs. find is_broken (edge_constraints edge p shape xs)) (one_more nodes n op at)
          ∙ ap (find is_broken) (edges-append edge p shape count (take n nodes) (op ∷ []) yet.number)
          ∙ found_after is_broken before _ yet.none
          ∙ ap (find is_broken) (edge_first edge p shape count source op [] is)
          ∙ find_not_first is_broken (edge_constraint edge p shape (count, source)) kept;
    }

-- one at which it is broken
pub first_edge : (edge : Edge) (p : Params) (shape : Shape) (n count source : ℕ) (op : TfheOp) → NoneYet edge p shape n count → slice_get (nodes_of shape) n ≡ Some op → source_of edge op ≡ Some source → is_broken (edge_constraint edge p shape (count, source)) ≡ true → find is_broken (edge_constraints edge p shape (nodes_of shape)) ≡ Some (edge_constraint edge p shape (count, source))
first_edge edge p shape n count source op yet at is broken =
    let nodes : List TfheOp = nodes_of shape in
    let before : List Comparison = edge_constraints edge p shape (take n nodes) in
    let later : List Comparison = map (edge_constraint edge p shape) (enumerate_from (count + 1) (filter_map (source_of edge) (drop (n + 1) nodes))) in
    ap (λ xs. find is_broken (edge_constraints edge p shape xs)) (whole nodes n op at)
    ∙ ap (find is_broken) (edges-append edge p shape count (take n nodes) (op ∷ drop (n + 1) nodes) yet.number)
    ∙ found_after is_broken before (map (edge_constraint edge p shape) (enumerate_from count (filter_map (source_of edge) (op ∷ drop (n + 1) nodes)))) yet.none
    ∙ ap (find is_broken) (edge_first edge p shape count source op (drop (n + 1) nodes) is)
    ∙ find_first is_broken (edge_constraint edge p shape (count, source)) later broken

-- the bound at an edge, of the capped bounds
pub edge_bound : (edge : Edge) (p : Params) (shape : Shape) (source : ℕ) (room : List ℕ) (read added bound : ℕ) → room ≡ map capped (noise_bounds p (nodes_of shape)) → read ≡ get_or room source 0 → added ≡ capped (added_at edge p) → bound ≡ capped (read + added) → bound ≡ capped (noise_bound p (nodes_of shape) source + added_at edge p)
edge_bound edge p shape source room read added bound room_is read_is added_is is =
    let whole : read ≡ capped (noise_bound p (nodes_of shape) source) = read_is ∙ ap (λ xs. get_or xs source 0) room_is ∙ read-capped (noise_bounds p (nodes_of shape)) source in
    is ∙ ap (λ n. capped (n + added)) whole ∙ ap (λ n. capped (capped (noise_bound p (nodes_of shape) source) + n)) added_is ∙ capped-add (noise_bound p (nodes_of shape) source) (added_at edge p)

-- a constraint as it is compared
pub compared_is : (edge : Edge) (p : Params) (shape : Shape) (count source : ℕ) (on : Constraint) (bound limit : ℕ) → on ≡ constraint_at edge count → bound ≡ capped (noise_bound p (nodes_of shape) source + added_at edge p) → limit ≡ half_step shape.width → record { at = on; bound = bound; limit = limit } ≡ as_broken (edge_constraint edge p shape (count, source))
compared_is edge p shape count source on bound limit on_is bound_is limit_is =
    let given : Constraint → ℕ → ℕ → Broken = λ a b l. record { at = a; bound = b; limit = l } in
    ap (λ a. given a bound limit) on_is ∙ ap (λ b. given (constraint_at edge count) b limit) bound_is ∙ ap (given (constraint_at edge count) (capped (noise_bound p (nodes_of shape) source + added_at edge p))) limit_is ∙ sym (as_broken-edge edge p shape count source)

-- what is answered at the first edge over its limit
pub edge_found : (edge : Edge) (p : Params) (shape : Shape) (n count source : ℕ) (op : TfheOp) (compared : Broken) → NoneYet edge p shape n count → slice_get (nodes_of shape) n ≡ Some op → source_of edge op ≡ Some source → compared ≡ as_broken (edge_constraint edge p shape (count, source)) → is_broken (edge_constraint edge p shape (count, source)) ≡ true → Some compared ≡ option_map as_broken (find is_broken (edge_constraints edge p shape (nodes_of shape)))
edge_found edge p shape n count source op compared yet at is compared_is broken =
    ap Some compared_is ∙ sym (ap (option_map as_broken) (first_edge edge p shape n count source op yet at is broken))

-- ---- all constraints, one after the other

-- the constraints on the edges so far are there, behind what was
pub record AllYet (edge : Edge) (p : Params) (shape : Shape) (start now : List Broken) (n count : ℕ) : Type 0 where
  pub number : count ≡ length (filter_map (source_of edge) (take n (nodes_of shape)))
  pub list : now ≡ start ++ map as_broken (edge_constraints edge p shape (take n (nodes_of shape)))

same_sources : (edge : Edge) (p : Params) (shape : Shape) (n : ℕ) (op : TfheOp) → slice_get (nodes_of shape) n ≡ Some op → source_of edge op ≡ None → filter_map (source_of edge) (take (n + 1) (nodes_of shape)) ≡ filter_map (source_of edge) (take n (nodes_of shape))
same_sources edge p shape n op at is =
    let nodes : List TfheOp = nodes_of shape in
    ap (filter_map (source_of edge)) (one_more nodes n op at) ∙ filter_map-append (source_of edge) (take n nodes) (op ∷ []) ∙ ap (λ xs. filter_map (source_of edge) (take n nodes) ++ xs) (edge_none edge op is) ∙ append-nil (filter_map (source_of edge) (take n nodes))

pub all_yet_skip : (edge : Edge) (p : Params) (shape : Shape) (start now : List Broken) (n count : ℕ) (op : TfheOp) → AllYet edge p shape start now n count → slice_get (nodes_of shape) n ≡ Some op → source_of edge op ≡ None → AllYet edge p shape start now (n + 1) count
all_yet_skip edge p shape start now n count op yet at is =
    let same = same_sources edge p shape n op at is in
    record {
      number = yet.number ∙ sym (ap length same);
      list = yet.list ∙ ap (λ xs. start ++ map as_broken (map (edge_constraint edge p shape) (enumerate_from 0 xs))) (sym same);
    }

pub all_yet_more : (edge : Edge) (p : Params) (shape : Shape) (start now next : List Broken) (n count source : ℕ) (op : TfheOp) (compared : Broken) → AllYet edge p shape start now n count → slice_get (nodes_of shape) n ≡ Some op → source_of edge op ≡ Some source → compared ≡ as_broken (edge_constraint edge p shape (count, source)) → next ≡ now ++ compared ∷ [] → AllYet edge p shape start next (n + 1) (count + 1)
all_yet_more edge p shape start now next n count source op compared yet at is compared_is pushed =
    let nodes : List TfheOp = nodes_of shape in
    let before : List Comparison = edge_constraints edge p shape (take n nodes) in
    let sources : filter_map (source_of edge) (take (n + 1) nodes) ≡ filter_map (source_of edge) (take n nodes) ++ source ∷ [] =
    ap (filter_map (source_of edge)) (one_more nodes n op at) ∙ filter_map-append (source_of edge) (take n nodes) (op ∷ []) ∙ ap (λ o. filter_map (source_of edge) (take n nodes) ++ cons_option o []) is in
    let grown : edge_constraints edge p shape (take (n + 1) nodes) ≡ before ++ edge_constraint edge p shape (count, source) ∷ [] =
    ap (λ xs. edge_constraints edge p shape xs) (one_more nodes n op at)
    ∙ edges-append edge p shape count (take n nodes) (op ∷ []) yet.number
    ∙ ap (λ xs. before ++ xs) (edge_first edge p shape count source op [] is) in
    record {
      number = ap (λ k. k + 1) yet.number ∙ sym (ap length sources ∙ length_push (filter_map (source_of edge) (take n nodes)) source);
      list =
          pushed
          ∙ ap (λ xs. xs ++ compared ∷ []) yet.list
          ∙ append_assoc start (map as_broken before) (compared ∷ [])
          ∙ ap (λ b. start ++ (map as_broken before ++ b ∷ [])) compared_is
          ∙ ap (λ xs. start ++ xs) (sym (ap (map as_broken) grown ∙ map-append as_broken before (edge_constraint edge p shape (count, source) ∷ [])));
    }

pub all_yet_whole : (edge : Edge) (p : Params) (shape : Shape) (start now : List Broken) (n count : ℕ) → AllYet edge p shape start now n count → length (nodes_of shape) ≤ n → now ≡ start ++ map as_broken (edge_constraints edge p shape (nodes_of shape))
all_yet_whole edge p shape start now n count yet over = yet.list ∙ ap (λ xs. start ++ map as_broken (edge_constraints edge p shape xs)) (take_all n (nodes_of shape) over)
