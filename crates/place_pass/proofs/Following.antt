-- The circuit so far and the patterns so far: each argument and look-up has its value and its range at its node.
use Rattle.std.proofs.Common.{◌≡◌, ℕ, ◌+◌, ◌<◌, ◌≤◌, false, List, [], ◌∷◌, ◌++◌, length, map, get_or, All, sym, refl, ap, ◌∙◌, subst, arith, ℤ, pos, ◌+ℤ◌, ◌*ℤ◌}
use Prim.Native.Nat.{zero, suc}
use Rattle.std.specs.Prelude.{None}
use Rattle.std.specs.List.{AllByRecursion}
use Rattle.std.proofs.lemmas.Int.{ints}
use Rattle.std.proofs.lemmas.List.{get_or-map, append-nil, append_assoc, length-append, length_push, map-append}
use Rattle.std.proofs.lemmas.List.Elements.{All-cons, All-nil, filter_map-append}
use Rattle.forms.specs.Forms.{int_sum, number_at, range_at, form_value, form_range, least_of_term, greatest_of_term}
use Rattle.forms.specs.Terms.{leaves_of}
use Rattle.forms.specs.FromEarlier.{from_earlier, from_earlier_push}
use Rattle.ap_level.specs.declared.level.ApOp.{ApOp}
use Rattle.ap_level.specs.Patterns as on_patterns
use Rattle.tfhe_level.specs.declared.level.TfheOp.{TfheOp}
use Rattle.tfhe_level.specs.declared.level.TfheOp.TheVariants.{Lin}
use Rattle.tfhe_level.specs.Operations.{operands_of, is_out}
use Rattle.tfhe_level.specs.Nodes.{value_of, range_of, node_values, node_ranges}
use Rattle.tfhe_level.specs.Laws.{input_range, input_ranges}
use Rattle.place_pass.specs.Placing.{Put, put_form, on_nodes}
use Rattle.place_pass.proofs.Solving.{stands_below, AreSoundFrom, result_kept, result_at, values_hang, ranges_hang}
use Rattle.place_pass.proofs.Puts.{IsPut, put_keeps, put_stands, IsLonger, put_longer, put_sound, put_short, IsFormPut, leaf, sum, form_is_put}

-- ---- nodes more

-- nodes more behind these, which are sound
pub record IsGrown (nodes longer : List TfheOp) : Type 0 where
  pub longer_by : IsLonger nodes longer
  pub sound : AreSoundFrom 0 longer

-- and no input more
pub record IsStage (nodes longer : List TfheOp) : Type 0 where
  pub grown : IsGrown nodes longer
  pub inputs : input_ranges longer ≡ input_ranges nodes

pub stage_none : (nodes : List TfheOp) → AreSoundFrom 0 nodes → IsStage nodes nodes
stage_none nodes are = record { grown = record { longer_by = record { more = []; same = sym (append-nil nodes) }; sound = are }; inputs = refl }

pub longer_then : (first second third : List TfheOp) → IsLonger first second → IsLonger second third → IsLonger first third
longer_then first second third a b = record {
  more = a.more ++ b.more;
  same = b.same ∙ ap (λ l. l ++ b.more) a.same ∙ append_assoc first a.more b.more;
}

pub stage_then : (first second third : List TfheOp) → IsStage first second → IsStage second third → IsStage first third
stage_then first second third a b = record {
  grown = record { longer_by = longer_then first second third a.grown.longer_by b.grown.longer_by; sound = b.grown.sound };
  inputs = b.inputs ∙ a.inputs;
}

pub no_input_more : (nodes : List TfheOp) (node : TfheOp) → input_range node ≡ None → input_ranges (nodes ++ node ∷ []) ≡ input_ranges nodes
no_input_more nodes node none =
    let parts : input_ranges (nodes ++ node ∷ []) ≡ input_ranges nodes ++ input_ranges (node ∷ []) = filter_map-append input_range nodes (node ∷ []) in
    let empty : input_ranges (node ∷ []) ≡ [] = rw none refl in
    parts ∙ ap (λ l. input_ranges nodes ++ l) empty ∙ append-nil (input_ranges nodes)

pub put_stage : (node : TfheOp) (nodes : List TfheOp) (put : Put) → IsPut node nodes put → input_range node ≡ None → is_out node ≡ false → AreSoundFrom 0 nodes → All (λ operand. operand < length nodes) (operands_of node) → IsStage nodes put.nodes
put_stage node nodes put is none is_not are on = record {
  grown = record { longer_by = put_longer node nodes put is; sound = put_sound node nodes put is are is_not on };
  inputs = put_keeps (λ (l : List TfheOp). input_ranges l ≡ input_ranges nodes) node nodes put is refl (no_input_more nodes node none);
}

pub grown_length : (nodes longer : List TfheOp) → IsGrown nodes longer → length nodes ≤ length longer
grown_length nodes longer grown = omega (arith, ap length grown.longer_by.same, length-append nodes grown.longer_by.more)

pub grown_result : {B : Type 0} (result_of : List B → TfheOp → B) (d : B) (nodes longer : List TfheOp) (place : ℕ) → IsGrown nodes longer → place < length nodes → get_or (from_earlier result_of [] longer) place d ≡ get_or (from_earlier result_of [] nodes) place d
grown_result result_of d nodes longer place grown below =
    ap (λ l. get_or (from_earlier result_of [] l) place d) grown.longer_by.same ∙ result_kept result_of nodes grown.longer_by.more place d below

pub grown_results : {B : Type 0} (result_of : List B → TfheOp → B) (d : B) (nodes longer : List TfheOp) (leaves : List ℕ) → IsGrown nodes longer → AllByRecursion (λ leaf. leaf < length nodes) leaves
    → map (λ (n : ℕ). get_or (from_earlier result_of [] longer) n d) leaves ≡ map (λ (n : ℕ). get_or (from_earlier result_of [] nodes) n d) leaves
grown_results result_of d nodes longer [] grown on = refl
grown_results result_of d nodes longer (l ∷ leaves) grown on =
    let first = grown_result result_of d nodes longer l grown on.0 in
    let rest = grown_results result_of d nodes longer leaves grown on.1 in
    cc

-- ---- values and ranges at the nodes of leaves

-- each leaf has a node, with its value and its range
pub record Agrees (leafs : List ApOp) (nodes : List TfheOp) (leaves : List ℕ) : Type 0 where
  pub sound : AreSoundFrom 0 nodes
  pub on : AllByRecursion (λ leaf. leaf < length nodes) leaves
  pub count : length leaves ≡ length leafs
  pub ranges : map (range_at (node_ranges nodes)) leaves ≡ on_patterns.pattern_ranges leafs
  pub values : (inputs : List ℤ) → map (number_at (node_values nodes inputs)) leaves ≡ on_patterns.pattern_values leafs inputs

on_longer : (nodes longer : List TfheOp) (leaves : List ℕ) → length nodes ≤ length longer → AllByRecursion (λ leaf. leaf < length nodes) leaves → AllByRecursion (λ leaf. leaf < length longer) leaves
on_longer nodes longer [] le on = tt
on_longer nodes longer (l ∷ leaves) le on = (omega (arith, le, on.0), on_longer nodes longer leaves le on.1)

pub agrees_longer : (leafs : List ApOp) (nodes longer : List TfheOp) (leaves : List ℕ) → Agrees leafs nodes leaves → IsGrown nodes longer → Agrees leafs longer leaves
agrees_longer leafs nodes longer leaves agrees grown = record {
  sound = grown.sound;
  on = on_longer nodes longer leaves (grown_length nodes longer grown) agrees.on;
  count = agrees.count;
  ranges = grown_results range_of (pos 0, pos 0) nodes longer leaves grown agrees.on ∙ agrees.ranges;
  values = λ inputs. grown_results (value_of inputs) (pos 0) nodes longer leaves grown agrees.on ∙ agrees.values inputs;
}

on_push : (count : ℕ) (leaves : List ℕ) (number : ℕ) → AllByRecursion (λ leaf. leaf < count) leaves → number < count → AllByRecursion (λ leaf. leaf < count) (leaves ++ number ∷ [])
on_push count [] number on below = (below, tt)
on_push count (l ∷ leaves) number on below = (on.0, on_push count leaves number on.1 below)

-- one leaf more
pub agrees_push : (leafs : List ApOp) (nodes : List TfheOp) (leaves : List ℕ) (op : ApOp) (number : ℕ) → Agrees leafs nodes leaves → number < length nodes
    → range_at (node_ranges nodes) number ≡ on_patterns.range_of (on_patterns.pattern_ranges leafs) op
    → ((inputs : List ℤ) → number_at (node_values nodes inputs) number ≡ on_patterns.value_of inputs (on_patterns.pattern_values leafs inputs) op)
    → Agrees (leafs ++ op ∷ []) nodes (leaves ++ number ∷ [])
agrees_push leafs nodes leaves op number agrees below range value = record {
  sound = agrees.sound;
  on = on_push (length nodes) leaves number agrees.on below;
  count = omega (arith, agrees.count, length_push leaves number, length_push leafs op);
  ranges =
      map-append (range_at (node_ranges nodes)) leaves (number ∷ [])
      ∙ ap (λ l. l ++ range_at (node_ranges nodes) number ∷ []) agrees.ranges
      ∙ ap (λ r. on_patterns.pattern_ranges leafs ++ r ∷ []) range
      ∙ sym (from_earlier_push on_patterns.range_of [] leafs op);
  values = λ inputs.
      map-append (number_at (node_values nodes inputs)) leaves (number ∷ [])
      ∙ ap (λ l. l ++ number_at (node_values nodes inputs) number ∷ []) (agrees.values inputs)
      ∙ ap (λ v. on_patterns.pattern_values leafs inputs ++ v ∷ []) (value inputs)
      ∙ sym (from_earlier_push (on_patterns.value_of inputs) [] leafs op);
}

-- ---- forms on nodes

-- the terms are on leaves
abbrev pub AreOn : ℕ → List (ℕ × ℤ) → Type 0
AreOn count terms = AllByRecursion (λ t. t.0 < count) terms

leaf_below : (leaves : List ℕ) (count place : ℕ) → AllByRecursion (λ leaf. leaf < count) leaves → place < length leaves → get_or leaves place 0 < count
leaf_below [] count place on below = absurd (omega arith)
leaf_below (l ∷ leaves) count zero on below = on.0
leaf_below (l ∷ leaves) count (suc place) on below = leaf_below leaves count place on.1 (omega arith)

pub moved_on : (leaves : List ℕ) (terms : List (ℕ × ℤ)) (count : ℕ) → AllByRecursion (λ leaf. leaf < count) leaves → AreOn (length leaves) terms → All (λ operand. operand < count) (leaves_of (on_nodes leaves terms))
moved_on leaves [] count on are = All-nil (λ (o : ℕ). o < count)
moved_on leaves (t ∷ terms) count on are = All-cons (λ (o : ℕ). o < count) (get_or leaves t.0 0) (leaves_of (on_nodes leaves terms)) (leaf_below leaves count t.0 on are.0) (moved_on leaves terms count on are.1)

sum_moved : (leaves : List ℕ) (values : List ℤ) (terms : List (ℕ × ℤ)) → AreOn (length leaves) terms → int_sum (map (λ (t : ℕ × ℤ). t.1 *ℤ number_at values t.0) (on_nodes leaves terms)) ≡ int_sum (map (λ (t : ℕ × ℤ). t.1 *ℤ number_at (map (number_at values) leaves) t.0) terms)
sum_moved leaves values [] on = refl
sum_moved leaves values (t ∷ terms) on =
    let first : number_at (map (number_at values) leaves) t.0 ≡ number_at values (get_or leaves t.0 0) = get_or-map (number_at values) leaves t.0 0 (pos 0) on.0 in
    let rest = sum_moved leaves values terms on.1 in
    rw first (rw rest refl)

least_moved : (leaves : List ℕ) (ranges : List (ℤ × ℤ)) (terms : List (ℕ × ℤ)) → AreOn (length leaves) terms → int_sum (map (least_of_term ranges) (on_nodes leaves terms)) ≡ int_sum (map (least_of_term (map (range_at ranges) leaves)) terms)
least_moved leaves ranges [] on = refl
least_moved leaves ranges (t ∷ terms) on =
    let first : range_at (map (range_at ranges) leaves) t.0 ≡ range_at ranges (get_or leaves t.0 0) = get_or-map (range_at ranges) leaves t.0 0 (pos 0, pos 0) on.0 in
    let rest = least_moved leaves ranges terms on.1 in
    rw first (rw rest refl)

greatest_moved : (leaves : List ℕ) (ranges : List (ℤ × ℤ)) (terms : List (ℕ × ℤ)) → AreOn (length leaves) terms → int_sum (map (greatest_of_term ranges) (on_nodes leaves terms)) ≡ int_sum (map (greatest_of_term (map (range_at ranges) leaves)) terms)
greatest_moved leaves ranges [] on = refl
greatest_moved leaves ranges (t ∷ terms) on =
    let first : range_at (map (range_at ranges) leaves) t.0 ≡ range_at ranges (get_or leaves t.0 0) = get_or-map (range_at ranges) leaves t.0 0 (pos 0, pos 0) on.0 in
    let rest = greatest_moved leaves ranges terms on.1 in
    rw first (rw rest refl)

value_moved : (leaves : List ℕ) (values : List ℤ) (constant : ℤ) (terms : List (ℕ × ℤ)) → AreOn (length leaves) terms → form_value constant (on_nodes leaves terms) values ≡ form_value constant terms (map (number_at values) leaves)
value_moved leaves values constant terms on = ap (λ s. constant +ℤ s) (sum_moved leaves values terms on)

range_moved : (leaves : List ℕ) (ranges : List (ℤ × ℤ)) (constant : ℤ) (terms : List (ℕ × ℤ)) → AreOn (length leaves) terms → form_range constant (on_nodes leaves terms) ranges ≡ form_range constant terms (map (range_at ranges) leaves)
range_moved leaves ranges constant terms on =
    let least = least_moved leaves ranges terms on in
    let greatest = greatest_moved leaves ranges terms on in
    rw least (rw greatest refl)

-- ---- the node of a form

once : (v : ℤ) → pos 0 +ℤ (pos 1 *ℤ v +ℤ pos 0) ≡ v
once v = omega (arith, ints)

range_once : (r : ℤ × ℤ) → (pos 0 +ℤ (pos 1 *ℤ r.0 +ℤ pos 0), pos 0 +ℤ (pos 1 *ℤ r.1 +ℤ pos 0)) ≡ r
range_once r =
    let a = once r.0 in
    let b = once r.1 in
    rw a (rw b refl)

-- what the node of a form has
pub record IsFormNode (nodes : List TfheOp) (constant : ℤ) (terms : List (ℕ × ℤ)) (put : Put) : Type 0 where
  pub stage : IsStage nodes put.nodes
  pub below : put.number < length put.nodes
  pub short : length put.nodes ≤ length nodes + 1
  pub range : range_at (node_ranges put.nodes) put.number ≡ form_range constant terms (node_ranges put.nodes)
  pub value : (inputs : List ℤ) → number_at (node_values put.nodes inputs) put.number ≡ form_value constant terms (node_values put.nodes inputs)

leaf_is_node : (nodes : List TfheOp) (constant : ℤ) (terms : List (ℕ × ℤ)) (put : Put) → AreSoundFrom 0 nodes → All (λ operand. operand < length nodes) (leaves_of terms) → constant ≡ pos 0 → terms ≡ (put.number, pos 1) ∷ [] → put.nodes ≡ nodes → IsFormNode nodes constant terms put
leaf_is_node nodes constant terms put are on zero_is one same = record {
  stage = subst (IsStage nodes) (sym same) (stage_none nodes are);
  below = subst (λ l. put.number < length l) (sym same) (subst (λ ts. All (λ operand. operand < length nodes) (leaves_of ts)) one on 0 0 (omega arith));
  short = omega (arith, ap length same);
  range = sym (ap (λ ts. form_range constant ts (node_ranges put.nodes)) one ∙ ap (λ c. form_range c ((put.number, pos 1) ∷ []) (node_ranges put.nodes)) zero_is ∙ range_once (range_at (node_ranges put.nodes) put.number));
  value = λ inputs. sym (ap (λ ts. form_value constant ts (node_values put.nodes inputs)) one ∙ ap (λ c. form_value c ((put.number, pos 1) ∷ []) (node_values put.nodes inputs)) zero_is ∙ once (number_at (node_values put.nodes inputs) put.number));
}

sum_is_node : (nodes : List TfheOp) (constant : ℤ) (terms : List (ℕ × ℤ)) (put : Put) → AreSoundFrom 0 nodes → All (λ operand. operand < length nodes) (leaves_of terms) → IsPut (Lin constant terms) nodes put → IsFormNode nodes constant terms put
sum_is_node nodes constant terms put are on is =
    let stands = put_stands (Lin constant terms) nodes put is in
    let stage = put_stage (Lin constant terms) nodes put is refl refl are on in
    record {
      stage = stage;
      below = stands_below put.nodes put.number (Lin constant terms) stands;
      short = put_short (Lin constant terms) nodes put is;
      range = result_at range_of ranges_hang (pos 0, pos 0) put.nodes put.number (Lin constant terms) stands refl stage.grown.sound;
      value = λ inputs. result_at (value_of inputs) (values_hang inputs) (pos 0) put.nodes put.number (Lin constant terms) stands refl stage.grown.sound;
    }

pub form_is_node : (nodes : List TfheOp) (constant : ℤ) (terms : List (ℕ × ℤ)) (put : Put) → AreSoundFrom 0 nodes → All (λ operand. operand < length nodes) (leaves_of terms) → IsFormPut constant terms nodes put → IsFormNode nodes constant terms put
form_is_node nodes constant terms put are on (leaf zero_is one same) = leaf_is_node nodes constant terms put are on zero_is one same
form_is_node nodes constant terms put are on (sum is) = sum_is_node nodes constant terms put are on is

-- what the node of a form on leaves has, in the words of the patterns
pub record IsFormPlaced (leafs : List ApOp) (nodes : List TfheOp) (leaves : List ℕ) (constant : ℤ) (terms : List (ℕ × ℤ)) (put : Put) : Type 0 where
  pub stage : IsStage nodes put.nodes
  pub agrees : Agrees leafs put.nodes leaves
  pub below : put.number < length put.nodes
  pub short : length put.nodes ≤ length nodes + 1
  pub range : range_at (node_ranges put.nodes) put.number ≡ form_range constant terms (on_patterns.pattern_ranges leafs)
  pub value : (inputs : List ℤ) → number_at (node_values put.nodes inputs) put.number ≡ form_value constant terms (on_patterns.pattern_values leafs inputs)

pub form_placed : (leafs : List ApOp) (nodes : List TfheOp) (leaves : List ℕ) (constant : ℤ) (terms : List (ℕ × ℤ)) → Agrees leafs nodes leaves → AreOn (length leaves) terms → IsFormPlaced leafs nodes leaves constant terms (put_form constant (on_nodes leaves terms) nodes)
form_placed leafs nodes leaves constant terms agrees on =
    let put = put_form constant (on_nodes leaves terms) nodes in
    let is = form_is_node nodes constant (on_nodes leaves terms) put agrees.sound (moved_on leaves terms (length nodes) agrees.on on) (form_is_put constant (on_nodes leaves terms) nodes) in
    let more = agrees_longer leafs nodes put.nodes leaves agrees is.stage.grown in
    record {
      stage = is.stage;
      agrees = more;
      below = is.below;
      short = is.short;
      range = is.range ∙ range_moved leaves (node_ranges put.nodes) constant terms on ∙ ap (form_range constant terms) more.ranges;
      value = λ inputs. is.value inputs ∙ value_moved leaves (node_values put.nodes inputs) constant terms on ∙ ap (form_value constant terms) (more.values inputs);
    }
