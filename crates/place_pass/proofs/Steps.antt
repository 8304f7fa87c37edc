-- One operation of the patterns more.
use Rattle.std.proofs.Common.{◌≡◌, ℕ, ◌+◌, ◌*◌, ◌<◌, ◌≤◌, List, [], ◌∷◌, ◌++◌, length, map, get_or, sym, refl, ap, ◌∙◌, subst, arith, ℤ, pos}
use Rattle.std.specs.Prelude.{IsTrue}
use Rattle.std.specs.List.{AllByRecursion}
use Rattle.std.proofs.lemmas.List.{length_push, append_assoc, append-nil, map-append, get_or_at}
use Rattle.std.proofs.lemmas.Bool.{false≢true}
use Rattle.std.proofs.lemmas.List.Elements.{All-nil, filter_map-append}
use Rattle.forms.specs.Forms.{number_at, form_value, form_range}
use Rattle.forms.specs.Ranges.{range_of_entries}
use Rattle.forms.specs.FromEarlier.{from_earlier, from_earlier_push, length-from_earlier}
use Rattle.ap_level.specs.declared.level.ApOp.{ApOp}
use Rattle.ap_level.specs.declared.level.ApOp.TheVariants as patterns
use Rattle.ap_level.specs.Operations as on_patterns_kinds
use Rattle.ap_level.specs.Patterns.{argument_range, argument_ranges}
use Rattle.ap_level.specs.Patterns as on_patterns
use Rattle.tfhe_level.specs.declared.level.TfheOp.{TfheOp}
use Rattle.tfhe_level.specs.declared.level.TfheOp.TheVariants.{Input}
use Rattle.tfhe_level.specs.Nodes.{value_of, range_of, node_values}
use Rattle.tfhe_level.specs.Laws.{input_range, input_ranges}
use Rattle.place_pass.specs.declared.outlet.Outlet.{Outlet}
use Rattle.place_pass.specs.Placing.{put_boot, put_form_switch, Placed, place_form, place_op, outlet_of}
use Rattle.place_pass.proofs.Solving.{sound_push, form_value_kept}
use Rattle.forms.specs.Terms.{leaves_of}
use Rattle.place_pass.proofs.Following.{IsGrown, grown_length, grown_result, Agrees, agrees_longer, agrees_push, AreOn, IsFormPlaced, form_placed}
use Rattle.place_pass.proofs.Looking.{IsLookPlaced, look_placed}

-- a placement follows the arguments and look-ups
pub record Follows (leafs : List ApOp) (p : Placed) : Type 0 where
  pub agrees : Agrees leafs p.nodes p.leaves
  pub ranges : p.ranges ≡ on_patterns.pattern_ranges leafs
  pub inputs : input_ranges p.nodes ≡ argument_ranges leafs
  pub short : length p.nodes ≤ 3 * length leafs + length p.outs

-- where they are arguments alone, each is a node
abbrev pub AreInputs : List ApOp → Type 0
AreInputs leafs = AllByRecursion (λ op. IsTrue (on_patterns_kinds.is_input op)) leafs

abbrev pub AreFirst : List ApOp → Placed → Type 0
AreFirst leafs p = AreInputs leafs → length p.nodes ≡ length leafs

arguments_push : (leafs : List ApOp) (op : ApOp) → argument_ranges (leafs ++ op ∷ []) ≡ argument_ranges leafs ++ argument_ranges (op ∷ [])
arguments_push leafs op = filter_map-append argument_range leafs (op ∷ [])

ranges_push : (leafs : List ApOp) (ranges : List (ℤ × ℤ)) (range : ℤ × ℤ) (op : ApOp) → ranges ≡ on_patterns.pattern_ranges leafs → range ≡ on_patterns.range_of (on_patterns.pattern_ranges leafs) op → ranges ++ range ∷ [] ≡ on_patterns.pattern_ranges (leafs ++ op ∷ [])
ranges_push leafs ranges range op same is =
    ap (λ l. l ++ range ∷ []) same ∙ ap (λ r. on_patterns.pattern_ranges leafs ++ r ∷ []) is ∙ sym (from_earlier_push on_patterns.range_of [] leafs op)

-- ---- an argument

last_result : {B : Type 0} (result_of : List B → TfheOp → B) (d : B) (nodes : List TfheOp) (node : TfheOp) → get_or (from_earlier result_of [] (nodes ++ node ∷ [])) (length nodes) d ≡ result_of (from_earlier result_of [] nodes) node
last_result result_of d nodes node =
    let first = from_earlier result_of [] nodes in
    let long : length first ≡ length nodes = omega (arith, length-from_earlier result_of [] nodes) in
    ap (λ l. get_or l (length nodes) d) (from_earlier_push result_of [] nodes node) ∙ get_or_at first (result_of first node) [] d (length nodes) long

same_place : (leafs : List ApOp) (nodes : List TfheOp) (inputs : List ℤ) → length nodes ≡ length leafs → length (node_values nodes inputs) ≡ length (on_patterns.pattern_values leafs inputs)
same_place leafs nodes inputs same =
    omega (arith, same, length-from_earlier (value_of inputs) [] nodes, length-from_earlier (on_patterns.value_of inputs) [] leafs)

input_agrees : (leafs : List ApOp) (nodes : List TfheOp) (leaves : List ℕ) (lo hi : ℤ) → Agrees leafs nodes leaves → length nodes ≡ length leafs → Agrees (leafs ++ patterns.Input lo hi ∷ []) (nodes ++ Input lo hi ∷ []) (leaves ++ length nodes ∷ [])
input_agrees leafs nodes leaves lo hi agrees same =
    let node = Input lo hi in
    let longer = nodes ++ node ∷ [] in
    let grown : IsGrown nodes longer = record {
      longer_by = record { more = node ∷ []; same = refl };
      sound = sound_push 0 nodes node agrees.sound (record { operands = All-nil (λ (o : ℕ). o < 0 + length nodes); no_out = refl });
    } in
    let more : Agrees leafs longer leaves = agrees_longer leafs nodes longer leaves agrees grown in
    agrees_push leafs longer leaves (patterns.Input lo hi) (length nodes) more (omega (arith, length_push nodes node))
    (last_result range_of (pos 0, pos 0) nodes node)
    (λ inputs. last_result (value_of inputs) (pos 0) nodes node ∙ ap (λ n. number_at inputs n) (same_place leafs nodes inputs same))

pub input_follows : (leafs : List ApOp) (p : Placed) (lo hi : ℤ) → Follows leafs p → AreFirst leafs p → AreInputs leafs → Follows (leafs ++ patterns.Input lo hi ∷ []) (place_op p (patterns.Input lo hi))
input_follows leafs p lo hi follows first are = record {
  agrees = input_agrees leafs p.nodes p.leaves lo hi follows.agrees (first are);
  ranges = ranges_push leafs p.ranges (lo, hi) (patterns.Input lo hi) follows.ranges refl;
  inputs =
      filter_map-append input_range p.nodes (Input lo hi ∷ [])
      ∙ ap (λ l. l ++ (lo, hi) ∷ []) follows.inputs
      ∙ sym (arguments_push leafs (patterns.Input lo hi));
  short = omega (arith, follows.short, length_push p.nodes (Input lo hi), length_push leafs (patterns.Input lo hi));
}

pub inputs_front : (leafs : List ApOp) (op : ApOp) → AreInputs (leafs ++ op ∷ []) → AreInputs leafs × IsTrue (on_patterns_kinds.is_input op)
inputs_front [] op are = (tt, are.0)
inputs_front (leaf ∷ leafs) op are =
    let rest = inputs_front leafs op are.1 in
    ((are.0, rest.0), rest.1)

pub input_first : (leafs : List ApOp) (p : Placed) (lo hi : ℤ) → AreFirst leafs p → AreFirst (leafs ++ patterns.Input lo hi ∷ []) (place_op p (patterns.Input lo hi))
input_first leafs p lo hi first are =
    omega (arith, first (inputs_front leafs (patterns.Input lo hi) are).0, length_push p.nodes (Input lo hi), length_push leafs (patterns.Input lo hi))

-- ---- a look-up

pub look_follows : (leafs : List ApOp) (p : Placed) (constant : ℤ) (terms : List (ℕ × ℤ)) (entries : List ℤ) → Follows leafs p → AreOn (length p.leaves) terms
    → Follows (leafs ++ patterns.Look constant terms entries ∷ []) (place_op p (patterns.Look constant terms entries))
look_follows leafs p constant terms entries follows on =
    let op = patterns.Look constant terms entries in
    let boot = put_boot entries (put_form_switch (place_form p constant terms)) in
    let placed : IsLookPlaced leafs p.nodes p.leaves op boot = look_placed leafs p.nodes p.leaves constant terms entries follows.agrees on in
    record {
      agrees = placed.agrees;
      ranges = ranges_push leafs p.ranges (range_of_entries entries) op follows.ranges refl;
      inputs = placed.stage.inputs ∙ follows.inputs ∙ sym (arguments_push leafs op ∙ append-nil (argument_ranges leafs));
      short = omega (arith, follows.short, placed.short, length_push leafs op);
    }

pub look_first : (leafs : List ApOp) (p : Placed) (constant : ℤ) (terms : List (ℕ × ℤ)) (entries : List ℤ) → AreFirst (leafs ++ patterns.Look constant terms entries ∷ []) (place_op p (patterns.Look constant terms entries))
look_first leafs p constant terms entries are = absurd (false≢true (inputs_front leafs (patterns.Look constant terms entries) are).1)

-- ---- results

-- the outs so far follow the results so far
pub record OutsFollow (leafs outs : List ApOp) (p : Placed) : Type 0 where
  pub on : AllByRecursion (λ outlet. outlet.source < length p.nodes) p.outs
  pub count : length p.outs ≡ length outs
  pub values : (inputs : List ℤ) → map (λ (outlet : Outlet). number_at (node_values p.nodes inputs) outlet.source) p.outs ≡ map (on_patterns.value_of inputs (on_patterns.pattern_values leafs inputs)) outs
  pub whole : (inputs : List ℤ) → on_patterns.pattern_values (leafs ++ outs) inputs ≡ on_patterns.pattern_values leafs inputs ++ map (on_patterns.value_of inputs (on_patterns.pattern_values leafs inputs)) outs

pub no_outs_follow : (leafs : List ApOp) (p : Placed) → p.outs ≡ [] → OutsFollow leafs [] p
no_outs_follow leafs p none = record {
  on = subst (AllByRecursion (λ outlet. outlet.source < length p.nodes)) (sym none) tt;
  count = ap length none;
  values = λ inputs. ap (map (λ (outlet : Outlet). number_at (node_values p.nodes inputs) outlet.source)) none;
  whole = λ inputs. ap (λ l. on_patterns.pattern_values l inputs) (append-nil leafs) ∙ sym (append-nil (on_patterns.pattern_values leafs inputs));
}

terms_on : (count : ℕ) (terms : List (ℕ × ℤ)) → AreOn count terms → AllByRecursion (λ o. o < count) (leaves_of terms)
terms_on count [] on = tt
terms_on count (t ∷ terms) on = (on.0, terms_on count terms on.1)

whole_push : (leafs outs : List ApOp) (constant : ℤ) (terms : List (ℕ × ℤ)) (inputs : List ℤ) (first more : List ℤ) → length first ≡ length leafs → AreOn (length leafs) terms → on_patterns.pattern_values (leafs ++ outs) inputs ≡ first ++ more
    → on_patterns.pattern_values (leafs ++ (outs ++ patterns.Out constant terms ∷ [])) inputs ≡ first ++ (more ++ form_value constant terms first ∷ [])
whole_push leafs outs constant terms inputs first more long on before =
    let op = patterns.Out constant terms in
    let on' : AllByRecursion (λ o. o < length first) (leaves_of terms) = subst (λ n. AllByRecursion (λ o. o < n) (leaves_of terms)) (sym long) (terms_on (length leafs) terms on) in
    let value : form_value constant terms (on_patterns.pattern_values (leafs ++ outs) inputs) ≡ form_value constant terms first = ap (form_value constant terms) before ∙ form_value_kept constant terms first more on' in
    ap (λ l. on_patterns.pattern_values l inputs) (sym (append_assoc leafs outs (op ∷ [])))
    ∙ from_earlier_push (on_patterns.value_of inputs) [] (leafs ++ outs) op
    ∙ ap (λ v. on_patterns.pattern_values (leafs ++ outs) inputs ++ v ∷ []) value
    ∙ ap (λ l. l ++ form_value constant terms first ∷ []) before
    ∙ append_assoc first more (form_value constant terms first ∷ [])

outs_on : (nodes longer : List TfheOp) (outs : List Outlet) → length nodes ≤ length longer → AllByRecursion (λ outlet. outlet.source < length nodes) outs → AllByRecursion (λ outlet. outlet.source < length longer) outs
outs_on nodes longer [] le on = tt
outs_on nodes longer (o ∷ outs) le on = (omega (arith, le, on.0), outs_on nodes longer outs le on.1)

outs_on_push : (count : ℕ) (outs : List Outlet) (outlet : Outlet) → AllByRecursion (λ o. o.source < count) outs → outlet.source < count → AllByRecursion (λ o. o.source < count) (outs ++ outlet ∷ [])
outs_on_push count [] outlet on below = (below, tt)
outs_on_push count (o ∷ outs) outlet on below = (on.0, outs_on_push count outs outlet on.1 below)

outs_kept : (nodes longer : List TfheOp) (inputs : List ℤ) (outs : List Outlet) → IsGrown nodes longer → AllByRecursion (λ outlet. outlet.source < length nodes) outs
    → map (λ (outlet : Outlet). number_at (node_values longer inputs) outlet.source) outs ≡ map (λ (outlet : Outlet). number_at (node_values nodes inputs) outlet.source) outs
outs_kept nodes longer inputs [] grown on = refl
outs_kept nodes longer inputs (o ∷ outs) grown on =
    let first = grown_result (value_of inputs) (pos 0) nodes longer o.source grown on.0 in
    let rest = outs_kept nodes longer inputs outs grown on.1 in
    cc

pub out_follows : (leafs : List ApOp) (p : Placed) (constant : ℤ) (terms : List (ℕ × ℤ)) → Follows leafs p → AreOn (length p.leaves) terms → Follows leafs (place_op p (patterns.Out constant terms))
out_follows leafs p constant terms follows on =
    let form = place_form p constant terms in
    let placed : IsFormPlaced leafs p.nodes p.leaves constant terms form = form_placed leafs p.nodes p.leaves constant terms follows.agrees on in
    record {
      agrees = placed.agrees;
      ranges = follows.ranges;
      inputs = placed.stage.inputs ∙ follows.inputs;
      short = omega (arith, follows.short, placed.short, length_push p.outs (outlet_of form.number (form_range constant terms p.ranges)));
    }

pub outs_follow : (leafs outs : List ApOp) (p : Placed) (constant : ℤ) (terms : List (ℕ × ℤ)) → Follows leafs p → OutsFollow leafs outs p → AreOn (length p.leaves) terms → OutsFollow leafs (outs ++ patterns.Out constant terms ∷ []) (place_op p (patterns.Out constant terms))
outs_follow leafs outs p constant terms follows before on =
    let form = place_form p constant terms in
    let op = patterns.Out constant terms in
    let outlet = outlet_of form.number (form_range constant terms p.ranges) in
    let placed : IsFormPlaced leafs p.nodes p.leaves constant terms form = form_placed leafs p.nodes p.leaves constant terms follows.agrees on in
    record {
      on = outs_on_push (length form.nodes) p.outs outlet (outs_on p.nodes form.nodes p.outs (grown_length p.nodes form.nodes placed.stage.grown) before.on) placed.below;
      count = omega (arith, before.count, length_push p.outs outlet, length_push outs op);
      values = λ inputs.
          map-append (λ (o : Outlet). number_at (node_values form.nodes inputs) o.source) p.outs (outlet ∷ [])
          ∙ ap (λ l. l ++ number_at (node_values form.nodes inputs) form.number ∷ []) (outs_kept p.nodes form.nodes inputs p.outs placed.stage.grown before.on ∙ before.values inputs)
          ∙ ap (λ v. map (on_patterns.value_of inputs (on_patterns.pattern_values leafs inputs)) outs ++ v ∷ []) (placed.value inputs)
          ∙ sym (map-append (on_patterns.value_of inputs (on_patterns.pattern_values leafs inputs)) outs (op ∷ []));
      whole = λ inputs.
          whole_push leafs outs constant terms inputs (on_patterns.pattern_values leafs inputs) (map (on_patterns.value_of inputs (on_patterns.pattern_values leafs inputs)) outs) (omega (arith, length-from_earlier (on_patterns.value_of inputs) [] leafs)) (subst (λ n. AreOn n terms) follows.agrees.count on) (before.whole inputs)
          ∙ ap (λ l. on_patterns.pattern_values leafs inputs ++ l) (sym (map-append (on_patterns.value_of inputs (on_patterns.pattern_values leafs inputs)) outs (op ∷ [])));
    }
