-- The first node that passes a test.
use Rattle.std.proofs.Common.{◌≡◌, ℕ, ◌+◌, ◌<◌, ◌≤◌, Bool, true, false, List, [], ◌∷◌, ◌++◌, length, take, drop, get_or, All, sym, refl, ap, ◌∙◌, subst, arith, ℤ, pos}
use Prim.Native.Nat.{zero, suc}
use Rattle.std.specs.Prelude.{Some, None, slice_get, ◌==◌, ◌&&◌}
use Rattle.std.specs.Ordering.{int_eq}
use Rattle.std.specs.List.{list_any, position_or_len}
use Rattle.std.proofs.lemmas.Bool.{false_from_ne_true, or_parts, or_from}
use Rattle.std.proofs.lemmas.List.Elements.{All-map, All-weaker}
use Rattle.std.proofs.lemmas.List.{take_all, take_more, drop_more, drop_all}
use Rattle.std.proofs.lemmas.List.Folds.{list_any-append}
use Rattle.std.proofs.lemmas.Option.{none-some, cond_some, same_Some, slice_get_within, get_or_from_slice_get}
use Rattle.tfhe_level.specs.declared.level.TfheOp.{TfheOp}
use Rattle.forms.specs.Terms.{leaves_of}
use Rattle.forms.specs.Ranges.{range_of_entries}
use Rattle.ap_level.specs.declared.level.ApOp.{ApOp}
use Rattle.ap_level.specs.declared.level.ApOp.TheVariants as patterns
use Rattle.tfhe_level.specs.declared.level.TfheOp.TheVariants.{Boot}
use Rattle.place_pass.specs.declared.outlet.Outlet.{Outlet}
use Rattle.place_pass.specs.Placing.{Placed, placed_of, Put, put_last, put_switch, put_boot, put_form_switch, place_form, place_where, same_terms, alone, on_nodes, place_op, place_ops}
use Rattle.place_pass.specs.Placements.{CanPlace}
use Rattle.place_pass.proofs.Puts.{same_terms_is}
use Rattle.place_pass.proofs.Walk.{Goes}

found : (test : TfheOp → Bool) (nodes : List TfheOp) (number : ℕ) (node : TfheOp) → list_any test (take number nodes) ≡ false → slice_get nodes number ≡ Some node → test node ≡ true
    → (list_any test nodes ≡ true) × (position_or_len test nodes ≡ number)
found test [] number node none at is = absurd (none-some node at)
found test (first ∷ nodes) zero node none at is =
    let passes : test first ≡ true = ap test (same_Some first node at) ∙ is in
    (rw passes refl, rw passes refl)
found test (first ∷ nodes) (suc number) node none at is =
    let parts = or_parts (test first) (list_any test (take number nodes)) none in
    let is_not : test first ≡ false = parts.0 in
    let rest = found test nodes number node parts.1 at is in
    (rw is_not rest.0, rw is_not (omega (arith, rest.1)))

pub found_here : (test : TfheOp → Bool) (nodes : List TfheOp) (number : ℕ) (node : TfheOp) → list_any test (take number nodes) ≡ false → slice_get nodes number ≡ Some node → test node ≡ true → place_where test nodes ≡ Some number
found_here test nodes number node none at is =
    let is_there = found test nodes number node none at is in
    rw is_there.0 (ap (λ n. Some n) is_there.1)

pub none_there : (test : TfheOp → Bool) (nodes : List TfheOp) (number : ℕ) → list_any test (take number nodes) ≡ false → length nodes ≤ number → place_where test nodes ≡ None
none_there test nodes number none all =
    let is_not : list_any test nodes ≡ false = ap (list_any test) (sym (take_all number nodes all)) ∙ none in
    rw is_not refl

pub none_more : (test : TfheOp → Bool) (nodes : List TfheOp) (number : ℕ) (node : TfheOp) → list_any test (take number nodes) ≡ false → slice_get nodes number ≡ Some node → test node ≡ false → list_any test (take (number + 1) nodes) ≡ false
none_more test nodes number node none at is_not =
    let read : test (get_or nodes number node) ≡ false = ap test (get_or_from_slice_get nodes number node node at) ∙ is_not in
    ap (list_any test) (take_more nodes number node (slice_get_within nodes number node at))
    ∙ list_any-append test (take number nodes) (get_or nodes number node ∷ [])
    ∙ or_from (list_any test (take number nodes)) (list_any test (get_or nodes number node ∷ [])) none (or_from (test (get_or nodes number node)) false read refl)

-- ---- terms one by one

pub terms_more : (terms others : List (ℕ × ℤ)) (at : ℕ) (d e : ℕ × ℤ) → at < length terms → at < length others
    → same_terms (drop at terms) (drop at others) ≡ (((get_or terms at d).0 == (get_or others at e).0) && (int_eq (get_or terms at d).1 (get_or others at e).1) && same_terms (drop (at + 1) terms) (drop (at + 1) others))
terms_more terms others at d e below below' =
    let first = drop_more terms at d below in
    let second = drop_more others at e below' in
    rw first (rw second refl)

pub other_lengths : (terms others : List (ℕ × ℤ)) → (length terms ≡ length others → ⊥) → false ≡ same_terms terms others
other_lengths terms others apart = sym (false_from_ne_true (same_terms terms others) (λ same. apart (ap length (same_terms_is terms others same))))

-- ---- operations one by one

rest_at : {A : Type 0} (list : List A) (place : ℕ) (item : A) → slice_get list place ≡ Some item → drop place list ≡ item ∷ drop (place + 1) list
rest_at list place item at =
    drop_more list place item (slice_get_within list place item at) ∙ ap (λ x. x ∷ drop (place + 1) list) (get_or_from_slice_get list place item item at)

pub goes_here : (End : Placed → Type 0) (p : Placed) (operations : List ApOp) (place : ℕ) (op : ApOp) → slice_get operations place ≡ Some op → Goes End p (drop place operations) → CanPlace p op × Goes End (place_op p op) (drop (place + 1) operations)
goes_here End p operations place op at goes = subst (Goes End p) (rest_at operations place op at) goes

pub rest_here : (p : Placed) (operations : List ApOp) (place : ℕ) (op : ApOp) → slice_get operations place ≡ Some op → place_ops p (drop place operations) ≡ place_ops (place_op p op) (drop (place + 1) operations)
rest_here p operations place op at = ap (place_ops p) (rest_at operations place op at)

-- ---- terms on nodes

pub moved_below : (leaves : List ℕ) (terms : List (ℕ × ℤ)) (count : ℕ) → All (λ leaf. leaf < count) leaves → All (λ t. t.0 < length leaves) terms → All (λ t. t.0 < count) (on_nodes leaves terms)
moved_below leaves terms count below on =
    All-map (λ (t : ℕ × ℤ). t.0 < count) (λ (t : ℕ × ℤ). (get_or leaves t.0 0, t.1)) terms
    (All-weaker (λ (t : ℕ × ℤ). t.0 < length leaves) (λ (t : ℕ × ℤ). get_or leaves t.0 0 < count) (λ t there. below t.0 0 there) terms on)

pub leaves_below : (terms : List (ℕ × ℤ)) (count : ℕ) → All (λ t. t.0 < count) terms → All (λ operand. operand < count) (leaves_of terms)
leaves_below terms count on = All-map (λ (o : ℕ). o < count) (λ (t : ℕ × ℤ). t.0) terms on

pub alone_below : (constant : ℤ) (terms : List (ℕ × ℤ)) (count number : ℕ) → All (λ t. t.0 < count) terms → Some number ≡ alone constant terms → number < count
alone_below constant [] count number below is = absurd (none-some number (sym is))
alone_below constant (t ∷ []) count number below is =
    let first : t.0 < count = below 0 t (omega arith) in
    let same : t.0 ≡ number = (cond_some (int_eq constant (pos 0) && int_eq t.1 (pos 1)) t.0 number (sym is)).1 in
    omega (arith, first, same)
alone_below constant (t ∷ other ∷ terms) count number below is = absurd (none-some number (sym is))

-- ---- a look-up

pub look_put : (p : Placed) (constant : ℤ) (terms : List (ℕ × ℤ)) (entries : List ℤ) (form switch boot : ℕ) (first second third : List TfheOp) (leaves : List ℕ) (ranges : List (ℤ × ℤ)) (outs : List Outlet)
    → form ≡ (place_form p constant terms).number → first ≡ (place_form p constant terms).nodes
    → switch ≡ (put_switch form first).number → second ≡ (put_switch form first).nodes
    → boot ≡ (put_last (Boot switch entries) second).number → third ≡ (put_last (Boot switch entries) second).nodes
    → leaves ≡ p.leaves ++ boot ∷ [] → ranges ≡ p.ranges ++ range_of_entries entries ∷ [] → outs ≡ p.outs
    → placed_of third leaves ranges outs ≡ place_op p (patterns.Look constant terms entries)
look_put p constant terms entries form switch boot first second third leaves ranges outs form_is first_is switch_is second_is boot_is third_is leaves_are ranges_are outs_are =
    let placed = place_form p constant terms in
    let switched = put_form_switch placed in
    let booted = put_boot entries switched in
    let one : put_switch form first ≡ switched = ap (λ f. put_switch f first) form_is ∙ ap (λ l. put_switch placed.number l) first_is in
    let number : switch ≡ switched.number = switch_is ∙ ap (λ (q : Put). q.number) one in
    let nodes : second ≡ switched.nodes = second_is ∙ ap (λ (q : Put). q.nodes) one in
    let two : put_last (Boot switch entries) second ≡ booted = ap (λ s. put_last (Boot s entries) second) number ∙ ap (λ l. put_last (Boot switched.number entries) l) nodes in
    let end : third ≡ booted.nodes = third_is ∙ ap (λ (q : Put). q.nodes) two in
    let leaf : boot ≡ booted.number = boot_is ∙ ap (λ (q : Put). q.number) two in
    ap (λ l. placed_of l leaves ranges outs) end
    ∙ ap (λ l. placed_of booted.nodes l ranges outs) (leaves_are ∙ ap (λ n. p.leaves ++ n ∷ []) leaf)
    ∙ ap (λ l. placed_of booted.nodes (p.leaves ++ booted.number ∷ []) l outs) ranges_are
    ∙ ap (λ l. placed_of booted.nodes (p.leaves ++ booted.number ∷ []) (p.ranges ++ range_of_entries entries ∷ []) l) outs_are

-- all operations are put
pub all_put : (p whole : Placed) (operations : List ApOp) (place : ℕ) → length operations ≤ place → place_ops p (drop place operations) ≡ whole → p ≡ whole
all_put p whole operations place all same = sym (ap (place_ops p) (drop_all place operations all)) ∙ same
