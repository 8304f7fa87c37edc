-- A node that is put is there at last, whether it was there before or not.
use Rattle.std.proofs.Common.{◌≡◌, ℕ, ◌+◌, ◌<◌, ◌≤◌, Bool, true, false, List, [], ◌∷◌, ◌++◌, length, All, sym, refl, ap, ◌∙◌, subst, inl, inr, arith, ℤ, pos}
use Prim.Native.Nat.{suc}
use Rattle.std.specs.Prelude.{◌==◌, ◌&&◌}
use Rattle.std.specs.Ordering.{int_eq}
use Rattle.std.specs.List.{list_any, position_or_len}
use Rattle.std.proofs.lemmas.Bool.{cases_Bool, false≢true, and_parts, eqb-true}
use Rattle.std.proofs.lemmas.Bool.Decides.{Decides-int_eq}
use Rattle.std.proofs.lemmas.List.{append-nil, length_push}
use Rattle.std.proofs.lemmas.List.Elements.{All-weaker}
use Rattle.tfhe_level.specs.declared.level.TfheOp.{TfheOp}
use Rattle.tfhe_level.specs.declared.level.TfheOp.TheVariants.{Input, Lin, Switch, Boot, Out}
use Rattle.tfhe_level.specs.Operations.{operands_of, is_out}
use Rattle.place_pass.specs.Placing.{same_terms, is_sum, is_switch_of, place_where, Put, put_last, put_unless, put_sum, put_switch, put_form}
use Rattle.place_pass.proofs.Solving.{StandsAt, stands_last, AreSoundFrom, sound_push}

-- ---- tests on nodes

pub same_terms_is : (terms others : List (ℕ × ℤ)) → same_terms terms others ≡ true → terms ≡ others
same_terms_is [] [] same = refl
same_terms_is [] (u ∷ others) same = absurd (false≢true same)
same_terms_is (t ∷ terms) [] same = absurd (false≢true same)
same_terms_is (t ∷ terms) (u ∷ others) same =
    let parts = and_parts ((t.0 == u.0) && int_eq t.1 u.1) (same_terms terms others) same in
    let head = and_parts (t.0 == u.0) (int_eq t.1 u.1) parts.0 in
    let leaf : t.0 ≡ u.0 = eqb-true t.0 u.0 head.0 in
    let weight : t.1 ≡ u.1 = (Decides-int_eq t.1 u.1).0 head.1 in
    let rest : terms ≡ others = same_terms_is terms others parts.1 in
    ap (λ l. (l, t.1) ∷ terms) leaf ∙ ap (λ w. (u.0, w) ∷ terms) weight ∙ ap (λ l. u ∷ l) rest

pub is_sum_is : (constant : ℤ) (terms : List (ℕ × ℤ)) (node : TfheOp) → is_sum constant terms node ≡ true → node ≡ Lin constant terms
is_sum_is constant terms (Lin other others) is =
    let parts = and_parts (int_eq other constant) (same_terms others terms) is in
    let first : other ≡ constant = (Decides-int_eq other constant).0 parts.0 in
    let rest : others ≡ terms = same_terms_is others terms parts.1 in
    cc
is_sum_is constant terms (Input lo hi) is = absurd (false≢true is)
is_sum_is constant terms (Switch source) is = absurd (false≢true is)
is_sum_is constant terms (Boot source entries) is = absurd (false≢true is)
is_sum_is constant terms (Out source lo hi) is = absurd (false≢true is)

pub is_switch_of_is : (source : ℕ) (node : TfheOp) → is_switch_of source node ≡ true → node ≡ Switch source
is_switch_of_is source (Switch other) is = ap (λ s. Switch s) (eqb-true other source is)
is_switch_of_is source (Input lo hi) is = absurd (false≢true is)
is_switch_of_is source (Lin constant terms) is = absurd (false≢true is)
is_switch_of_is source (Boot other entries) is = absurd (false≢true is)
is_switch_of_is source (Out other lo hi) is = absurd (false≢true is)

-- ---- the first node that passes

stands_behind : (first : TfheOp) (nodes : List TfheOp) (place : ℕ) (node : TfheOp) → StandsAt nodes place node → StandsAt (first ∷ nodes) (suc place) node
stands_behind first nodes place node at = record {
  before = first ∷ at.before;
  rest = at.rest;
  split = ap (λ l. first ∷ l) at.split;
  number = ap suc at.number;
}

pub first_standing : (test : TfheOp → Bool) (node : TfheOp) → ((other : TfheOp) → test other ≡ true → other ≡ node) → (nodes : List TfheOp) → list_any test nodes ≡ true → StandsAt nodes (position_or_len test nodes) node
first_standing test node is [] any = absurd (false≢true any)
first_standing test node is (first ∷ nodes) any =
    elim (cases_Bool (test first)) [
      | inl passes ↦ (
          let same : first ≡ node = is first passes in
          let place : 0 ≡ position_or_len test (first ∷ nodes) = rw passes refl in
          record { before = []; rest = nodes; split = ap (λ f. f ∷ nodes) same; number = place }
          )
      | inr fails ↦ (
          let later : list_any test nodes ≡ true = rw fails at any in
          let place : suc (position_or_len test nodes) ≡ position_or_len test (first ∷ nodes) = rw fails (omega arith) in
          subst (λ n. StandsAt (first ∷ nodes) n node) place (stands_behind first nodes (position_or_len test nodes) node (first_standing test node is nodes later))
          )
    ]

-- ---- a node that is put

-- it was there, or it is the last one
pub data IsPut (node : TfheOp) (nodes : List TfheOp) (put : Put) : Type 0 where
  there : put.nodes ≡ nodes → StandsAt nodes put.number node → IsPut node nodes put
  last : put ≡ put_last node nodes → IsPut node nodes put

unless_is_put : (test : TfheOp → Bool) (node : TfheOp) → ((other : TfheOp) → test other ≡ true → other ≡ node) → (nodes : List TfheOp) → IsPut node nodes (put_unless (place_where test nodes) node nodes)
unless_is_put test node is nodes =
    elim (cases_Bool (list_any test nodes)) [
      | inl passes ↦ rw passes (there refl (first_standing test node is nodes passes))
      | inr fails ↦ rw fails (last refl)
    ]

pub sum_is_put : (constant : ℤ) (terms : List (ℕ × ℤ)) (nodes : List TfheOp) → IsPut (Lin constant terms) nodes (put_sum constant terms nodes)
sum_is_put constant terms nodes = unless_is_put (is_sum constant terms) (Lin constant terms) (is_sum_is constant terms) nodes

pub switch_is_put : (source : ℕ) (nodes : List TfheOp) → IsPut (Switch source) nodes (put_switch source nodes)
switch_is_put source nodes = unless_is_put (is_switch_of source) (Switch source) (is_switch_of_is source) nodes

-- what holds of the nodes, and of the nodes with this one at the end
pub put_keeps : (P : List TfheOp → Type 0) (node : TfheOp) (nodes : List TfheOp) (put : Put) → IsPut node nodes put → P nodes → P (nodes ++ node ∷ []) → P put.nodes
put_keeps P node nodes put (there same at) before after = subst P (sym same) before
put_keeps P node nodes put (last same) before after = subst P (sym (ap (λ (p : Put). p.nodes) same)) after

pub put_stands : (node : TfheOp) (nodes : List TfheOp) (put : Put) → IsPut node nodes put → StandsAt put.nodes put.number node
put_stands node nodes put (there same at) = subst (λ l. StandsAt l put.number node) (sym same) at
put_stands node nodes put (last same) = subst (λ (p : Put). StandsAt p.nodes p.number node) (sym same) (stands_last nodes node)

-- there are the nodes, and perhaps more
pub record IsLonger (nodes longer : List TfheOp) : Type 0 where
  pub more : List TfheOp
  pub same : longer ≡ nodes ++ more

pub put_longer : (node : TfheOp) (nodes : List TfheOp) (put : Put) → IsPut node nodes put → IsLonger nodes put.nodes
put_longer node nodes put is =
    put_keeps (IsLonger nodes) node nodes put is (record { more = []; same = sym (append-nil nodes) }) (record { more = node ∷ []; same = refl })

pub put_sound : (node : TfheOp) (nodes : List TfheOp) (put : Put) → IsPut node nodes put → AreSoundFrom 0 nodes → is_out node ≡ false → All (λ operand. operand < length nodes) (operands_of node) → AreSoundFrom 0 put.nodes
put_sound node nodes put is are fails on =
    put_keeps (AreSoundFrom 0) node nodes put is are
    (sound_push 0 nodes node are (record {
      operands = All-weaker (λ (o : ℕ). o < length nodes) (λ (o : ℕ). o < 0 + length nodes) (λ o l. omega arith) (operands_of node) on;
      no_out = fails;
    }))

pub put_short : (node : TfheOp) (nodes : List TfheOp) (put : Put) → IsPut node nodes put → length put.nodes ≤ length nodes + 1
put_short node nodes put is =
    put_keeps (λ (l : List TfheOp). length l ≤ length nodes + 1) node nodes put is (omega arith) (omega (arith, length_push nodes node))

-- ---- the node of a form

-- it is a leaf, or a weighted sum
pub data IsFormPut (constant : ℤ) (terms : List (ℕ × ℤ)) (nodes : List TfheOp) (put : Put) : Type 0 where
  leaf : constant ≡ pos 0 → terms ≡ (put.number, pos 1) ∷ [] → put.nodes ≡ nodes → IsFormPut constant terms nodes put
  sum : IsPut (Lin constant terms) nodes put → IsFormPut constant terms nodes put

one_term : (constant : ℤ) (t : ℕ × ℤ) (nodes : List TfheOp) → IsFormPut constant (t ∷ []) nodes (put_form constant (t ∷ []) nodes)
one_term constant t nodes =
    elim (cases_Bool (int_eq constant (pos 0) && int_eq t.1 (pos 1))) [
      | inl passes ↦ (
          let parts = and_parts (int_eq constant (pos 0)) (int_eq t.1 (pos 1)) passes in
          let weight : t.1 ≡ pos 1 = (Decides-int_eq t.1 (pos 1)).0 parts.1 in
          rw passes (leaf ((Decides-int_eq constant (pos 0)).0 parts.0) (ap (λ w. (t.0, w) ∷ []) weight) refl)
          )
      | inr fails ↦ rw fails (sum (sum_is_put constant (t ∷ []) nodes))
    ]

pub form_is_put : (constant : ℤ) (terms : List (ℕ × ℤ)) (nodes : List TfheOp) → IsFormPut constant terms nodes (put_form constant terms nodes)
form_is_put constant [] nodes = sum (sum_is_put constant [] nodes)
form_is_put constant (t ∷ []) nodes = one_term constant t nodes
form_is_put constant (t ∷ other ∷ terms) nodes = sum (sum_is_put constant (t ∷ other ∷ terms) nodes)
