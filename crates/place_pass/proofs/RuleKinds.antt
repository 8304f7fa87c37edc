-- Kinds of nodes, and rules of nodes that were put one after the other.
use Rattle.std.proofs.Common.{◌≡◌, ℕ, ◌+◌, ◌<◌, ◌≤◌, Bool, true, List, [], ◌∷◌, ◌++◌, length, get_or, sym, refl, ◌∙◌, subst, arith, ℤ}
use Prim.Native.Nat.{zero, suc}
use Rattle.std.specs.Prelude.{AllPairs}
use Rattle.std.specs.List.{AllByRecursion, list_any}
use Rattle.std.proofs.lemmas.Bool.{false≢true, or_left}
use Rattle.std.proofs.lemmas.List.{append_assoc, append-nil}
use Rattle.std.proofs.lemmas.List.Folds.{list_any-append}
use Rattle.forms.specs.Forms.{AreRising}
use Rattle.tfhe_level.specs.declared.level.TfheOp.{TfheOp}
use Rattle.tfhe_level.specs.declared.level.TfheOp.TheVariants.{Input, Lin, Switch, Boot, Out}
use Rattle.tfhe_level.specs.Operations.{is_leaf, is_big_node}
use Rattle.tfhe_level.specs.Rules.{Stands, is_boot_on, KeepsRule, KeepRules}
use Rattle.place_pass.specs.Placing.{on_nodes}
use Rattle.place_pass.proofs.Solving.{StandsAt}
use Rattle.place_pass.proofs.Puts.{IsLonger}
use Rattle.place_pass.proofs.Following.{AreOn}

-- ---- kinds

stands_behind : (kind : TfheOp → Bool) (before rest : List TfheOp) (node : TfheOp) → kind node ≡ true → Stands kind (before ++ node ∷ rest) (length before)
stands_behind kind [] rest node is = is
stands_behind kind (first ∷ before) rest node is = stands_behind kind before rest node is

pub kind_at : (kind : TfheOp → Bool) (nodes : List TfheOp) (place : ℕ) (node : TfheOp) → StandsAt nodes place node → kind node ≡ true → Stands kind nodes place
kind_at kind nodes place node at is =
    subst (λ n. Stands kind nodes n) at.number (subst (λ l. Stands kind l (length at.before)) (sym at.split) (stands_behind kind at.before at.rest node is))

pub stands_before : (kind : TfheOp → Bool) (nodes more : List TfheOp) (place : ℕ) → Stands kind nodes place → Stands kind (nodes ++ more) place
stands_before kind [] more place stands = absurd stands
stands_before kind (node ∷ nodes) more zero stands = stands
stands_before kind (node ∷ nodes) more (suc place) stands = stands_before kind nodes more place stands

pub stands_longer : (kind : TfheOp → Bool) (nodes longer : List TfheOp) (place : ℕ) → IsLonger nodes longer → Stands kind nodes place → Stands kind longer place
stands_longer kind nodes longer place more stands = subst (λ l. Stands kind l place) (sym more.same) (stands_before kind nodes more.more place stands)

pub all_stand_longer : (kind : TfheOp → Bool) (nodes longer : List TfheOp) (places : List ℕ) → IsLonger nodes longer → AllByRecursion (Stands kind nodes) places → AllByRecursion (Stands kind longer) places
all_stand_longer kind nodes longer [] more stand = tt
all_stand_longer kind nodes longer (place ∷ places) more stand = (stands_longer kind nodes longer place more stand.0, all_stand_longer kind nodes longer places more stand.1)

pub stand_push : (kind : TfheOp → Bool) (nodes : List TfheOp) (places : List ℕ) (place : ℕ) → AllByRecursion (Stands kind nodes) places → Stands kind nodes place → AllByRecursion (Stands kind nodes) (places ++ place ∷ [])
stand_push kind nodes [] place stand is = (is, tt)
stand_push kind nodes (first ∷ places) place stand is = (stand.0, stand_push kind nodes places place stand.1 is)

pub leaf_is_big : (nodes : List TfheOp) (place : ℕ) → Stands is_leaf nodes place → Stands is_big_node nodes place
leaf_is_big [] place stands = absurd stands
leaf_is_big (Input lo hi ∷ nodes) zero stands = refl
leaf_is_big (Lin constant terms ∷ nodes) zero stands = absurd (false≢true stands)
leaf_is_big (Switch source ∷ nodes) zero stands = absurd (false≢true stands)
leaf_is_big (Boot source entries ∷ nodes) zero stands = refl
leaf_is_big (Out source lo hi ∷ nodes) zero stands = absurd (false≢true stands)
leaf_is_big (node ∷ nodes) (suc place) stands = leaf_is_big nodes place stands

pub stands_place : (kind : TfheOp → Bool) (nodes : List TfheOp) (places : List ℕ) (at : ℕ) → AllByRecursion (Stands kind nodes) places → at < length places → Stands kind nodes (get_or places at 0)
stands_place kind nodes [] at stand below = absurd (omega arith)
stands_place kind nodes (place ∷ places) zero stand below = stand.0
stands_place kind nodes (place ∷ places) (suc at) stand below = stands_place kind nodes places at stand.1 (omega arith)

-- ---- terms on nodes

pub moved_rising : (leaves : List ℕ) (low least : ℕ) (terms : List (ℕ × ℤ)) → AllPairs (λ a b. a < b) leaves → ((k : ℕ) → low ≤ k → k < length leaves → least ≤ get_or leaves k 0) → AreRising low terms → AreOn (length leaves) terms → AreRising least (on_nodes leaves terms)
moved_rising leaves low least [] pairs bound rising on = tt
moved_rising leaves low least (t ∷ terms) pairs bound rising on =
    let next : (k : ℕ) → t.0 + 1 ≤ k → k < length leaves → get_or leaves t.0 0 + 1 ≤ get_or leaves k 0 = λ k le below. omega (arith, pairs t.0 k 0 (omega (arith, le)) below) in
    (bound t.0 rising.0 on.0, moved_rising leaves (t.0 + 1) (get_or leaves t.0 0 + 1) terms pairs next rising.1 on.1)

-- ---- rules

used_more : (number : ℕ) (all more : List TfheOp) → list_any (is_boot_on number) all ≡ true → list_any (is_boot_on number) (all ++ more) ≡ true
used_more number all more used = list_any-append (is_boot_on number) all more ∙ or_left (list_any (is_boot_on number) all) (list_any (is_boot_on number) more) used

rule_more : (all more earlier : List TfheOp) (op : TfheOp) → KeepsRule all earlier op → KeepsRule (all ++ more) earlier op
rule_more all more earlier (Input lo hi) rule = rule
rule_more all more earlier (Lin constant terms) rule = rule
rule_more all more earlier (Switch source) rule = record { operand = rule.operand; starts = rule.starts; used = used_more (length earlier) all more rule.used; few = rule.few }
rule_more all more earlier (Boot source entries) rule = rule
rule_more all more earlier (Out source lo hi) rule = rule

pub rules_more : (all more earlier operations : List TfheOp) → KeepRules all earlier operations → KeepRules (all ++ more) earlier operations
rules_more all more earlier [] rules = tt
rules_more all more earlier (op ∷ operations) rules = (rule_more all more earlier op rules.0, rules_more all more (earlier ++ op ∷ []) operations rules.1)

pub rules_longer : (nodes longer : List TfheOp) → IsLonger nodes longer → KeepRules nodes [] nodes → KeepRules longer [] nodes
rules_longer nodes longer more rules = subst (λ l. KeepRules l [] nodes) (sym more.same) (rules_more nodes more.more [] nodes rules)

pub rules_push : (all earlier operations : List TfheOp) (op : TfheOp) → KeepRules all earlier operations → KeepsRule all (earlier ++ operations) op → KeepRules all earlier (operations ++ op ∷ [])
rules_push all earlier [] op rules rule = (subst (λ l. KeepsRule all l op) (append-nil earlier) rule, tt)
rules_push all earlier (first ∷ operations) op rules rule =
    (rules.0, rules_push all (earlier ++ first ∷ []) operations op rules.1 (subst (λ l. KeepsRule all l op) (sym (append_assoc earlier (first ∷ []) operations)) rule))
