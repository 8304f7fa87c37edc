-- The operands of an operation that keeps its rule.
use Rattle.std.proofs.Common.{◌≡◌, ℕ, zero, suc, ◌+◌, ◌<◌, ◌≤◌, List, [], ◌∷◌, ◌++◌, length, take, drop, get_or, map, refl, sym, ap, ◌∙◌, subst, arith, Some, Bool, true, false, ◌||◌}
use Rattle.std.specs.Prelude.{IsTrue, IsSomeAnd}
use Rattle.std.specs.List.{slice_get, list_any}
use Rattle.std.proofs.lemmas.Bool.{false≢true}
use Rattle.std.proofs.lemmas.List.{append_assoc, append-nil}
use Rattle.std.proofs.lemmas.List.Folds.{list_any_at}
use Rattle.std.proofs.lemmas.Option.{slice_get_within, get_or_from_slice_get, none-some, same_Some}
use lib.IntN.{ℤ}
use Rattle.tfhe_level.specs.declared.level.TfheOp.{TfheOp}
use Rattle.tfhe_level.specs.declared.level.TfheOp.TheVariants.{Input, Lin, Switch, Boot, Out}
use Rattle.tfhe_level.specs.Operations.{is_leaf, is_switch, is_boot, is_big_node}
use Rattle.tfhe_level.specs.Rules.{Stands, is_boot_on, KeepsRule, KeepRules}

-- the rule of the operation at a place
kept_at : (all earlier rest : List TfheOp) (n : ℕ) (op : TfheOp) → KeepRules all earlier rest → slice_get rest n ≡ Some op → KeepsRule all (earlier ++ take n rest) op
kept_at all earlier [] n op rules at = absurd (none-some op at)
kept_at all earlier (o ∷ rest) zero op rules at =
    subst (λ e. KeepsRule all e op) (sym (append-nil earlier)) (subst (KeepsRule all earlier) (same_Some o op at) rules.0)
kept_at all earlier (o ∷ rest) (suc n) op rules at =
    subst (λ e. KeepsRule all e op) (append_assoc earlier (o ∷ []) (take n rest)) (kept_at all (earlier ++ o ∷ []) rest n op rules.1 at)

pub rule_at : (operations : List TfheOp) (n : ℕ) (op : TfheOp) → KeepRules operations [] operations → slice_get operations n ≡ Some op → KeepsRule operations (take n operations) op
rule_at operations n op rules at = kept_at operations [] operations n op rules at

-- an operand among the first operations is below, and stands among all
pub stands_below : (kind : TfheOp → Bool) (operations : List TfheOp) (n source : ℕ) → Stands kind (take n operations) source → (source < n) × Stands kind operations source
stands_below kind operations zero source stands = absurd stands
stands_below kind [] (suc n) source stands = absurd stands
stands_below kind (op ∷ operations) (suc n) zero stands = (omega arith, stands)
stands_below kind (op ∷ operations) (suc n) (suc source) stands =
    let below = stands_below kind operations n source stands in (omega (arith, below.0), below.1)

-- which operation it is
pub operand_of : (kind : TfheOp → Bool) (operations : List TfheOp) (source : ℕ) → Stands kind operations source → (op : TfheOp) × (slice_get operations source ≡ Some op) × (kind op ≡ true)
operand_of kind [] source stands = absurd stands
operand_of kind (op ∷ operations) zero stands = (op, refl, stands)
operand_of kind (op ∷ operations) (suc source) stands = operand_of kind operations source stands

pub leaf_is_big : (op : TfheOp) → is_leaf op ≡ true → is_switch op ≡ false
leaf_is_big (Input lo hi) is = refl
leaf_is_big (Lin constant terms) is = refl
leaf_is_big (Switch source) is = absurd (false≢true is)
leaf_is_big (Boot source entries) is = refl
leaf_is_big (Out source lo hi) is = refl

pub big_node_is_big : (op : TfheOp) → is_big_node op ≡ true → is_switch op ≡ false
big_node_is_big (Input lo hi) is = refl
big_node_is_big (Lin constant terms) is = refl
big_node_is_big (Switch source) is = absurd (false≢true is)
big_node_is_big (Boot source entries) is = refl
big_node_is_big (Out source lo hi) is = refl

-- ---- bootstraps

boot_on_is_boot : (number : ℕ) (op : TfheOp) → is_boot_on number op ≡ true → is_boot op ≡ true
boot_on_is_boot number (Input lo hi) is = is
boot_on_is_boot number (Lin constant terms) is = is
boot_on_is_boot number (Switch source) is = is
boot_on_is_boot number (Boot source entries) is = refl
boot_on_is_boot number (Out source lo hi) is = is

or_weaker : (a b c d : Bool) → (a ≡ true → c ≡ true) → (b ≡ true → d ≡ true) → (a || b) ≡ true → (c || d) ≡ true
or_weaker true b c d first rest is = rw (first refl) refl
or_weaker false b true d first rest is = refl
or_weaker false b false d first rest is = rest is

-- a bootstrap on a key switch is a bootstrap
pub boot_from_used : (number : ℕ) (operations : List TfheOp) → list_any (is_boot_on number) operations ≡ true → list_any is_boot operations ≡ true
boot_from_used number [] is = is
boot_from_used number (op ∷ operations) is =
    or_weaker (is_boot_on number op) (list_any (is_boot_on number) operations) (is_boot op) (list_any is_boot operations) (boot_on_is_boot number op) (boot_from_used number operations) is

pub boot_there : (operations : List TfheOp) (n source : ℕ) (entries : List ℤ) → slice_get operations n ≡ Some (Boot source entries) → list_any is_boot operations ≡ true
boot_there operations n source entries at =
    list_any_at is_boot operations n (Boot source entries) (slice_get_within operations n (Boot source entries) at) (ap is_boot (get_or_from_slice_get operations n (Boot source entries) (Boot source entries) at))
