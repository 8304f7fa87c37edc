-- The choices in order are those out of the table, each with its cost.
use Rattle.std.proofs.Common.{◌≡◌, ℕ, ◌+◌, ◌<◌, List, [], ◌∷◌, length, All, arith, refl, subst}
use Rattle.std.specs.List.{enumerate_from, AllByRecursion}
use Rattle.std.proofs.lemmas.List.Elements.{All-from_recursion}
use Rattle.fhe_params.specs.declared.table.Table.{Table}
use Rattle.fhe_params.specs.declared.table.Choice.{Choice}
use Rattle.fhe_params.specs.declared.table.Counts.{Counts}
use Rattle.fhe_params.specs.Table.{IsChoice}
use Rattle.param_search.specs.declared.choices.Priced.{Priced}
use Rattle.param_search.specs.Choices.{price_of, choice_at, switch_choices, boot_choices, lwe_choices, all_choices, by_cost, choices_in_order}
use Rattle.param_search.proofs.Members.{Has, all_map, all_flat, has_map, has_flat, has_entry, order_keeps, all_in_order}

entries_below : {X : Type 0} (n : ℕ) (xs : List X) → AllByRecursion (λ (e : ℕ × X). e.0 < n + length xs) (enumerate_from n xs)
entries_below n [] = tt
entries_below {X} n (x ∷ xs) =
    let later = entries_below (n + 1) xs in
    let count : n + 1 + length xs ≡ n + length (x ∷ xs) = omega arith in
    (omega arith, subst (λ m. AllByRecursion (λ (e : ℕ × X). e.0 < m) (enumerate_from (n + 1) xs)) count later)

-- the choice is one out of a table, and the cost is its own
pub record IsOf (table : Table) (counts : Counts) (choice : Priced) : Type 0 where
  pub place : IsChoice table choice.choice
  pub priced : choice ≡ price_of table counts choice.choice

is_of : (table : Table) (counts : Counts) (choice : Choice) → IsChoice table choice → IsOf table counts (price_of table counts choice)
is_of table counts choice is = record { place = is; priced = refl }

switches_are : (table : Table) (counts : Counts) (glwe lwe boot : ℕ) → glwe < length table.glwe → lwe < length table.lwe → boot < length table.boot → AllByRecursion (IsOf table counts) (switch_choices table counts glwe lwe boot)
switches_are table counts glwe lwe boot is_glwe is_lwe is_boot =
    all_map (λ e. e.0 < 0 + length table.switch) (IsOf table counts) (λ switch. price_of table counts (choice_at glwe lwe boot switch.0))
    (λ e lt. is_of table counts (choice_at glwe lwe boot e.0) (record { glwe = is_glwe; lwe = is_lwe; boot = is_boot; switch = omega (arith, lt) }))
    (enumerate_from 0 table.switch) (entries_below 0 table.switch)

boots_are : (table : Table) (counts : Counts) (glwe lwe : ℕ) → glwe < length table.glwe → lwe < length table.lwe → AllByRecursion (IsOf table counts) (boot_choices table counts glwe lwe)
boots_are table counts glwe lwe is_glwe is_lwe =
    all_flat (λ e. e.0 < 0 + length table.boot) (IsOf table counts) (λ boot. switch_choices table counts glwe lwe boot.0)
    (λ e lt. switches_are table counts glwe lwe e.0 is_glwe is_lwe (omega (arith, lt)))
    (enumerate_from 0 table.boot) (entries_below 0 table.boot)

lwes_are : (table : Table) (counts : Counts) (glwe : ℕ) → glwe < length table.glwe → AllByRecursion (IsOf table counts) (lwe_choices table counts glwe)
lwes_are table counts glwe is_glwe =
    all_flat (λ e. e.0 < 0 + length table.lwe) (IsOf table counts) (λ lwe. boot_choices table counts glwe lwe.0)
    (λ e lt. boots_are table counts glwe e.0 is_glwe (omega (arith, lt)))
    (enumerate_from 0 table.lwe) (entries_below 0 table.lwe)

all_are : (table : Table) (counts : Counts) → AllByRecursion (IsOf table counts) (all_choices table counts)
all_are table counts =
    all_flat (λ e. e.0 < 0 + length table.glwe) (IsOf table counts) (λ glwe. lwe_choices table counts glwe.0)
    (λ e lt. lwes_are table counts e.0 (omega (arith, lt)))
    (enumerate_from 0 table.glwe) (entries_below 0 table.glwe)

pub each_is : (table : Table) (counts : Counts) → AllByRecursion (IsOf table counts) (choices_in_order table counts)
unfolding choices_in_order
each_is table counts = order_keeps (IsOf table counts) [] (all_choices table counts) tt (all_are table counts)

pub choices_are : (table : Table) (counts : Counts) → All (λ choice. IsChoice table choice.choice) (choices_in_order table counts)
choices_are table counts k d lt = (All-from_recursion (IsOf table counts) (choices_in_order table counts) (each_is table counts) k d lt).place

-- each choice out of the table is there
pub has_choice : (table : Table) (counts : Counts) (choice : Choice) → IsChoice table choice → Has (choices_in_order table counts) (price_of table counts choice)
unfolding choices_in_order
has_choice table counts choice is =
    let glwe = has_entry 0 table.glwe choice.glwe is.glwe in
    let lwe = has_entry 0 table.lwe choice.lwe is.lwe in
    let boot = has_entry 0 table.boot choice.boot is.boot in
    let switch = has_entry 0 table.switch choice.switch is.switch in
    let price = price_of table counts (choice_at (0 + choice.glwe) (0 + choice.lwe) (0 + choice.boot) (0 + choice.switch)) in
    let there : Has (all_choices table counts) price =
    has_flat (λ e. lwe_choices table counts e.0) (enumerate_from 0 table.glwe) (0 + choice.glwe, glwe.0) price glwe.1
    (has_flat (λ e. boot_choices table counts (0 + choice.glwe) e.0) (enumerate_from 0 table.lwe) (0 + choice.lwe, lwe.0) price lwe.1
    (has_flat (λ e. switch_choices table counts (0 + choice.glwe) (0 + choice.lwe) e.0) (enumerate_from 0 table.boot) (0 + choice.boot, boot.0) price boot.1
    (has_map (λ e. price_of table counts (choice_at (0 + choice.glwe) (0 + choice.lwe) (0 + choice.boot) e.0)) (enumerate_from 0 table.switch) (0 + choice.switch, switch.0) switch.1))) in
    let zero_glwe : 0 + choice.glwe ≡ choice.glwe = omega arith in
    let zero_lwe : 0 + choice.lwe ≡ choice.lwe = omega arith in
    let zero_boot : 0 + choice.boot ≡ choice.boot = omega arith in
    let zero_switch : 0 + choice.switch ≡ choice.switch = omega arith in
    let same : price ≡ price_of table counts choice = rw (zero_glwe, zero_lwe, zero_boot, zero_switch) refl in
    subst (λ p. Has (by_cost [] (all_choices table counts)) p) same (all_in_order (all_choices table counts) price there)
