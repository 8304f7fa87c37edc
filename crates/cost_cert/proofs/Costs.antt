-- How much a circuit costs at most, and how many choices a table has.
use Rattle.std.proofs.Common.{◌≡◌, ℕ, suc, ◌+◌, ◌*◌, ◌^◌, ◌<◌, ◌≤◌, Bool, true, false, cond, ltb, List, [], ◌∷◌, length, arith, refl, mul-le-mul}
use Rattle.std.specs.List.{AllByRecursion, enumerate_from}
use Rattle.std.proofs.Math.Pow.{pow_mono}
use Rattle.std.proofs.lemmas.List.{length-map}
use Rattle.std.proofs.lemmas.List.FromFn.{length-enumerate_from}
use Rattle.fhe_params.specs.declared.params.Gadget.{Gadget}
use Rattle.fhe_params.specs.declared.params.Params.{Params}
use Rattle.fhe_params.specs.declared.table.CostWeights.{CostWeights}
use Rattle.fhe_params.specs.declared.table.Counts.{Counts}
use Rattle.fhe_params.specs.declared.table.Table.{Table}
use Rattle.fhe_params.specs.declared.table.Choice.{Choice}
use Rattle.fhe_params.specs.Params.{IsGadget, IsParams, big_dimension}
use Rattle.fhe_params.specs.Table.{IsTable, IsCostWeights, IsChoice, params_of}
use Rattle.fhe_params.specs.Cost.{switch_key_words, boot_key_words, cost_of}
use Rattle.fhe_params.specs.Laws.{TableLaws}
use Rattle.param_search.specs.Choices.{choice_at, price_of, switch_choices, boot_choices, lwe_choices, all_choices, put_by_cost, by_cost, choices_in_order}
use Rattle.cost_cert.proofs.Lists.{all_map, all_flat, flat_most, numbers_below}

-- ---- costs

-- a circuit does so little that its costs have few digits
pub record AreSmall (c : Counts) : Type 0 where
  pub switches : c.switches ≤ 1024
  pub boots : c.boots ≤ 1024
  pub weights : c.weights ≤ 10653696

level_small : (g : Gadget) → IsGadget g → g.level ≤ 63
level_small g is =
    let here : g.level ≤ g.level = omega arith in
    let product : 1 * g.level ≤ g.base * g.level = mul-le-mul is.base_low here in
    omega (arith, product, is.bits)

coefficients_few : (log_n : ℕ) → log_n ≤ 13 → 2 ^ log_n ≤ 8192
coefficients_few log_n high = let most : 2 ^ log_n ≤ 2 ^ 13 = pow_mono {i = log_n} {j = 13} high in omega (arith, most)

dimension_few : (k size : ℕ) → k ≤ 3 → size ≤ 8192 → k * size ≤ 24576
dimension_few k size few small = mul-le-mul few small

switch_few : (dimension level words : ℕ) → dimension ≤ 24576 → level ≤ 63 → words ≤ 1025 → dimension * level * words ≤ 1586995200
switch_few dimension level words a b c = mul-le-mul (mul-le-mul a b) c

boot_few : (n parts level size : ℕ) → n ≤ 1024 → parts ≤ 4 → level ≤ 63 → size ≤ 8192 → n * (parts * parts) * level * size ≤ 8455716864
boot_few n parts level size a b c d = mul-le-mul (mul-le-mul (mul-le-mul a (mul-le-mul b b)) c) d

-- a weight times so many passes over so many words
part_few : (weight count words : ℕ) → weight ≤ 2 ^ 20 → count ≤ 10653696 → words ≤ 2 ^ 40 → weight * count * words ≤ 2 ^ 20 * 10653696 * 2 ^ 40
part_few weight count words a b c = mul-le-mul (mul-le-mul a b) c

pass_few : (words log_n : ℕ) → words ≤ 8455716864 → log_n ≤ 13 → words * log_n ≤ 109924319232
pass_few words log_n a b = mul-le-mul a b

three : (a b c most : ℕ) → a ≤ most → b ≤ most → c ≤ most → a + b + c ≤ 3 * most
three a b c most x y z = omega (arith, x, y, z)

pub cost_small : (p : Params) (w : CostWeights) (c : Counts) → IsParams p → IsCostWeights w → AreSmall c → cost_of p w c < 10 ^ 38
cost_small p w c is small few =
    let size = coefficients_few p.glwe.log_n is.glwe.log_n_high in
    let dimension : big_dimension p ≤ 24576 = dimension_few p.glwe.k (2 ^ p.glwe.log_n) is.glwe.k_high size in
    let switch : switch_key_words p ≤ 1586995200 = switch_few (big_dimension p) p.switch.level (p.lwe.n + 1) dimension (level_small p.switch is.switch) (omega (arith, is.lwe.n_high)) in
    let boot : boot_key_words p ≤ 8455716864 = boot_few p.lwe.n (p.glwe.k + 1) p.boot.level (2 ^ p.glwe.log_n) is.lwe.n_high (omega (arith, is.glwe.k_high)) (level_small p.boot is.boot) size in
    let pass : boot_key_words p * p.glwe.log_n ≤ 109924319232 = pass_few (boot_key_words p) p.glwe.log_n boot is.glwe.log_n_high in
    let first = part_few w.switch c.switches (switch_key_words p) small.switch (omega (arith, few.switches)) (omega (arith, switch)) in
    let second = part_few w.boot c.boots (boot_key_words p * p.glwe.log_n) small.boot (omega (arith, few.boots)) (omega (arith, pass)) in
    let third = part_few w.lin c.weights (big_dimension p + 1) small.lin few.weights (omega (arith, dimension)) in
    let sum = three (w.switch * c.switches * switch_key_words p) (w.boot * c.boots * (boot_key_words p * p.glwe.log_n)) (w.lin * c.weights * (big_dimension p + 1)) (2 ^ 20 * 10653696 * 2 ^ 40) first second third in
    omega (arith, sum)

-- ---- choices

abbrev Domain : {A B : Type 0} → (A → B) → Type 0
Domain {A} {B} f = A

-- a choice with its cost
abbrev pub Priced : Type 0
Priced = Domain put_by_cost

-- places below 12, and a cost of few digits
pub record IsShort (choice : Choice) (amount : ℕ) : Type 0 where
  pub glwe : choice.glwe < 12
  pub lwe : choice.lwe < 12
  pub boot : choice.boot < 12
  pub switch : choice.switch < 12
  pub cost : amount < 10 ^ 38

abbrev pub IsShortPrice : Priced → Type 0
IsShortPrice x = IsShort x.choice x.cost

pub short_choice : TableLaws → (table : Table) (counts : Counts) (choice : Choice) → IsTable table → AreSmall counts → IsChoice table choice → IsShort choice (cost_of (params_of table choice) table.weights counts)
short_choice T table counts choice is small there = record {
  glwe = omega (arith, there.glwe, is.glwe.high);
  lwe = omega (arith, there.lwe, is.lwe.high);
  boot = omega (arith, there.boot, is.boot.high);
  switch = omega (arith, there.switch, is.switch.high);
  cost = cost_small (params_of table choice) table.weights counts (T.params table choice is there) is.weights small;
}

pub all_short : TableLaws → (table : Table) (counts : Counts) → IsTable table → AreSmall counts → AllByRecursion IsShortPrice (all_choices table counts)
all_short T table counts is small =
    all_flat (λ e. e.0 < length table.glwe) IsShortPrice (λ glwe. lwe_choices table counts glwe.0)
    (λ glwe glwe_there.
    all_flat (λ e. e.0 < length table.lwe) IsShortPrice (λ lwe. boot_choices table counts glwe.0 lwe.0)
    (λ lwe lwe_there.
    all_flat (λ e. e.0 < length table.boot) IsShortPrice (λ boot. switch_choices table counts glwe.0 lwe.0 boot.0)
    (λ boot boot_there.
    all_map (λ e. e.0 < length table.switch) IsShortPrice (λ switch. price_of table counts (choice_at glwe.0 lwe.0 boot.0 switch.0))
    (λ switch switch_there. short_choice T table counts (choice_at glwe.0 lwe.0 boot.0 switch.0) is small (record { glwe = glwe_there; lwe = lwe_there; boot = boot_there; switch = switch_there }))
    (enumerate_from 0 table.switch) (numbers_below table.switch))
    (enumerate_from 0 table.boot) (numbers_below table.boot))
    (enumerate_from 0 table.lwe) (numbers_below table.lwe))
    (enumerate_from 0 table.glwe) (numbers_below table.glwe)

-- ---- how many

entries_few : {X : Type 0} (entries : List X) → length entries ≤ 12 → length (enumerate_from 0 entries) ≤ 12
entries_few entries few = omega (arith, few, length-enumerate_from 0 entries)

pub choices_few : (table : Table) (counts : Counts) → IsTable table → length (all_choices table counts) ≤ 20736
choices_few table counts is =
    flat_most (λ (glwe : ℕ × _). lwe_choices table counts glwe.0) 12 1728
    (λ glwe.
    flat_most (λ (lwe : ℕ × _). boot_choices table counts glwe.0 lwe.0) 12 144
    (λ lwe.
    flat_most (λ (boot : ℕ × _). switch_choices table counts glwe.0 lwe.0 boot.0) 12 12
    (λ boot. omega (arith, length-map (enumerate_from 0 table.switch) (λ switch. price_of table counts (choice_at glwe.0 lwe.0 boot.0 switch.0)), entries_few table.switch is.switch.high))
    (enumerate_from 0 table.boot) (entries_few table.boot is.boot.high))
    (enumerate_from 0 table.lwe) (entries_few table.lwe is.lwe.high))
    (enumerate_from 0 table.glwe) (entries_few table.glwe is.glwe.high)

-- ---- put in order

put_one : (c x : Priced) (xs others : List Priced) (test : Bool) → length others ≡ suc (length xs) → length (cond test (c ∷ x ∷ xs) (x ∷ others)) ≡ suc (suc (length xs))
put_one c x xs others true more = refl
put_one c x xs others false more = omega (arith, more)

length_put : (c : Priced) (xs : List Priced) → length (put_by_cost c xs) ≡ suc (length xs)
length_put c [] = refl
length_put c (x ∷ xs) = put_one c x xs (put_by_cost c xs) (ltb c.cost x.cost) (length_put c xs)

length_ordered : (ordered choices : List Priced) → length (by_cost ordered choices) ≡ length ordered + length choices
length_ordered ordered [] = omega arith
length_ordered ordered (c ∷ choices) = omega (arith, length_ordered (put_by_cost c ordered) choices, length_put c ordered)

put_step : (P : Priced → Type 0) (c x : Priced) (xs others : List Priced) (test : Bool) → P c → P x → AllByRecursion P xs → AllByRecursion P others → AllByRecursion P (cond test (c ∷ x ∷ xs) (x ∷ others))
put_step P c x xs others true is first rest later = (is, (first, rest))
put_step P c x xs others false is first rest later = (first, later)

put_keeps : (P : Priced → Type 0) (c : Priced) (xs : List Priced) → P c → AllByRecursion P xs → AllByRecursion P (put_by_cost c xs)
put_keeps P c [] is all = (is, tt)
put_keeps P c (x ∷ xs) is all = put_step P c x xs (put_by_cost c xs) (ltb c.cost x.cost) is all.0 all.1 (put_keeps P c xs is all.1)

order_keeps : (P : Priced → Type 0) (ordered choices : List Priced) → AllByRecursion P ordered → AllByRecursion P choices → AllByRecursion P (by_cost ordered choices)
order_keeps P ordered [] all others = all
order_keeps P ordered (c ∷ choices) all others = order_keeps P (put_by_cost c ordered) choices (put_keeps P c ordered others.0 all) others.1

-- the choices in order are short and few
pub ordered_short : TableLaws → (table : Table) (counts : Counts) → IsTable table → AreSmall counts → AllByRecursion IsShortPrice (choices_in_order table counts)
unfolding choices_in_order
ordered_short T table counts is small = order_keeps IsShortPrice [] (all_choices table counts) tt (all_short T table counts is small)

pub ordered_few : (table : Table) (counts : Counts) → IsTable table → length (choices_in_order table counts) ≤ 20736
unfolding choices_in_order
ordered_few table counts is = omega (arith, length_ordered [] (all_choices table counts), choices_few table counts is)
