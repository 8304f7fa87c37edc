-- What is read keeps its limits.
use Rattle.std.proofs.Common.{◌≡◌, ℕ, ◌+◌, ◌-◌, ◌*◌, ◌/◌, ◌^◌, ◌≤◌, ◌<◌, Bool, true, false, ◌&&◌, suc, ap, option_map, nat_le, List, [], ◌∷◌, length, Option, Some, None, option_and_then, Result, Ok, Err, refl, arith, mul_comm, le-div_iff_mul-le}
use Rattle.std.specs.Prelude.{IfOk, ok_or, if◌then◌else◌}
use Rattle.std.specs.List.{AllByRecursion, list_all}
use Rattle.std.proofs.lemmas.Bool.{and_parts}
use Rattle.std.proofs.lemmas.Bool.Decides.{nat_tests}
use Rattle.std.proofs.lemmas.List.Elements.{All-from_recursion}
use Rattle.toml.specs.Data.{Data, Items, get, as_array}
use Rattle.refusals.specs.Reading.{◌>>=◌}
use Rattle.fhe_params.specs.declared.params.GlweChoice.{GlweChoice}
use Rattle.fhe_params.specs.declared.params.LweChoice.{LweChoice}
use Rattle.fhe_params.specs.declared.params.Gadget.{Gadget}
use Rattle.fhe_params.specs.declared.table.CostWeights.{CostWeights}
use Rattle.fhe_params.specs.declared.table.Table.{Table}
use Rattle.fhe_params.specs.declared.fault.TableFault.{TableFault}
use Rattle.fhe_params.specs.declared.fault.ListName.{ListName}
use Rattle.fhe_params.specs.declared.fault.ListName.TheVariants as list
use Rattle.fhe_params.specs.declared.fault.FieldName.{FieldName}
use Rattle.fhe_params.specs.declared.fault.FieldName.TheVariants as field
use Rattle.fhe_params.specs.declared.fields.Place.{Place}
use Rattle.fhe_params.specs.Limits.{most_entries}
use Rattle.fhe_params.specs.Params.{is_between, IsGlwe, IsLwe, IsGadget, IsParams}
use Rattle.fhe_params.specs.declared.table.Choice.{Choice}
use Rattle.fhe_params.specs.Table.{IsCostWeights, AreEntries, IsTable, IsChoice, params_of}
use Rattle.fhe_params.specs.TableReading.{Read, between, natural_of, number_at, version_of, part_at, weights_of, glwe_entry, lwe_entry, gadget_entry, is_table, values_in, is_few, are_entries, as_entries, entries_in, entries_at, entries_from, list_of, document_of, table_of, place_of, fault_of, fault_of_list}
use Rattle.fhe_params.proofs.LimitTests.{IsBetween, lies_between, bits_fit}
use Rattle.fhe_params.specs.Names.{name_of_list, name_of_field}

-- what holds of a value that a step and the next one read
after_step : {A B : Type 0} (P : B → Type 0) (Q : A → Type 0) (step : Read A) (next : A → Read B)
    → IfOk step Q → ((x : A) → Q x → IfOk (next x) P) → IfOk (step >>= next) P
after_step P Q (Ok x) next held go = go x held
after_step P Q (Err fault) next held go = tt

-- nothing is said of what a step reads
nothing : {A : Type 0} (step : Read A) → IfOk step (λ _. Unit {0})
nothing (Ok x) = tt
nothing (Err fault) = tt

-- what follows from what holds of it
implied : {A : Type 0} (P Q : A → Type 0) (step : Read A) → IfOk step P → ((x : A) → P x → Q x) → IfOk step Q
implied P Q (Ok x) held go = go x held
implied P Q (Err fault) held go = tt

chosen : (least most m : ℕ) (fault : TableFault) (test : Bool) → is_between least most m ≡ test
    → IfOk (ok_or (if test then Some m else None) fault) (IsBetween least most)
chosen least most m fault true held = lies_between least most m held
chosen least most m fault false failed = tt

number_between : (least most : ℕ) (found : Option ℕ) (fault : TableFault) → IfOk (ok_or (option_and_then (between least most) found) fault) (IsBetween least most)
number_between least most None fault = tt
number_between least most (Some m) fault = chosen least most m fault (is_between least most m) refl

number_kept : (value : Data) (place : Place) (name : FieldName) (least most : ℕ) → IfOk (number_at value place name least most) (IsBetween least most)
unfolding number_at
number_kept value place name least most = number_between least most (option_and_then natural_of (get (name_of_field name) value)) (fault_of place name)

-- ---- entries

glwe_kept : (place : Place) (value : Data) → IfOk (glwe_entry place value) IsGlwe
unfolding glwe_entry
glwe_kept place value =
    after_step IsGlwe (IsBetween 1 3) (number_at value place field.K 1 3) _ (number_kept value place field.K 1 3) (λ k k_kept.
    after_step IsGlwe (IsBetween 1 13) (number_at value place field.LogN 1 13) _ (number_kept value place field.LogN 1 13) (λ log_n log_n_kept.
    after_step IsGlwe (IsBetween 0 (k * 2 ^ log_n)) (number_at value place field.Ones 0 (k * 2 ^ log_n)) _ (number_kept value place field.Ones 0 (k * 2 ^ log_n)) (λ ones ones_kept.
    after_step IsGlwe (IsBetween 0 (2 ^ 62 - 1)) (number_at value place field.Error 0 (2 ^ 62 - 1)) _ (number_kept value place field.Error 0 (2 ^ 62 - 1)) (λ error error_kept.
    record { k_low = k_kept.0; k_high = k_kept.1; log_n_low = log_n_kept.0; log_n_high = log_n_kept.1; ones = ones_kept.1; error = omega (arith, error_kept.1) }))))

lwe_kept : (place : Place) (value : Data) → IfOk (lwe_entry place value) IsLwe
unfolding lwe_entry
lwe_kept place value =
    after_step IsLwe (IsBetween 1 1024) (number_at value place field.N 1 1024) _ (number_kept value place field.N 1 1024) (λ n n_kept.
    after_step IsLwe (IsBetween 0 n) (number_at value place field.Ones 0 n) _ (number_kept value place field.Ones 0 n) (λ ones ones_kept.
    after_step IsLwe (IsBetween 0 (2 ^ 62 - 1)) (number_at value place field.Error 0 (2 ^ 62 - 1)) _ (number_kept value place field.Error 0 (2 ^ 62 - 1)) (λ error error_kept.
    record { n_low = n_kept.0; n_high = n_kept.1; ones = ones_kept.1; error = omega (arith, error_kept.1) })))

gadget_kept : (place : Place) (value : Data) → IfOk (gadget_entry place value) IsGadget
unfolding gadget_entry
gadget_kept place value =
    after_step IsGadget (IsBetween 1 31) (number_at value place field.Base 1 31) _ (number_kept value place field.Base 1 31) (λ base base_kept.
    after_step IsGadget (IsBetween 1 (63 / base)) (number_at value place field.Level 1 (63 / base)) _ (number_kept value place field.Level 1 (63 / base)) (λ level level_kept.
    record { base_low = base_kept.0; base_high = base_kept.1; level_low = level_kept.0; bits = bits_fit base level base_kept.0 level_kept.1 }))

-- ---- lists

-- 1 to 12 of them
abbrev AreFew : List Data → Type 0
AreFew values = (1 ≤ length values) × (length values ≤ most_entries)

few_chosen : (values : List Data) (fault : TableFault) (test : Bool) → are_entries values ≡ test
    → IfOk (ok_or (if test then Some values else None) fault) AreFew
few_chosen values fault true held =
    let (few, tables) = and_parts (is_few (length values)) (list_all is_table values) held in
    lies_between 1 most_entries (length values) few
few_chosen values fault false failed = tt

few_in : (items : Option Items) (fault : TableFault) → IfOk (ok_or (option_and_then as_entries (option_map values_in items)) fault) AreFew
few_in None fault = tt
few_in (Some items) fault = few_chosen (values_in items) fault (are_entries (values_in items)) refl

few_found : (found : Option Data) (fault : TableFault) → IfOk (ok_or (option_and_then entries_in found) fault) AreFew
few_found None fault = tt
few_found (Some value) fault = few_in (as_array value) fault

entries_few : (document : Data) (name : ListName) → IfOk (entries_at document name) AreFew
unfolding entries_at
entries_few document name = few_found (get (name_of_list name) document) (fault_of_list name)

-- each entry keeps the rule, and there are as many as values
abbrev KeepEach : {E : Type 0} → (E → Type 0) → List Data → List E → Type 0
KeepEach P values entries = (length entries ≡ length values) × AllByRecursion P entries

entries_kept : {E : Type 0} (P : E → Type 0) (read : Place → Data → Read E) → ((place : Place) (value : Data) → IfOk (read place value) P)
    → (name : ListName) (at : ℕ) (values : List Data) → IfOk (entries_from read name at values) (KeepEach P values)
unfolding entries_from
entries_kept P read keeps name at [] = (refl, tt)
entries_kept P read keeps name at (value ∷ values) =
    after_step (KeepEach P (value ∷ values)) P (read (place_of name at) value) _ (keeps (place_of name at) value) (λ entry entry_kept.
    after_step (KeepEach P (value ∷ values)) (KeepEach P values) (entries_from read name (at + 1) values) _ (entries_kept P read keeps name (at + 1) values) (λ entries kept.
    (ap suc kept.0, (entry_kept, kept.1))))

list_kept : {E : Type 0} (P : E → Type 0) (read : Place → Data → Read E) → ((place : Place) (value : Data) → IfOk (read place value) P)
    → (document : Data) (name : ListName) → IfOk (list_of read document name) (AreEntries P)
unfolding list_of
list_kept P read keeps document name =
    after_step (AreEntries P) AreFew (entries_at document name) _ (entries_few document name) (λ values few.
    implied (KeepEach P values) (AreEntries P) (entries_from read name 0 values) (entries_kept P read keeps name 0 values) (λ entries kept.
    record { low = omega (arith, kept.0, few.0); high = omega (arith, kept.0, few.1); each = All-from_recursion P entries kept.1 }))

-- ---- the table

weights_kept : (document : Data) → IfOk (weights_of document) IsCostWeights
unfolding weights_of
weights_kept document =
    let place : Place = place_of list.Cost 0 in
    after_step IsCostWeights (λ _. Unit {0}) (part_at document list.Cost) _ (nothing (part_at document list.Cost)) (λ cost _.
    after_step IsCostWeights (IsBetween 0 (2 ^ 20)) (number_at cost place field.Switch 0 (2 ^ 20)) _ (number_kept cost place field.Switch 0 (2 ^ 20)) (λ switch switch_kept.
    after_step IsCostWeights (IsBetween 0 (2 ^ 20)) (number_at cost place field.Boot 0 (2 ^ 20)) _ (number_kept cost place field.Boot 0 (2 ^ 20)) (λ boot boot_kept.
    after_step IsCostWeights (IsBetween 0 (2 ^ 20)) (number_at cost place field.Lin 0 (2 ^ 20)) _ (number_kept cost place field.Lin 0 (2 ^ 20)) (λ lin lin_kept.
    record { switch = switch_kept.1; boot = boot_kept.1; lin = lin_kept.1 }))))

-- a table that is read keeps its limits
pub table_kept : (bytes : List ℕ) → IfOk (table_of bytes) IsTable
unfolding table_of
table_kept bytes =
    after_step IsTable (λ _. Unit {0}) (document_of bytes) _ (nothing (document_of bytes)) (λ document _.
    after_step IsTable (λ _. Unit {0}) (version_of document) _ (nothing (version_of document)) (λ version _.
    after_step IsTable IsCostWeights (weights_of document) _ (weights_kept document) (λ weights weights_kept.
    after_step IsTable (AreEntries IsGlwe) (list_of glwe_entry document list.Glwe) _ (list_kept IsGlwe glwe_entry glwe_kept document list.Glwe) (λ glwe glwe_kept.
    after_step IsTable (AreEntries IsLwe) (list_of lwe_entry document list.Lwe) _ (list_kept IsLwe lwe_entry lwe_kept document list.Lwe) (λ lwe lwe_kept.
    after_step IsTable (AreEntries IsGadget) (list_of gadget_entry document list.Boot) _ (list_kept IsGadget gadget_entry gadget_kept document list.Boot) (λ boot boot_kept.
    after_step IsTable (AreEntries IsGadget) (list_of gadget_entry document list.Switch) _ (list_kept IsGadget gadget_entry gadget_kept document list.Switch) (λ switch switch_kept.
    record { weights = weights_kept; glwe = glwe_kept; lwe = lwe_kept; boot = boot_kept; switch = switch_kept })))))))

-- ---- choices

-- the parameters of a choice keep their limits
pub params_kept : (t : Table) (c : Choice) → IsTable t → IsChoice t c → IsParams (params_of t c)
params_kept t c is has = record {
  glwe = is.glwe.each c.glwe _ has.glwe;
  lwe = is.lwe.each c.lwe _ has.lwe;
  boot = is.boot.each c.boot _ has.boot;
  switch = is.switch.each c.switch _ has.switch;
}
