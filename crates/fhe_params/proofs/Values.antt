-- The values of an array, as its `Vec` and as data.
use Rattle.std.proofs.Common.{◌≡◌, Bool, true, false, ◌&&◌, List, [], ◌∷◌, length, map, Some, None, refl, ap, ◌∙◌}
use Rattle.std.specs.List.{list_all}
use Rattle.std.proofs.lemmas.List.{length-map}
use Rattle.toml.specs.Data.{Data, as_array}
use Rattle.toml.specs.View.{view, items_view}
use Rattle.toml.specs.declared.value.Value.{Value}
use Rattle.fhe_params.specs.TableReading.{is_table, values_in, is_few, are_entries, as_entries, entries_in}

pub values_in_items : (values : List Value) → values_in (items_view values) ≡ map view values
values_in_items [] = refl
values_in_items (value ∷ values) = ap (λ xs. view value ∷ xs) (values_in_items values)

pub all_tables : (values : List Value) → list_all is_table (map view values) ≡ list_all (λ value. is_table (view value)) values
all_tables [] = refl
all_tables (value ∷ values) = ap (λ b. is_table (view value) && b) (all_tables values)

pub entries_test : (values : List Value) (tables : Bool) → is_few (length values) ≡ true → tables ≡ list_all (λ value. is_table (view value)) values → tables ≡ are_entries (map view values)
entries_test values tables few is = rw (length-map values view, few, all_tables values) is

pub too_many : (values : List Value) → is_few (length values) ≡ false → are_entries (map view values) ≡ false
too_many values many = rw (length-map values view, many) refl

in_array : (value : Data) (values : List Value) → Some (items_view values) ≡ as_array value → entries_in value ≡ as_entries (map view values)
in_array value values is = rw (← is, values_in_items values) refl

pub array_entries : (value : Data) (values : List Value) → Some (items_view values) ≡ as_array value → are_entries (map view values) ≡ true → entries_in value ≡ Some (map view values)
array_entries value values is held = in_array value values is ∙ rw held refl

pub other_array : (value : Data) (values : List Value) → Some (items_view values) ≡ as_array value → are_entries (map view values) ≡ false → entries_in value ≡ None
other_array value values is failed = in_array value values is ∙ rw failed refl

pub no_array : (value : Data) → None ≡ as_array value → entries_in value ≡ None
no_array value is = rw (← is) refl
