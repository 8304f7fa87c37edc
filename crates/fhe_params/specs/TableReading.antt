-- Reading a table from the document that its text is.
use Rattle.std.specs.Prelude.{ℕ, ◌+◌, ◌-◌, ◌*◌, ◌/◌, ◌^◌, ◌&&◌, Bool, List, [], ◌∷◌, length, pos, Option, Some, None, option_map, option_and_then, ok_or, is_some, is_none, Result, Ok, if◌then◌else◌}
use Rattle.std.specs.List.{list_all}
use Rattle.std.specs.Str.{is_utf8}
use Rattle.toml.specs.Data.{Data, integer, table, Items, no_items, item, get, as_table, as_array}
use Rattle.toml.specs.Parse.{parse_document}
use Rattle.refusals.specs.Reading.{◌>>=◌}
use Rattle.fhe_params.specs.declared.params.GlweChoice.{GlweChoice}
use Rattle.fhe_params.specs.declared.params.LweChoice.{LweChoice}
use Rattle.fhe_params.specs.declared.params.Gadget.{Gadget}
use Rattle.fhe_params.specs.declared.table.CostWeights.{CostWeights}
use Rattle.fhe_params.specs.declared.table.Table.{Table}
use Rattle.fhe_params.specs.declared.fault.TableFault.{TableFault}
use Rattle.fhe_params.specs.declared.fault.TableFault.TheVariants.{Toml, Field}
use Rattle.fhe_params.specs.declared.fault.ListName.{ListName}
use Rattle.fhe_params.specs.declared.fault.ListName.TheVariants as list
use Rattle.fhe_params.specs.declared.fault.FieldName.{FieldName}
use Rattle.fhe_params.specs.declared.fault.FieldName.TheVariants as field
use Rattle.fhe_params.specs.declared.fields.Place.{Place}
use Rattle.fhe_params.specs.Limits.{most_polynomials, most_log_n, most_small_dimension, error_limit, most_base, most_digit_bits, most_weight, most_entries}
use Rattle.fhe_params.specs.Params.{coefficients, is_between}
use Rattle.fhe_params.specs.Names.{name_of_list, name_of_field}

-- a value, or the first fault of a table
abbrev pub Read : Type 0 → Type 0
Read X = Result X TableFault

-- the document that bytes spell, where they are UTF-8 and TOML
unfoldable pub document_of : List ℕ → Read Data
document_of bytes = ok_or (option_map table (if is_utf8 bytes then parse_document bytes else None)) Toml

-- ---- parts and their numbers

-- an entry of a part of a table, or the part itself
abbrev pub place_of : ListName → ℕ → Place
place_of name entry = record { list = name; entry = entry }

-- a fault of a field there
abbrev pub fault_of : Place → FieldName → TableFault
fault_of place name = Field place.list place.entry name

-- a fault of a part as a whole
abbrev pub fault_of_list : ListName → TableFault
fault_of_list name = fault_of (place_of name 0) field.List

-- the whole number from 0 on that a value is
abbrev pub natural_of : Data → Option ℕ
natural_of (integer (pos n)) = Some n
natural_of _ = None

-- the number, where it lies between these two
abbrev pub between : ℕ → ℕ → ℕ → Option ℕ
between least most n = if is_between least most n then Some n else None

-- the number at a field of a part or an entry, from least to most
unfoldable pub number_at : Data → Place → FieldName → ℕ → ℕ → Read ℕ
number_at value place name least most = ok_or (option_and_then (between least most) (option_and_then natural_of (get (name_of_field name) value))) (fault_of place name)

-- a version, where there is one, is 1
unfoldable pub version_of : Data → Read (Unit {0})
version_of document =
    if is_none (get (name_of_list list.Version) document) then Ok tt
    else (number_at document (place_of list.Version 0) field.Version 1 1 >>= λ version. Ok tt)

-- whether a value is a table
abbrev pub is_table : Data → Bool
is_table value = is_some (as_table value)

-- the value, where it is a table
abbrev pub as_part : Data → Option Data
as_part value = if is_table value then Some value else None

-- the part of the document at a name, which is a table
unfoldable pub part_at : Data → ListName → Read Data
part_at document name = ok_or (option_and_then as_part (get (name_of_list name) document)) (fault_of_list name)

-- the weights of the cost
unfoldable pub weights_of : Data → Read CostWeights
weights_of document = do
  cost ← part_at document list.Cost
  switch ← number_at cost (place_of list.Cost 0) field.Switch 0 most_weight
  boot ← number_at cost (place_of list.Cost 0) field.Boot 0 most_weight
  lin ← number_at cost (place_of list.Cost 0) field.Lin 0 most_weight
  Ok (record { switch = switch; boot = boot; lin = lin })

-- ---- entries of lists

-- an entry for the ring
unfoldable pub glwe_entry : Place → Data → Read GlweChoice
glwe_entry place value = do
  k ← number_at value place field.K 1 most_polynomials
  log_n ← number_at value place field.LogN 1 most_log_n
  ones ← number_at value place field.Ones 0 (k * 2 ^ log_n)
  error ← number_at value place field.Error 0 (error_limit - 1)
  Ok (record { k = k; log_n = log_n; ones = ones; error = error })

-- an entry for small ciphertexts
unfoldable pub lwe_entry : Place → Data → Read LweChoice
lwe_entry place value = do
  n ← number_at value place field.N 1 most_small_dimension
  ones ← number_at value place field.Ones 0 n
  error ← number_at value place field.Error 0 (error_limit - 1)
  Ok (record { n = n; ones = ones; error = error })

-- an entry for digits
unfoldable pub gadget_entry : Place → Data → Read Gadget
gadget_entry place value = do
  base ← number_at value place field.Base 1 most_base
  level ← number_at value place field.Level 1 (most_digit_bits / base)
  Ok (record { base = base; level = level })

-- the values of an array
abbrev pub values_in : Items → List Data
values_in no_items = []
values_in (item value values) = value ∷ values_in values

-- from 1 to 12
abbrev pub is_few : ℕ → Bool
is_few number = is_between 1 most_entries number

-- whether values are 1 to 12 tables
abbrev pub are_entries : List Data → Bool
are_entries values = is_few (length values) && list_all is_table values

-- the values, where they are 1 to 12 tables
abbrev pub as_entries : List Data → Option (List Data)
as_entries values = if are_entries values then Some values else None

-- the values of an array, where they are 1 to 12 tables
abbrev pub entries_in : Data → Option (List Data)
entries_in value = option_and_then as_entries (option_map values_in (as_array value))

-- the entries of the list at a name
unfoldable pub entries_at : Data → ListName → Read (List Data)
entries_at document name = ok_or (option_and_then entries_in (get (name_of_list name) document)) (fault_of_list name)

-- entries read in order, the first as the one at this place
unfoldable pub entries_from : {E : Type 0} → (Place → Data → Read E) → ListName → ℕ → List Data → Read (List E)
entries_from read name at [] = Ok []
entries_from read name at (value ∷ values) = do
  entry ← read (place_of name at) value
  entries ← entries_from read name (at + 1) values
  Ok (entry ∷ entries)

-- the list at a name, with its entries
unfoldable pub list_of : {E : Type 0} → (Place → Data → Read E) → Data → ListName → Read (List E)
list_of read document name = do
  values ← entries_at document name
  entries_from read name 0 values

-- the table that a text of TOML spells, or its first fault
unfoldable pub table_of : List ℕ → Read Table
table_of bytes = do
  document ← document_of bytes
  version ← version_of document
  weights ← weights_of document
  glwe ← list_of glwe_entry document list.Glwe
  lwe ← list_of lwe_entry document list.Lwe
  boot ← list_of gadget_entry document list.Boot
  switch ← list_of gadget_entry document list.Switch
  Ok (record { weights = weights; glwe = glwe; lwe = lwe; boot = boot; switch = switch })
