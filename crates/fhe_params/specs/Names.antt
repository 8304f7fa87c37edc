-- The keys of a table's parts and fields, which are also how their faults are printed.
use Rattle.std.specs.Prelude.{ℕ, List, codes}
use Rattle.fhe_params.specs.declared.fault.ListName.{ListName}
use Rattle.fhe_params.specs.declared.fault.ListName.TheVariants as list
use Rattle.fhe_params.specs.declared.fault.FieldName.{FieldName}
use Rattle.fhe_params.specs.declared.fault.FieldName.TheVariants as field

-- the key of a part
abbrev pub name_of_list : ListName → List ℕ
name_of_list list.Version = codes "version"
name_of_list list.Cost = codes "cost"
name_of_list list.Glwe = codes "glwe"
name_of_list list.Lwe = codes "lwe"
name_of_list list.Boot = codes "boot"
name_of_list list.Switch = codes "switch"

-- the key of a field; a part as a whole is called list
abbrev pub name_of_field : FieldName → List ℕ
name_of_field field.Version = codes "version"
name_of_field field.Switch = codes "switch"
name_of_field field.Boot = codes "boot"
name_of_field field.Lin = codes "lin"
name_of_field field.List = codes "list"
name_of_field field.K = codes "k"
name_of_field field.LogN = codes "log_n"
name_of_field field.Ones = codes "ones"
name_of_field field.Error = codes "error"
name_of_field field.N = codes "n"
name_of_field field.Base = codes "base"
name_of_field field.Level = codes "level"
