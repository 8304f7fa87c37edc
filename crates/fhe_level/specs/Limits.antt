-- How much a source may have.
use Rattle.std.specs.Prelude.{ℕ, nat_lt, Bool, true, false, List, length, fold, count_by, max, Option, Some, None, if◌then◌else◌}
use Rattle.std.specs.Option.{option_or}
use Rattle.fhe_text.specs.declared.source.WrittenType.{WrittenType}
use Rattle.fhe_text.specs.declared.source.WrittenType.TheVariants as types
use Rattle.fhe_text.specs.declared.source.Arg.{Arg}
use Rattle.fhe_text.specs.declared.source.OpName.{OpName}
use Rattle.fhe_text.specs.declared.source.OpName.TheVariants.{ApplyLookupTable}
use Rattle.fhe_text.specs.declared.source.Statement.{Statement}
use Rattle.fhe_text.specs.declared.source.Statement.TheVariants as statements
use Rattle.fhe_text.specs.declared.source.Source.{Source}
use Rattle.forms.specs.Limits.{most_inputs, most_outs, most_width}
use Rattle.fhe_level.specs.declared.fault.LimitName.{LimitName}
use Rattle.fhe_level.specs.declared.fault.LimitName.TheVariants.{Operations, Arguments, Results, Lookups, Width}
use Rattle.fhe_level.specs.declared.fault.LimitFault.{LimitFault}

-- the statements of a program
abbrev pub most_operations : ℕ
most_operations = 4096

-- its look-ups
abbrev pub most_look_ups : ℕ
most_look_ups = 1024

-- the fault of a count that is above its limit
abbrev pub over : LimitName → ℕ → ℕ → Option LimitFault
over what count most = if nat_lt most count then Some (record { what = what; count = count; most = most }) else None

-- ---- widths

-- the width of an encrypted type, and 0 for every other type
abbrev pub width_of : WrittenType → ℕ
width_of (types.Eint width) = width
width_of _ = 0

-- the greatest width of these types
abbrev pub widest : List WrittenType → ℕ
widest written = fold (λ most ty. max most (width_of ty)) 0 written

-- the greatest width that is written for these arguments
abbrev pub widest_arg : List Arg → ℕ
widest_arg args = fold (λ most arg. max most (width_of arg.ty)) 0 args

-- the greatest width that is written in a statement
abbrev pub statement_width : Statement → ℕ
statement_width (statements.Op name operands written result) = max (widest written) (width_of result)
statement_width _ = 0

-- the greatest width that is written in these statements
abbrev pub widest_statement : List Statement → ℕ
widest_statement body = fold (λ most statement. max most (statement_width statement)) 0 body

-- the greatest width that is written in a source
abbrev pub source_width : Source → ℕ
source_width source =
    max
    (max (max (widest_arg source.args) (widest source.results)) (widest_statement source.body))
    (widest source.returned_types)

-- ---- counts

-- the operation is a look-up
abbrev pub is_table_name : OpName → Bool
is_table_name ApplyLookupTable = true
is_table_name _ = false

-- the statement is one
abbrev pub is_look_up : Statement → Bool
is_look_up (statements.Op name operands written result) = is_table_name name
is_look_up _ = false

-- the first count that is above its limit: of statements, of arguments, of results, of look-ups, and the greatest width
abbrev pub limit_fault : Source → Option LimitFault
limit_fault source =
    option_or (option_or (option_or (option_or
    (over Operations (length source.body) most_operations)
    (over Arguments (length source.args) most_inputs))
    (over Results (length source.results) most_outs))
    (over Lookups (count_by is_look_up source.body) most_look_ups))
    (over Width (source_width source) most_width)
