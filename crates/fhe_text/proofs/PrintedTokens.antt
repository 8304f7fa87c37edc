-- The tokens of the text that is printed of a source, each function with those that stand behind.
use Rattle.std.proofs.Common.{ℕ, ◌+◌, List, [], ◌∷◌, length, codes, ℤ, Option, Some, None}
use Rattle.std.specs.Fmt.{decimal, signed_decimal}
use Rattle.mlir_lex.specs.declared.TokenKind.TheVariants.{Word, Int, Value, Symbol, TypeName, Text, Sign}
use Rattle.fhe_text.specs.declared.source.WrittenType.{WrittenType}
use Rattle.fhe_text.specs.declared.source.WrittenType.TheVariants as types
use Rattle.fhe_text.specs.declared.source.Arg.{Arg}
use Rattle.fhe_text.specs.declared.source.Entries.{Entries}
use Rattle.fhe_text.specs.declared.source.Entries.TheVariants as entries
use Rattle.fhe_text.specs.declared.source.Statement.{Statement}
use Rattle.fhe_text.specs.declared.source.Statement.TheVariants as statements
use Rattle.fhe_text.specs.declared.source.Source.{Source}
use Rattle.fhe_text.specs.Roles.{Spelled}
use Rattle.fhe_text.specs.Conditions.{op_text, quoted}
use Rattle.fhe_text.specs.Printing.{value_text}

-- what one of a list is written as, at its place, before what stands behind
abbrev pub Writing : Type 0 → Type 0
Writing X = ℕ → X → List Spelled → List Spelled

-- all of them, the first at the place
abbrev pub all_tokens : {X : Type 0} → Writing X → ℕ → List X → List Spelled → List Spelled
all_tokens write place [] rest = rest
all_tokens write place (x ∷ xs) rest = write place x (all_tokens write (place + 1) xs rest)

-- one behind its `,`
abbrev pub behind_comma : {X : Type 0} → Writing X → Writing X
behind_comma write place x rest = (Sign, codes ",") ∷ write place x rest

-- all of them, with `,` between
abbrev pub listed_tokens : {X : Type 0} → Writing X → ℕ → List X → List Spelled → List Spelled
listed_tokens write place [] rest = rest
listed_tokens write place (x ∷ xs) rest = write place x (all_tokens (behind_comma write) (place + 1) xs rest)

abbrev pub type_tokens : WrittenType → List Spelled → List Spelled
type_tokens (types.Eint width) rest = (TypeName, codes "!FHE.eint") ∷ (Sign, codes "<") ∷ (Int, decimal width) ∷ (Sign, codes ">") ∷ rest
type_tokens (types.Int bits) rest = (Word, 105 ∷ decimal bits) ∷ rest
type_tokens (types.Tensor count bits) rest =
    (Word, codes "tensor") ∷ (Sign, codes "<") ∷ (Int, decimal count) ∷ (Word, 120 ∷ 105 ∷ decimal bits) ∷ (Sign, codes ">") ∷ rest

abbrev pub types_tokens : List WrittenType → List Spelled → List Spelled
types_tokens written rest = listed_tokens (λ place t more. type_tokens t more) 0 written rest

abbrev pub values_tokens : ℕ → List ℕ → List Spelled → List Spelled
values_tokens args values rest = listed_tokens (λ place v more. (Value, value_text args v) ∷ more) 0 values rest

abbrev pub numbers_tokens : List ℤ → List Spelled → List Spelled
numbers_tokens numbers rest = listed_tokens (λ place z more. (Int, signed_decimal z) ∷ more) 0 numbers rest

abbrev pub entries_tokens : Entries → List Spelled → List Spelled
entries_tokens (entries.List numbers) rest = (Sign, codes "[") ∷ numbers_tokens numbers ((Sign, codes "]") ∷ rest)
entries_tokens (entries.Splat value) rest = (Int, signed_decimal value) ∷ rest

-- what stands behind the entries of a tensor
abbrev pub dense_type_tokens : ℕ → ℕ → List Spelled → List Spelled
dense_type_tokens count bits rest =
    (Word, codes "tensor") ∷ (Sign, codes "<") ∷ (Int, decimal count) ∷ (Word, 120 ∷ 105 ∷ decimal bits) ∷ (Sign, codes ">") ∷ rest

-- what stands behind the operands of an operation
abbrev pub signature_tokens : List WrittenType → WrittenType → List Spelled → List Spelled
signature_tokens written result rest =
    (Sign, codes ":") ∷ (Sign, codes "(") ∷ types_tokens written ((Sign, codes ")") ∷ (Sign, codes "->") ∷ type_tokens result rest)

abbrev pub operands_tokens : ℕ → List ℕ → List Spelled → List Spelled
operands_tokens args operands rest = (Sign, codes "(") ∷ values_tokens args operands ((Sign, codes ")") ∷ rest)

abbrev pub computed_tokens : ℕ → Statement → List Spelled → List Spelled
computed_tokens args (statements.Int value bits) rest =
    (Word, codes "arith.constant") ∷ (Int, signed_decimal value) ∷ (Sign, codes ":") ∷ (Word, 105 ∷ decimal bits) ∷ rest
computed_tokens args (statements.Dense found count bits) rest =
    (Word, codes "arith.constant") ∷ (Word, codes "dense") ∷ (Sign, codes "<")
    ∷ entries_tokens found ((Sign, codes ">") ∷ (Sign, codes ":") ∷ dense_type_tokens count bits rest)
computed_tokens args (statements.Op name operands written result) rest =
    (Text, quoted (op_text name)) ∷ operands_tokens args operands (signature_tokens written result rest)

abbrev pub statement_tokens : ℕ → Writing Statement
statement_tokens args place statement rest = (Value, 37 ∷ decimal place) ∷ (Sign, codes "=") ∷ computed_tokens args statement rest

abbrev pub declared_tokens : Option (ℤ × ℤ) → List Spelled → List Spelled
declared_tokens None rest = rest
declared_tokens (Some range) rest =
    (Sign, codes "{") ∷ (Word, codes "fhec.range") ∷ (Sign, codes "=") ∷ (Sign, codes "[") ∷ (Int, signed_decimal range.0)
    ∷ (Sign, codes ",") ∷ (Int, signed_decimal range.1) ∷ (Sign, codes "]") ∷ (Sign, codes "}") ∷ rest

abbrev pub arg_tokens : Writing Arg
arg_tokens place arg rest = (Value, 37 ∷ 97 ∷ 114 ∷ 103 ∷ decimal place) ∷ (Sign, codes ":") ∷ type_tokens arg.ty (declared_tokens arg.declared rest)

abbrev pub results_tokens : List WrittenType → List Spelled → List Spelled
results_tokens [] rest = (Sign, codes "(") ∷ (Sign, codes ")") ∷ rest
results_tokens (one ∷ []) rest = type_tokens one rest
results_tokens (one ∷ other ∷ more) rest = (Sign, codes "(") ∷ types_tokens (one ∷ other ∷ more) ((Sign, codes ")") ∷ rest)

abbrev pub return_tokens : Source → List Spelled → List Spelled
return_tokens source rest =
    (Word, codes "return") ∷ values_tokens (length source.args) source.returned ((Sign, codes ":") ∷ types_tokens source.returned_types rest)

abbrev pub body_tokens : Source → List Spelled → List Spelled
body_tokens source rest =
    (Sign, codes "{") ∷ all_tokens (statement_tokens (length source.args)) 0 source.body (return_tokens source ((Sign, codes "}") ∷ rest))

abbrev pub source_tokens : Source → List Spelled
source_tokens source =
    (Word, codes "func.func") ∷ (Symbol, codes "@main") ∷ (Sign, codes "(")
    ∷ listed_tokens arg_tokens 0 source.args ((Sign, codes ")") ∷ (Sign, codes "->") ∷ results_tokens source.results (body_tokens source []))
