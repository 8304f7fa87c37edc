-- How a status is shown: the exit code of the program, and the line on standard error.
use Rattle.std.specs.Prelude.{ℕ, List, [], ◌++◌, codes}
use Rattle.std.specs.Fmt.{decimal, signed_decimal}
use Rattle.hex.specs.Hex.{encode_lower}
use Rattle.command_forms.specs.declared.status.Status.{Status}
use Rattle.command_forms.specs.declared.status.Status.TheVariants as status
use Rattle.command_forms.specs.declared.fault.CertFile.{CertFile}
use Rattle.command_forms.specs.declared.fault.CertFile.TheVariants as cert_file
use Rattle.fhe_text.specs.declared.fault.TextKind.{TextKind}
use Rattle.fhe_text.specs.declared.fault.TextKind.TheVariants as text_kind
use Rattle.fhe_level.specs.declared.fault.TypeKind.{TypeKind}
use Rattle.fhe_level.specs.declared.fault.TypeKind.TheVariants as type_kind
use Rattle.fhe_level.specs.declared.fault.LimitName.{LimitName}
use Rattle.fhe_level.specs.declared.fault.LimitName.TheVariants as limit_name
use Rattle.fhe_params.specs.declared.fault.TableFault.{TableFault}
use Rattle.fhe_params.specs.declared.fault.TableFault.TheVariants as table_fault
use Rattle.fhe_params.specs.Names.{name_of_list, name_of_field}
use Rattle.circuit_file.specs.declared.fault.CircuitKind.{CircuitKind}
use Rattle.circuit_file.specs.declared.fault.CircuitKind.TheVariants as circuit_kind
use Rattle.sealed_files.specs.declared.kinds.FileKind.{FileKind}
use Rattle.sealed_files.specs.declared.kinds.FileKind.TheVariants as file_kind
use Rattle.sealed_files.specs.declared.fault.FileFault.{FileFault}
use Rattle.sealed_files.specs.declared.fault.FileFault.TheVariants as file_fault
use Rattle.value_files.specs.declared.fault.ValueKind.{ValueKind}
use Rattle.value_files.specs.declared.fault.ValueKind.TheVariants as value_kind

-- the exit code
abbrev pub code_of : Status → ℕ
code_of status.Ok = 0
code_of status.Usage = 2
code_of (status.Text line column kind) = 3
code_of (status.Typing place kind) = 4
code_of (status.Range op lo hi) = 5
code_of status.NoChoice = 6
code_of (status.Table fault) = 7
code_of (status.Circuit fault) = 8
code_of (status.File kind fault) = 9
code_of (status.Value line kind) = 10
code_of (status.Limit fault) = 11
code_of status.Read = 12
code_of status.Write = 13
code_of status.Memory = 14
code_of (status.Certificate file line) = 15

-- ---- words

-- why a text is no program
abbrev pub text_word : TextKind → List ℕ
text_word text_kind.Token = codes "token"
text_word text_kind.Syntax = codes "syntax"
text_word text_kind.Name = codes "name"
text_word text_kind.Op = codes "op"
text_word text_kind.Constant = codes "constant"
text_word text_kind.Shape = codes "shape"
text_word text_kind.End = codes "end"

-- which rule of types is broken
abbrev pub type_word : TypeKind → List ℕ
type_word type_kind.Declared = codes "declared"
type_word type_kind.Arity = codes "arity"
type_word type_kind.Operand = codes "operand"
type_word type_kind.Rule = codes "rule"
type_word type_kind.Table = codes "table"
type_word type_kind.Return = codes "return"

-- which rule of circuits is broken
abbrev pub circuit_word : CircuitKind → List ℕ
circuit_word circuit_kind.Spelling = codes "spelling"
circuit_word circuit_kind.Params = codes "params"
circuit_word circuit_kind.Node = codes "node"
circuit_word circuit_kind.Width = codes "width"
circuit_word (circuit_kind.Constraint bound limit) = codes "constraint"

-- which file it is
abbrev pub file_word : FileKind → List ℕ
file_word file_kind.Secret = codes "secret"
file_word file_kind.Eval = codes "eval"
file_word file_kind.Cipher = codes "cipher"

-- what is wrong with a value
abbrev pub value_word : ValueKind → List ℕ
value_word value_kind.Number = codes "number"
value_word value_kind.Range = codes "range"
value_word value_kind.Many = codes "many"
value_word value_kind.Few = codes "few"
value_word value_kind.Decoded = codes "decoded"

-- what is limited
abbrev pub limit_word : LimitName → List ℕ
limit_word limit_name.Bytes = codes "bytes"
limit_word limit_name.Operations = codes "operations"
limit_word limit_name.Arguments = codes "arguments"
limit_word limit_name.Results = codes "results"
limit_word limit_name.Lookups = codes "lookups"
limit_word limit_name.Width = codes "width"
limit_word limit_name.Weight = codes "weight"
limit_word limit_name.Weights = codes "weights"

-- which of the two files of `compile` it is
abbrev pub cert_word : CertFile → List ℕ
cert_word cert_file.Cert = codes "cert"
cert_word cert_file.Circuit = codes "circuit"

-- ---- lines

-- what is wrong with a table
abbrev pub table_line : TableFault → List ℕ
table_line table_fault.Toml = codes "fhec: table toml"
table_line (table_fault.Field list entry field) =
    codes "fhec: table "
    ++ (name_of_list list ++ (codes " " ++ (decimal entry ++ (codes " " ++ name_of_field field))))

-- what is wrong with a circuit text: for a constraint its bound and its limit too
abbrev pub circuit_line : ℕ → CircuitKind → List ℕ
circuit_line line (circuit_kind.Constraint bound limit) =
    codes "fhec: circuit "
    ++ (decimal line
    ++ (codes " " ++ (codes "constraint" ++ (codes " " ++ (decimal bound ++ (codes " " ++ decimal limit))))))
circuit_line line kind = codes "fhec: circuit " ++ (decimal line ++ (codes " " ++ circuit_word kind))

-- what is wrong with a file: for a length the one wanted and its own, for a field its place, for a mismatch both values
abbrev pub file_line : FileKind → FileFault → List ℕ
file_line kind file_fault.Magic = codes "fhec: file " ++ (file_word kind ++ codes " magic")
file_line kind (file_fault.Length want have) =
    codes "fhec: file "
    ++ (file_word kind ++ (codes " length " ++ (decimal want ++ (codes " " ++ decimal have))))
file_line kind file_fault.Digest = codes "fhec: file " ++ (file_word kind ++ codes " digest")
file_line kind (file_fault.Field place) =
    codes "fhec: file " ++ (file_word kind ++ (codes " field " ++ decimal place))
file_line kind (file_fault.Mismatch left right) =
    codes "fhec: file "
    ++ (file_word kind ++ (codes " mismatch " ++ (encode_lower left ++ (codes " " ++ encode_lower right))))

-- the line, without its line feed
abbrev pub line_of : Status → List ℕ
line_of status.Ok = []
line_of status.Usage = codes "fhec: usage"
line_of (status.Text line column kind) =
    codes "fhec: text " ++ (decimal line ++ (codes ":" ++ (decimal column ++ (codes " " ++ text_word kind))))
line_of (status.Typing place kind) = codes "fhec: type " ++ (decimal place ++ (codes " " ++ type_word kind))
line_of (status.Range op lo hi) =
    codes "fhec: range "
    ++ (decimal op ++ (codes " " ++ (signed_decimal lo ++ (codes " " ++ signed_decimal hi))))
line_of status.NoChoice = codes "fhec: no choice"
line_of (status.Table fault) = table_line fault
line_of (status.Circuit fault) = circuit_line fault.line fault.kind
line_of (status.File kind fault) = file_line kind fault
line_of (status.Value line kind) = codes "fhec: value " ++ (decimal line ++ (codes " " ++ value_word kind))
line_of (status.Limit fault) =
    codes "fhec: limit "
    ++ (limit_word fault.what ++ (codes " " ++ (decimal fault.count ++ (codes " " ++ decimal fault.most))))
line_of status.Read = codes "fhec: read fault"
line_of status.Write = codes "fhec: write fault"
line_of status.Memory = codes "fhec: memory"
line_of (status.Certificate file line) = codes "fhec: certificate " ++ (cert_word file ++ (codes " " ++ decimal line))
