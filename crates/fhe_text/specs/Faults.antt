-- Where a text is no program, and why.
use Rattle.std.specs.Prelude.{◌≡◌, ℕ, ◌+◌, ◌==◌, not, IsTrue, List, [], ◌∷◌, ◌++◌, take, map, count_by, slice_range, Option, Some, None, ◌⊎◌}
use Rattle.std.specs.List.{suffix_len}
use Rattle.std.specs.Prelude.{length}
use Rattle.mlir_lex.specs.declared.Token.{Token}
use Rattle.mlir_lex.specs.declared.LexFault.{LexFault}
use Rattle.mlir_lex.specs.Reading.{tokens_of}
use Rattle.fhe_text.specs.declared.fault.TextFault.{TextFault}
use Rattle.fhe_text.specs.declared.fault.TextKind.{TextKind}
use Rattle.fhe_text.specs.declared.fault.TextKind.TheVariants as kinds
use Rattle.fhe_text.specs.declared.source.Source.{Source}
use Rattle.fhe_text.specs.Patterns.{IsCut}
use Rattle.fhe_text.specs.Roles.{Spelled, Role, fits}
use Rattle.fhe_text.specs.Grammar.{program}
use Rattle.fhe_text.specs.Conditions.{Part, MeetConditions, fault_kind}
use Rattle.fhe_text.specs.Program.{tokens_in, roles_in, IsProgram, BeginsProgram}

-- a token of the text as its kind and its bytes
abbrev pub spelled : List ℕ → Token → Spelled
spelled bytes token = (token.kind, slice_range bytes token.start token.end)

-- the bytes are a program that spells this source: its tokens reach the end, and they do
abbrev pub Spells : List ℕ → Source → Type 0
Spells bytes source = ((tokens_of bytes).1 ≡ None) × IsProgram (map (spelled bytes) (tokens_of bytes).0) source

-- the line of a place, from 1: LF (10) ends a line
abbrev pub line_of : List ℕ → ℕ → ℕ
line_of bytes place = count_by (λ b. b == 10) (take place bytes) + 1

-- the column of a place, in bytes from 1
abbrev pub column_of : List ℕ → ℕ → ℕ
column_of bytes place = suffix_len (λ b. not (b == 10)) (take place bytes) + 1

-- the fault of the kind at the place
abbrev pub fault_at : List ℕ → ℕ → TextKind → TextFault
fault_at bytes place kind = record { line = line_of bytes place; column = column_of bytes place; kind = kind }

-- behind these tokens, which begin a program, the productions let this token stand in the role, and it has the form
abbrev pub MayStand : List Spelled → Role → Spelled → Type 0
MayStand before role next =
    (parts : List Part) × (tokens_in parts ≡ before) × IsCut program (roles_in parts ++ role ∷ []) × MeetConditions [] parts × IsTrue (fits role next)

-- the kind of the fault at a token: that of the role in which it may stand, and else Syntax
abbrev pub IsKindAt : List Spelled → Spelled → TextKind → Type 0
IsKindAt before next kind =
    ((role : Role) × MayStand before role next × (kind ≡ fault_kind role))
    ⊎ (((role : Role) → MayStand before role next → ⊥) × (kind ≡ kinds.Syntax))

-- the fault is at the first token with which the tokens so far begin no program
abbrev pub IsWrongToken : List ℕ → List Token → TextFault → Type 0
IsWrongToken bytes tokens fault =
    (before : List Token) × (next : Token) × (behind : List Token) × (tokens ≡ before ++ next ∷ behind)
    × BeginsProgram (map (spelled bytes) before) × (BeginsProgram (map (spelled bytes) before ++ spelled bytes next ∷ []) → ⊥)
    × (kind : TextKind) × IsKindAt (map (spelled bytes) before) (spelled bytes next) kind × (fault ≡ fault_at bytes next.start kind)

-- the fault is at the stop, or at the end of a text without a stop that is no program
abbrev pub IsEarlyEnd : List ℕ → List Token → Option LexFault → TextFault → Type 0
IsEarlyEnd bytes tokens (Some stop) fault = fault ≡ fault_at bytes stop.at kinds.Token
IsEarlyEnd bytes tokens None fault = ((source : Source) → IsProgram (map (spelled bytes) tokens) source → ⊥) × (fault ≡ fault_at bytes (length bytes) kinds.End)

-- the fault of a text: at the first wrong token, and where there is none, at its stop or its end
abbrev pub IsTextFault : List ℕ → TextFault → Type 0
IsTextFault bytes fault =
    IsWrongToken bytes (tokens_of bytes).0 fault
    ⊎ (BeginsProgram (map (spelled bytes) (tokens_of bytes).0) × IsEarlyEnd bytes (tokens_of bytes).0 (tokens_of bytes).1 fault)
