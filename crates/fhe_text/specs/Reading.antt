-- The source of a text, or its fault, as a function of the bytes: which roles may stand next is told by the pattern.
use Rattle.std.specs.Prelude.{ℕ, ◌-◌, ◌==◌, ◌&&◌, ◌||◌, Bool, true, false, List, [], ◌∷◌, ◌++◌, length, map, Option, Some, None, Result, Ok, Err, if◌then◌else◌}
use Rattle.std.specs.List.{list_all, slice_index_or}
use Rattle.mlir_lex.specs.declared.TokenKind.TheVariants.{Word}
use Rattle.mlir_lex.specs.declared.Token.{Token}
use Rattle.mlir_lex.specs.declared.LexFault.{LexFault}
use Rattle.mlir_lex.specs.Reading.{tokens_of}
use Rattle.fhe_text.specs.declared.fault.TextFault.{TextFault}
use Rattle.fhe_text.specs.declared.fault.Wrong.{Wrong}
use Rattle.fhe_text.specs.declared.fault.TextKind.{TextKind}
use Rattle.fhe_text.specs.declared.fault.TextKind.TheVariants as kinds
use Rattle.fhe_text.specs.declared.source.Source.{Source}
use Rattle.fhe_text.specs.Patterns.{Pattern, nothing, token, both, either, many}
use Rattle.fhe_text.specs.Roles.{Spelled, Role, fits}
use Rattle.fhe_text.specs.Grammar.{program}
use Rattle.fhe_text.specs.Conditions.{Part, meets, fault_kind}
use Rattle.fhe_text.specs.Program.{source_of}
use Rattle.fhe_text.specs.Faults.{spelled, fault_at}

-- no token is whole in the pattern
abbrev pub can_be_nothing : {Role : Type 0} → Pattern Role → Bool
can_be_nothing nothing = true
can_be_nothing (token role) = false
can_be_nothing (both first last) = can_be_nothing first && can_be_nothing last
can_be_nothing (either one other) = can_be_nothing one || can_be_nothing other
can_be_nothing (many item) = true

-- a role that may stand next, and the patterns of what stands behind it, in order
abbrev pub Way : Type 0 → Type 0
Way Role = Role × List (Pattern Role)

-- the roles that may stand first in the pattern, with the others behind it
abbrev pub ways_into : {Role : Type 0} → Pattern Role → List (Pattern Role) → List (Way Role)
ways_into nothing rest = []
ways_into (token role) rest = (role, rest) ∷ []
ways_into (both first last) rest = ways_into first (last ∷ rest) ++ (if can_be_nothing first then ways_into last rest else [])
ways_into (either one other) rest = ways_into one rest ++ ways_into other rest
ways_into (many item) rest = ways_into item (many item ∷ rest)

-- the roles that may stand first in the patterns, in order
abbrev pub ways : {Role : Type 0} → List (Pattern Role) → List (Way Role)
ways [] = []
ways (pattern ∷ rest) = ways_into pattern rest ++ (if can_be_nothing pattern then ways rest else [])

-- the role of the next token among those that may stand: the one that it fits, where its condition holds
abbrev pub way_of : List (Way Role) → List Part → Spelled → Result (Way Role) TextKind
way_of [] before next = Err kinds.Syntax
way_of (way ∷ others) before next =
    if fits way.0 next
    then (if meets before way.0 next.1 then Ok way else Err (fault_kind way.0))
    else way_of others before next

-- what is wrong where the tokens end
abbrev pub wrong_end : Wrong
wrong_end = record { left = 0; kind = kinds.End }

-- go on behind a token in its role, or the fault there
abbrev pub behind_token : Result (Way Role) TextKind → (Way Role → Result (List Part) Wrong) → ℕ → Result (List Part) Wrong
behind_token (Ok way) read left = read way
behind_token (Err kind) read left = Err (record { left = left; kind = kind })

-- the tokens in their roles, behind those before, where they are the patterns, in order
abbrev pub parts_from : List (Pattern Role) → List Part → List Spelled → Result (List Part) Wrong
parts_from rest before [] = if list_all can_be_nothing rest then Ok before else Err wrong_end
parts_from rest before (next ∷ behind) =
    behind_token (way_of (ways rest) before next) (λ way. parts_from way.1 (before ++ (way.0, next) ∷ []) behind) (length (next ∷ behind))

-- where a token starts, the first of so many that are left
abbrev pub start_of : List Token → ℕ → ℕ
start_of tokens left = (slice_index_or tokens (length tokens - left) (record { kind = Word; start = 0; end = 0 })).start

-- the fault where the tokens end: at the stop, or at the end of the bytes
abbrev pub end_fault : List ℕ → Option LexFault → TextFault
end_fault bytes None = fault_at bytes (length bytes) kinds.End
end_fault bytes (Some stop) = fault_at bytes stop.at kinds.Token

-- the source of the tokens in their roles, where they reach the end of the bytes
abbrev pub source_at_end : List ℕ → Option LexFault → List Part → Result Source TextFault
source_at_end bytes None parts = Ok (source_of parts)
source_at_end bytes (Some stop) parts = Err (end_fault bytes (Some stop))

-- the fault of what is wrong, at its place
abbrev pub wrong_fault : List ℕ → List Token → Option LexFault → Wrong → TextFault
wrong_fault bytes tokens stop wrong =
    if wrong.left == 0 then end_fault bytes stop else fault_at bytes (start_of tokens wrong.left) wrong.kind

-- the source, or the fault at its place
abbrev pub source_or_fault : List ℕ → List Token → Option LexFault → Result (List Part) Wrong → Result Source TextFault
source_or_fault bytes tokens stop (Ok parts) = source_at_end bytes stop parts
source_or_fault bytes tokens stop (Err wrong) = Err (wrong_fault bytes tokens stop wrong)

-- the source that the bytes spell, or their fault
unfoldable pub program_of : List ℕ → Result Source TextFault
program_of bytes =
    source_or_fault bytes (tokens_of bytes).0 (tokens_of bytes).1 (parts_from (program ∷ []) [] (map (spelled bytes) (tokens_of bytes).0))
