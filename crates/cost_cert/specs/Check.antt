-- Whether bytes are the one certificate, and else the first line that differs.
use Rattle.std.specs.Prelude.{◌≡◌, ℕ, ◌+◌, ◌^◌, ◌==◌, ◌&&◌, Bool, List, [], ◌∷◌, length, count_by, Option, Result, Ok, Err, if◌then◌else◌}
use Rattle.fhe_params.specs.declared.table.Table.{Table}
use Rattle.fhe_params.specs.declared.table.Choice.{Choice}
use Rattle.tfhe_level.specs.declared.shape.Shape.{Shape}
use Rattle.param_search.specs.Search.{least_choice}
use Rattle.cost_cert.specs.declared.check.CertRefusal.{CertRefusal}
use Rattle.cost_cert.specs.declared.check.CertRefusal.TheVariants.{Line, Memory}
use Rattle.cost_cert.specs.Certificate.{certificate_text}

-- the most bytes of a file
abbrev pub file_limit : ℕ
file_limit = 2 ^ 29

-- the longest prefix that two texts have both
abbrev pub common_prefix : List ℕ → List ℕ → List ℕ
common_prefix [] bytes = []
common_prefix (x ∷ text) [] = []
common_prefix (x ∷ text) (y ∷ bytes) = if x == y then x ∷ common_prefix text bytes else []

-- it is the whole of both
abbrev pub is_same : List ℕ → List ℕ → Bool
is_same text bytes =
    (length (common_prefix text bytes) == length text) && (length (common_prefix text bytes) == length bytes)

-- a line feed
abbrev pub is_line_feed : ℕ → Bool
is_line_feed byte = byte == 10

-- the first line, counted from 1, in which they differ
abbrev pub line_apart : List ℕ → List ℕ → ℕ
line_apart text bytes = count_by is_line_feed (common_prefix text bytes) + 1

-- the least choice, where the bytes are the one certificate, and else the line
unfoldable pub check_of : Table → Shape → List ℕ → Result (Option Choice) ℕ
check_of table shape bytes =
    if is_same (certificate_text table shape) bytes
    then Ok (least_choice table shape)
    else Err (line_apart (certificate_text table shape) bytes)

-- a refusal, against what a check gives: its line, or memory, which says nothing of it
abbrev pub RefusesCert : CertRefusal → Result (Option Choice) ℕ → Type 0
RefusesCert (Line line) given = given ≡ Err line
RefusesCert Memory given = Unit {0}

-- an answer is what a check gives, unless memory ran out
abbrev pub Answers : Result (Option Choice) CertRefusal → Result (Option Choice) ℕ → Type 0
Answers (Ok chosen) given = given ≡ Ok chosen
Answers (Err refusal) given = RefusesCert refusal given
