-- A walk over lines, one line more.
use Rattle.std.proofs.Common.{◌≡◌, ℕ, ◌+◌, ◌<◌, ◌≤◌, List, [], ◌∷◌, ◌++◌, length, take, Ok, Err, sym, ap, refl, ◌∙◌, arith, length-append}
use Rattle.std.specs.Prelude.{Result, IfOk}
use Rattle.refusals.specs.declared.refusal.Refusal.{Refusal}
use Rattle.refusals.specs.Reading.{Gives}
use Rattle.refusals.specs.Steps.{one_value}
use Rattle.circuit_lines.specs.declared.fault.Misspelled.{Misspelled}
use Rattle.circuit_lines.specs.declared.line.Line.{Line}
use Rattle.circuit_lines.specs.Lines.{line_text}
use Rattle.circuit_lines.specs.Numbers.{Read}
use Rattle.circuit_nodes.specs.Walk.{Walk, step, walk_from}
use Rattle.circuit_file.specs.declared.fault.CircuitFault.{CircuitFault}
use Rattle.circuit_file.specs.declared.walks.Part.{Part}
use Rattle.circuit_file.specs.Walks.{lines_at}

-- one line more
pub walk_push : (w : Walk) (lines : List Line) (line : Line) → walk_from w (lines ++ line ∷ []) ≡ step (walk_from w lines) line
walk_push w [] line = refl
walk_push w (first ∷ lines) line = walk_push (step w first) lines line

-- lines in two parts
pub walk_append : (w : Walk) (lines others : List Line) → walk_from w (lines ++ others) ≡ walk_from (walk_from w lines) others
walk_append w [] others = refl
walk_append w (first ∷ lines) others = walk_append (step w first) lines others

abbrev taken : Walk → Read Walk
taken w = Ok w

-- the walk after a line that was taken
pub walk_taken : (first now next : Walk) (lines more : List Line) (line : Line) → now ≡ walk_from first lines → lines ++ line ∷ [] ≡ more → taken (step now line) ≡ taken next → next ≡ walk_from first more
walk_taken first now next lines more line so_far list step_taken =
    sym (one_value (step now line) (taken next) step_taken) ∙ ap (λ w. step w line) so_far ∙ sym (walk_push first lines line) ∙ ap (λ xs. walk_from first xs) list

-- a line that was read leaves no more bytes than there were
pub left_by : {X : Type 0} (view : X → Line × List ℕ) (read : Read (Line × List ℕ)) (bytes : List ℕ) → ((x : Line × List ℕ) → read ≡ Ok x → bytes ≡ line_text x.0 ++ x.1)
    → (answer : Result X (Refusal Misspelled)) → Gives view answer read → IfOk answer (λ x. length (view x).1 ≤ length bytes)
left_by view read bytes front (Ok x) gives = omega (arith, ap length (front (view x) gives), length-append (line_text (view x).0) (view x).1)
left_by view read bytes front (Err refusal) gives = tt

-- ---- the end

abbrev pub given_parts : Walk → ℕ → List ℕ → Result (Walk × ℕ × List ℕ) CircuitFault
given_parts walk count rest = Ok (walk, count, rest)

given_triple : {a a2 : Walk} {b b2 : ℕ} {c c2 : List ℕ} → a ≡ a2 → b ≡ b2 → c ≡ c2 → given_parts a b c ≡ given_parts a2 b2 c2
given_triple first second third = rw (first, second, third) refl

-- where no more lines stand there, the walk is over them all
pub walk_ended : (part : Part) (walk now : Walk) (line : ℕ) (bytes rest : List ℕ) (i count : ℕ) → lines_at part line bytes ≡ (take i (lines_at part line bytes).0, rest)
    → now ≡ walk_from walk (take i (lines_at part line bytes).0) → count ≡ i → length (take i (lines_at part line bytes).0) ≡ i
    → given_parts (walk_from walk (lines_at part line bytes).0) (length (lines_at part line bytes).0) (lines_at part line bytes).1 ≡ given_parts now count rest
walk_ended part walk now line bytes rest i count ended so_far counted many =
    let first : (lines_at part line bytes).0 ≡ take i (lines_at part line bytes).0 = ap (λ p. p.0) ended in
    let last : (lines_at part line bytes).1 ≡ rest = ap (λ p. p.1) ended in
    given_triple (ap (λ xs. walk_from walk xs) first ∙ sym so_far) (ap length first ∙ many ∙ sym counted) last
