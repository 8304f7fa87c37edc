-- Why an answer comes, from what a command may leave.
use Rattle.std.proofs.Common.{◌≡◌, ◌⊎◌, Option, Some, None, subst, inl, inr, ⊎_elim}
use Rattle.port_store.specs.Files.{Bytes, Files}
use Rattle.command_forms.specs.declared.status.Status.{Status}
use Rattle.command_forms.specs.declared.status.Status.TheVariants as status
use Rattle.command_forms.specs.Outcome.{Outcome}
use Rattle.command_forms.specs.Outside.{Outside, AreTold, Ends, IsAllPut, IsSinkUntouched, CameToOutcome, WasCut, MayLeave}
use Rattle.command_forms.specs.Laws.{AnswerLaws, CameBy, WriteFailed}
use Rattle.command_forms.specs.LeaveLemmas.{some_files}

-- ---- every command

by_failing : (defined answer : Status) (before after : Outside) → ((answer ≡ status.Write) × WriteFailed before after) ⊎ (answer ≡ status.Memory) → CameBy defined answer before after
by_failing defined answer before after failed = inr (inr failed)

ended_by : (outcome : Outcome) (answer : Status) (before after : Outside) → Ends outcome answer before after → CameBy outcome.answer answer before after
ended_by outcome answer before after (inl done) = inl done.answered
ended_by outcome answer before after (inr (inl cut)) = by_failing outcome.answer answer before after (⊎_elim (λ f. inl (f.0, inl f.1)) (λ m. inr m) cut.failed)
ended_by outcome answer before after (inr (inr cut)) = by_failing outcome.answer answer before after (⊎_elim (λ f. inl (f.0, inr f.1)) (λ m. inr m) cut.failed)

cause : (outcome_of : Files → Outcome) (answer : Status) (before after : Outside) → MayLeave outcome_of answer before after
    → (files : Files) × AreTold before.store.files files × CameBy (outcome_of files).answer answer before after
cause outcome_of answer before after left = ⊎_elim
    (λ (c : CameToOutcome outcome_of answer before after). (c.files, c.possible.are_told, ended_by (outcome_of c.files) answer before after (c.ends c.files c.possible)))
    (λ (w : WasCut answer before after).
    let start = some_files before.store.files in
    (start.0, start.1, ⊎_elim (λ r. inr (inl r)) (λ m. inr (inr (inr m))) w.cause))
    left.came

no_some : (bytes : Bytes) (puts : Option Bytes) → puts ≡ Some bytes → puts ≡ None → ⊥
no_some bytes puts some none = absurd cc

ended_beside : (outcome : Outcome) (answer : Status) (before after : Outside) → outcome.puts ≡ None → Ends outcome answer before after → IsSinkUntouched before after
ended_beside outcome answer before after none (inl done) = subst (λ (puts : Option Bytes). IsAllPut puts before after) none done.sink
ended_beside outcome answer before after none (inr (inl cut)) = cut.sink
ended_beside outcome answer before after none (inr (inr cut)) = absurd (no_some cut.bytes outcome.puts cut.puts none)

sink_stays : (outcome_of : Files → Outcome) (answer : Status) (before after : Outside) → ((files : Files) → (outcome_of files).puts ≡ None) → MayLeave outcome_of answer before after → IsSinkUntouched before after
sink_stays outcome_of answer before after none left = ⊎_elim
    (λ (c : CameToOutcome outcome_of answer before after). ended_beside (outcome_of c.files) answer before after (none c.files) (c.ends c.files c.possible))
    (λ (w : WasCut answer before after). (w.untouched.taken, w.untouched.put_faults))
    left.came

-- the laws of answers
pub answers : AnswerLaws
answers = record { cause = cause; sink_stays = sink_stays }
