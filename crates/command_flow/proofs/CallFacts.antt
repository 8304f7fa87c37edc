-- Four calls in a row: what each may answer, and what is put at the end.
use Rattle.std.proofs.Common.{◌≡◌, ℕ, true, List, Option, Some, Ok, refl, sym, subst, inl, inr, ⊎_elim, ◌∙◌}
use lib.IntN.{ℤ}
use Rattle.port_store.specs.Files.{Bytes, Files, Told, IsPut}
use Rattle.port_store.specs.Faults.{Rises}
use Rattle.tfhe_level.specs.declared.shape.Circuit.{Circuit}
use Rattle.tfhe_level.specs.Nodes.{nodes_of, clear_values}
use Rattle.value_files.specs.Values.{values_text}
use Rattle.command_forms.specs.declared.fault.Fault.{Fault}
use Rattle.command_forms.specs.declared.status.Status.{Status}
use Rattle.command_forms.specs.declared.status.Status.TheVariants as status
use Rattle.command_forms.specs.Outcome.{Outcome, putting}
use Rattle.command_forms.specs.Outside.{Outside, AreTold, MayHold, Ends, Failed, CameToOutcome, WasCut, MayLeave}
use Rattle.command_forms.specs.DoneLemmas.{ok_is, done_over}
use Rattle.command_files.specs.Files.{fits_eval}
use Rattle.key_commands.specs.Keygen.{keygen_outcome}
use Rattle.key_commands.specs.Encrypt.{encrypt_outcome}
use Rattle.key_commands.specs.Decrypt.{decrypted, decrypt_outcome}
use Rattle.key_commands.specs.Headline.{KeygenIsRight, KeygenHeadline, EncryptIsRight, EncryptHeadline}
use Rattle.run_command.specs.Run.{run_outcome}
use Rattle.run_command.specs.Headline.{RunHeadline}
use Rattle.command_flow.specs.Flow.{FlowWords, keygen_words, encrypt_words, run_words, decrypt_words, FlowBegins, FlowLaws}
use Rattle.command_flow.specs.Calls.{IsFaultless, IsOkOrMemory, Calls, Puts, FlowPuts, FlowHeadline}

-- ---- one call

-- where no count rose, only memory can have run out
cut_off : (answer : Status) (before after : ℕ) → (Rises before after → ⊥) → Failed answer before after → IsOkOrMemory answer
cut_off answer before after never (inl failed) = absurd (never failed.1)
cut_off answer before after never (inr memory) = inr memory

ended : (outcome : Outcome) (answer : Status) (before after : Outside) → IsFaultless before after → outcome.answer ≡ status.Ok → Ends outcome answer before after → IsOkOrMemory answer
ended outcome answer before after quiet ok (inl done) = inl (done.answered ∙ ok)
ended outcome answer before after quiet ok (inr (inl cut)) = cut_off answer before.store.write_faults after.store.write_faults quiet.writes cut.failed
ended outcome answer before after quiet ok (inr (inr cut)) = cut_off answer before.put_faults after.put_faults quiet.puts cut.failed

-- a command whose defined answer is Ok answers so, or memory ran out
answers_so : (outcome : Files → Outcome) (answer : Status) (before after : Outside) (files : Files) → (outcome files).answer ≡ status.Ok → MayLeave outcome answer before after → before.store.files ≡ Some files → IsFaultless before after → IsOkOrMemory answer
answers_so outcome answer before after files ok may told quiet =
    ⊎_elim
    (λ (came : CameToOutcome outcome answer before after).
    let same : came.files ≡ files = subst (λ (o : Option Files). AreTold o came.files) told came.possible.are_told in
    ended (outcome files) answer before after quiet ok (came.ends files (subst (MayHold before.store.files came.account) same came.possible)))
    (λ (cut : WasCut answer before after). ⊎_elim (λ r. absurd (quiet.reads r.1)) (λ m. inr m) cut.cause)
    may.came

-- so does one whose clause leads on
calls : (outcome : Files → Outcome) (clause : Status → Outside → Outside → Type 0) (files : Files) (next : Files → Type 0) → (outcome files).answer ≡ status.Ok
    → ((answer : Status) (before after : Outside) (now : Files) → answer ≡ status.Ok → clause answer before after → before.store.files ≡ Some files → after.store.files ≡ Some now → next now)
    → Calls outcome clause files next
calls outcome clause files next defined given = λ answer before after may told quiet. (
  answers_so outcome answer before after files defined may told quiet,
  λ ok promised now later. given answer before after now ok promised told later,
)

-- and one that puts
puts : (words : FlowWords) (files : Files) (bytes : Bytes) → decrypted (decrypt_words words) files ≡ Ok bytes → Puts (decrypt_outcome (decrypt_words words)) files bytes
puts words files bytes gives = λ answer before after may told quiet. (
  answers_so (decrypt_outcome (decrypt_words words)) answer before after files (rw gives refl) may told quiet,
  λ ok.
      let d = done_over putting (decrypted (decrypt_words words)) answer before after files may ok told in
      subst (λ (put : Bytes). Told (IsPut put) before.taken after.taken) (ok_is {F = Fault} d.value bytes (sym d.gave ∙ gives)) d.done.sink,
)

-- ---- all four

-- what is put in the end
abbrev text : Circuit → List ℤ → Bytes
text c numbers = values_text (clear_values (nodes_of c.shape) numbers)

-- from `run` on
run_on : FlowLaws → (words : FlowWords) (c : Circuit) (numbers : List ℤ) (start keyed filled : Files) → FlowBegins words c numbers start → KeygenIsRight (keygen_words words) start keyed → EncryptIsRight (encrypt_words words) keyed filled
    → Calls (run_outcome (run_words words)) (RunHeadline (run_words words)) filled (λ (computed : Files). Puts (decrypt_outcome (decrypt_words words)) computed (text c numbers))
run_on laws words c numbers start keyed filled b k e =
    calls (run_outcome (run_words words)) (RunHeadline (run_words words)) filled (λ (computed : Files). Puts (decrypt_outcome (decrypt_words words)) computed (text c numbers))
    (laws.run_answers words c numbers start keyed filled b k e)
    (λ answer before after computed ok promised told later. puts words computed (text c numbers) (laws.values_come words c numbers start keyed filled computed b k e (promised ok filled computed told later)))

-- from `encrypt` on
encrypt_on : FlowLaws → (words : FlowWords) (c : Circuit) (numbers : List ℤ) (start keyed : Files) → FlowBegins words c numbers start → KeygenIsRight (keygen_words words) start keyed
    → Calls (encrypt_outcome (encrypt_words words)) (EncryptHeadline (encrypt_words words)) keyed (λ (filled : Files). Calls (run_outcome (run_words words)) (RunHeadline (run_words words)) filled (λ (computed : Files). Puts (decrypt_outcome (decrypt_words words)) computed (text c numbers)))
encrypt_on laws words c numbers start keyed b k =
    calls (encrypt_outcome (encrypt_words words)) (EncryptHeadline (encrypt_words words)) keyed (λ (filled : Files). Calls (run_outcome (run_words words)) (RunHeadline (run_words words)) filled (λ (computed : Files). Puts (decrypt_outcome (decrypt_words words)) computed (text c numbers)))
    (laws.encrypt_answers words c numbers start keyed b k)
    (λ answer before after filled ok promised told later. run_on laws words c numbers start keyed filled b k (promised ok keyed filled told later))

-- from `keygen` on
keygen_on : FlowLaws → (words : FlowWords) (c : Circuit) (numbers : List ℤ) (start : Files) → FlowBegins words c numbers start → fits_eval c words.eval ≡ true → FlowPuts words start (text c numbers)
keygen_on laws words c numbers start b needs =
    calls (keygen_outcome (keygen_words words)) (KeygenHeadline (keygen_words words)) start
    (λ (keyed : Files). Calls (encrypt_outcome (encrypt_words words)) (EncryptHeadline (encrypt_words words)) keyed (λ (filled : Files). Calls (run_outcome (run_words words)) (RunHeadline (run_words words)) filled (λ (computed : Files). Puts (decrypt_outcome (decrypt_words words)) computed (text c numbers))))
    (laws.keygen_answers words c numbers start b needs)
    (λ answer before after keyed ok promised told later. encrypt_on laws words c numbers start keyed b (promised ok start keyed told later))

pub four_calls : FlowLaws → FlowHeadline
four_calls laws = keygen_on laws
