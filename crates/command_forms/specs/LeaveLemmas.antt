-- What a command that reads, and then writes or puts, may leave. Nothing is defined here but a record in short.
use Rattle.std.proofs.Common.{◌≡◌, ℕ, ◌<◌, ◌⊎◌, true, List, [], ◌∷◌, Option, Some, None, Result, Ok, Err, refl, sym, ap, subst, inl, inr, ⊎_elim, arith, lit<, ◌∙◌}
use Rattle.std.specs.FinMap.{empty, insert}
use Rattle.port_store.specs.Files.{Bytes, Files, Told, IsWritten, MayBeWritten}
use Rattle.command_forms.specs.declared.fault.Fault.{Fault}
use Rattle.command_forms.specs.declared.fault.StepRefusal.{StepRefusal}
use Rattle.command_forms.specs.declared.fault.StepRefusal.TheVariants as refusal
use Rattle.command_forms.specs.declared.status.Status.{Status}
use Rattle.command_forms.specs.declared.status.Status.TheVariants as status
use Rattle.command_forms.specs.Names.{are_distinct}
use Rattle.command_forms.specs.Outcome.{Outcome, FileWrite, refusing, outcome_from, file_write, wrote, wrote_all, putting, written, answer_of}
use Rattle.command_forms.specs.Refusals.{status_of}
use Rattle.command_forms.specs.Outside.{StoreAt, Outside, AreTold, MayHold, Ends, IsAllPut, IsCut, Failed, IsUntouched, WasCut, MayLeave}
use Rattle.command_forms.specs.Steps.{StepRefuses, HasRead, StepFailed, ReadsAs, WritesAs, PutsAs}
use Rattle.command_forms.specs.StepLemmas.{alike_self, read_of, no_err}

-- files that a store may hold
pub some_files : (told : Option Files) → (files : Files) × AreTold told files
some_files None = (empty, tt)
some_files (Some files) = (files, refl)

told_same : {A : Type 0} (step : A → A → Type 0) → ((a : A) → step a a) → (before after : Option A) → after ≡ before → Told step before after
told_same step same before after e = subst (λ o. Told step before o) (sym e) (elim before as (λ o. Told step o o) [ None ↦ tt | Some a ↦ same a ])

-- a store and a sink that was not touched
abbrev pub beside : StoreAt → Option Bytes → ℕ → Outside
beside store taken put_faults = record { store = store; taken = taken; put_faults = put_faults }

-- nothing was done of a refusal, but that it was answered
pub refused : (answer : Status) (before after : StoreAt) (taken : Option Bytes) (puts : ℕ) → after.files ≡ before.files → Ends (refusing answer) answer (beside before taken puts) (beside after taken puts)
refused answer before after taken puts same = inl (record { answered = refl; files = told_same (λ files now. now ≡ files) (λ files. refl) before.files after.files same; sink = (refl, refl) })

err_is : {X : Type 0} (a b : StepRefusal) → ◌≡◌ {A = Result X StepRefusal} (Err a) (Err b) → a ≡ b
err_is a b e = cc

-- how a refusal of a step ends
ends_refused : {Y : Type 0} (r : StepRefusal) (defined : Result Y Fault) (next : Y → Outcome) (before after : StoreAt) (taken : Option Bytes) (puts : ℕ) → (r ≡ refusal.Memory → ⊥) → after.files ≡ before.files → StepRefuses r defined
    → Ends (outcome_from next defined) (status_of r) (beside before taken puts) (beside after taken puts)
ends_refused (refusal.Fault f) defined next before after taken puts lasting same g = rw g (refused (answer_of f) before after taken puts same)
ends_refused refusal.Failure defined next before after taken puts lasting same g = rw g (refused status.Read before after taken puts same)
ends_refused refusal.Memory defined next before after taken puts lasting same g = absurd (lasting refl)

memory_or_not : (r : StepRefusal) → (r ≡ refusal.Memory) ⊎ (r ≡ refusal.Memory → ⊥)
memory_or_not (refusal.Fault f) = inr (λ e. absurd cc)
memory_or_not refusal.Failure = inr (λ e. absurd cc)
memory_or_not refusal.Memory = inl refl

none_rose : (before after puts : ℕ) → after ≡ before → (before < after) ⊎ (puts < puts) → ⊥
none_rose before after puts e rose = ⊎_elim (λ (r : before < after). omega (arith, r, e)) (λ (r : puts < puts). omega (arith, r)) rose

-- what was shown can be
possible : {X Y : Type 0} {names : List Bytes} (before after : StoreAt) (view : X → Y) (result : Result X StepRefusal) (defined : Files → Result Y Fault) → are_distinct names ≡ true → (h : HasRead names before after view result defined) → (files : Files) × MayHold before.files h.account files
possible {X} {Y} {names} before after view result defined apart h =
    let start = some_files before.files in
    let c = h.can_be apart start.0 start.1 in
    (c.files, record { are_told = c.are_told; shown = c.shown c.files (alike_self names c.files) })

-- a command that refused before it wrote
pub leaves_refused : {X Y : Type 0} {names : List Bytes} (before after : StoreAt) (view : X → Y) (r : StepRefusal) (defined : Files → Result Y Fault) (next : Y → Outcome) (taken : Option Bytes) (puts : ℕ)
    → are_distinct names ≡ true → ReadsAs names before after view (Err r) defined
    → MayLeave (λ held. outcome_from next (defined held)) (status_of r) (beside before taken puts) (beside after taken puts)
leaves_refused {X} {Y} {names} before after view r defined next taken puts apart step =
    let untouched : IsUntouched (beside before taken puts) (beside after taken puts) = record { files = step.files_stay; taken = refl; put_faults = refl } in
    let out_of_memory : r ≡ refusal.Memory → WasCut (status_of r) (beside before taken puts) (beside after taken puts) = λ e. record { untouched = untouched; cause = inr (ap status_of e) } in
    record {
      came = ⊎_elim (λ e. inr (out_of_memory e)) (λ lasting. ⊎_elim
          (λ (h : HasRead names before after view (Err r) defined).
          let p = possible before after view (Err r) defined apart h in
          inl (record {
            account = h.account;
            showed = h.showed;
            files = p.0;
            possible = p.1;
            ends = λ files may. ends_refused r (defined files) next before after taken puts lasting step.files_stay (h.gives files may);
          }))
          (λ (failed : StepFailed {X = X} before after (Err r)). inr (⊎_elim
          (λ f. record { untouched = untouched; cause = inl (ap status_of (err_is {X = X} r refusal.Failure f.0), f.1) })
          (λ m. out_of_memory (err_is {X = X} r refusal.Memory m)) failed)) step.read) (memory_or_not r);
      read_fault = λ rose. (⊎_elim (λ e. inl (ap status_of (err_is {X = X} r refusal.Failure e))) (λ e. inr (ap status_of (err_is {X = X} r refusal.Memory e))) (step.fault rose), untouched);
      write_fault = λ rose. absurd (none_rose _ _ puts step.writes_stay rose);
    }

put_since : (puts : Option Bytes) (before middle after : StoreAt) (taken : Option Bytes) (count : ℕ) → IsAllPut puts (beside middle taken count) (beside after taken count) → IsAllPut puts (beside before taken count) (beside after taken count)
put_since None before middle after taken count d = d
put_since (Some bytes) before middle after taken count d = d

-- how an outcome ends, from an earlier moment on with the same files and count
ends_since : (outcome : Outcome) (answer : Status) (before middle after : StoreAt) (taken : Option Bytes) (puts : ℕ) → middle.files ≡ before.files → middle.write_faults ≡ before.write_faults
    → Ends outcome answer (beside middle taken puts) (beside after taken puts) → Ends outcome answer (beside before taken puts) (beside after taken puts)
ends_since outcome answer before middle after taken puts same count (inl d) = inl (record { answered = d.answered; files = subst (λ (o : Option Files). Told (λ files now. now ≡ written outcome.writes files) o after.files) same d.files; sink = put_since outcome.puts before middle after taken puts d.sink })
ends_since outcome answer before middle after taken puts same count (inr (inl d)) = inr (inl (record {
  failed = subst (λ (n : ℕ). Failed answer n after.write_faults) count d.failed;
  writes = d.writes;
  files = subst (λ (o : Option Files). Told (IsCut outcome.writes) o after.files) same d.files;
  sink = d.sink;
}))
ends_since outcome answer before middle after taken puts same count (inr (inr d)) = inr (inr (record {
  failed = d.failed;
  bytes = d.bytes;
  puts = d.puts;
  files = subst (λ (o : Option Files). Told (λ files now. now ≡ written outcome.writes files) o after.files) same d.files;
  sink = d.sink;
}))

-- a command that came to an outcome, and wrote its files
pub leaves_written : {X Y : Type 0} {names : List Bytes} (before middle after : StoreAt) (view : X → Y) (value : X) (defined : Files → Result Y Fault) (next : Y → Outcome) (answer : Status) (taken : Option Bytes) (puts : ℕ)
    → are_distinct names ≡ true → ReadsAs names before middle view (Ok value) defined → WritesAs (next (view value)) answer middle after
    → MayLeave (λ held. outcome_from next (defined held)) answer (beside before taken puts) (beside after taken puts)
leaves_written {X} {Y} {names} before middle after view value defined next answer taken puts apart step write =
    let h = read_of before middle view value defined step in
    let p = possible before middle view (Ok value) defined apart h in
    record {
      came = inl (record {
        account = h.account;
        showed = λ earlier e. write.shown_stays ∙ h.showed earlier e;
        files = p.0;
        possible = p.1;
        ends = λ files may. subst (λ (d : Result Y Fault). Ends (outcome_from next d) answer (beside before taken puts) (beside after taken puts)) (sym (h.gives files may))
            (ends_since (next (view value)) answer before middle after taken puts step.files_stay step.writes_stay (write.ends taken puts));
      });
      read_fault = λ rose. absurd (⊎_elim (λ e. no_err value refusal.Failure e) (λ e. no_err value refusal.Memory e) (step.fault (subst (λ (n : ℕ). before.read_faults < n) write.reads_stay rose)));
      write_fault = λ rose. ⊎_elim (λ (r : before.write_faults < after.write_faults). write.fault (subst (λ (n : ℕ). n < after.write_faults) (sym step.writes_stay) r)) (λ (r : puts < puts). absurd (omega (arith, r))) rose;
    }

-- ---- one file

-- how the writing of one file ends
pub one_file_ends : (name bytes : Bytes) (before after : StoreAt) (taken : Option Bytes) (puts : ℕ) → Told (IsWritten name bytes) before.files after.files → Ends (wrote name bytes) status.Ok (beside before taken puts) (beside after taken puts)
one_file_ends name bytes before after taken puts told = inl (record { answered = refl; files = told; sink = (refl, refl) })

told_weaker : {A : Type 0} (step other : A → A → Type 0) → ((a b : A) → step a b → other a b) → (before after : Option A) → Told step before after → Told other before after
told_weaker step other weak None None told = tt
told_weaker step other weak None (Some after) told = told
told_weaker step other weak (Some before) None told = told
told_weaker step other weak (Some before) (Some after) told = weak before after told

pub one_file_cut : (name bytes : Bytes) (answer : Status) (before after : StoreAt) (taken : Option Bytes) (puts : ℕ) → Failed answer before.write_faults after.write_faults → Told (MayBeWritten name bytes) before.files after.files → Ends (wrote name bytes) answer (beside before taken puts) (beside after taken puts)
one_file_cut name bytes answer before after taken puts failed told = inr (inl (record {
  failed = failed;
  writes = lit< tt;
  files = told_weaker (MayBeWritten name bytes) (IsCut (file_write name bytes ∷ [])) (λ a b m. inl m) before.files after.files told;
  sink = (refl, refl);
}))

-- ---- two files

told_after : {A : Type 0} (first last both : A → A → Type 0) → ((a b c : A) → first a b → last b c → both a c) → (before middle after : Option A) → Told first before middle → Told last middle after → Told both before after
told_after first last both step None None None f l = tt
told_after first last both step None None (Some c) f l = l
told_after first last both step None (Some b) after f l = absurd f
told_after first last both step (Some a) None after f l = absurd f
told_after first last both step (Some a) (Some b) None f l = l
told_after first last both step (Some a) (Some b) (Some c) f l = step a b c f l

no_puts : (bytes : Bytes) → None ≡ Some bytes → ⊥
no_puts bytes e = absurd cc

-- one file that was written, and then one that was or was cut off
last_ends : (answer other : Status) (one : FileWrite) (writes : List FileWrite) (before middle after : StoreAt) (taken : Option Bytes) (puts : ℕ) → middle.write_faults ≡ before.write_faults → Told (λ files now. now ≡ insert files one.name one.bytes) before.files middle.files
    → Ends (wrote_all answer writes) other (beside middle taken puts) (beside after taken puts) → Ends (wrote_all answer (one ∷ writes)) other (beside before taken puts) (beside after taken puts)
last_ends answer other one writes before middle after taken puts count told (inl d) = inl (record {
  answered = d.answered;
  files = told_after (λ files now. now ≡ insert files one.name one.bytes) (λ files now. now ≡ written writes files) (λ files now. now ≡ written writes (insert files one.name one.bytes)) (λ a b c e f. f ∙ ap (written writes) e) before.files middle.files after.files told d.files;
  sink = d.sink;
})
last_ends answer other one writes before middle after taken puts count told (inr (inl d)) = inr (inl (record {
  failed = subst (λ (n : ℕ). Failed other n after.write_faults) count d.failed;
  writes = omega arith;
  files = told_after (λ files now. now ≡ insert files one.name one.bytes) (IsCut writes) (IsCut (one ∷ writes)) (λ a b c e f. inr (subst (λ (files : Files). IsCut writes files c) e f)) before.files middle.files after.files told d.files;
  sink = d.sink;
}))
last_ends answer other one writes before middle after taken puts count told (inr (inr d)) = absurd (no_puts d.bytes d.puts)

ok_no_write : status.Ok ≡ status.Write → ⊥
ok_no_write e = absurd cc

ok_no_memory : status.Ok ≡ status.Memory → ⊥
ok_no_memory e = absurd cc

failed_lasts : (other : Status) (before after : ℕ) → Failed other before after → other ≡ status.Ok → ⊥
failed_lasts other before after failed ok = ⊎_elim (λ f. absurd (ok_no_write (sym ok ∙ f.0))) (λ m. absurd (ok_no_memory (sym ok ∙ m))) failed

-- the first file was cut off, and so nothing came of the others
first_cut : (answer other : Status) (one : FileWrite) (writes : List FileWrite) (before after : StoreAt) (taken : Option Bytes) (puts : ℕ) → (other ≡ status.Ok → ⊥)
    → Ends (wrote_all status.Ok (one ∷ [])) other (beside before taken puts) (beside after taken puts) → Ends (wrote_all answer (one ∷ writes)) other (beside before taken puts) (beside after taken puts)
first_cut answer other one writes before after taken puts lasting (inl d) = absurd (lasting d.answered)
first_cut answer other one writes before after taken puts lasting (inr (inl d)) = inr (inl (record {
  failed = d.failed;
  writes = omega arith;
  files = told_weaker (IsCut (one ∷ [])) (IsCut (one ∷ writes)) (λ a b cut. ⊎_elim (λ m. inl m) (λ none. absurd none) cut) before.files after.files d.files;
  sink = d.sink;
}))
first_cut answer other one writes before after taken puts lasting (inr (inr d)) = absurd (no_puts d.bytes d.puts)

-- a file that was written, as the store tells
one_written : (one : FileWrite) (before after : StoreAt) (taken : Option Bytes) (puts : ℕ) → Ends (wrote_all status.Ok (one ∷ [])) status.Ok (beside before taken puts) (beside after taken puts)
    → Told (λ files now. now ≡ insert files one.name one.bytes) before.files after.files
one_written one before after taken puts (inl d) = d.files
one_written one before after taken puts (inr (inl d)) = absurd (failed_lasts status.Ok before.write_faults after.write_faults d.failed refl)
one_written one before after taken puts (inr (inr d)) = absurd (no_puts d.bytes d.puts)

-- the writing of one file that failed, where others were to follow
pub writes_cut : (answer other : Status) (one : FileWrite) (writes : List FileWrite) (before after : StoreAt) → (other ≡ status.Ok → ⊥) → WritesAs (wrote_all status.Ok (one ∷ [])) other before after → WritesAs (wrote_all answer (one ∷ writes)) other before after
writes_cut answer other one writes before after lasting first = record {
  ends = λ taken puts. first_cut answer other one writes before after taken puts lasting (first.ends taken puts);
  ok = first.ok;
  shown_stays = first.shown_stays;
  reads_stay = first.reads_stay;
  fault = first.fault;
}

-- the writing of one file, and then of others
pub writes_then : (answer other : Status) (one : FileWrite) (writes : List FileWrite) (before middle after : StoreAt) → WritesAs (wrote_all status.Ok (one ∷ [])) status.Ok before middle → WritesAs (wrote_all answer writes) other middle after → WritesAs (wrote_all answer (one ∷ writes)) other before after
writes_then answer other one writes before middle after first last = record {
  ends = λ taken puts. last_ends answer other one writes before middle after taken puts (first.ok refl) (one_written one before middle taken puts (first.ends taken puts)) (last.ends taken puts);
  ok = λ e. last.ok e ∙ first.ok refl;
  shown_stays = last.shown_stays ∙ first.shown_stays;
  reads_stay = last.reads_stay ∙ first.reads_stay;
  fault = λ rose. last.fault (subst (λ (n : ℕ). n < after.write_faults) (sym (first.ok refl)) rose);
}

-- nothing is written
pub writes_nothing : (answer : Status) (now : StoreAt) → WritesAs (wrote_all answer []) answer now now
writes_nothing answer now = record {
  ends = λ taken puts. inl (record { answered = refl; files = told_same (λ files now. now ≡ files) (λ files. refl) now.files now.files refl; sink = (refl, refl) });
  ok = λ e. refl;
  shown_stays = refl;
  reads_stay = refl;
  fault = λ rose. absurd (omega (arith, rose));
}

-- ---- putting

-- a command that came to an outcome, and put its bytes
pub leaves_put : {X Y : Type 0} {names : List Bytes} (before middle : StoreAt) (view : X → Y) (value : X) (defined : Files → Result Y Fault) (next : Y → Outcome) (bytes : Bytes) (answer : Status) (taken now : Option Bytes) (puts after : ℕ)
    → are_distinct names ≡ true → ReadsAs names before middle view (Ok value) defined → next (view value) ≡ putting bytes → PutsAs bytes answer taken now puts after
    → MayLeave (λ held. outcome_from next (defined held)) answer (beside before taken puts) (beside middle now after)
leaves_put {X} {Y} {names} before middle view value defined next bytes answer taken now puts after apart step puts_it put =
    let h = read_of before middle view value defined step in
    let p = possible before middle view (Ok value) defined apart h in
    let still : Told (λ files held. held ≡ files) before.files middle.files = told_same (λ files held. held ≡ files) (λ files. refl) before.files middle.files step.files_stay in
    let ends : Ends (putting bytes) answer (beside before taken puts) (beside middle now after) = ⊎_elim
    (λ d. inl (record { answered = d.0; files = still; sink = d.1 }))
    (λ d. inr (inr (record { failed = d.0; bytes = bytes; puts = refl; files = still; sink = d.1 }))) put.ends in
    record {
      came = inl (record {
        account = h.account;
        showed = h.showed;
        files = p.0;
        possible = p.1;
        ends = λ files may. subst (λ (d : Result Y Fault). Ends (outcome_from next d) answer (beside before taken puts) (beside middle now after)) (sym (h.gives files may))
            (subst (λ (o : Outcome). Ends o answer (beside before taken puts) (beside middle now after)) (sym puts_it) ends);
      });
      read_fault = λ rose. absurd (⊎_elim (λ e. no_err value refusal.Failure e) (λ e. no_err value refusal.Memory e) (step.fault rose));
      write_fault = λ rose. ⊎_elim (λ (r : before.write_faults < middle.write_faults). absurd (omega (arith, r, step.writes_stay))) (λ (r : puts < after). put.fault r) rose;
    }

-- a command line that is faulty
pub leaves_nothing : (outcome_of : Files → Outcome) (now : Outside) → ((files : Files) → outcome_of files ≡ refusing status.Usage) → MayLeave outcome_of status.Usage now now
leaves_nothing outcome_of now usage =
    let start = some_files now.store.files in
    record {
      came = inl (record {
        account = [];
        showed = λ earlier e. e;
        files = start.0;
        possible = record { are_told = start.1; shown = tt };
        ends = λ files may. rw (usage files) (refused status.Usage now.store now.store now.taken now.put_faults refl);
      });
      read_fault = λ rose. absurd (omega (arith, rose));
      write_fault = λ rose. absurd (none_rose _ _ now.put_faults refl rose);
    }
