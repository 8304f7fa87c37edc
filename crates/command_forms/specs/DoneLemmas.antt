-- What follows where a command answered Ok, over a store that tells its files.
use Rattle.std.proofs.Common.{◌≡◌, ℕ, ltb, Bool, true, false, cond, length, Option, Some, None, Result, Ok, Err, refl, sym, ap, subst, inl, inr, ⊎_elim, ◌∙◌}
use Rattle.std.specs.FinMap.{get, insert}
use Rattle.port_store.specs.Files.{Bytes, Files, Told}
use Rattle.command_forms.specs.declared.fault.Fault.{Fault}
use Rattle.command_forms.specs.declared.fault.Fault.TheVariants as fault
use Rattle.command_forms.specs.declared.status.Status.{Status}
use Rattle.command_forms.specs.declared.status.Status.TheVariants as status
use Rattle.command_forms.specs.Outcome.{Outcome, answer_of, as_fault, bounded, reading, outcome_from, wrote}
use Rattle.command_forms.specs.Outside.{Outside, AreTold, MayHold, IsDone, Ends, Failed, CameToOutcome, WasCut, MayLeave}

-- ---- steps that gave a value

pub ok_is : {A F : Type 0} (x y : A) → ◌≡◌ {A = Result A F} (Ok x) (Ok y) → x ≡ y
ok_is x y e = cc

pub some_is : {A : Type 0} (a b : A) → Some a ≡ Some b → a ≡ b
some_is a b e = cc

-- a value that was given as one of a command was given
pub as_fault_ok : {A F : Type 0} (of : F → Fault) (read : Result A F) (x : A) → as_fault of read ≡ Ok x → read ≡ Ok x
as_fault_ok of (Ok y) x e = ap (λ z. Ok z) (ok_is {F = Fault} y x e)
as_fault_ok of (Err f) x e = absurd cc

chosen_ok : {A : Type 0} (b : Bool) (f : Fault) (x y : A) → cond b (Err f) (Ok x) ≡ Ok y → x ≡ y
chosen_ok true f x y e = absurd cc
chosen_ok false f x y e = ok_is {F = Fault} x y e

bounded_ok : (most : ℕ) (o : Option Bytes) (bytes : Bytes) → bounded most o ≡ Ok bytes → o ≡ Some bytes
bounded_ok most None bytes e = absurd cc
bounded_ok most (Some held) bytes e = ap (λ z. Some z) (chosen_ok (ltb most (length held)) _ held bytes e)

-- the bytes that were read of a file are those that it holds
pub read_held : (files : Files) (name : Bytes) (most : ℕ) (bytes : Bytes) → reading files name most ≡ Ok bytes → get files name ≡ Some bytes
read_held files name most bytes e = bounded_ok most (get files name) bytes e

-- ---- an answer

-- no fault is answered with Ok
never_ok : (f : Fault) → answer_of f ≡ status.Ok → ⊥
never_ok fault.Usage e = absurd cc
never_ok (fault.Text f) e = absurd cc
never_ok (fault.Typing f) e = absurd cc
never_ok (fault.Range op lo hi) e = absurd cc
never_ok fault.NoChoice e = absurd cc
never_ok (fault.Table f) e = absurd cc
never_ok (fault.Circuit f) e = absurd cc
never_ok (fault.File k f) e = absurd cc
never_ok (fault.Value f) e = absurd cc
never_ok (fault.Limit f) e = absurd cc
never_ok (fault.Certificate file line) e = absurd cc
never_ok fault.Missing e = absurd cc

-- a value came of the definition, and all that goes on from it was done
pub record DoneWith {A : Type 0} (outcome : A → Outcome) (defined : Result A Fault) (answer : Status) (before after : Outside) : Type 0 where
  pub value : A
  pub gave : defined ≡ Ok value
  pub done : IsDone (outcome value) answer before after

done_with : {A : Type 0} (outcome : A → Outcome) (defined step : Result A Fault) (answer : Status) (before after : Outside) → defined ≡ step → answer ≡ status.Ok → IsDone (outcome_from outcome step) answer before after
    → DoneWith outcome defined answer before after
done_with outcome defined (Ok value) answer before after e ok done = record { value = value; gave = e; done = done }
done_with outcome defined (Err f) answer before after e ok done = absurd (never_ok f (sym done.answered ∙ ok))

not_failed : (answer : Status) (before after : ℕ) → answer ≡ status.Ok → Failed answer before after → ⊥
not_failed answer before after ok failed = ⊎_elim (λ w. let e : status.Write ≡ status.Ok = sym w.0 ∙ ok in cc) (λ m. let e : status.Memory ≡ status.Ok = sym m ∙ ok in cc) failed

ends_ok : {A : Type 0} (outcome : A → Outcome) (defined : Result A Fault) (answer : Status) (before after : Outside) → answer ≡ status.Ok → Ends (outcome_from outcome defined) answer before after → DoneWith outcome defined answer before after
ends_ok outcome defined answer before after ok (inl done) = done_with outcome defined defined answer before after refl ok done
ends_ok outcome defined answer before after ok (inr (inl d)) = absurd (not_failed _ _ _ ok d.failed)
ends_ok outcome defined answer before after ok (inr (inr d)) = absurd (not_failed _ _ _ ok d.failed)

-- a command that answered Ok did all that goes on from the value of its definition over the files that are told
pub done_over : {A : Type 0} (outcome : A → Outcome) (defined : Files → Result A Fault) (answer : Status) (before after : Outside) (files : Files) → MayLeave (λ held. outcome_from outcome (defined held)) answer before after → answer ≡ status.Ok → before.store.files ≡ Some files
    → DoneWith outcome (defined files) answer before after
done_over outcome defined answer before after files may ok told =
    ⊎_elim
    (λ (came : CameToOutcome (λ held. outcome_from outcome (defined held)) answer before after).
    let same : came.files ≡ files = subst (λ (o : Option Files). AreTold o came.files) told came.possible.are_told in
    ends_ok outcome (defined files) answer before after ok (came.ends files (subst (MayHold before.store.files came.account) same came.possible)))
    (λ (cut : WasCut answer before after). absurd (⊎_elim (λ r. let e : status.Read ≡ status.Ok = sym r.0 ∙ ok in cc) (λ m. let e : status.Memory ≡ status.Ok = sym m ∙ ok in cc) cut.cause))
    may.came

-- what is told of two moments
pub told_both : {A : Type 0} (step : A → A → Type 0) (o p : Option A) (x y : A) → o ≡ Some x → p ≡ Some y → Told step o p → step x y
told_both step None p x y e f told = absurd cc
told_both step (Some a) None x y e f told = absurd cc
told_both step (Some a) (Some b) x y e f told = subst (λ z. step z y) (some_is a x e) (subst (λ z. step a z) (some_is b y f) told)

-- one file was written
pub wrote_one : (name bytes : Bytes) (answer : Status) (before after : Outside) (files now : Files) → IsDone (wrote name bytes) answer before after → before.store.files ≡ Some files → after.store.files ≡ Some now → now ≡ insert files name bytes
wrote_one name bytes answer before after files now done told later = told_both (λ held held_now. held_now ≡ insert held name bytes) before.store.files after.store.files files now told later done.files
