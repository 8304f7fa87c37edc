-- One step of a command after another.
use Rattle.std.proofs.Common.{◌≡◌, ℕ, ◌≤◌, ◌<◌, Bool, true, false, not, ◌||◌, List, [], ◌∷◌, ◌++◌, Option, Some, Result, Ok, Err, IsErrOf, subst, ap, refl, sym, inl, inr, ⊎_elim, arith, ◌∙◌, append_assoc}
use Rattle.std.proofs.lemmas.Bool.{cases_lt, false≢true, and_parts}
use Rattle.std.proofs.lemmas.List.Folds.{list_any-append}
use Rattle.std.specs.List.{list_any}
use Rattle.std.specs.Str.{bytes_eq}
use Rattle.refusals.specs.declared.refusal.Refusal.{Refusal}
use Rattle.refusals.specs.declared.refusal.Refusal.TheVariants as part
use Rattle.refusals.specs.Reading.{◌>>=◌, Refuses}
use Rattle.port_store.specs.Files.{Bytes, Files}
use Rattle.port_store.specs.Faults.{Rises}
use Rattle.port_store.specs.Shown.{Shown}
use Rattle.command_forms.specs.declared.fault.Fault.{Fault}
use Rattle.command_forms.specs.declared.fault.Fault.TheVariants as fault
use Rattle.command_forms.specs.declared.fault.StepRefusal.{StepRefusal}
use Rattle.command_forms.specs.declared.fault.StepRefusal.TheVariants as refusal
use Rattle.command_forms.specs.Names.{are_distinct}
use Rattle.command_forms.specs.Refusals.{step_refusal_of}
use Rattle.command_forms.specs.Outside.{StoreAt, AreTold, MayHold, Showed, AreAsShown}
use Rattle.command_forms.specs.Steps.{StepRefuses, StepGives, AreAlike, AreAlikeBut, CanBe, HasRead, StepFailed, ReadsAs}

-- ---- refusals

-- a refusal, whatever the step would have given
pub same_err : {X Y : Type 0} (a b : StepRefusal) → IsErrOf {T = X} {E = StepRefusal} (Err a) b → IsErrOf {T = Y} {E = StepRefusal} (Err a) b
same_err {X} {Y} a b e = let same : a ≡ b = cc in ap (λ (s : StepRefusal). Err s) same

pub no_err : {X : Type 0} (value : X) (b : StepRefusal) → IsErrOf {T = X} {E = StepRefusal} (Ok value) b → ⊥
no_err value b e = absurd cc

-- where the definition refuses, so does what goes on from it
after_fault : {A B : Type 0} (f : Fault) (defined : Result A Fault) (next : A → Result B Fault) → defined ≡ Err f → (defined >>= next) ≡ Err f
after_fault f defined next e = rw e refl

-- a first step that refuses is a refusal of the whole
refused_first : {Y B : Type 0} (r : StepRefusal) (defined : Result Y Fault) (next : Y → Result B Fault) → StepRefuses r defined → StepRefuses r (defined >>= next)
refused_first (refusal.Fault f) defined next e = after_fault f defined next e
refused_first refusal.Failure defined next e = after_fault fault.Missing defined next e
refused_first refusal.Memory defined next e = tt

-- what follows a first step that gave a value
given_next : {X Y Z : Type 0} (view : X → Y) (result : Result X StepRefusal) (defined : Result Z Fault) (value : Z) (next : Z → Result Y Fault) → defined ≡ Ok value → StepGives view result (next value) → StepGives view result (defined >>= next)
given_next view result defined value next e g = rw e g

-- what a part gives, as a step
pub of_part : {Y : Type 0} (r : Refusal Fault) (defined : Result Y Fault) → Refuses r defined → StepRefuses (step_refusal_of r) defined
of_part (part.Fault f) defined g = g
of_part part.Memory defined g = tt

-- ---- names

pub or_parts : (a b : Bool) → (a || b) ≡ false → (a ≡ false) × (b ≡ false)
or_parts true b e = absurd (false≢true (sym e))
or_parts false b e = (refl, e)

pub not_parts : (a : Bool) → not a ≡ true → a ≡ false
not_parts true e = absurd (false≢true e)
not_parts false e = refl

any_parts : (name : Bytes) (xs ys : List Bytes) → list_any (bytes_eq name) (xs ++ ys) ≡ false → (list_any (bytes_eq name) xs ≡ false) × (list_any (bytes_eq name) ys ≡ false)
any_parts name xs ys e = or_parts _ _ (sym (list_any-append (bytes_eq name) xs ys) ∙ e)

-- of names that are distinct the first are, and so are the last
pub distinct_parts : (xs ys : List Bytes) → are_distinct (xs ++ ys) ≡ true → (are_distinct xs ≡ true) × (are_distinct ys ≡ true)
distinct_parts [] ys e = (refl, e)
distinct_parts (x ∷ xs) ys e =
    let p = and_parts (not (list_any (bytes_eq x) (xs ++ ys))) (are_distinct (xs ++ ys)) e in
    let rest = distinct_parts xs ys p.1 in
    (rw ((any_parts x xs ys (not_parts _ p.0)).0, rest.0) refl, rest.1)

alike_parts : (xs ys : List Bytes) (left right : Files) → AreAlike (xs ++ ys) left right → AreAlike xs left right × AreAlike ys left right
alike_parts [] ys left right alike = (tt, alike)
alike_parts (x ∷ xs) ys left right alike = let rest = alike_parts xs ys left right alike.1 in ((alike.0, rest.0), rest.1)

pub alike_self : (xs : List Bytes) (files : Files) → AreAlike xs files files
alike_self [] files = tt
alike_self (x ∷ xs) files = (refl, alike_self xs files)

-- what was read under the first names is read so still after the others, which are none of them
alike_still : (xs ys : List Bytes) (first last held : Files) → are_distinct (xs ++ ys) ≡ true → AreAlikeBut ys first last → AreAlike (xs ++ ys) last held → AreAlike xs first held
alike_still [] ys first last held e but alike = tt
alike_still (x ∷ xs) ys first last held e but alike =
    let p = and_parts (not (list_any (bytes_eq x) (xs ++ ys))) (are_distinct (xs ++ ys)) e in
    (alike.0 ∙ but x (any_parts x xs ys (not_parts _ p.0)).1, alike_still xs ys first last held p.1 but alike.1)

-- ---- what was shown

-- what two steps showed
showed_both : (first last : List Shown) (before middle after : StoreAt) → Showed first before middle → Showed last middle after → Showed (last ++ first) before after
showed_both first last before middle after s t = λ earlier e. t (first ++ earlier) (s earlier e) ∙ ap (λ (account : List Shown). Some account) (sym (append_assoc last first earlier))

shown_parts : (files : Files) (xs ys : List Shown) → AreAsShown files (xs ++ ys) → AreAsShown files xs × AreAsShown files ys
shown_parts files [] ys all = (tt, all)
shown_parts files (x ∷ xs) ys all = let rest = shown_parts files xs ys all.1 in ((all.0, rest.0), rest.1)

shown_both : (files : Files) (xs ys : List Shown) → AreAsShown files xs → AreAsShown files ys → AreAsShown files (xs ++ ys)
shown_both files [] ys some others = others
shown_both files (x ∷ xs) ys some others = (some.0, shown_both files xs ys some.1 others)

pub told_still : {told now : Option Files} (files : Files) → now ≡ told → AreTold told files → AreTold now files
told_still files same t = subst (λ (o : Option Files). AreTold o files) (sym same) t

-- files that may be held after both steps may be held after each
held_first : (told : Option Files) (first last : List Shown) (files : Files) → MayHold told (last ++ first) files → MayHold told first files
held_first told first last files h = record { are_told = h.are_told; shown = (shown_parts files last first h.shown).1 }

held_last : (told now : Option Files) (first last : List Shown) (files : Files) → now ≡ told → MayHold told (last ++ first) files → MayHold now last files
held_last told now first last files same h = record { are_told = told_still files same h.are_told; shown = (shown_parts files last first h.shown).0 }

can_be_both : (told now : Option Files) (names more : List Bytes) (first last : List Shown) (earlier : Files) → now ≡ told → are_distinct (names ++ more) ≡ true
    → (a : CanBe told names first earlier) → CanBe now more last a.files → CanBe told (names ++ more) (last ++ first) earlier
can_be_both told now names more first last earlier same apart a b = record {
  files = b.files;
  are_told = subst (λ (o : Option Files). AreTold o b.files) same b.are_told;
  others = λ other e. let p = any_parts other names more e in b.others other p.1 ∙ a.others other p.0;
  shown = λ held alike. shown_both held last first (b.shown held (alike_parts names more b.files held alike).1) (a.shown held (alike_still names more a.files b.files held apart b.others alike));
}

-- ---- steps

-- a rise from a later moment on is one from the earlier
rises_since : (before middle now : ℕ) → before ≤ middle → Rises middle now → Rises before now
rises_since before middle now le r = omega arith

-- a first step that refuses is a refusal of the whole
pub reads_refused : {A X Y Z : Type 0} {names : List Bytes} (more : List Bytes) (before after : StoreAt) (view : X → A) (seen : Y → Z) (r : StepRefusal) (defined : Files → Result A Fault) (next : Files → A → Result Z Fault)
    → ReadsAs names before after view (Err r) defined → ReadsAs (names ++ more) before after seen (Err r) (λ held. defined held >>= next held)
reads_refused {A} {X} {Y} {Z} {names} more before after view seen r defined next step = record {
  read = ⊎_elim
      (λ (h : HasRead names before after view (Err r) defined). inl (record {
        account = h.account;
        showed = h.showed;
        can_be = λ apart earlier told.
            let c = h.can_be (distinct_parts names more apart).0 earlier told in
            record {
              files = c.files;
              are_told = c.are_told;
              others = λ other e. c.others other (any_parts other names more e).0;
              shown = λ held alike. c.shown held (alike_parts names more c.files held alike).0;
            };
        gives = λ files may. refused_first r (defined files) (next files) (h.gives files may);
      }))
      (λ (failed : StepFailed {X = X} before after (Err r)). inr (⊎_elim (λ f. inl (same_err {X = X} {Y = Y} r refusal.Failure f.0, f.1)) (λ m. inr (same_err {X = X} {Y = Y} r refusal.Memory m)) failed))
      step.read;
  fault = λ rose. ⊎_elim (λ e. inl (same_err {X = X} {Y = Y} r refusal.Failure e)) (λ e. inr (same_err {X = X} {Y = Y} r refusal.Memory e)) (step.fault rose);
  files_stay = step.files_stay;
  never_fall = step.never_fall;
  writes_stay = step.writes_stay;
}

-- a step that gave a value has read
pub read_of : {A X : Type 0} {names : List Bytes} (before after : StoreAt) (view : X → A) (value : X) (defined : Files → Result A Fault) → ReadsAs names before after view (Ok value) defined → HasRead names before after view (Ok value) defined
read_of before after view value defined step =
    ⊎_elim (λ h. h) (λ failed. absurd (⊎_elim (λ f. no_err value refusal.Failure f.0) (λ m. no_err value refusal.Memory m) failed)) step.read

-- a first step that gave a value, and what goes on from there
pub reads_then : {A X Y Z : Type 0} {names more : List Bytes} (before middle after : StoreAt) (view : X → A) (seen : Y → Z) (value : X) (result : Result Y StepRefusal) (defined : Files → Result A Fault) (next : Files → A → Result Z Fault)
    → ReadsAs names before middle view (Ok value) defined → ReadsAs more middle after seen result (λ held. next held (view value))
    → ReadsAs (names ++ more) before after seen result (λ held. defined held >>= next held)
reads_then {A} {X} {Y} {Z} {names} {more} before middle after view seen value result defined next first last =
    let a = read_of before middle view value defined first in
    record {
      read = ⊎_elim
          (λ (b : HasRead more middle after seen result (λ held. next held (view value))). inl (record {
            account = b.account ++ a.account;
            showed = showed_both a.account b.account before middle after a.showed b.showed;
            can_be = λ apart earlier told.
                let parts = distinct_parts names more apart in
                let early = a.can_be parts.0 earlier told in
                can_be_both before.files middle.files names more a.account b.account earlier first.files_stay apart early (b.can_be parts.1 early.files (told_still early.files first.files_stay early.are_told));
            gives = λ files may.
                given_next seen result (defined files) (view value) (next files) (a.gives files (held_first before.files a.account b.account files may))
                (b.gives files (held_last before.files middle.files a.account b.account files first.files_stay may));
          }))
          (λ (failed : StepFailed middle after result). inr (⊎_elim (λ f. inl (f.0, rises_since _ _ _ first.never_fall f.1)) (λ m. inr m) failed))
          last.read;
      fault = λ rose. ⊎_elim (λ (early : before.read_faults < middle.read_faults). absurd (⊎_elim (λ e. no_err value refusal.Failure e) (λ e. no_err value refusal.Memory e) (first.fault early))) (λ (late : middle.read_faults ≤ before.read_faults). last.fault (omega (arith, late, rose))) (cases_lt before.read_faults middle.read_faults);
      files_stay = last.files_stay ∙ first.files_stay;
      never_fall = omega (arith, first.never_fall, last.never_fall);
      writes_stay = last.writes_stay ∙ first.writes_stay;
    }

-- a step that reads no file
pub reads_nothing : {X Y : Type 0} {names : List Bytes} (now : StoreAt) (view : X → Y) (result : Result X StepRefusal) (defined : Result Y Fault) → StepGives view result defined → ReadsAs names now now view result (λ _. defined)
reads_nothing now view result defined g = record {
  read = inl (record {
    account = [];
    showed = λ earlier e. e;
    can_be = λ apart earlier told. record { files = earlier; are_told = told; others = λ other e. refl; shown = λ held alike. tt };
    gives = λ files may. g;
  });
  fault = λ rose. absurd (omega (arith, rose));
  files_stay = refl;
  never_fall = omega arith;
  writes_stay = refl;
}

-- memory ran out, wherever it did
pub out_of_memory : {X Y : Type 0} {names : List Bytes} (before after : StoreAt) (view : X → Y) (defined : Files → Result Y Fault) → after.files ≡ before.files → before.read_faults ≤ after.read_faults → after.write_faults ≡ before.write_faults → ReadsAs {X = X} names before after view (Err refusal.Memory) defined
out_of_memory before after view defined same never_fall stay = record {
  read = inr (inr refl);
  fault = λ rose. inr refl;
  files_stay = same;
  never_fall = never_fall;
  writes_stay = stay;
}

-- over a store that tells its files a step that gave a value gave what the definition gives over them
pub read_told : {X Y : Type 0} {names : List Bytes} (before after : StoreAt) (view : X → Y) (value : X) (defined : Files → Result Y Fault) → ReadsAs names before after view (Ok value) defined → are_distinct names ≡ true → (files : Files) → before.files ≡ Some files → defined files ≡ Ok (view value)
read_told {X} {Y} {names} before after view value defined step apart files told =
    let h = read_of before after view value defined step in
    let c = h.can_be apart files (subst (λ (o : Option Files). AreTold o files) (sym told) refl) in
    let same : c.files ≡ files = subst (λ (o : Option Files). AreTold o c.files) told c.are_told in
    subst (λ (f : Files). defined f ≡ Ok (view value)) same (h.gives c.files (record { are_told = c.are_told; shown = c.shown c.files (alike_self names c.files) }))
