-- Reading a whole file, as a step of a command.
use Rattle.std.proofs.Common.{◌≡◌, ℕ, ◌≤◌, ◌<◌, ◌⊎◌, nat_lt, false, true, List, [], ◌∷◌, length, take, Option, Some, None, MatchOption, IsSome, IsNone, Result, Ok, Err, refl, sym, ap, subst, inl, inr, arith, ◌∙◌, take_all}
use Rattle.std.proofs.Math.ListN.{replicate}
use Rattle.std.proofs.lemmas.List.{length-replicate}
use Rattle.std.proofs.lemmas.Bool.{false≢true, lt-ltb, le-ltb}
use Rattle.std.specs.FinMap.{get, insert}
use Rattle.port_store.specs.Files.{Bytes, Files, IsMissing, OfFile}
use Rattle.port_store.specs.Files as port
use Rattle.port_store.specs.Shown.{Shown, whole, sized}
use Rattle.port_store.specs.Laws.{FilesLaws}
use Rattle.command_forms.specs.declared.fault.Fault.{Fault}
use Rattle.command_forms.specs.declared.fault.Fault.TheVariants as fault
use Rattle.command_forms.specs.declared.fault.StepRefusal.{StepRefusal}
use Rattle.command_forms.specs.declared.fault.StepRefusal.TheVariants as refusal
use Rattle.command_forms.specs.Outcome.{bounded, reading, too_long}
use Rattle.command_forms.specs.Outside.{StoreAt, AreTold}
use Rattle.command_forms.specs.Steps.{CanBe, HasRead, ReadsAs}
use Rattle.command_forms.specs.StepLemmas.{or_parts}

-- ---- one file that was shown

-- it stands as it was shown
stands : (o : Option Bytes) (shown : Shown) (bytes : Bytes) → o ≡ Some bytes → length bytes ≡ shown.size → take (length shown.bytes) bytes ≡ shown.bytes → MatchOption o ⊥ (λ held. (length held ≡ shown.size) × (take (length shown.bytes) held ≡ shown.bytes))
stands o shown bytes e size front = subst (λ (p : Option Bytes). MatchOption p ⊥ (λ held. (length held ≡ shown.size) × (take (length shown.bytes) held ≡ shown.bytes))) (sym e) (size, front)

-- a store that tells its files holds what it gave
told_put : FilesLaws → (told : Option Files) (earlier : Files) (name bytes : Bytes) → OfFile told name (λ held. held ≡ bytes) → AreTold told earlier → AreTold told (insert earlier name bytes)
told_put laws None earlier name bytes there told = tt
told_put laws (Some files) earlier name bytes there told =
    let held = elim (get files name) as (λ o. MatchOption o ⊥ (λ held. held ≡ bytes) → o ≡ Some bytes) [ None ↦ λ h. absurd h | Some held ↦ λ h. ap (λ (b : Bytes). Some b) h ] there in
    ap (λ (f : Files). insert f name bytes) told ∙ laws.put_again files name bytes held

-- the one file that was shown can be
one_can_be : FilesLaws → (told : Option Files) (name bytes : Bytes) (shown : Shown) (earlier : Files) → shown.name ≡ name → OfFile told name (λ held. held ≡ bytes) → length bytes ≡ shown.size → take (length shown.bytes) bytes ≡ shown.bytes
    → AreTold told earlier → CanBe told (name ∷ []) (shown ∷ []) earlier
one_can_be laws told name bytes shown earlier is_name there size front t = record {
  files = insert earlier name bytes;
  are_told = told_put laws told earlier name bytes there t;
  others = λ other e. laws.others_stay earlier name bytes other (or_parts _ _ e).0;
  shown = λ held alike. (stands (get held shown.name) shown bytes (ap (get held) is_name ∙ alike.0 ∙ laws.put_is_there earlier name bytes) size front, tt);
}

-- ---- reading under a limit

bounded_within : (most : ℕ) (bytes : Bytes) → length bytes ≤ most → bounded most (Some bytes) ≡ Ok bytes
bounded_within most bytes fits = let low : nat_lt most (length bytes) ≡ false = le-ltb most (length bytes) fits in rw low refl

bounded_above : (most : ℕ) (bytes : Bytes) → most < length bytes → bounded most (Some bytes) ≡ Err (too_long (length bytes) most)
bounded_above most bytes above = let high : nat_lt most (length bytes) ≡ true = lt-ltb most (length bytes) above in rw high refl

-- a file of which all was shown
read_whole : (o : Option Bytes) (most : ℕ) (bytes : Bytes) → length bytes ≤ most → MatchOption o ⊥ (λ held. (length held ≡ length bytes) × (take (length bytes) held ≡ bytes)) → bounded most o ≡ Ok bytes
read_whole None most bytes fits shown = absurd shown
read_whole (Some held) most bytes fits shown =
    let same : held ≡ bytes = sym (take_all (length bytes) held (omega (arith, shown.0))) ∙ shown.1 in
    ap (λ (b : Bytes). bounded most (Some b)) same ∙ bounded_within most bytes fits

-- a file of which the size was shown, above the limit
read_sized : (o : Option Bytes) (most size : ℕ) → most < size → MatchOption o ⊥ (λ held. (length held ≡ size) × (take 0 held ≡ [])) → bounded most o ≡ Err (too_long size most)
read_sized None most size above shown = absurd shown
read_sized (Some held) most size above shown = bounded_above most held (omega (arith, shown.0, above)) ∙ ap (λ n. Err (too_long n most)) shown.0

-- some bytes of a length, those of the file where it is told
of_length : (told : Option Files) (name : Bytes) (size : ℕ) → OfFile told name (λ bytes. size ≡ length bytes) → (bytes : Bytes) × OfFile told name (λ held. held ≡ bytes) × (length bytes ≡ size)
of_length None name size there = (replicate size 0, tt, length-replicate size 0)
of_length (Some files) name size there =
    elim (get files name) as (λ o. MatchOption o ⊥ (λ bytes. size ≡ length bytes) → (bytes : Bytes) × MatchOption o ⊥ (λ held. held ≡ bytes) × (length bytes ≡ size)) [ None ↦ λ h. absurd h | Some bytes ↦ λ h. (bytes, refl, sym h) ] there

of_file_sym : (told : Option Files) (name bytes : Bytes) → OfFile told name (λ held. bytes ≡ held) → OfFile told name (λ held. held ≡ bytes)
of_file_sym None name bytes there = tt
of_file_sym (Some files) name bytes there = elim (get files name) as (λ o. MatchOption o ⊥ (λ held. bytes ≡ held) → MatchOption o ⊥ (λ held. held ≡ bytes)) [ None ↦ λ h. h | Some held ↦ λ h. sym h ] there

-- ---- what a call of a store came to

-- a file was read
pub read_within : {X : Type 0} → FilesLaws → (before after : StoreAt) (name : Bytes) (most : ℕ) (view : X → Bytes) (value : X) → OfFile before.files name (λ bytes. view value ≡ bytes) → length (view value) ≤ most
    → ((account : List Shown) → before.shown ≡ Some account → after.shown ≡ Some (whole name (view value) ∷ account))
    → HasRead (name ∷ []) before after view (Ok value) (λ files. reading files name most)
read_within laws before after name most view value there fits showed = record {
  account = whole name (view value) ∷ [];
  showed = showed;
  can_be = λ apart earlier told. one_can_be laws before.files name (view value) (whole name (view value)) earlier refl (of_file_sym before.files name (view value) there) refl (take_all (length (view value)) (view value) (omega arith)) told;
  gives = λ files may. read_whole (get files name) most (view value) fits may.shown.0;
}

-- a file was longer than the limit
pub read_above : {X : Type 0} → FilesLaws → (before after : StoreAt) (name : Bytes) (most size : ℕ) (view : X → Bytes) → OfFile before.files name (λ bytes. size ≡ length bytes) → most < size
    → ((account : List Shown) → before.shown ≡ Some account → after.shown ≡ Some (sized name size ∷ account))
    → HasRead {X = X} (name ∷ []) before after view (Err (refusal.Fault (too_long size most))) (λ files. reading files name most)
read_above laws before after name most size view there above showed =
    let b = of_length before.files name size there in
    record {
      account = sized name size ∷ [];
      showed = showed;
      can_be = λ apart earlier told. one_can_be laws before.files name b.0 (sized name size) earlier refl b.1 b.2 refl told;
      gives = λ files may. read_sized (get files name) most size above may.shown.0;
    }

-- ---- a call failed

pub told_or_not : (told : Option Files) (name : Bytes) → IsMissing told name ⊎ port.MayHold told name
told_or_not None name = inr tt
told_or_not (Some files) name = elim (get files name) as (λ o. IsNone o ⊎ IsSome o) [ None ↦ inl refl | Some bytes ↦ inr refl ]

missing_gives : (told : Option Files) (name : Bytes) (most : ℕ) (files : Files) → IsMissing told name → AreTold told files → reading files name most ≡ Err fault.Missing
missing_gives None name most files missing told = absurd missing
missing_gives (Some those) name most files missing told =
    ap (λ (f : Files). reading f name most) told ∙ elim (get those name) as (λ o. IsNone o → bounded most o ≡ Err fault.Missing) [ None ↦ λ h. refl | Some bytes ↦ λ h. absurd (false≢true (sym h)) ] missing

-- the file that a store tells to be missing
pub read_missing : {X : Type 0} (before after : StoreAt) (name : Bytes) (most : ℕ) (view : X → Bytes) → IsMissing before.files name
    → ((account : List Shown) → before.shown ≡ Some account → after.shown ≡ Some account)
    → HasRead {X = X} (name ∷ []) before after view (Err refusal.Failure) (λ files. reading files name most)
read_missing before after name most view missing showed = record {
  account = [];
  showed = showed;
  can_be = λ apart earlier told. record { files = earlier; are_told = told; others = λ other e. refl; shown = λ held alike. tt };
  gives = λ files may. missing_gives before.files name most files missing may.are_told;
}

-- a step that came to no fault
pub without_fault : {X Y : Type 0} {names : List Bytes} (before after : StoreAt) (view : X → Y) (result : Result X StepRefusal) (defined : Files → Result Y Fault)
    → HasRead names before after view result defined → after.files ≡ before.files → after.read_faults ≡ before.read_faults → after.write_faults ≡ before.write_faults → ReadsAs names before after view result defined
without_fault before after view result defined read same stay kept = record {
  read = inl read;
  fault = λ rose. absurd (omega (arith, rose, stay));
  files_stay = same;
  never_fall = omega (arith, stay);
  writes_stay = kept;
}
