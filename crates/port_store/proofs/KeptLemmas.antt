-- The files that a map from names to bytes stands for, at each name and after each change.
use Rattle.std.proofs.Common.{◌≡◌, ℕ, Bool, true, false, cond, List, [], ◌∷◌, ◌++◌, map, Option, Some, None, MatchOption, take, append-nil, refl, sym, ap, ◌∙◌}
use Rattle.std.specs.Global.{Global}
use Rattle.std.specs.declared.vec.Vec.{Vec}
use Rattle.std.specs.declared.string.String.{String}
use Rattle.std.specs.Option.{option_map, option_map_or}
use Rattle.std.specs.String.{string_bytes, string_cmp}
use Rattle.std.specs.BTreeMap.{BTreeMap, UpdatesBy, IsUnchanged, IsEmpty, get_by_text, is_at}
use Rattle.std.specs.Map.{lookup}
use Rattle.std.specs.Str.{bytes_eq}
use Rattle.std.specs.FinMap.{get, insert, empty, find, from_entries, get-insert, get-from_entries, same_map, nat_cmp-IsAntisymmetric, slice_cmp-IsAntisymmetric}
use Rattle.std.specs.Ordering.{nat_cmp, eq_by_cmp}
use Rattle.std.specs.Cmp.Lexicographic.{slice_cmp}
use Rattle.std.proofs.lemmas.Cmp.{nat_list_cmp_total, eq_by_cmp_equiv}
use Rattle.std.proofs.lemmas.Map.Text.{btree_map_updates_text, is_eq-slice_cmp}
use Rattle.port_store.specs.Files.{Bytes, Files, MayBeAppended}
use Rattle.port_store.specs.Kept.{files_of}
use Rattle.port_store.specs.Memory.{extended}
use Rattle.port_store.proofs.Told.{insert-same}

abbrev pub Kept : Type 0
Kept = BTreeMap (String Global) (Vec ℕ Global)

find_kept : (entries : List (String Global × Vec ℕ Global)) (name : Bytes) → find (slice_cmp nat_cmp) name (map (λ entry. (string_bytes entry.0, entry.1.items)) entries) ≡ option_map (λ bytes. bytes.items) (lookup (is_at (λ key. slice_cmp nat_cmp name (string_bytes key))) entries)
find_kept [] name = refl
find_kept (entry ∷ entries) name =
    elim (eq_by_cmp (slice_cmp nat_cmp) name (string_bytes entry.0)) as (λ here. cond here (Some entry.1.items) (find (slice_cmp nat_cmp) name (map (λ other. (string_bytes other.0, other.1.items)) entries)) ≡ option_map (λ bytes. bytes.items) (cond here (Some entry.1) (lookup (is_at (λ key. slice_cmp nat_cmp name (string_bytes key))) entries))) [
      | true ↦ refl
      | false ↦ find_kept entries name
    ]

-- a file is what is kept under its name
pub get-files_of : (kept : Kept) (name : Bytes) → get (files_of kept) name ≡ option_map (λ bytes. bytes.items) (get_by_text kept name)
unfolding files_of
get-files_of kept name = get-from_entries nat_list_cmp_total _ name ∙ find_kept kept.entries name

items_at : (here : Bool) (bytes : Vec ℕ Global) (other : Option (Vec ℕ Global)) → option_map (λ v. v.items) (cond here (Some bytes) other) ≡ cond here (Some bytes.items) (option_map (λ v. v.items) other)
items_at true bytes other = refl
items_at false bytes other = refl

same_name : (name other : Bytes) → bytes_eq name other ≡ eq_by_cmp (slice_cmp nat_cmp) other name
same_name name other = sym (is_eq-slice_cmp name other) ∙ (eq_by_cmp_equiv nat_list_cmp_total).symm name other

-- after a change at one name that file is another
pub files_of-updated : (old new : Kept) (name : Bytes) (bytes : Vec ℕ Global) → UpdatesBy string_cmp (λ key. slice_cmp nat_cmp name (string_bytes key)) old new (Some bytes) → files_of new ≡ insert (files_of old) name bytes.items
files_of-updated old new name bytes updates =
    same_map nat_list_cmp_total (slice_cmp-IsAntisymmetric nat_cmp-IsAntisymmetric) _ _ (λ other.
    let here : Bool = eq_by_cmp (slice_cmp nat_cmp) other name in
    get-files_of new other
    ∙ ap (option_map (λ v. v.items)) (btree_map_updates_text name old new (Some bytes) updates other)
    ∙ items_at (bytes_eq name other) bytes (get_by_text old other)
    ∙ ap (λ b. cond b (Some bytes.items) (option_map (λ v. v.items) (get_by_text old other))) (same_name name other)
    ∙ ap (cond here (Some bytes.items)) (sym (get-files_of old other))
    ∙ sym (get-insert nat_list_cmp_total (files_of old) name bytes.items other))

-- after a call that changes nothing they are the same
pub files_of-unchanged : (old new : Kept) → IsUnchanged old new → files_of new ≡ files_of old
unfolding files_of
files_of-unchanged old new same = ap (λ entries. from_entries (map (λ entry. (string_bytes entry.0, entry.1.items)) entries)) same

-- at first there are none
pub files_of-empty : (kept : Kept) → IsEmpty kept → files_of kept ≡ empty
unfolding files_of
files_of-empty kept none = ap (λ entries. from_entries (map (λ entry. (string_bytes entry.0, entry.1.items)) entries)) none

-- a piece at the end of a file that is kept
pub files_of-extended : (old new : Kept) (name piece : Bytes) (before after : Vec ℕ Global) → get_by_text old name ≡ Some before → after.items ≡ before.items ++ piece → UpdatesBy string_cmp (λ key. slice_cmp nat_cmp name (string_bytes key)) old new (Some after) → files_of new ≡ extended (files_of old) name piece
files_of-extended old new name piece before after there longer updates =
    files_of-updated old new name after updates
    ∙ ap (insert (files_of old) name) longer
    ∙ sym (ap (λ o. option_map_or (λ bytes. insert (files_of old) name (bytes ++ piece)) o (files_of old)) (get-files_of old name ∙ ap (option_map (λ v. v.items)) there))

-- a file that is written back as it was
pub files_of-kept : (old new : Kept) (name : Bytes) (before after : Vec ℕ Global) → get_by_text old name ≡ Some before → after.items ≡ before.items → UpdatesBy string_cmp (λ key. slice_cmp nat_cmp name (string_bytes key)) old new (Some after) → files_of new ≡ files_of old
files_of-kept old new name before after there same updates =
    files_of-updated old new name after updates ∙ ap (insert (files_of old) name) same ∙ insert-same (files_of old) name before.items (get-files_of old name ∙ ap (option_map (λ v. v.items)) there)

-- no file is kept, so no piece is added
pub extended-missing : (kept : Kept) (name piece : Bytes) → get_by_text kept name ≡ None → extended (files_of kept) name piece ≡ files_of kept
extended-missing kept name piece none =
    ap (λ o. option_map_or (λ bytes. insert (files_of kept) name (bytes ++ piece)) o (files_of kept)) (get-files_of kept name ∙ ap (option_map (λ v. v.items)) none)

whole_and_nothing : (files : Files) (name : Bytes) (held : Option Bytes) → get files name ≡ held → option_map_or (λ bytes. insert files name (bytes ++ [])) held files ≡ files
whole_and_nothing files name None there = refl
whole_and_nothing files name (Some bytes) there = ap (insert files name) (append-nil bytes) ∙ insert-same files name bytes there

-- an empty piece at the end of a file changes nothing
pub extended-nothing : (files : Files) (name : Bytes) → extended files name [] ≡ files
extended-nothing files name = whole_and_nothing files name _ refl

kept_nothing : (files : Files) (name piece : Bytes) (held : Option Bytes) → get files name ≡ held → MatchOption held (files ≡ files) (λ bytes. (kept : ℕ) × (files ≡ insert files name (bytes ++ take kept piece)))
kept_nothing files name piece None there = refl
kept_nothing files name piece (Some bytes) there = (0, sym (ap (insert files name) (append-nil bytes) ∙ insert-same files name bytes there))

-- an append that changes nothing may have failed
pub MayBeAppended-nothing : (files : Files) (name piece : Bytes) → MayBeAppended name piece files files
MayBeAppended-nothing files name piece = kept_nothing files name piece _ refl
