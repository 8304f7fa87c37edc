-- The document that bytes spell, by what toml's reader promises.
use Rattle.std.proofs.Common.{◌≡◌, ℕ, Bool, true, false, List, Option, Some, None, Ok, Err, refl, sym, ◌∙◌, ap}
use Rattle.std.specs.Prelude.{IsUtf8, ok_or, option_map, if◌then◌else◌}
use Rattle.std.specs.Str.{is_utf8}
use Rattle.std.proofs.lemmas.Str.{IsUtf8-from_is_utf8, is_utf8-from_IsUtf8}
use Rattle.toml.specs.Data.{Members, table}
use Rattle.toml.specs.Parse.{parse_document}
use Rattle.fhe_params.specs.declared.fault.TableFault.TheVariants.{Toml}
use Rattle.fhe_params.specs.TableReading.{document_of}

pub is_read : (bytes : List ℕ) (document : Members) → IsUtf8 bytes → parse_document bytes ≡ Some document → document_of bytes ≡ Ok (table document)
unfolding document_of
is_read bytes document utf8 is = rw (is_utf8-from_IsUtf8 bytes utf8, is) refl

no_document : (bytes : List ℕ) (test : Bool) → is_utf8 bytes ≡ test → (IsUtf8 bytes → parse_document bytes ≡ None)
    → ok_or (option_map table (if test then parse_document bytes else None)) Toml ≡ Err Toml
no_document bytes true utf8 none = rw (none (IsUtf8-from_is_utf8 bytes utf8)) refl
no_document bytes false utf8 none = refl

pub is_refused : (bytes : List ℕ) → (IsUtf8 bytes → parse_document bytes ≡ None) → document_of bytes ≡ Err Toml
unfolding document_of
is_refused bytes none = no_document bytes (is_utf8 bytes) refl none
