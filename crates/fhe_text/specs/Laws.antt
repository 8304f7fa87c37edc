-- What holds of texts and of the sources that they spell.
use Rattle.std.specs.Prelude.{◌≡◌, ℕ, ◌^◌, ◌<◌, List, length, Ok, Err}
use Rattle.fhe_text.specs.declared.fault.TextFault.{TextFault}
use Rattle.fhe_text.specs.declared.source.Source.{Source}
use Rattle.fhe_text.specs.Faults.{Spells, IsTextFault}
use Rattle.fhe_text.specs.Reading.{program_of}
use Rattle.fhe_text.specs.Printing.{program_text}
use Rattle.fhe_text.specs.Spellable.{value_count, IsSpellable}

-- the source or the fault of a text
pub record TextLaws : Type 0 where
  -- a source that is read is spelled by the bytes
  pub read : (bytes : List ℕ) (source : Source) → program_of bytes ≡ Ok source → Spells bytes source
  -- a source that the bytes spell is read
  pub spelled : (bytes : List ℕ) (source : Source) → Spells bytes source → program_of bytes ≡ Ok source
  -- and it is the only one
  pub one_source : (bytes : List ℕ) (source other : Source)
      → Spells bytes source → Spells bytes other → source ≡ other
  -- a fault is at the first token with which the tokens so far begin no program, and else at the stop or the end
  pub fault : (bytes : List ℕ) (fault : TextFault) → program_of bytes ≡ Err fault → IsTextFault bytes fault

-- the text that is printed of a source
pub record PrintLaws : Type 0 where
  -- a source that some bytes spell keeps the rules of sources
  pub rules : (bytes : List ℕ) (source : Source) → Spells bytes source → IsSpellable source
  -- one that keeps them and has fewer than 2^65 values is spelled by the text that is printed of it
  pub printed : (source : Source)
      → IsSpellable source → value_count source < 2 ^ 65 → Spells (program_text source) source
  -- so what fewer than 2^64 bytes spell is read back
  pub read_back : (bytes : List ℕ) (source : Source) → length bytes < 2 ^ 64 → Spells bytes source
      → program_of (program_text source) ≡ Ok source
