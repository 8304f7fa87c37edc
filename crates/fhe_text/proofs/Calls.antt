-- What the public calls promise of sources, by the laws.
use Rattle.std.proofs.Common.{List, ℕ, Result, Ok, Err}
use Rattle.std.specs.Prelude.{IfOk}
use Rattle.refusals.specs.Reading.{Gives}
use Rattle.refusals.specs.declared.refusal.Refusal.{Refusal}
use Rattle.fhe_text.specs.declared.fault.TextFault.{TextFault}
use Rattle.fhe_text.specs.declared.source.Source.{Source}
use Rattle.fhe_text.specs.Laws.{TextLaws, PrintLaws}
use Rattle.fhe_text.specs.Reading.{program_of}
use Rattle.fhe_text.specs.Spellable.{IsSpellable}

-- a source that is read keeps the rules
pub read_keeps : TextLaws → PrintLaws → (bytes : List ℕ) (read : Result Source (Refusal TextFault)) → Gives (λ source. source) read (program_of bytes) → IfOk read IsSpellable
read_keeps texts printing bytes (Ok source) e = printing.rules bytes source (texts.read bytes source e)
read_keeps texts printing bytes (Err refusal) e = tt
