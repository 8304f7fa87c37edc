use Rattle.std.proofs.Common.{sym, ◌∙◌}
use Rattle.value_files.proofs.NumberLemmas.{no_u64}
use Rattle.value_files.proofs.reader.natural_of.Goals as goal

-- digits are read
pub returns-in-Err-clause-value : goal.returns-in-Err-clause-value
returns-in-Err-clause-value c = no_u64 c.args.digits.now c.in-Ok.text.now (sym c.is_natural.ensures ∙ c.if-not-is_natural.false) c.in-Ok.ensures.cases.0 c.in-Err.ensures.value.0
