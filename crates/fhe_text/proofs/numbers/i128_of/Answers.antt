use Rattle.fhe_text.proofs.NumberLemmas.{int_is_text, no_i128}
use Rattle.fhe_text.proofs.numbers.i128_of.Goals as goal

-- an INT is a text
pub returns-in_default : goal.returns-in_default
returns-in_default c = absurd (c.in_default.ensures.cases.0 (int_is_text c.args.text.now c.requires))

pub returns-in-Err : goal.returns-in-Err
returns-in-Err c = no_i128 c.args.text.now c.in-Ok.text.now c.requires c.in-Ok.ensures.cases.0 c.in-Err.ensures.value.0
