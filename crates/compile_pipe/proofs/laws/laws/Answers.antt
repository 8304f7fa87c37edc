use Rattle.compile_pipe.proofs.Whole.{compile_laws}
use Rattle.compile_pipe.proofs.laws.laws.Goals as goal

pub returns : goal.returns
returns c =
    compile_laws c.laws.ensures c.laws-2.ensures c.checked.ensures c.laws-3.ensures.texts c.laws-3.ensures.printing c.laws-4.ensures.tables c.laws-5.ensures.search
