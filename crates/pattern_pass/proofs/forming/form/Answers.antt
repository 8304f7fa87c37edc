use Rattle.pattern_pass.proofs.Formed.{found_of}
use Rattle.pattern_pass.proofs.forming.form.Goals as goal

pub kept-requires : goal.kept-requires
kept-requires c = found_of c.laws-2.ensures c.laws.ensures c.args.program.now c.requires c.in_ok-patterns.patterns c.in_ok-patterns.ensures
