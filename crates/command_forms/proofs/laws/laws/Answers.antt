use Rattle.command_forms.proofs.AnswerCauses.{answers}
use Rattle.command_forms.proofs.laws.laws.Goals as goal

pub returns : goal.returns
returns c = answers
