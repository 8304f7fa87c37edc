use Rattle.fhe_text.proofs.Calls.{read_keeps}
use Rattle.fhe_text.proofs.reader.read_program.Goals as goal

pub returns-clause-rules : goal.returns-clause-rules
returns-clause-rules c = read_keeps c.laws.ensures.texts c.laws.ensures.printing c.args.bytes.now c.read_text.result c.read_text.ensures
