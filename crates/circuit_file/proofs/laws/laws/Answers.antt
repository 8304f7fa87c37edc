use Rattle.circuit_file.proofs.ReadBack.{Below, read_rules, read_text}
use Rattle.circuit_file.proofs.SpelledBack.{spelled_back}
use Rattle.circuit_file.proofs.TextSize.{text_size}
use Rattle.circuit_file.proofs.laws.laws.Goals as goal

pub returns : goal.returns
returns c =
    let below : Below = record {
      limits = c.laws.ensures.limits;
      texts = c.laws-5.ensures.lines;
      lines = c.laws-6.ensures.lines;
      widths = c.laws-6.ensures.width;
      constraints = c.laws-4.ensures;
    } in
    record {
      read = λ bytes circuit e. (read_rules below bytes circuit e, read_text below bytes circuit e);
      spelled = spelled_back c.laws-2.ensures c.laws-3.ensures below;
      size = text_size c.laws-3.ensures below;
    }
