use Rattle.fhe_text.proofs.Texts.{read_spelled, spelled_read, one_source, read_fault}
use Rattle.fhe_text.proofs.PrintedPrograms.{print_laws}
use Rattle.fhe_text.proofs.laws.laws.Goals as goal

pub returns : goal.returns
returns c = record {
  texts = record { read = read_spelled; spelled = spelled_read; one_source = one_source; fault = read_fault };
  printing = print_laws c.laws.ensures.tokens c.laws.ensures.pieces;
}
