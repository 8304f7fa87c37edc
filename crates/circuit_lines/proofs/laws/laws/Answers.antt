use Rattle.circuit_lines.proofs.HeadTexts.{head_taken}
use Rattle.circuit_lines.proofs.NodeTexts.{node_takes, out_takes}
use Rattle.circuit_lines.proofs.WholeTexts.{lines_taken, lines_again}
use Rattle.circuit_lines.proofs.laws.laws.Goals as goal

pub returns : goal.returns
returns c = record {
  lines = record { read = lines_taken; spelled = lines_again };
  fronts = record {
    head = λ bytes x e. (head_taken bytes x e).0;
    node = λ line bytes x e. (node_takes line bytes x e).0;
    out = λ line bytes x e. (out_takes line bytes x e).0;
  };
}
