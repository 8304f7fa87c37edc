use Rattle.mlir_lex.proofs.Gaps.{gap_length-is_gap, gap_length-after_blanks}
use Rattle.mlir_lex.proofs.Longest.{kinds_agree}
use Rattle.mlir_lex.proofs.PieceReadings.{longest_before_end, no_gap_at_token, read_pieces}
use Rattle.mlir_lex.proofs.ReadingLemmas.{tokens_of_fits}
use Rattle.mlir_lex.proofs.Readings.{one_reading_from, pieces_are_bytes_from, spelled_from}
use Rattle.mlir_lex.proofs.laws.laws.Goals as goal

pub returns-clause-tokens : goal.returns-clause-tokens
returns-clause-tokens c = record {
  one_reading = λ bytes first second stop other h g. one_reading_from bytes 0 first second stop other h g;
  each_has_reading = tokens_of_fits;
  pieces_are_bytes = λ bytes tokens stop h. pieces_are_bytes_from bytes 0 tokens stop h;
  spelled = λ bytes tokens stop h. spelled_from bytes 0 tokens stop h;
}

pub returns-clause-spellings : goal.returns-clause-spellings
returns-clause-spellings c = record { one_kind = kinds_agree; longest = longest_before_end }

pub returns-clause-gaps : goal.returns-clause-gaps
returns-clause-gaps c = record { gap = gap_length-is_gap; blanks = gap_length-after_blanks; token = no_gap_at_token }

pub returns-clause-pieces : goal.returns-clause-pieces
returns-clause-pieces c = record { read = read_pieces }
