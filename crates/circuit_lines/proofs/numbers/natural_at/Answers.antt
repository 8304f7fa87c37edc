use Rattle.circuit_lines.proofs.NumberLemmas.{front_digits}
use Rattle.circuit_lines.proofs.numbers.natural_at.Goals as goal

pub numeral_value-requires : goal.numeral_value-requires
numeral_value-requires c = rw (c.split_at.ensures.front, c.digit_count.ensures.count) (front_digits c.args.bytes.now)
