use Rattle.std.proofs.Common.{None, arith}
use Rattle.fhe_text.specs.declared.source.WrittenType.TheVariants.{Eint}
use Rattle.fhe_level.proofs.Widths.{each_width}
use Rattle.fhe_level.proofs.Steps.{all_declared}
use Rattle.fhe_level.proofs.types.argument_ranges.Goals as goal

pub argument_range-requires-clause-width : goal.argument_range-requires-clause-width
argument_range-requires-clause-width c =
    each_width c.args.args.now 16 c.requires.widths c.loop-arg.arg-index (record { ty = Eint 0; declared = None }) (omega arith)

pub argument_range-requires-clause-declared : goal.argument_range-requires-clause-declared
argument_range-requires-clause-declared c =
    all_declared 0 c.args.args.now c.requires.declared c.loop-arg.arg-index (record { ty = Eint 0; declared = None }) (omega arith)
