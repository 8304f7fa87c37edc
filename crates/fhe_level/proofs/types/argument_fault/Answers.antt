use Rattle.std.proofs.Common.{None, arith}
use Rattle.fhe_text.specs.declared.source.WrittenType.TheVariants.{Eint}
use Rattle.fhe_level.proofs.Widths.{each_width}
use Rattle.fhe_level.proofs.types.argument_fault.Goals as goal

pub keeps_declared-requires : goal.keeps_declared-requires
keeps_declared-requires c =
    each_width c.args.args.now 16 c.requires.widths c.loop-place.place (record { ty = Eint 0; declared = None }) (omega arith)
