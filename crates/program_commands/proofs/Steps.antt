-- What a command on a program does after what.
use Rattle.std.proofs.Common.{List, Result, Ok}
use Rattle.std.specs.Prelude.{ℤ}
use Rattle.refusals.specs.Reading.{◌>>=◌}
use Rattle.port_store.specs.Files.{Bytes, Files}
use Rattle.circuit_file.specs.Limits.{circuit_limit}
use Rattle.cost_cert.specs.Limits.{cert_limit}
use Rattle.compile_pipe.specs.declared.parts.Front.{Front}
use Rattle.compile_pipe.specs.Back.{CompiledTexts}
use Rattle.command_forms.specs.declared.fault.Fault.{Fault}
use Rattle.command_forms.specs.declared.fault.CertFile.TheVariants as certified
use Rattle.command_files.specs.Files.{values_from}
use Rattle.program_commands.specs.Words.{ClearWords, CompileWords}
use Rattle.program_commands.specs.Programs.{compiled_from}
use Rattle.program_commands.specs.Clear.{result_lines}
use Rattle.program_commands.specs.Check.{agreeing_file, chosen_text}

-- `clear`, after the program
abbrev pub after_program : ClearWords → Files → Front → Result Bytes Fault
after_program words files front =
    values_from front.program.args words.values files >>= λ (values : List ℤ). Ok (result_lines front.program values)

-- `compile` and `check`, after the program
abbrev pub after_front : CompileWords → Files → Front → Result CompiledTexts Fault
after_front words files front = compiled_from front.shape words.table files

-- `check`, after the text of the circuit
abbrev pub after_text : CompileWords → Files → Bytes → Result (Unit {0}) Fault
after_text words files text = agreeing_file certified.Circuit text circuit_limit words.circuit files

-- after the certificate
abbrev pub after_cert : CompileWords → CompiledTexts → Files → Unit {0} → Result (Unit {0}) Fault
after_cert words found files same = chosen_text found.circuit >>= after_text words files

-- and after what the program and the table come to
abbrev pub after_compiled : CompileWords → Files → CompiledTexts → Result (Unit {0}) Fault
after_compiled words files found =
    agreeing_file certified.Cert found.cert cert_limit words.cert files >>= after_cert words found files
