-- What a command that gave a certificate has read.
use Rattle.std.specs.Prelude.{◌≡◌, Ok}
use Rattle.port_store.specs.Files.{Bytes, Files}
use Rattle.fhe_params.specs.declared.table.Table.{Table}
use Rattle.fhe_params.specs.TableReading.{table_of}
use Rattle.tfhe_level.specs.Rules.{IsShape}
use Rattle.compile_pipe.specs.declared.parts.Front.{Front}
use Rattle.compile_pipe.specs.Front.{front_of}
use Rattle.compile_pipe.specs.Back.{CompiledTexts}
use Rattle.compile_pipe.specs.Back as pipe
use Rattle.command_forms.specs.Outcome.{reading}
use Rattle.program_commands.specs.Words.{CompileWords}
use Rattle.program_commands.specs.Programs.{program_limit, table_limit}

-- the program and the table out of the files, and what they come to
pub record GaveCompiled (words : CompileWords) (files : Files) (found : CompiledTexts) : Type 0 where
  pub text : Bytes
  pub text_read : reading files words.program program_limit ≡ Ok text
  pub front : Front
  pub front_read : front_of text ≡ Ok front
  pub shape : IsShape front.shape
  pub table_text : Bytes
  pub table_text_read : reading files words.table table_limit ≡ Ok table_text
  pub table : Table
  pub table_read : table_of table_text ≡ Ok table
  pub is : found ≡ pipe.compiled table front.shape
