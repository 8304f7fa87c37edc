-- The definition at worked texts: its value is computed.
use Rattle.std.proofs.Common.{◌≡◌, ℕ, List, ◌++◌, refl, codes, Err}
use Rattle.fhe_text.specs.declared.fault.TextKind.TheVariants as kinds
use Rattle.mlir_lex.specs.Reading.{tokens_of}
use Rattle.fhe_text.specs.Program.{source_of}
use Rattle.fhe_text.specs.Reading.{program_of}

-- a text that ends early
module_alone : program_of (codes "module") ≡ Err (record { line = 1; column = 7; kind = kinds.End })
unfolding program_of tokens_of source_of
module_alone = refl

-- the front of the worked texts
abbrev front : List ℕ
front = codes "func.func @f(%a: !FHE.eint<2>) -> !FHE.eint<2> { "

-- a returned value that is not defined
unknown_value : program_of (front ++ codes "return %b : !FHE.eint<2> }") ≡ Err (record { line = 1; column = 57; kind = kinds.Name })
unfolding program_of tokens_of source_of
unknown_value = refl

-- another type
other_type : program_of (codes "func.func @f(%a: !FHE.esint<2>) -> !FHE.eint<2> { return %a : !FHE.eint<2> }") ≡ Err (record { line = 1; column = 18; kind = kinds.Syntax })
unfolding program_of tokens_of source_of
other_type = refl

-- a quote that is not closed
open_quote : program_of (front ++ codes "\"") ≡ Err (record { line = 1; column = 50; kind = kinds.Token })
unfolding program_of tokens_of source_of
open_quote = refl

-- no body
pub no_body : program_of (front ++ codes "}") ≡ Err (record { line = 1; column = 50; kind = kinds.Syntax })
unfolding program_of tokens_of source_of
no_body = refl
